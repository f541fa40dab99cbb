-- That a plan is one set, and by which cell it is told from the others. Assumes nothing.
use Rattle.std.specs.Prelude.{◌≡◌, ◌≢◌, ℕ, ◌<◌, ◌≤◌, ◌↔◌, true}
use Rattle.cells.specs.Sets.{Cellset}
use Rattle.coset.specs.Code.{Code, size_of, Reaches, Plan}

-- the sets have the same of the cells of a record
abbrev pub SameCells : Code → Cellset → Cellset → Type 0
SameCells c s t = (i : ℕ) → i < c.cells → t i ≡ s i

-- With one code, two plans for one step have the same cells of the record, where the same cells of
-- it are free.
abbrev pub PlansAgree : Type 0
PlansAgree =
    (c : Code) (free free' : Cellset) (d : ℕ) (s s' : Cellset) → SameCells c free free' →
    Plan c free d s → Plan c free' d s' → SameCells c s s'

-- Of the sets that reach d and are as small as s, s has the lowest cell in which it and another
-- differ.
abbrev pub HasLowest : Code → Cellset → ℕ → Cellset → Type 0
HasLowest c free d s =
    (t : Cellset) → Reaches c free d t → size_of c t ≡ size_of c s →
    (i : ℕ) → i < c.cells → ((j : ℕ) → j < i → t j ≡ s j) → t i ≢ s i → s i ≡ true

-- A smallest set is the plan if, and only if, it has the lowest cell in which it and another
-- smallest set differ.
abbrev pub LowestDecides : Type 0
LowestDecides =
    (c : Code) (free : Cellset) (d : ℕ) (s : Cellset) → Reaches c free d s →
    ((t : Cellset) → Reaches c free d t → size_of c s ≤ size_of c t) →
    Plan c free d s ↔ HasLowest c free d s
