-- Tables of refusals: a row is a number and a condition, and the first row that holds counts. Assumes nothing.
use Rattle.std.specs.Prelude.{◌≡◌, ℕ, Bool, true, false, ◌⊎◌, List, [], ◌∷◌, ◌==◌}

pub record Row : Type 1 where
  pub number : ℕ
  pub holds : Type 0

abbrev pub row : ℕ → Type 0 → Row
row k P = record { number = k; holds = P }

-- the first row that holds has the number k
abbrev pub Refused : List Row → ℕ → Type 0
Refused [] k = ⊥
Refused (r ∷ rs) k = (r.holds × (k ≡ r.number)) ⊎ ((r.holds → ⊥) × Refused rs k)

-- no row holds
abbrev pub Served : List Row → Type 0
Served [] = Unit {0}
Served (r ∷ rs) = (r.holds → ⊥) × Served rs

-- the rows before that of the number k; all of them, where no row has it
abbrev pub unless : Bool → Row → List Row → List Row
unless true r rs = []
unless false r rs = r ∷ rs

abbrev pub rows_before : ℕ → List Row → List Row
rows_before k [] = []
rows_before k (r ∷ rs) = unless (r.number == k) r (rows_before k rs)
