-- Coset codes: the cells of a record have elements of a group as labels, and a set of cells has a sum. Assumes nothing.
use Rattle.std.specs.Prelude.{◌≡◌, ℕ, zero, suc, ◌+◌, ◌-◌, ◌%◌, ◌<◌, ◌≤◌, true, cond, List}
use Rattle.std.specs.Cmp.Lexicographic.{slice_cmp}
use Rattle.std.specs.List.{filter, range_with_len}
use Rattle.std.specs.Ordering.{nat_cmp, is_le}
use Rattle.group.specs.Group.{Group}
use Rattle.cells.specs.Sets.{Cellset, size_below}

-- A code: the group, how many cells a record has, and which label each has.
pub record Code : Type 0 where
  pub group : Group
  pub cells : ℕ
  pub label : ℕ → ℕ

-- The label of cell i: cell 0 has the label 1, and after the last element the labels start again at 1.
abbrev pub label_of : Group → ℕ → ℕ
label_of g i = 1 + i % (g.order - 1)

-- the code with n cells to a record
abbrev pub code : Group → ℕ → Code
code g n = record { group = g; cells = n; label = label_of g }

-- The labels of a code are those of the rules: the nonzero elements of its group in turn, again and again.
abbrev pub LabelledInTurn : Code → Type 0
LabelledInTurn c = (i : ℕ) → c.label i ≡ label_of c.group i

-- the set of every cell
abbrev pub every : Cellset
every i = true

-- the labels of those of the first n cells that are in s, added in the group
unfoldable pub sum_below : Code → Cellset → ℕ → ℕ
sum_below c s zero = 0
sum_below c s (suc i) = cond (s i) (c.group.sum (sum_below c s i) (c.label i)) (sum_below c s i)

-- the sum of a set of cells of a record
abbrev pub sum_of : Code → Cellset → ℕ
sum_of c s = sum_below c s c.cells

-- the size of a set of cells of a record
abbrev pub size_of : Code → Cellset → ℕ
size_of c s = size_below s c.cells

-- s is a set of free cells whose sum is d
pub record Reaches (c : Code) (free : Cellset) (d : ℕ) (s : Cellset) : Type 0 where
  pub within : (i : ℕ) → i < c.cells → s i ≡ true → free i ≡ true
  pub sums : sum_of c s ≡ d

-- there is such a set
abbrev pub Reachable : Code → Cellset → ℕ → Type 0
Reachable c free d = (s : Cellset) × Reaches c free d s

-- there is no such set
abbrev pub Unreachable : Code → Cellset → ℕ → Type 0
Unreachable c free d = (s : Cellset) → Reaches c free d s → ⊥

-- the cells of a record that are in s, rising
abbrev pub cells_of : Code → Cellset → List ℕ
cells_of c s = filter s (range_with_len 0 c.cells)

-- A list of numbers comes no later than another in dictionary (lexicographic) order: they are the
-- same, or where they first differ it has the smaller number or has ended.
abbrev pub ComesNoLater : List ℕ → List ℕ → Type 0
ComesNoLater xs ys = is_le (slice_cmp nat_cmp xs ys) ≡ true

-- The plan for d: a set of free cells whose sum is d, of which no such set has fewer. Of those with
-- as many cells it comes first: no other has a list of cells that comes earlier. So there is one
-- plan at most (`PlansAgree` in `OnePlan`).
pub record Plan (c : Code) (free : Cellset) (d : ℕ) (s : Cellset) : Type 0 where
  pub reaches : Reaches c free d s
  pub fewest : (t : Cellset) → Reaches c free d t → size_of c s ≤ size_of c t
  pub first :
      (t : Cellset) → Reaches c free d t → size_of c t ≡ size_of c s →
      ComesNoLater (cells_of c s) (cells_of c t)
