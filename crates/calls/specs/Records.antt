-- The records of a store: how many there are, which cells each has, and the value of each. Assumes nothing.
use Rattle.std.specs.Prelude.{◌≡◌, ℕ, ◌+◌, ◌*◌, ◌/◌, ◌%◌, ◌<◌, ◌≤◌, min, Bool, true, cond, not, ◌&&◌, ◌⊎◌, ◌↔◌, List, [], ◌∷◌, ◌==◌, nat_le, nat_lt}
use Rattle.group.specs.Group.{unusable}
use Rattle.cells.specs.Cells.{Cells}
use Rattle.cells.specs.Rows.{Row, row, Served}
use Rattle.cells.specs.Sets.{Cellset}
use Rattle.coset.specs.Code.{Code, sum_of}

-- What refuses a making of the code c and the array m, in the order of the checks.
abbrev pub making_rows : Code → Cells → List Row
making_rows c m =
    row 30 (c.group.order ≡ unusable) ∷
    (row 31 ((c.cells ≡ 0) ⊎ (63 < c.cells)) ∷
    (row 32 (m.width < c.cells) ∷ []))

-- whether the making is accepted: none of these rows holds (`MakesExactly`)
abbrev pub makes : Code → Cells → Bool
makes c m = not (c.group.order == unusable) && (nat_lt 0 c.cells && (nat_lt c.cells 64 && nat_le c.cells m.width))

-- how many records share a page: as many as fit, and at most 64
abbrev pub per_page : Code → Cells → ℕ
per_page c m = min 64 (m.width / c.cells)

-- How many records there are. Where the making is refused there are none.
abbrev pub records : Code → Cells → ℕ
records c m = cond (makes c m) (m.pages * per_page c m) 0

-- Records are numbered page by page. The page of record k, and the first of its cells there:
abbrev pub page_of : Code → Cells → ℕ → ℕ
page_of c m k = k / per_page c m

abbrev pub first_of : Code → Cells → ℕ → ℕ
first_of c m k = (k % per_page c m) * c.cells

-- cell j of page p is one of the cells of record k
pub record Within (c : Code) (m : Cells) (k p j : ℕ) : Type 0 where
  pub page : p ≡ page_of c m k
  pub from : first_of c m k ≤ j
  pub below : j < first_of c m k + c.cells

-- which cells of record k are set, counted from its first
abbrev pub held : Code → Cells → ℕ → Cellset
held c m k i = m.set (page_of c m k) (first_of c m k + i)

-- which of them the plan may set
abbrev pub free : Code → Cells → ℕ → Cellset
free c m k i = not (held c m k i)

-- the value of record k: the sum of the labels of its set cells
abbrev pub value : Code → Cells → ℕ → ℕ
value c m k = sum_of c (held c m k)

-- A making is accepted exactly where none of its rows holds.
abbrev pub MakesExactly : Type 0
MakesExactly = (c : Code) (m : Cells) → (makes c m ≡ true) ↔ Served (making_rows c m)
