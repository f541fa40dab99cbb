-- What the planner answers, and the table that it works with. Assumes nothing.
use Rattle.std.specs.Prelude.{◌≡◌, ◌≢◌, ℕ, ◌+◌, ◌*◌, ◌<◌, ◌≤◌, min, Bool, true, cond, Some, None, Option, ◌==◌, List, slice_index}
use Rattle.group.specs.Group.{Group, In, step}
use Rattle.cells.specs.Sets.{Cellset}
use Rattle.coset.specs.Code.{Code, Unreachable, Plan}
use Rattle.coset.specs.CellSets.{members_of}
use Rattle.coset.specs.declared.cellset.CellSet.{CellSet}
use Rattle.coset.specs.declared.planner.Table.{Table}

-- The plan for d, with no cell past those of a record; or none where no free cells sum to d.
abbrev pub Plans : Code → Cellset → ℕ → Option CellSet → Type 0
Plans c free d None = Unreachable c free d
Plans c free d (Some s) = Plan c free d (members_of s) × ((i : ℕ) → members_of s i ≡ true → i < c.cells)

-- the entry of a table for cell i and element s: the rows stand one after the other, with 64 entries each
abbrev pub fewest_at : Table → ℕ → ℕ → ℕ
fewest_at table i s = slice_index table.entries (64 * i + s)

-- The entry of a cell for the element s, by the row of the next cell: the cell is left out, or taken if that is better
-- and it is free.
abbrev pub entry_from_next : Group → ℕ → Bool → (ℕ → ℕ) → ℕ → ℕ
entry_from_next g label free next s = cond free (min (next s) (min (next (step g label s) + 1) 255)) (next s)

-- The rows of a table from cell `first` on: past the last cell only 0 is reached, and by no cell; each cell's row comes
-- from the next one's.
pub record Filled (c : Code) (free : Cellset) (table : Table) (first : ℕ) : Type 0 where
  pub last : (s : ℕ) → In c.group s → fewest_at table c.cells s ≡ cond (s == 0) 0 255
  pub entries : (i s : ℕ) → first ≤ i → i < c.cells → In c.group s → fewest_at table i s ≡ entry_from_next c.group (c.label i) (free i) (fewest_at table (i + 1)) s

-- The entries of row i have become those of the given row, and every other entry of the table is as it was.
pub record PutsRow (before after : Table) (i : ℕ) (row : List ℕ) : Type 0 where
  pub placed : (s : ℕ) → s < 64 → fewest_at after i s ≡ slice_index row s
  pub others : (j s : ℕ) → s < 64 → j ≢ i → fewest_at after j s ≡ fewest_at before j s
