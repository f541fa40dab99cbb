-- Sets of cells. Assumes nothing.
use Rattle.std.specs.Prelude.{ℕ, zero, suc, ◌+◌, Bool, cond}

-- A set of cells, by the test whether a cell is in it.
abbrev pub Cellset : Type 0
Cellset = ℕ → Bool

-- how many of the cells below n are in s
unfoldable pub size_below : Cellset → ℕ → ℕ
size_below s zero = 0
size_below s (suc i) = cond (s i) (1 + size_below s i) (size_below s i)
