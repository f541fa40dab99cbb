-- Whether a cell is set, where there is such a cell. Assumes nothing.
use Rattle.std.proofs.Common.{◌≡◌, ℕ, ◌<◌, ◌&&◌, ap₂}
use Rattle.std.proofs.lemmas.Bool.{lt-ltb}
use Rattle.cells.specs.Cells.{Cells, is_set}

pub set_there : (m : Cells) (p i : ℕ) → p < m.pages → i < m.width → is_set m p i ≡ m.set p i
set_there m p i a b = ap₂ (λ x y. x && y && m.set p i) (lt-ltb p m.pages a) (lt-ltb i m.width b)
