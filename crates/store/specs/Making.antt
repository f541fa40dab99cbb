-- What the check of a making answers. Assumes nothing.
use Rattle.std.specs.Prelude.{◌≡◌, ℕ, Ok, Err, Result}
use Rattle.coset.specs.Code.{Code}
use Rattle.cells.specs.Cells.{Cells as Meaning}
use Rattle.cells.specs.Rows.{Refused, Served}
use Rattle.store.specs.declared.making.MakingFault.{MakingFault}
use Rattle.store.specs.declared.making.MakingFault.TheVariants.{Unusable, Cells, Narrow}
use Rattle.calls.specs.Records.{making_rows}

-- the numbers of the refusals of a making
abbrev pub making_number : MakingFault → ℕ
making_number Unusable = 30
making_number Cells = 31
making_number Narrow = 32

-- A making is accepted where no row holds, and else refused by the first that does.
abbrev pub Makes : Code → Meaning → {A : Type 0} → Result A MakingFault → Type 0
Makes c m (Ok u) = Served (making_rows c m)
Makes c m (Err f) = Refused (making_rows c m) (making_number f)

-- The same of any array of this width.
abbrev pub MakesAt : Code → ℕ → {A : Type 0} → Result A MakingFault → Type 0
MakesAt c width r = (m : Meaning) → m.width ≡ width → Makes c m r
