use Rattle.cells.proofs.Chains.{steps_tell}
use Rattle.cells.proofs.laws.steps_tell.Goals as goal

pub returns : goal.returns
returns g c = steps_tell g.A.CellArray
