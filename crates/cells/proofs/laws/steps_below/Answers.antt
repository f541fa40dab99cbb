use Rattle.cells.specs.Steps.{steps_below}
use Rattle.cells.specs.Chain.{TakesOne}
use Rattle.cells.proofs.Chains.{chain_within}
use Rattle.cells.proofs.laws.steps_below.Goals as goal

pub returns : goal.returns
returns g c = chain_within (TakesOne g.A.CellArray) _ (λ p. p.array) steps_below (λ p s q one. one.1)
