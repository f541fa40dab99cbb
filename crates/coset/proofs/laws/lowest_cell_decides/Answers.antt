use Rattle.coset.proofs.OnePlan.{lowest_decides}
use Rattle.coset.proofs.laws.lowest_cell_decides.Goals as goal

pub returns : goal.returns
returns c = lowest_decides
