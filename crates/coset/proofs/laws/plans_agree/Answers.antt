use Rattle.coset.proofs.OnePlan.{plans_agree}
use Rattle.coset.proofs.laws.plans_agree.Goals as goal

pub returns : goal.returns
returns c = plans_agree
