use Rattle.calls.proofs.Determined.{lists_agree}
use Rattle.calls.proofs.laws.lists_agree.Goals as goal

pub returns : goal.returns
returns g c = lists_agree _ _ _
