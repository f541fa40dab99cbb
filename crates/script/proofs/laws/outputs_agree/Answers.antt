use Rattle.script.proofs.OneText.{outputs_agree}
use Rattle.script.proofs.laws.outputs_agree.Goals as goal

pub returns : goal.returns
returns g c = outputs_agree _ _
