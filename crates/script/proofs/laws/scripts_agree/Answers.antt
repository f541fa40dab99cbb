use Rattle.script.proofs.OneText.{scripts_agree, writers_agree}
use Rattle.script.proofs.laws.scripts_agree.Goals as goal

pub returns : goal.returns
returns c = record { replies = scripts_agree; writers = writers_agree }
