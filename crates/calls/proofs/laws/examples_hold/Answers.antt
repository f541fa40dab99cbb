use Rattle.calls.proofs.Worked.{worked_examples}
use Rattle.calls.proofs.laws.examples_hold.Goals as goal

pub returns : goal.returns
returns c = worked_examples
