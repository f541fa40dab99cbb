use Rattle.calls.proofs.Singly.{single_calls_suffice}
use Rattle.calls.proofs.laws.single_calls_suffice.Goals as goal

pub returns : goal.returns
returns c = single_calls_suffice
