use Rattle.calls.proofs.Promised.{rules_suffice}
use Rattle.calls.proofs.laws.rules_suffice.Goals as goal

pub returns : goal.returns
returns c = rules_suffice
