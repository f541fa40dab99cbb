use Rattle.calls.proofs.Determined.{calls_agree, histories_agree, runs_agree}
use Rattle.calls.proofs.laws.runs_agree.Goals as goal

pub returns : goal.returns
returns c = record { calls = calls_agree; histories = histories_agree; runs = runs_agree }
