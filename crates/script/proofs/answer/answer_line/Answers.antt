use Rattle.std.proofs.Common.{rules}
use Rattle.script.proofs.Executing.{reply_of_is}
use Rattle.script.proofs.answer.answer_line.Goals as goal

pub returns-clause-execution : goal.returns-clause-execution
returns-clause-execution g c = rw (reply_of_is c.obey.result c.unwrap_or_else.result (search rules)) c.obey.ensures.execution
