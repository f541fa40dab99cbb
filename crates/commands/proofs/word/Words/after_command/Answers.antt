use Rattle.std.proofs.Common.{◌+◌, ◌≤◌, length, refl, arith, ltb-true}
use Rattle.commands.proofs.Counting.{opens_empty}
use Rattle.commands.proofs.word.Words.after_command.Goals as goal

pub returns-in-empty : goal.returns-in-empty
returns-in-empty c =
    let none : length c.args.rest.now ≤ 0 = omega (arith, ltb-true) in
    opens_empty c.args.rest.now (record { pieces = c.none.result; past = length c.args.rest.now + 2 }) none c.none.ensures.left refl
