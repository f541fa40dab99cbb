use Rattle.std.specs.Prelude.{codes, decimal}
use Rattle.script.specs.Replies.{rate_shown}
use Rattle.script.proofs.reply.print_ledger.Goals as goal

pub returns : goal.returns
returns g c =
    let join = g.O.Output.joins in
    let l = c.args.ledger.now in
    let end = c.text-5.new.self in
    let five = join c.text-4.new.self c.print_rate.new.out end (rate_shown l) (codes "\n") c.print_rate.ensures c.text-5.ensures in
    let four = join c.number-3.new.out c.text-4.new.self end (codes " ") _ c.text-4.ensures five in
    let three = join c.text-3.new.self c.number-3.new.out end (decimal l.marked) _ c.number-3.ensures four in
    let two = join c.number-2.new.out c.text-3.new.self end (codes " ") _ c.text-3.ensures three in
    let one = join c.text-2.new.self c.number-2.new.out end (decimal l.renewals) _ c.number-2.ensures two in
    let zero = join c.number.new.out c.text-2.new.self end (codes " ") _ c.text-2.ensures one in
    join c.args.out.now c.text.new.self end (codes "N ") _ c.text.ensures
    (join c.text.new.self c.number.new.out end (decimal l.changes) _ c.number.ensures zero)
