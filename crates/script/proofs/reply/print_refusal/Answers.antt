use Rattle.std.specs.Prelude.{codes}
use Rattle.script.specs.Replies.{fault_shown}
use Rattle.script.proofs.reply.print_refusal.Goals as goal

pub returns : goal.returns
returns g c =
    let join = g.O.Output.joins in
    join c.args.out.now c.text.new.self c.text-2.new.self (codes "X ") _ c.text.ensures
    (join c.text.new.self c.print.new.out c.text-2.new.self (fault_shown c.args.fault.now) (codes "\n") c.print.ensures c.text-2.ensures)
