use Rattle.script.specs.Replies.{printed}
use Rattle.script.proofs.Writing.{printer_wrote}
use Rattle.script.proofs.script.print_script.Goals as goal

pub returns : goal.returns
returns g c =
    let ran = c.run_script-size.ensures in
    record {
      replies = ran.replies;
      satisfies = ran.satisfies;
      writes =
          printer_wrote g.W.Write.contents c.args.writer c.finish-writer.result.0 c.new-printer.result c.run_script-size.new.out (printed ran.replies)
          c.finish-writer.result.1 c.new-printer.ensures ran.takes c.finish-writer.ensures;
    }
