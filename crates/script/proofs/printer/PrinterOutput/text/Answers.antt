use Rattle.std.proofs.Common.{rules}
use Rattle.script.proofs.Handing.{no_fault, answered_none}
use Rattle.script.proofs.printer.PrinterOutput.text.Goals as goal

pub returns-then-is_none : goal.returns-then-is_none
returns-then-is_none g c =
    let before = no_fault c.args.self.now.fault (search rules) in
    let took = c.collect.ensures in
    record {
      hands = record { written = took.hands.written; unwritten = took.hands.unwritten; whole = took.hands.whole; appends = took.hands.appends };
      going = λ none. (before, answered_none c.collect.result _ took.collected (search rules));
      failed = λ bad. absurd (bad before);
    }
