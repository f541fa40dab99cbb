use Rattle.commands.specs.Words.{head_words_of}
use Rattle.commands.specs.Orders.{head_word_count}
use Rattle.commands.proofs.Rewriting.{heading_is, head_accepted}
use Rattle.commands.proofs.head.Head+GroupWord+Number.read.Goals as goal

pub returns : goal.returns
returns c =
    let read = c.in_ok-head.ensures in
    let g = c.in_ok-group.ensures in
    let n = c.in_ok-number.ensures in
    let p = c.in_ok-number-2.ensures in
    let w = c.in_ok-number-3.ensures in (
      head_accepted c.args.line.now 72 (head_words_of c.in_ok-head.head) read.1 read.0 (g.0.0, (n.0.0, (p.0.0, (w.0.0, tt)))),
      heading_is head_word_count c.args.line.now c.in_ok-head.head
          (record { group = c.in_ok-group.field-0; n = c.in_ok-number.field-0; pages = c.in_ok-number-2.field-0; width = c.in_ok-number-3.field-0 })
          read.0 read.1 g.1 n.1 p.1 w.1,
    )
