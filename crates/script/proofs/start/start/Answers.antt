use Rattle.std.proofs.Common.{refl, sym, ◌∙◌}
use Rattle.std.proofs.lemmas.Result.{err_from_is_err_and}
use Rattle.commands.specs.Orders.{head_rows, IsHeading}
use Rattle.script.specs.Lines.{line_of, lines_left}
use Rattle.script.proofs.Reading.{read_accepted, read_refused}
use Rattle.script.proofs.Starting.{head_read, head_malformed}
use Rattle.script.proofs.start.start.Goals as goal

pub returns-in_err-heading : goal.returns-in_err-heading
returns-in_err-heading g c =
    let l = c.in-Some.head.bytes.now in
    let e = c.in_err-heading.field-0.0 in
    let read = read_refused (head_rows l) (IsHeading l) c.in-Some.head.number c.read.result e (sym c.located_at.ensures ∙ c.in_err-heading.was) c.read.ensures in
    let p = err_from_is_err_and c.from_residual.result c.from_residual.ensures.1 in
    rw (p.1, p.2) (
      head_malformed c.args.script.now (line_of c.in-Some.head) (lines_left c.next.new.self) c.if-script-gt-MAX_SCRIPT.false
          (sym c.of-lines.ensures ∙ c.in-Some.ensures.steps) e.1.fault e.0 e.1.column _ read.0 read.1 (record { none = refl; bytes = refl }),
      refl,
    )

pub returns : goal.returns
returns g c =
    let l = c.in-Some.head.bytes.now in
    let read =
    read_accepted (head_rows l) (IsHeading l) c.in-Some.head.number c.read.result c.in_ok-heading.heading (sym c.located_at.ensures ∙ c.in_ok-heading.was)
    c.read.ensures in
    head_read c.args.script.now (line_of c.in-Some.head) (lines_left c.next.new.self) c.if-script-gt-MAX_SCRIPT.false
    (sym c.of-lines.ensures ∙ c.in-Some.ensures.steps) g.O.Output c.in_ok-heading.heading _ _ _ _ c.open_store.result read c.open_store.ensures
