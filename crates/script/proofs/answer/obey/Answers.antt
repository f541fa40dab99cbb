use Rattle.std.proofs.Common.{sym, refl, ap, ◌∙◌}
use Rattle.std.proofs.lemmas.Result.{err_from_is_err_and}
use Rattle.coset.specs.Codes.{code_of}
use Rattle.store.specs.Keeps.{state}
use Rattle.commands.specs.Orders.{line_rows, IsOrder}
use Rattle.script.specs.declared.reply.Reply.TheVariants.{Refused}
use Rattle.script.specs.Execution.{reply_of}
use Rattle.script.proofs.Reading.{read_refused, read_accepted, executes_refused, executes_obeyed}
use Rattle.script.proofs.answer.obey.Goals as goal

pub returns-in_err-order : goal.returns-in_err-order
returns-in_err-order g c =
    let co = code_of g.G.Group c.args.store.now.code in
    let s = state g.A.CellArray c.args.store.now in
    let l = c.args.line.bytes.now in
    let k = c.args.line.number in
    let e = c.in_err-order.field-0.0 in
    let p = err_from_is_err_and c.from_residual.result c.from_residual.ensures.1 in
    let fault = read_refused (line_rows l) (IsOrder l) k c.read.result e (sym c.located_at.ensures ∙ c.in_err-order.was) c.read.ensures in
    record {
      keeps = (refl, (refl, λ whole. whole));
      execution = executes_refused co k l e (reply_of c.from_residual.result) s fault.0 fault.1 (ap reply_of p.1 ∙ ap Refused p.2);
    }

pub returns : goal.returns
returns g c =
    let co = code_of g.G.Group c.args.store.now.code in
    let before = state g.A.CellArray c.args.store.now in
    let after = state g.A.CellArray c.carry_out.new.store in
    let l = c.args.line.bytes.now in
    let k = c.args.line.number in
    let read = read_accepted (line_rows l) (IsOrder l) k c.read.result c.in_ok-order.order (sym c.located_at.ensures ∙ c.in_ok-order.was) c.read.ensures in
    record {
      keeps = c.carry_out.ensures.keeps;
      execution = executes_obeyed co k l c.in_ok-order.order (reply_of c.carry_out.result) before after read c.carry_out.ensures.execution;
    }
