use Rattle.std.proofs.Common.{◌≡◌, Bool, true, false, ap, sym, ◌∙◌, rules, subst}
use Rattle.coset.specs.Codes.{code_of}
use Rattle.calls.specs.declared.call.Call.TheVariants.{Renew as RenewCall}
use Rattle.calls.specs.Calls.{Obeys}
use Rattle.store.specs.Keeps.{state}
use Rattle.script.specs.declared.reply.Reply.TheVariants.{Wrote, Renewed, Holds}
use Rattle.script.specs.Execution.{reply_to, reply_of}
use Rattle.script.proofs.Executing.{executes_put, executes_renew, executes_saved, executes_renewed, executes_get, replied_to}
use Rattle.script.proofs.answer.carry_out.Goals as goal

pub returns-in-Put-clause-execution : goal.returns-in-Put-clause-execution
returns-in-Put-clause-execution g c =
    let before = state g.A.CellArray c.args.store.now in
    let after = state g.A.CellArray c.put-answer.new.self in
    executes_put (code_of g.G.Group c.args.store.now.code) c.args.line c.args.order c.in-Put.«record» c.in-Put.value c.of-place.result c.of-place.ensures
    before after c.put-answer.result (reply_of c.replied.result) c.in-Put.is (rw (← c.index.ensures) c.put-answer.ensures.obeys)
    (replied_to Wrote c.of-place.result c.put-answer.result c.replied.result (search rules))

pub returns-in-Renew-clause-execution : goal.returns-in-Renew-clause-execution
returns-in-Renew-clause-execution g c =
    let before = state g.A.CellArray c.args.store.now in
    let after = state g.A.CellArray c.renew-answer.new.self in
    executes_renew (code_of g.G.Group c.args.store.now.code) c.args.line c.args.order c.in-Renew.«record» c.in-Renew.value c.of-place-in-Renew.result c.of-place-in-Renew.ensures
    before after c.renew-answer.result (reply_of c.replied-in-Renew.result) c.in-Renew.is (rw (← c.index-in-Renew.ensures) c.renew-answer.ensures.obeys)
    (replied_to Renewed c.of-place-in-Renew.result c.renew-answer.result c.replied-in-Renew.result (search rules))

pub returns-else-is_full-clause-execution : goal.returns-else-is_full-clause-execution
returns-else-is_full-clause-execution g c =
    let before = state g.A.CellArray c.args.store.now in
    let after = state g.A.CellArray c.put-answer-in-Save.new.self in
    executes_saved (code_of g.G.Group c.args.store.now.code) c.args.line c.args.order c.in-Save.«record» c.in-Save.value c.of-place-in-Save.result
    c.of-place-in-Save.ensures before after c.put-answer-in-Save.result (reply_of c.replied-else-is_full.result) c.in-Save.is
    (rw (← c.index-in-Save.ensures) c.put-answer-in-Save.ensures.obeys) (λ full. absurd (let z : ◌≡◌ {A = Bool} true false = sym (c.is_full.ensures.1 full) ∙ c.if-is_full.false in cc))
    (replied_to Wrote c.of-place-in-Save.result c.put-answer-in-Save.result c.replied-else-is_full.result (search rules))

pub returns-then-is_full-clause-execution : goal.returns-then-is_full-clause-execution
returns-then-is_full-clause-execution g c =
    let before = state g.A.CellArray c.args.store.now in
    let mid = state g.A.CellArray c.put-answer-in-Save.new.self in
    let after = state g.A.CellArray c.renew-again.new.self in
    let put = c.put-answer-in-Save.ensures in
    let again = c.renew-again.ensures in
    executes_renewed (code_of g.G.Group c.args.store.now.code) c.args.line c.args.order c.in-Save.«record» c.in-Save.value c.of-place-in-Save.result
    c.of-place-in-Save.ensures before after c.renew-again.result (reply_of c.replied-then-is_full.result) c.put-answer-in-Save.result mid c.in-Save.is
    (rw (← c.index-in-Save.ensures) put.obeys) (c.is_full.ensures.0 c.if-is_full.true)
    (subst (λ k. Obeys (code_of g.G.Group k) (RenewCall c.in-Save.«record».value c.in-Save.value.value) c.renew-again.result mid after) put.keeps.0 (rw (← c.index-then-is_full.ensures) again.obeys))
    (replied_to Renewed c.of-place-in-Save.result c.renew-again.result c.replied-then-is_full.result (search rules))

pub returns-in-Get-clause-execution : goal.returns-in-Get-clause-execution
returns-in-Get-clause-execution g c =
    let before = state g.A.CellArray c.args.store.now in
    executes_get (code_of g.G.Group c.args.store.now.code) c.args.line c.args.order c.in-Get.«record» before before c.get-answer.result
    (reply_of c.replied-in-Get.result) c.in-Get.is (rw (← c.index-in-Get.ensures) c.get-answer.ensures.obeys)
    (replied_to Holds c.of_get-place.result c.get-answer.result c.replied-in-Get.result (search rules)
    ∙ ap (λ p. reply_to p Holds c.get-answer.result) c.of_get-place.ensures)
