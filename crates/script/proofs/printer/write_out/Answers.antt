use Rattle.std.proofs.Common.{◌≡◌, [], ◌++◌, take, drop, sym, ap, ap₂, ◌∙◌, append_assoc, arith}
use Rattle.std.proofs.lemmas.List.{append-nil, take_all, take-append-drop, length-drop}
use Rattle.script.specs.Growing.{appends_both, appends_nothing}
use Rattle.script.proofs.printer.write_out.Goals as goal
use Rattle.script.proofs.printer.write_out.Goals.{in-Ok, in-Err}

pub loop-preserved : goal.loop-preserved
loop-preserved g c =
    let t = g.W.Write.contents in
    let inv = c.loop.invariant in
    let rest = c.loop.rest.now in
    elim c.match-write.branch [
      | in-Ok w ↦ (
        inv.0 ++ take w.in-Ok.count rest,
        (let after : c.match-write.rest.now ≡ drop w.in-Ok.count rest = ap (λ r. r.now) w.rest-is ∙ take_all _ (drop w.in-Ok.count rest) (omega (arith, length-drop w.in-Ok.count rest)) in
            inv.1 ∙ ap (λ l. inv.0 ++ l) (sym (take-append-drop w.in-Ok.count rest)) ∙ sym (append_assoc inv.0 (take w.in-Ok.count rest) (drop w.in-Ok.count rest))
            ∙ ap (λ l. (inv.0 ++ take w.in-Ok.count rest) ++ l) (sym after)),
        appends_both (t c.args.writer.now) (t c.loop.writer) (t c.write.new.self) inv.0 _ inv.2 w.in-Ok.ensures.bytes,
      )
      | in-Err w ↦ (
        inv.0 ++ [],
        inv.1 ∙ ap₂ (λ a b. a ++ b) (sym (append-nil inv.0)) (ap (λ r. r.now) (sym w.rest-is)),
        appends_both (t c.args.writer.now) (t c.loop.writer) (t c.write.new.self) inv.0 [] inv.2
            (appends_nothing (t c.loop.writer) (t c.write.new.self) w.in-Err.ensures.bytes),
      )
    ]
