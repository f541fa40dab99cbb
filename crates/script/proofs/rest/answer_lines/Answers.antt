use Rattle.std.proofs.Common.{[], ◌∷◌, ◌++◌, sym, refl, ap, ◌∙◌, subst}
use Rattle.std.proofs.lemmas.List.{flat_map_more, append-nil}
use Rattle.coset.specs.Codes.{code_of}
use Rattle.calls.specs.Records.{records}
use Rattle.store.specs.Keeps.{state}
use Rattle.script.specs.declared.reply.Reply.TheVariants.{Made}
use Rattle.script.specs.Lines.{line_of, lines_left}
use Rattle.script.specs.Replies.{shown, printed}
use Rattle.script.specs.Execution.{ExecutesLine, Execution}
use Rattle.script.proofs.Progress.{progress_none, progress_more}
use Rattle.script.proofs.rest.answer_lines.Goals as goal

pub loop-line-init : goal.loop-line-init
loop-line-init g c =
    let takes = g.O.Output.takes in
    let made = Made (records (code_of g.G.Group c.args.store.now.code) (g.A.CellArray.cells c.args.store.now.array)) in (
      (refl, (refl, λ whole. whole)),
      record {
        replies = made ∷ [];
        satisfies = progress_none _ _ _ _ _ refl;
        takes =
            subst (λ text. takes c.args.out.now text c.print.new.out) (ap (λ k. shown (Made k)) c.records.ensures ∙ sym (append-nil (shown made)))
            c.print.ensures;
      },
    )

pub loop-line-preserved : goal.loop-line-preserved
loop-line-preserved g c =
    let kept = c.loop-line.invariant.0 in
    let before = c.loop-line.invariant.1 in
    let co = code_of g.G.Group c.args.store.now.code in
    let first = state g.A.CellArray c.args.store.now in
    let now = state g.A.CellArray c.loop-line.store in
    let next = state g.A.CellArray c.answer_line-reply.new.store in
    let l = line_of c.in-Some.line in
    let r = c.answer_line-reply.result in
    let answered = c.answer_line-reply.ensures in (
      (answered.keeps.0 ∙ kept.0, (answered.keeps.1.0 ∙ kept.1.0, (λ whole. answered.keeps.1.1 (kept.1.1 whole)))),
      record {
        replies = before.replies ++ (r ∷ []);
        satisfies =
            progress_more co first now next (lines_left c.into_iter-line-iterator.result) (lines_left c.loop-line.line-iterator) l (lines_left c.next.new.self)
            (Made (records co (g.A.CellArray.cells c.args.store.now.array))) r before.replies (before.replies ++ (r ∷ []))
            before.satisfies c.in-Some.ensures.steps refl
            (subst (λ k. Execution (code_of g.G.Group k) (λ h. ExecutesLine l.1 l.0 now h r) now next) kept.0 answered.execution);
        takes =
            subst (λ text. g.O.Output.takes c.args.out.now text c.print-in-loop-line.new.out) (flat_map_more shown [] before.replies r)
            (g.O.Output.joins c.args.out.now c.loop-line.out c.print-in-loop-line.new.out (printed before.replies) (shown r) before.takes c.print-in-loop-line.ensures);
      },
    )
