use Rattle.std.proofs.Common.{◌≡◌, ℕ, ◌<◌, get_or, sym, ap, ◌∙◌, subst}
use Rattle.images.specs.declared.format.Format.TheVariants.{Flash}
use Rattle.images.specs.Image.{part_cells, decoded}
use Rattle.images.specs.Check.{Accepted}
use Rattle.images.specs.Written.{written}
use Rattle.images.proofs.Accepted.{accepted}
use Rattle.images.proofs.Intact.{reads_accepted}
use Rattle.coset.specs.Code.{code}
use Rattle.calls.specs.Ledger.{blank}
use Rattle.calls.specs.Calls.{state_of}
use Rattle.commands.specs.Groups.{word_group}
use Rattle.script.specs.Lines.{lines_left}
use Rattle.script.specs.Execution.{Answered}
use Rattle.script.specs.Printing.{Replied}
use Rattle.script.specs.Starting.{AnsweredOver}
use Rattle.script.proofs.start.answer_image.Goals as goal

pub returns : goal.returns
returns g c =
    let co = code (word_group c.args.code.group) c.args.code.cells in
    let lines = lines_left c.args.lines in
    let xs = c.args.image.now in
    let part = c.over-part.result in
    let over = c.over-part.ensures in
    let means : part_cells Flash part.layout part.image.now ≡ decoded Flash xs =
    ap (part_cells Flash part.layout) over.bytes ∙ over.meaning.accepted c.requires in
    let part' = c.answer_rest.new.array in
    let ys = part'.image.now in
    let names = c.answer_rest.ensures.kept.0 in
    let lent = over.lent in
    let same = c.image-1.given.1.1 cc in
    let still = c.answer_rest.ensures.kept.1 (subst (λ bytes. Accepted Flash part.layout bytes) (sym over.bytes) (over.meaning.layout c.requires)) in
    let bytes = subst (λ zs. (i : ℕ) → get_or zs i 0 < 256) same (λ i. (c.type_inv.image i).fits) in
    let after : part_cells Flash part'.layout ys ≡ decoded Flash ys = (reads_accepted Flash ys part'.layout still).accepted still.0 in
    let printed = c.answer_rest.ensures.printed in
    let answered =
    subst (λ m. Answered co (state_of m blank) lines printed.1.replies (state_of (part_cells Flash part'.layout ys) printed.0)) means printed.1.satisfies in
    let whole : Replied g.O.Output c.args.out.now c.answer_rest.new.out (AnsweredOver co lines xs ys) =
    record {
      replies = printed.1.replies;
      satisfies = record {
        last = state_of (part_cells Flash part'.layout ys) printed.0;
        answered = answered;
        image = accepted Flash ys bytes still.0 ∙ ap (written Flash) (sym after);
        reads = sym after;
        good = still.0;
      };
      takes = printed.1.takes;
    } in
    rw same whole
