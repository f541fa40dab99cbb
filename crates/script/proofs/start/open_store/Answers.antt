use Rattle.std.proofs.Common.{◌≡◌, ◌≤◌, ◌++◌, length, take, drop, Some, sym, ap₂, ◌∙◌, subst, mul-le-mul_right, arith}
use Rattle.std.proofs.lemmas.List.{length-take-le}
use Rattle.std.proofs.lemmas.Result.{err_from_is_err_and}
use Rattle.cells.specs.Rows.{Served}
use Rattle.images.specs.declared.format.Format.TheVariants.{Flash}
use Rattle.images.specs.declared.layout.Layout.{Layout}
use Rattle.images.specs.Image.{page_bytes, size, decoded}
use Rattle.images.specs.Check.{ChecksStep}
use Rattle.images.specs.Written.{written}
use Rattle.images.specs.Fresh.{blank, fresh_rows, FreshImage}
use Rattle.images.proofs.Blank.{fresh_image}
use Rattle.store.specs.Making.{MakesAt}
use Rattle.commands.specs.declared.head.Head.{Head}
use Rattle.commands.specs.declared.group_word.GroupWord.{GroupWord}
use Rattle.commands.specs.declared.word.Number.{Number}
use Rattle.script.specs.Lines.{lines_left}
use Rattle.script.specs.Printing.{Replied}
use Rattle.script.specs.Script.{code_of_heading, lent, LeavesImage}
use Rattle.script.specs.Starting.{AnsweredOver}
use Rattle.script.proofs.Located.{accepted_at}
use Rattle.script.proofs.Starting.{counts_refused, making_refused, image_left, store_made}
use Rattle.script.proofs.start.open_store.Goals as goal
use Rattle.script.proofs.start.open_store.Goals.{In_ok-layout}
use Rattle.script.proofs.start.open_store.Given.{Over}

-- what the layout of a heading has
abbrev Counts : Head GroupWord Number → Layout → Type 0
Counts h l = (l.pages ≡ h.pages.value) × (l.width ≡ h.width.value)

-- The counts were accepted, and the fresh image that they give is written.
module _ (g : Over) where
  counts : (c : In_ok-layout g) → Served (fresh_rows c.args.place.heading.pages.value c.args.place.heading.width.value) × Counts c.args.place.heading c.in_ok-layout.layout
  counts c =
      let h = c.args.place.heading in
      let checks : ChecksStep (fresh_rows h.pages.value h.width.value) (Counts h) c.of.result = rw (← c.index.ensures, ← c.index-2.ensures) c.of.ensures in
      accepted_at (ChecksStep (fresh_rows h.pages.value h.width.value) (Counts h)) c.args.place c.of.result c.in_ok-layout.layout
      (sym c.located_at.ensures ∙ c.in_ok-layout.was) checks

pub returns-in_err-layout : goal.returns-in_err-layout
returns-in_err-layout g c =
    let p = c.args.place in
    let h = p.heading in
    let checks : ChecksStep (fresh_rows h.pages.value h.width.value) (Counts h) c.of.result = rw (← c.index.ensures, ← c.index-2.ensures) c.of.ensures in
    let failed = err_from_is_err_and c.from_residual.result c.from_residual.ensures.1 in
    rw (failed.1, failed.2)
    (counts_refused g.O.Output p.line h (lines_left c.args.lines) c.args.image.now c.args.out.now (Counts h) c.of.result c.in_err-layout.field-0.0
    (sym c.located_at.ensures ∙ c.in_err-layout.was) checks)

pub returns-in_err-located_at : goal.returns-in_err-located_at
returns-in_err-located_at g c =
    let p = c.args.place in
    let h = p.heading in
    let passed = counts g (goal.at.returns-in_err-located_at g c).In_ok-layout in
    let makes : MakesAt (code_of_heading h) h.width.value c.check_making_at.result =
    subst (λ w. MakesAt (code_of_heading h) w c.check_making_at.result) passed.1.1 (rw (← c.index-3.ensures) c.check_making_at.ensures) in
    let failed = err_from_is_err_and c.from_residual-in_err-located_at.result c.from_residual-in_err-located_at.ensures.1 in
    rw (failed.1, failed.2)
    (making_refused g.O.Output p.line h (lines_left c.args.lines) c.args.image.now c.args.out.now c.check_making_at.result c.in_err-located_at.field-0.0
    (sym c.located_at-2.ensures ∙ c.in_err-located_at.was) passed.0 makes)

pub answer_image-requires : goal.answer_image-requires
answer_image-requires g c =
    let h = c.args.place.heading in
    let passed = counts g (goal.at.answer_image-requires g c).In_ok-layout in
    let fresh : FreshImage h.pages.value h.width.value (take c.write_blank-size.result c.write_blank-size.new.image) =
    fresh_image h.pages.value h.width.value passed.0 _
    (c.write_blank-size.ensures.image ∙ ap₂ (λ P w. written Flash (blank P w)) passed.1.0 passed.1.1) in
    fresh.accepted

pub returns : goal.returns
returns g c =
    let p = c.args.place in
    let h = p.heading in
    let passed = counts g (goal.at.returns g c).In_ok-layout in
    let n = c.write_blank-size.result in
    let zs = c.write_blank-size.new.image in
    let wrote = c.write_blank-size.ensures in
    let fresh : FreshImage h.pages.value h.width.value (take n zs) =
    fresh_image h.pages.value h.width.value passed.0 _ (wrote.image ∙ ap₂ (λ P w. written Flash (blank P w)) passed.1.0 passed.1.1) in
    let co = code_of_heading h in
    let makes : MakesAt co h.width.value c.check_making_at.result =
    subst (λ w. MakesAt co w c.check_making_at.result) passed.1.1 (rw (← c.index-3.ensures) c.check_making_at.ensures) in
    let made = accepted_at (MakesAt co h.width.value) p c.check_making_at.result c.in_ok-located_at.field-0 (sym c.located_at-2.ensures ∙ c.in_ok-located_at.was) makes in
    let m = decoded Flash (take n zs) in
    let lines = lines_left c.args.lines in
    let ys = c.answer_image.new.image in
    let answered : Replied g.O.Output c.args.out.now c.answer_image.new.out (AnsweredOver co lines (take n zs) ys) = rw (← c.index-3.ensures) c.answer_image.ensures in
    let over = answered.satisfies in
    let same : n ≡ size Flash h.pages.value h.width.value = wrote.size ∙ ap₂ (size Flash) passed.1.0 passed.1.1 in
    let l = c.in_ok-layout.layout in
    let few = l.few in
    let narrow = l.narrow in
    let bytes : page_bytes l.width ≤ 128 = omega arith in
    let most = mul-le-mul_right (page_bytes l.width) few in
    let size_of = wrote.size in
    let whole = c.write_blank-size.array_long in
    let within : n ≤ length zs = omega arith in
    let long : length ys ≡ n = c.answer_image.auto.image ∙ length-take-le n zs within in
    let left = image_left n c.args.image.now zs ys over.last.cells long over.image over.reads over.good wrote.others in
    record {
      replies = answered.replies;
      satisfies =
          store_made h m fresh.means.shape.width passed.0 lines answered.replies over.last (lent c.args.image.now (ys ++ drop n zs) (Some n)) fresh.means
          (made m fresh.means.shape.width) over.answered (subst (λ k. LeavesImage k over.last.cells (lent c.args.image.now (ys ++ drop n zs) (Some n))) same left);
      takes = answered.takes;
    }
