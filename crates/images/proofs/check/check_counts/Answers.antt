use Rattle.std.proofs.Common.{refl, inl, inr, arith}
use Rattle.images.proofs.Checks.{counts_none, counts_more, counts_refused}
use Rattle.images.proofs.check.check_counts.Goals as goal

pub loop-page-init : goal.loop-page-init
loop-page-init c = counts_none c.args.image.now

pub returns-then-image-page : goal.returns-then-image-page
returns-then-image-page c =
    counts_refused c.args.image.now c.loop-page.page c.args.pages 10 (omega arith) c.loop-page.invariant
    (inl (c.if-image-page.true, refl))

pub returns-then-count-gt-LIMIT : goal.returns-then-count-gt-LIMIT
returns-then-count-gt-LIMIT c =
    counts_refused c.args.image.now c.loop-page.page c.args.pages 15 (omega arith) c.loop-page.invariant
    (inr (omega arith, inl (omega arith, refl)))

pub loop-page-preserved : goal.loop-page-preserved
loop-page-preserved c = counts_more c.args.image.now c.loop-page.page c.loop-page.invariant (omega arith, (omega arith, tt))
