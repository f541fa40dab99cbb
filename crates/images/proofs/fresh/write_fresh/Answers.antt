use Rattle.std.proofs.Common.{◌∙◌, ap₂}
use Rattle.images.specs.declared.format.Format.TheVariants.{Flash}
use Rattle.images.specs.Written.{written}
use Rattle.images.specs.Fresh.{blank}
use Rattle.images.proofs.Blank.{fresh_image}
use Rattle.images.proofs.fresh.write_fresh.Goals as goal

pub returns : goal.returns
returns c =
    let counts = c.in_ok-layout.ensures in
    let wrote = c.write_blank.ensures in (
      counts.0,
      fresh_image c.args.pages c.args.width counts.0 _ (wrote.image ∙ ap₂ (λ P w. written Flash (blank P w)) counts.1.0 counts.1.1),
      rw (← counts.1.0, ← counts.1.1) wrote,
    )
