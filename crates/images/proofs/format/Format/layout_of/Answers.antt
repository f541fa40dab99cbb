use Rattle.std.proofs.Common.{refl}
use Rattle.images.proofs.Accepted.{written_out}
use Rattle.images.proofs.Intact.{reads}
use Rattle.images.proofs.format.Format.layout_of.Goals as goal

pub returns : goal.returns
returns c =
    let check = c.check.ensures in
    record {
      reads = reads c.args.self c.args.image.now c.check.result _ c.unwrap_or.result check.checks refl refl c.unwrap_or.ensures;
      written = written_out c.args.self c.args.image.now c.check.result check.checks check.exact;
    }
