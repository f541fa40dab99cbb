use Rattle.std.proofs.Common.{refl}
use Rattle.images.proofs.Intact.{mark_done}
use Rattle.images.proofs.part.PartCellArray.mark.Goals as goal

pub returns : goal.returns
returns g c =
    let found = c.in_ok-at.ensures in
    let done =
    mark_done g.K.Kind.FORMAT c.args.self.now.layout c.args.self.now.image.now c.args.page c.args.cell c.in_ok-at.at
    c.with_set.result found (rw c.FORMAT.ensures at c.with_set.ensures) in
    record { kept = (refl, done.2); marks = (found.0, done.0); step = (refl, done.1) }
