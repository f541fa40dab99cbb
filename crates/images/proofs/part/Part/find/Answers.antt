use Rattle.std.proofs.Common.{◌+◌, ◌/◌, ap}
use Rattle.images.proofs.Offsets.{found}
use Rattle.images.proofs.part.Part.find.Goals as goal

pub returns : goal.returns
returns g c =
    found g.K.Kind.FORMAT c.args.self.now.layout c.args.self.now.image.now c.args.page c.args.cell _ c.in_ok-check_cell.ensures
    (ap (λ at. at + c.args.cell / 8) (rw c.FORMAT.ensures at c.page_at.ensures))
