use Rattle.std.proofs.Common.{rules}
use Rattle.group.specs.Pairs.{product_direct}
use Rattle.group.proofs.product.Product.new.Goals as goal

pub returns : goal.returns
returns g c =
    let direct = product_direct (g.met.A.Group.lawful c.args.left) (g.met.B.Group.lawful c.args.right) in
    search rules
