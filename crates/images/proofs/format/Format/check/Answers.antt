use Rattle.images.proofs.Accepted.{exact, reads_back}
use Rattle.images.proofs.format.Format.check.Goals as goal

pub returns-clause-exact : goal.returns-clause-exact
returns-clause-exact c = exact c.args.self c.args.image.now (λ i. (c.type_inv.image i).fits) c.read_layout.result c.read_layout.ensures

pub returns-clause-read_back : goal.returns-clause-read_back
returns-clause-read_back c = reads_back c.args.self c.args.image.now
