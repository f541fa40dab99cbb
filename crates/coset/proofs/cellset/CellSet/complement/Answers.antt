use Rattle.coset.proofs.Flags.{complemented}
use Rattle.coset.proofs.cellset.CellSet.complement.Goals as goal

pub returns : goal.returns
returns c i few = complemented c.args.self.now.bits i few
