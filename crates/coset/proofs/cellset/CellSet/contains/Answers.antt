use Rattle.std.proofs.Common.{arith}
use Rattle.std.proofs.lemmas.Bool.{le-ltb}
use Rattle.coset.proofs.Flags.{none_beyond}
use Rattle.coset.proofs.cellset.CellSet.contains.Goals as goal

pub returns-else-cell-lt-MAX_CELLS : goal.returns-else-cell-lt-MAX_CELLS
returns-else-cell-lt-MAX_CELLS c = rw (none_beyond c.args.self.now c.args.cell (omega arith)) (le-ltb c.args.cell 63 (omega arith))
