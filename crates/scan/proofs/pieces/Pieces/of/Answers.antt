use Rattle.scan.proofs.Cutting.{cut_law}
use Rattle.scan.proofs.pieces.Pieces.of.Goals as goal

pub returns-clause-law : goal.returns-clause-law
returns-clause-law c = cut_law
