use Rattle.images.proofs.OneImage.{written_same, images_agree}
use Rattle.images.proofs.laws.same_cells_same_bytes.Goals as goal

pub returns : goal.returns
returns c = record { written = written_same; images = images_agree }
