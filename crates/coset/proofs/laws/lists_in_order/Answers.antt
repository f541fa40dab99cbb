use Rattle.coset.proofs.Dictionary.{cells_listed, first_place_decides, total_order}
use Rattle.coset.proofs.laws.lists_in_order.Goals as goal

pub returns : goal.returns
returns c = record { cells = cells_listed; place = first_place_decides; order = total_order }
