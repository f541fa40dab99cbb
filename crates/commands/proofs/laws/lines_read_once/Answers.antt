use Rattle.commands.proofs.OneReading.{orders_same, headings_same}
use Rattle.commands.proofs.laws.lines_read_once.Goals as goal

pub returns : goal.returns
returns c = record { orders = orders_same; headings = headings_same }
