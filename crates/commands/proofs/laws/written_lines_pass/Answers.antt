use Rattle.commands.proofs.ReadBack.{orders_pass, headings_pass}
use Rattle.commands.proofs.laws.written_lines_pass.Goals as goal

pub returns : goal.returns
returns c = record { orders = orders_pass; headings = headings_pass }
