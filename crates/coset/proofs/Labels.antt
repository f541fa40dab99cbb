-- Codes whose labels are those of the rules. Assumes nothing.
use Rattle.std.proofs.Common.{◌≡◌, sym}
use Rattle.coset.specs.Code.{Code, code, LabelledInTurn}

-- such a code is the code of its group and its number of cells
pub code_itself : (c : Code) → LabelledInTurn c → code c.group c.cells ≡ c
code_itself c labels = λ i. record { group = c.group; cells = c.cells; label = λ k. sym (labels k) i }
