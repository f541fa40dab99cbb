-- The code that a `Code` stands for. Assumes nothing.
use Rattle.group.specs.declared.interface.Group.{Ghosts}
use Rattle.coset.specs.Code.{Code as Meaning, code}
use Rattle.coset.specs.declared.code.Code.{Code}

-- by what its group means
abbrev pub code_of : {G : Type 0} → Ghosts G → Code G → Meaning
code_of group c = code (group.meaning c.group) c.cells
