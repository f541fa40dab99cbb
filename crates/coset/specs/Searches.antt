-- The code that a search of the planner goes by, whose cells are those that a plan can have. Assumes nothing.
use Rattle.group.specs.declared.interface.Group.{Ghosts}
use Rattle.coset.specs.Code.{Code, code}
use Rattle.coset.specs.declared.planner.Search.{Search}

abbrev pub search_code : {G : Type 0} {group : Ghosts G} → Search G group → Code
search_code {group = group} s = code (group.meaning s.code.now.group) s.cells
