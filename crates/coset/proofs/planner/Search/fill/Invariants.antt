use Rattle.coset.specs.CellSets.{members_of}
use Rattle.coset.specs.Code.{code}
use Rattle.coset.specs.Plans.{Filled}
use Rattle.coset.proofs.planner.Search.fill.Given as goal

abbrev pub invariant-loop-cell : goal.invariant-loop-cell
invariant-loop-cell g l =
    Filled (code (g.G.Group.meaning l.self.code.now.group) l.self.cells) (members_of l.self.free.now) l.table l.cell
