use Rattle.coset.specs.CellSets.{members_of}
use Rattle.coset.proofs.Walks.{Walked}
use Rattle.coset.proofs.planner.Search.walk.Given as goal

abbrev pub invariant-loop-cell : goal.invariant-loop-cell
invariant-loop-cell g l =
    Walked (g.G.Group.meaning l.self.code.now.group) l.self.cells (members_of l.self.free.now) l.table l.step l.cell (members_of l.chosen) l.rest
