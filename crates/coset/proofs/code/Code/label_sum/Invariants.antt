use Rattle.std.proofs.Common.{◌≡◌, ◌-◌, ◌<◌, ◌≤◌, true}
use Rattle.coset.specs.CellSets.{members_of}
use Rattle.coset.specs.Code.{code, sum_below}
use Rattle.coset.proofs.code.Code.label_sum.Given as goal

abbrev pub invariant-loop-cell : goal.invariant-loop-cell
invariant-loop-cell g l =
    (l.sum ≡ sum_below (code (g.G.Group.meaning l.self.group) l.self.cells) (members_of l.set) l.cell)
    × (l.cell ≤ l.self.cells)
    × (l.cell < l.self.cells → members_of l.set l.cell ≡ true)

abbrev pub decreases-loop-cell : goal.decreases-loop-cell
decreases-loop-cell g l = l.self.cells - l.cell
