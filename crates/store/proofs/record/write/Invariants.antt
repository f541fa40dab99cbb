use Rattle.std.proofs.Common.{◌≡◌, ◌&&◌, ltb}
use Rattle.cells.specs.Sets.{size_below}
use Rattle.cells.specs.Device.{Kept}
use Rattle.cells.specs.Chain.{Takes}
use Rattle.calls.specs.Steps.{marks_of}
use Rattle.coset.specs.CellSets.{members_of}
use Rattle.store.specs.Parts.{SetsCells}
use Rattle.store.proofs.record.write.Given as goal

abbrev pub invariant-loop-cell : goal.invariant-loop-cell
invariant-loop-cell g l = record {
  kept : Kept g.A.CellArray.held g.A.CellArray.intact l.initial.array l.array;
  takes : Takes g.A.CellArray (marks_of l.at.page l.at.first (members_of l.set) l.cell) l.initial.array l.array;
  sets : SetsCells l.n l.at (λ i. ltb i l.cell && members_of l.set i) (g.A.CellArray.cells l.initial.array) (g.A.CellArray.cells l.array);
  counted : l.count ≡ size_below (members_of l.set) l.cell;
}
