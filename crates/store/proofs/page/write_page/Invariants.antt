use Rattle.std.proofs.Common.{◌*◌}
use Rattle.cells.specs.Device.{Kept}
use Rattle.cells.specs.Chain.{Takes}
use Rattle.calls.specs.Steps.{marks_of}
use Rattle.store.specs.Parts.{PageWritten}
use Rattle.store.proofs.page.write_page.Given as goal

abbrev pub invariant-loop-r : goal.invariant-loop-r
invariant-loop-r g l = record {
  kept : Kept g.A.CellArray.held g.A.CellArray.intact l.initial.array l.array;
  takes : Takes g.A.CellArray (marks_of l.page 0 ((g.A.CellArray.cells l.array).set l.page) (l.r * l.n)) l.initial.array l.array;
  written : PageWritten l.n l.page l.r l.plans (g.A.CellArray.cells l.initial.array) (g.A.CellArray.cells l.array) l.marked;
}
