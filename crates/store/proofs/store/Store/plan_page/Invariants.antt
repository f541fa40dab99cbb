use Rattle.std.proofs.Common.{◌%◌}
use Rattle.coset.specs.Codes.{code_of}
use Rattle.store.specs.Parts.{PlansOfPage}
use Rattle.store.proofs.store.Store.plan_page.Given as goal

abbrev pub invariant-loop-r : goal.invariant-loop-r
invariant-loop-r g l =
    PlansOfPage (code_of g.G.Group l.self.code) (g.A.CellArray.cells l.self.array) l.page (l.«record» % l.records) l.value l.r l.plans.items
