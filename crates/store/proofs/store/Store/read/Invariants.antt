use Rattle.std.proofs.Common.{◌≡◌, ℕ, ◌<◌, ◌≤◌, false}
use Rattle.coset.specs.CellSets.{members_of}
use Rattle.store.specs.Parts.{set_from}
use Rattle.store.proofs.store.Store.read.Given as goal

abbrev pub invariant-loop-cell : goal.invariant-loop-cell
invariant-loop-cell g l =
    ((i : ℕ) → i < l.cell → members_of l.set i ≡ set_from (g.A.CellArray.cells l.self.array) l.at i)
    × ((i : ℕ) → l.cell ≤ i → members_of l.set i ≡ false)
