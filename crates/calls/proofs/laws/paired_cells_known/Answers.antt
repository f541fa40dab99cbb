use Rattle.std.specs.List.{flat_map}
use Rattle.cells.specs.Steps.{steps_below}
use Rattle.cells.specs.Chain.{TakesOne, Takes}
use Rattle.cells.proofs.Chains.{chain_within, steps_tell}
use Rattle.calls.specs.Steps.{all_steps}
use Rattle.calls.proofs.laws.paired_cells_known.Goals as goal

pub returns : goal.returns
returns g c = λ code before counted calls answers after counts kept.
    let steps = all_steps code kept.promise.history in
    let below : Takes g.A.CellArray (flat_map steps_below steps) before.array after.array =
    chain_within (TakesOne g.A.CellArray) _ (λ p. p.array) steps_below (λ p s q one. one.1) steps before after kept.takes in
    (below, steps_tell g.A.CellArray (flat_map steps_below steps) before.array after.array below)
