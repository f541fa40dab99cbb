use Rattle.std.proofs.Common.{rules}
use Rattle.cells.specs.Chain.{Takes}
use Rattle.calls.specs.Steps.{steps_of}
use Rattle.calls.proofs.Running.{lent_takes}
use Rattle.coset.specs.Codes.{code_of}
use Rattle.store.proofs.run.run_call.Goals as goal

-- The array that comes back has a name of the prover's own, so the fact is stated of the call's result first.
pub returns-clause-takes : goal.returns-clause-takes
returns-clause-takes g c =
    let array = g.A.CellArray in
    let after = c.call_over-array.result.0 in
    let steps = steps_of (code_of g.G.Group c.args.code) c.args.call c.call_over-array.result.1 (array.cells c.args.array.now) (array.cells after.now) in
    let lent : Takes array steps c.args.array.now after.now = lent_takes array steps _ after c.call_over-array.ensures.takes in
    search rules
