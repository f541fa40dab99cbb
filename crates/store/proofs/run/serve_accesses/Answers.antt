use Rattle.std.proofs.Common.{rules}
use Rattle.calls.specs.Accesses.{as_call}
use Rattle.calls.specs.Ledger.{blank}
use Rattle.calls.specs.Lists.{ListServed}
use Rattle.calls.proofs.Running.{lent_list}
use Rattle.coset.specs.Codes.{code_of}
use Rattle.store.proofs.run.serve_accesses.Goals as goal

-- The array that comes back has a name of the prover's own, so the fact is stated of the call's result first.
pub returns-clause-served : goal.returns-clause-served
returns-clause-served g c =
    let array = g.A.CellArray in
    let made = c.serve_over-array.ensures.served in
    let after = c.serve_over-array.result.0 in
    let counts = c.serve_over-array.result.1 in
    let asked = c.args.accesses.now in
    let served = c.serve_over-array.new.entries in
    let all : ListServed array (code_of g.G.Group c.args.code) as_call c.args.array.now blank asked served after.now counts =
    lent_list array (code_of g.G.Group c.args.code) as_call _ blank asked served after counts made.answers made.calls_kept made.all_answered
    made.kept.promise made.kept.takes made.kept.marks_answered made.kept.marked in
    search rules
