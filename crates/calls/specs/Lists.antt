-- What is promised of lists of calls that are served over an array. Assumes nothing.
use Rattle.std.specs.Prelude.{◌≡◌, List, map, Some, count_by}
use Rattle.std.specs.List.{flat_map}
use Rattle.cells.specs.declared.array.CellArray.{Ghosts}
use Rattle.cells.specs.declared.paired.Paired.{Paired}
use Rattle.cells.specs.Steps.{steps_below}
use Rattle.cells.specs.Chain.{Takes, is_mark, CellsAfter}
use Rattle.coset.specs.Code.{Code}
use Rattle.calls.specs.declared.call.Call.{Call}
use Rattle.calls.specs.declared.call.Entry.{Entry}
use Rattle.calls.specs.declared.ledger.Ledger.{Ledger}
use Rattle.calls.specs.Ledger.{raised}
use Rattle.calls.specs.Calls.{Answer, state_of}
use Rattle.calls.specs.History.{total, marks}
use Rattle.calls.specs.Promise.{Promise}
use Rattle.calls.specs.Steps.{all_steps}

-- A store with the code c over an array served these calls with these answers, and so came from the array and the
-- ledger before to those after.
pub record PromiseOn {A : Type 0} (array : Ghosts A) (c : Code) (before : A) (counted : Ledger)
    (calls : List Call) (answers : List Answer) (after : A) (counts : Ledger) : Type 0 where
  pub promise :
      Promise c (state_of (array.cells before) counted) calls answers (state_of (array.cells after) counts)
  -- the array took the steps of that very history, and no others
  pub takes : Takes array (all_steps c promise.history) before after
  -- The marks among them are as many as its accepted puts and renewals answer, and so many the ledger has counted, up to
  -- its ceiling.
  pub marks_answered :
      count_by is_mark (all_steps c promise.history) ≡ total (λ e. marks e.call e.answer) promise.history
  pub marked : counts.marked ≡ raised (count_by is_mark (all_steps c promise.history)) counted.marked

-- The calls of a list of entries were served so: each entry still has its call, and now the answer of this call.
-- `call` says which call an entry asks for.
pub record ListServed {A C : Type 0} (array : Ghosts A) (c : Code) (call : C → Call) (before : A) (counted : Ledger)
    (asked served : List (Entry C)) (after : A) (counts : Ledger) : Type 0 where
  pub answers : List Answer
  pub calls_kept : map (λ (e : Entry C). e.call) served ≡ map (λ (e : Entry C). e.call) asked
  pub all_answered : map (λ (e : Entry C). e.answer) served ≡ map Some answers
  pub kept : PromiseOn array c before counted (map (λ (e : Entry C). call e.call) asked) answers after counts

-- Over a paired part, whatever the array below, a list of calls leaves each cell below known. The array below takes the
-- steps of the history, two marks for each mark of it, and no others; each cell is what these steps make of it.
abbrev pub PairedCellsKnown : {A : Type 0} → Ghosts A → Ghosts (Paired A) → Type 0
PairedCellsKnown {A = A} array paired =
    (c : Code) (before : Paired A) (counted : Ledger) (calls : List Call) (answers : List Answer)
    (after : Paired A) (counts : Ledger) (kept : PromiseOn paired c before counted calls answers after counts) →
    Takes array (flat_map steps_below (all_steps c kept.promise.history)) before.array after.array
    × CellsAfter (flat_map steps_below (all_steps c kept.promise.history)) (array.cells before.array)
    (array.cells after.array)
