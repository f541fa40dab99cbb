-- That calls are determined: whoever keeps the rules, from states that agree, answers the same,
-- takes the same steps and ends in states that agree. Assumes nothing.
use Rattle.std.specs.Prelude.{◌≡◌, List, map}
use Rattle.cells.specs.declared.array.CellArray.{Ghosts}
use Rattle.cells.specs.Cells.{Alike}
use Rattle.coset.specs.Code.{Code}
use Rattle.calls.specs.declared.call.Call.{Call}
use Rattle.calls.specs.declared.call.Entry.{Entry}
use Rattle.calls.specs.declared.ledger.Ledger.{Ledger}
use Rattle.calls.specs.Calls.{State, Answer, Obeys}
use Rattle.calls.specs.History.{Event, Linked, Every}
use Rattle.calls.specs.Promise.{Promise}
use Rattle.calls.specs.Steps.{steps_of, all_steps}
use Rattle.calls.specs.Lists.{ListServed}

-- The states are the same to every call: their cells agree, and their ledgers are equal.
pub record StatesAgree (s s' : State) : Type 0 where
  pub cells : Alike s.cells s'.cells
  pub ledger : s'.ledger ≡ s.ledger

-- One call that obeys the rules in states that agree has one answer, a fault and its place
-- included. It needs the same steps, and leaves states that agree.
pub record SameCall (c : Code) (call : Call) (a a' : Answer)
    (before after before' after' : State) : Type 0 where
  pub answer : a' ≡ a
  pub steps :
      steps_of c call a' before'.cells after'.cells ≡ steps_of c call a before.cells after.cells
  pub left : StatesAgree after after'

abbrev pub CallsAgree : Type 0
CallsAgree =
    (c : Code) (call : Call) (a a' : Answer) (before after before' after' : State) →
    StatesAgree before before' → Obeys c call a before after → Obeys c call a' before' after' →
    SameCall c call a a' before after before' after'

-- The same calls had these answers in two runs, with these histories, which left these states. The
-- answers are the same, both histories need the same steps, and the states agree.
pub record SameRun (c : Code) (a a' : List Answer) (h h' : List Event)
    (last last' : State) : Type 0 where
  pub answers : a' ≡ a
  pub steps : all_steps c h' ≡ all_steps c h
  pub left : StatesAgree last last'

-- So it is with the same calls, one after the other by the rules, from states that agree.
abbrev pub HistoriesAgree : Type 0
HistoriesAgree =
    (c : Code) (h h' : List Event) (first last first' last' : State) → StatesAgree first first' →
    map (λ (e : Event). e.call) h' ≡ map (λ (e : Event). e.call) h →
    Linked first h last → Every (λ e. Obeys c e.call e.answer e.before e.after) h →
    Linked first' h' last' → Every (λ e. Obeys c e.call e.answer e.before e.after) h' →
    SameRun c (map (λ (e : Event). e.answer) h) (map (λ (e : Event). e.answer) h') h h' last last'

-- And so with the same calls, each list of them with the promise, from states that agree.
abbrev pub RunsAgree : Type 0
RunsAgree =
    (c : Code) (calls : List Call) (answers answers' : List Answer)
    (first last first' last' : State) → StatesAgree first first' →
    (p : Promise c first calls answers last) → (p' : Promise c first' calls answers' last') →
    SameRun c answers answers' p.history p'.history last last'

-- A list of entries was served on each of two arrays, with these histories. The entries are equal
-- afterwards, and so are the ledgers; the cells agree. The steps of the histories, which the arrays
-- took, are the same.
pub record SameList {A B C : Type 0} (c : Code) (array : Ghosts A) (other : Ghosts B)
    (h h' : List Event) (after : A) (after' : B) (served served' : List (Entry C))
    (counts counts' : Ledger) : Type 0 where
  pub entries : served' ≡ served
  pub ledger : counts' ≡ counts
  pub cells : Alike (array.cells after) (other.cells after')
  pub steps : all_steps c h' ≡ all_steps c h

-- So it is where two arrays, of any two kinds, begin with cells that agree and with equal ledgers,
-- and the lists have the same calls.
abbrev pub ListsAgree : {A B : Type 0} → Ghosts A → Ghosts B → Type 0 → Type 0
ListsAgree {A} {B} array other C =
    (c : Code) (call : C → Call) (before after : A) (before' after' : B)
    (counted counts counts' : Ledger) (asked asked' served served' : List (Entry C)) →
    map (λ (e : Entry C). e.call) asked' ≡ map (λ (e : Entry C). e.call) asked →
    Alike (array.cells before) (other.cells before') →
    (s : ListServed array c call before counted asked served after counts) →
    (s' : ListServed other c call before' counted asked' served' after' counts') →
    SameList c array other s.kept.promise.history s'.kept.promise.history after after'
    served served' counts counts'
