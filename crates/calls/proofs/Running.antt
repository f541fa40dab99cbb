-- Lists of calls that grow by one call, and the promise that holds of them. Assumes nothing.
use Rattle.std.proofs.Common.{◌≡◌, List, map, [], ◌∷◌, ◌++◌, refl, ap, sym, ◌∙◌, subst, subst₂, Some, MutBor}
use Rattle.std.proofs.lemmas.List.{map_push, append-nil}
use Rattle.std.proofs.lemmas.Grind.{flat_map-append}
use Rattle.group.specs.Group.{Lawful}
use Rattle.cells.specs.declared.array.CellArray.{Ghosts}
use Rattle.std.specs.Prelude.{count_by}
use Rattle.cells.specs.Steps.{Step}
use Rattle.cells.specs.Chain.{Chain, TakesOne, Takes, is_mark}
use Rattle.cells.proofs.Chains.{chain_both, chain_through}
use Rattle.coset.specs.Code.{Code, LabelledInTurn}
use Rattle.calls.specs.declared.call.Call.{Call}
use Rattle.calls.specs.declared.ledger.Ledger.{Ledger}
use Rattle.calls.specs.Ledger.{raised}
use Rattle.calls.specs.Calls.{State, Answer, state_of, Obeys}
use Rattle.calls.specs.History.{Event, Linked, Every, total, marks}
use Rattle.calls.specs.Promise.{Promise, WithinCeiling}
use Rattle.calls.specs.Steps.{steps_of, all_steps}
use Rattle.calls.specs.declared.call.Entry.{Entry}
use Rattle.calls.specs.Lists.{PromiseOn, ListServed}
use Rattle.calls.proofs.Promised.{promised}
use Rattle.calls.proofs.Counting.{count_all}

-- These calls had these answers, each by the rules, and led from the state `first` to the state `last`; the array took
-- their steps.
pub record Runs {A : Type 0} (array : Ghosts A) (c : Code) (first : State) (calls : List Call) (answers : List Answer) (last : State) (from to : A) : Type 0 where
  pub history : List Event
  pub its_calls : map (λ (e : Event). e.call) history ≡ calls
  pub its_answers : map (λ (e : Event). e.answer) history ≡ answers
  pub linked : Linked first history last
  pub obeys : Every (λ e. Obeys c e.call e.answer e.before e.after) history
  pub takes : Takes array (all_steps c history) from to

linked_push : (h : List Event) (s : State) (e : Event) → Linked s h e.before → Linked s (h ++ (e ∷ [])) e.after
linked_push [] s e linked = (linked, refl)
linked_push (x ∷ h) s e linked = (linked.0, linked_push h x.after e linked.1)

every_push : (P : Event → Type 0) (h : List Event) (e : Event) → Every P h → P e → Every P (h ++ (e ∷ []))
every_push P [] e all here = (here, tt)
every_push P (x ∷ h) e all here = (all.0, every_push P h e all.1 here)

module _ {A : Type 0} (array : Ghosts A) (c : Code) (first : State) where
  -- no call yet
  pub runs_none : (a : A) → Runs array c first [] [] first a a
  runs_none a = record { history = []; its_calls = refl; its_answers = refl; linked = refl; obeys = tt; takes = refl }

  -- one call more
  pub runs_more :
      (calls : List Call) (answers : List Answer) (before after : State) (call : Call) (answer : Answer) (from mid to : A) →
      Runs array c first calls answers before from mid → Obeys c call answer before after →
      Takes array (steps_of c call answer before.cells after.cells) mid to →
      Runs array c first (calls ++ (call ∷ [])) (answers ++ (answer ∷ [])) after from to
  runs_more calls answers before after call answer from mid to runs obeys taken =
      let e : Event = record { call = call; answer = answer; before = before; after = after } in
      let steps = λ (x : Event). steps_of c x.call x.answer x.before.cells x.after.cells in
      record {
        history = runs.history ++ (e ∷ []);
        its_calls = map_push (λ (x : Event). x.call) runs.history e ∙ ap (λ l. l ++ (call ∷ [])) runs.its_calls;
        its_answers = map_push (λ (x : Event). x.answer) runs.history e ∙ ap (λ l. l ++ (answer ∷ [])) runs.its_answers;
        linked = linked_push runs.history first e runs.linked;
        obeys = every_push (λ x. Obeys c x.call x.answer x.before x.after) runs.history e runs.obeys obeys;
        takes =
            subst (λ ss. Takes array ss from to)
            (sym (flat_map-append steps runs.history (e ∷ []) ∙ ap (λ ss. all_steps c runs.history ++ ss) (append-nil (steps e))))
            (chain_both (TakesOne array) (all_steps c runs.history) (steps e) from mid to runs.takes taken);
      }

-- the whole promise, with the steps of its own history
pub runs_promise :
    {A : Type 0} (array : Ghosts A) (c : Code) (before : A) (counted : Ledger) (calls : List Call) (answers : List Answer) (after : A) (counts : Ledger) →
    Lawful c.group → LabelledInTurn c → WithinCeiling counted →
    Runs array c (state_of (array.cells before) counted) calls answers (state_of (array.cells after) counts) before after →
    PromiseOn array c before counted calls answers after counts
runs_promise array c before counted calls answers after counts lawful labels within runs =
    let first = state_of (array.cells before) counted in
    let last = state_of (array.cells after) counts in
    let p : (p : Promise c first calls answers last) × (p.history ≡ runs.history) =
    subst₂ (λ made given. (p : Promise c first made given last) × (p.history ≡ runs.history)) runs.its_calls runs.its_answers
    (promised c lawful labels first runs.history last within runs.linked runs.obeys) in
    record {
      promise = p.0;
      takes = subst (λ h. Takes array (all_steps c h) before after) (sym p.1) runs.takes;
      marks_answered = count_all c p.0.history p.0.obeys;
      marked = p.0.ledger_marked ∙ ap (λ n. raised n counted.marked) (sym (count_all c p.0.history p.0.obeys));
    }

-- the same of an array that was lent, for its owner
abbrev lent_step : {A : Type 0} → Ghosts A → MutBor A → Step → MutBor A → Type 0
lent_step array a s b = TakesOne array a.now s b.now

pub lent_takes :
    {A : Type 0} (array : Ghosts A) (ss : List Step) (before after : MutBor A) → Chain (lent_step array) ss before after →
    Takes array ss before.now after.now
lent_takes array ss before after taken =
    chain_through (TakesOne array) (lent_step array) (λ a. a.now) (λ a s b step. step) ss before after taken

pub lent_list :
    {A C : Type 0} (array : Ghosts A) (c : Code) (call : C → Call) (before : MutBor A) (counted : Ledger) (asked served : List (Entry C))
    (after : MutBor A) (counts : Ledger) (answers : List Answer) →
    map (λ (e : Entry C). e.call) served ≡ map (λ (e : Entry C). e.call) asked → map (λ (e : Entry C). e.answer) served ≡ map Some answers →
    (p : Promise c (state_of (array.cells before.now) counted) (map (λ (e : Entry C). call e.call) asked) answers (state_of (array.cells after.now) counts)) →
    Chain (lent_step array) (all_steps c p.history) before after →
    count_by is_mark (all_steps c p.history) ≡ total (λ e. marks e.call e.answer) p.history →
    counts.marked ≡ raised (count_by is_mark (all_steps c p.history)) counted.marked →
    ListServed array c call before.now counted asked served after.now counts
lent_list array c call before counted asked served after counts answers kept answered p taken exact marked =
    record {
      answers = answers;
      calls_kept = kept;
      all_answered = answered;
      kept = record { promise = p; takes = lent_takes array (all_steps c p.history) before after taken; marks_answered = exact; marked = marked };
    }
