-- Calls made singly, each on a store of its own, keep the promise together. Assumes nothing.
use Rattle.std.proofs.Common.{◌≡◌, List, [], ◌∷◌, map, Ok, Err, refl, ap, ◌∙◌, subst₂, arith}
use Rattle.calls.specs.declared.ledger.Ledger.{Ledger}
use Rattle.calls.specs.declared.call.Call.{Call}
use Rattle.cells.specs.Cells.{Cells}
use Rattle.coset.specs.Code.{Code}
use Rattle.calls.specs.Records.{value}
use Rattle.calls.specs.Ledger.{blank, noted}
use Rattle.calls.specs.Calls.{State, Answer, state_of, record_of, Obeys}
use Rattle.calls.specs.History.{Event, Linked, LinkedCells, Every}
use Rattle.calls.specs.Promise.{Promise, SingleCallsSuffice}
use Rattle.calls.proofs.Parts.{Rules}
use Rattle.calls.proofs.Promised.{promised}

module _ (c : Code) where
  -- the ledger after an event, if it was l before
  next : Event → Ledger → Ledger
  next e l = go e.answer
    where
      go : Answer → Ledger
      go (Ok r) = noted e.call (value c e.before.cells (record_of e.call)) r l
      go (Err f) = l

  -- the events with one ledger, which is l at first
  told : Ledger → List Event → List Event
  told l [] = []
  told l (e ∷ es) =
      record { call = e.call; answer = e.answer; before = state_of e.before.cells l; after = state_of e.after.cells (next e l) } ∷ told (next e l) es

  counted : Ledger → List Event → Ledger
  counted l [] = l
  counted l (e ∷ es) = counted (next e l) es

  obeyed :
      (call : Call) (answer : Answer) (before after : State) (l : Ledger) → Obeys c call answer before after →
      Obeys c call answer (state_of before.cells l) (state_of after.cells (next (record { call = call; answer = answer; before = before; after = after }) l))
  unfolding next
  obeyed call (Ok r) before after l o = (o.0, o.1, refl)
  obeyed call (Err f) before after l o = (o.0, o.1, ap (λ (z : State). state_of z.cells l) o.2)

  all_obeyed : (l : Ledger) (es : List Event) → Every (Rules c) es → Every (Rules c) (told l es)
  unfolding told
  all_obeyed l [] all = tt
  all_obeyed l (e ∷ es) all = (obeyed e.call e.answer e.before e.after l all.0, all_obeyed (next e l) es all.1)

  linked : (l : Ledger) (es : List Event) (first last : Cells) → LinkedCells first es last → Linked (state_of first l) (told l es) (state_of last (counted l es))
  unfolding told counted
  linked l [] first last on = ap (λ m. state_of m l) on
  linked l (e ∷ es) first last on = (ap (λ m. state_of m l) on.0, linked (next e l) es e.after.cells last on.1)

  its_calls : (l : Ledger) (es : List Event) → map (λ (e : Event). e.call) (told l es) ≡ map (λ (e : Event). e.call) es
  unfolding told
  its_calls l [] = refl
  its_calls l (e ∷ es) = ap (λ cs. e.call ∷ cs) (its_calls (next e l) es)

  its_answers : (l : Ledger) (es : List Event) → map (λ (e : Event). e.answer) (told l es) ≡ map (λ (e : Event). e.answer) es
  unfolding told
  its_answers l [] = refl
  its_answers l (e ∷ es) = ap (λ cs. e.answer ∷ cs) (its_answers (next e l) es)

  cells_before : (l : Ledger) (es : List Event) → map (λ (e : Event). e.before.cells) (told l es) ≡ map (λ (e : Event). e.before.cells) es
  unfolding told
  cells_before l [] = refl
  cells_before l (e ∷ es) = ap (λ ms. e.before.cells ∷ ms) (cells_before (next e l) es)

  cells_after : (l : Ledger) (es : List Event) → map (λ (e : Event). e.after.cells) (told l es) ≡ map (λ (e : Event). e.after.cells) es
  unfolding told
  cells_after l [] = refl
  cells_after l (e ∷ es) = ap (λ ms. e.after.cells ∷ ms) (cells_after (next e l) es)

pub single_calls_suffice : SingleCallsSuffice
single_calls_suffice c lawful labels first made last on all =
    let counts = counted c blank made in
    let kept =
    promised c lawful labels (state_of first blank) (told c blank made) (state_of last counts)
    (record { changes = omega arith; renewals = omega arith; marked = omega arith }) (linked c blank made first last on)
    (all_obeyed c blank made all) in
    let all_kept =
    subst₂
    (λ calls answers.
    (p : Promise c (state_of first blank) calls answers (state_of last counts))
    × (map (λ (e : Event). e.before.cells) p.history ≡ map (λ (e : Event). e.before.cells) made)
    × (map (λ (e : Event). e.after.cells) p.history ≡ map (λ (e : Event). e.after.cells) made))
    (its_calls c blank made) (its_answers c blank made)
    (kept.0, ap (map (λ (e : Event). e.before.cells)) kept.1 ∙ cells_before c blank made, ap (map (λ (e : Event). e.after.cells)) kept.1 ∙ cells_after c blank made) in
    (counts, all_kept.0, all_kept.1, all_kept.2)
