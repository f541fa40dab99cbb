-- Obeying the rules at each call keeps the promise over the whole list. Assumes nothing.
use Rattle.std.proofs.Common.{◌≡◌, ℕ, ◌<◌, ◌≤◌, cond, List, [], ◌∷◌, ◌++◌, map, Ok, Err, sym, refl, ap, ◌∙◌, subst, arith}
use Rattle.std.proofs.lemmas.List.{append-nil}
use Rattle.group.specs.Group.{Group, Lawful}
use Rattle.calls.specs.declared.call.Call.{Call}
use Rattle.calls.specs.declared.call.Call.TheVariants.{Get, Put, Renew}
use Rattle.calls.specs.declared.ledger.Ledger.{Ledger}
use Rattle.coset.specs.Code.{Code, code, LabelledInTurn}
use Rattle.coset.proofs.Labels.{code_itself}
use Rattle.calls.specs.Records.{records, value}
use Rattle.calls.specs.Ledger.{ceiling, raised}
use Rattle.calls.specs.Calls.{State, Answer, Obeys}
use Rattle.calls.specs.History.{Event, Linked, Every, total, renewed, changed, marks, accepts, last_accepted}
use Rattle.calls.specs.Promise.{Gets, Promise, WithinCeiling, RulesSuffice}
use Rattle.calls.proofs.Geometry.{records_same}
use Rattle.calls.proofs.Values.{shape_kept, full_exactly, fewest, lasts, value_after, raised_none, raised_twice, Noted, noted_after, noted_small}
use Rattle.calls.proofs.Parts.{Rules, erases}
use Rattle.calls.proofs.PerErase.{changes_per_erase}
use Rattle.calls.proofs.DataSheets.{data_sheet}

-- what holds of each event that obeys holds of every event
each : (P Q : Event → Type 0) → ((e : Event) → P e → Q e) → (es : List Event) → Every P es → Every Q es
each P Q f [] all = tt
each P Q f (e ∷ es) all = (f e all.0, each P Q f es all.1)

-- a count of the ledger is the sum over the events, to the ceiling
module _ (c : Code) (f : Event → ℕ) (φ : Ledger → ℕ) (small : (l : Ledger) → WithinCeiling l → φ l ≤ ceiling)
    (step : (e : Event) → Noted c e → φ e.after.ledger ≡ raised (f e) (φ e.before.ledger)) where
  counted :
      (es : List Event) (first last : State) → Linked first es last → Every (Rules c) es → WithinCeiling first.ledger →
      φ last.ledger ≡ raised (total f es) (φ first.ledger)
  unfolding total
  counted [] first last linked all within = ap (λ z. φ z.ledger) linked ∙ raised_none (φ first.ledger) (small first.ledger within)
  counted (e ∷ es) first last linked all within =
      let before : WithinCeiling e.before.ledger = rw linked.0 within in
      let noted = noted_after c e.call e.answer e.before e.after all.0 before in
      counted es e.after last linked.1 all.1 (noted_small c e noted)
      ∙ ap (raised (total f es)) (step e noted ∙ ap (λ z. raised (f e) (φ z.ledger)) linked.0)
      ∙ raised_twice (f e) (total f es) (φ first.ledger)

module _ (g : Group) (laws : Lawful g) (n : ℕ) where
  -- The state that some events lead to: as many records, each with the value last accepted for it.
  track :
      (es rest : List Event) (first last : State) → Linked first (es ++ rest) last → Every (Rules (code g n)) (es ++ rest) →
      (s : State) × Linked s rest last × Every (Rules (code g n)) rest × (records (code g n) s.cells ≡ records (code g n) first.cells)
      × ((k : ℕ) → k < records (code g n) first.cells → value (code g n) s.cells k ≡ last_accepted k es (value (code g n) first.cells k))
  unfolding last_accepted
  track [] rest first last linked all = (first, linked, all, refl, λ k h. refl)
  track (e ∷ es) rest first last linked all =
      let c = code g n in
      let more = track es rest e.after last linked.1 all.1 in
      let shape = shape_kept c e.call e.answer e.before e.after all.0 in
      let same : records c e.after.cells ≡ records c first.cells =
      records_same c e.before.cells e.after.cells shape ∙ ap (λ z. records c z.cells) linked.0 in (
        more.0,
        more.1,
        more.2,
        more.3 ∙ same,
        λ k h.
            more.4 k (rw same h)
            ∙ ap (last_accepted k es)
            (value_after g laws n e.call e.answer e.before e.after all.0 k (rw (ap (λ z. records c z.cells) linked.0) h)
            ∙ ap (λ z. accepts k e.call e.answer (value c z.cells k)) linked.0),
      )

  gets_one :
      (e : Event) (count_first : ℕ) (x : ℕ → ℕ) → Rules (code g n) e → records (code g n) e.before.cells ≡ count_first →
      ((k : ℕ) → k < count_first → value (code g n) e.before.cells k ≡ x k) → Gets e.call e.answer x
  gets_one e count_first x obeys same values = go e.call e.answer obeys
    where
      go : (call : Call) (answer : Answer) → Obeys (code g n) call answer e.before e.after → Gets call answer x
      go (Get k) (Ok r) o = o.1.0 ∙ values k (omega (arith, o.0.0))
      go (Get k) (Err f) o = tt
      go (Put k y) answer o = tt
      go (Renew k y) answer o = tt

  gets :
      (history : List Event) (first last : State) → Linked first history last → Every (Rules (code g n)) history →
      (earlier : List Event) (e : Event) (later : List Event) → history ≡ earlier ++ (e ∷ later) →
      Gets e.call e.answer (λ k. last_accepted k earlier (value (code g n) first.cells k))
  gets history first last linked all earlier e later split =
      let to =
      track earlier (e ∷ later) first last (subst (λ es. Linked first es last) split linked) (subst (Every (Rules (code g n))) split all) in
      let here : e.before ≡ to.0 = to.1.0 in
      gets_one e (records (code g n) first.cells) (λ k. last_accepted k earlier (value (code g n) first.cells k)) to.2.0
      (ap (λ z. records (code g n) z.cells) here ∙ to.3) (λ k h. ap (λ z. value (code g n) z.cells k) here ∙ to.4 k h)

  values :
      (history : List Event) (first last : State) → Linked first history last → Every (Rules (code g n)) history →
      (k : ℕ) → k < records (code g n) first.cells → value (code g n) last.cells k ≡ last_accepted k history (value (code g n) first.cells k)
  values history first last linked all k h =
      let to =
      track history [] first last (subst (λ es. Linked first es last) (sym (append-nil history)) linked)
      (subst (Every (Rules (code g n))) (sym (append-nil history)) all) in
      ap (λ z. value (code g n) z.cells k) to.1 ∙ to.4 k h

module _ (g : Group) (laws : Lawful g) (n : ℕ) where
  keeps :
      (first : State) (history : List Event) (last : State) → WithinCeiling first.ledger → Linked first history last →
      Every (Rules (code g n)) history →
      Promise (code g n) first (map (λ (e : Event). e.call) history) (map (λ (e : Event). e.answer) history) last
  keeps first history last within linked all =
      let c = code g n in
      record {
        history = history;
        its_calls = refl;
        its_answers = refl;
        linked = linked;
        obeys = all;
        full_exactly = each _ _ (λ e o. full_exactly c e.call e.answer e.before e.after o) history all;
        fewest = each _ _ (λ e o. fewest c e.call e.answer e.before e.after o) history all;
        changes_per_erase = λ long p h. changes_per_erase g laws n long history first last linked all p h;
        data_sheet = λ long. data_sheet g laws n long history first last linked all;
        erases = erases c history first last linked all;
        lasts = each _ _ (λ e o. lasts c e.call e.answer e.before e.after o) history all;
        gets = gets g laws n history first last linked all;
        values = values g laws n history first last linked all;
        ledger_changes = counted c (λ e. cond (changed c e) 1 0) (λ l. l.changes) (λ l w. w.changes) (λ e noted. noted.changes) history first last linked all within;
        ledger_renewals = counted c (λ e. cond (renewed e) 1 0) (λ l. l.renewals) (λ l w. w.renewals) (λ e noted. noted.renewals) history first last linked all within;
        ledger_marked = counted c (λ e. marks e.call e.answer) (λ l. l.marked) (λ l w. w.marked) (λ e noted. noted.marked) history first last linked all within;
      }

  kept_history :
      (first : State) (history : List Event) (last : State) (within : WithinCeiling first.ledger) (linked : Linked first history last)
      (all : Every (Rules (code g n)) history) → (keeps first history last within linked all).history ≡ history
  unfolding keeps
  kept_history first history last within linked all = refl

-- The promise of a history, which is its own. A code with the labels of the rules is that of its group and its number
-- of cells.
pub promised :
    (c : Code) → Lawful c.group → LabelledInTurn c → (first : State) (history : List Event) (last : State) → WithinCeiling first.ledger →
    Linked first history last → Every (Rules c) history →
    (p : Promise c first (map (λ (e : Event). e.call) history) (map (λ (e : Event). e.answer) history) last) × (p.history ≡ history)
promised c lawful labels first history last within linked all =
    let same = code_itself c labels in
    subst (λ k. (p : Promise k first (map (λ (e : Event). e.call) history) (map (λ (e : Event). e.answer) history) last) × (p.history ≡ history)) same
    (let obeyed = subst (λ k. Every (Rules k) history) (sym same) all in (
      keeps c.group lawful c.cells first history last within linked obeyed,
      kept_history c.group lawful c.cells first history last within linked obeyed,
    ))

pub rules_suffice : RulesSuffice
rules_suffice c lawful labels first history last within linked all = (promised c lawful labels first history last within linked all).0
