-- Calls from C on one image, as the calls of one store. Assumes nothing.
use Rattle.std.proofs.Common.{◌≡◌, ℕ, ◌+◌, List, [], ◌∷◌, ◌++◌, map, All, Ok, Err, inl, inr, sym, refl, ap, ◌∙◌, subst, ap₂, arith}
use Rattle.std.proofs.lemmas.List.Elements.{All-nil, All-cons, All-head, All-tail}
use Rattle.group.specs.Group.{Lawful}
use Rattle.cells.specs.declared.fault.DeviceFault.TheVariants.{Worn}
use Rattle.cells.specs.Cells.{Cells, Shaped}
use Rattle.cells.specs.Rows.{Row, Refused, Served}
use Rattle.images.specs.declared.format.Format.TheVariants.{Flash}
use Rattle.images.specs.Image.{decoded}
use Rattle.images.specs.Check.{image_rows}
use Rattle.images.proofs.Tables.{served_both, served_first, served_rest, refused_first}
use Rattle.coset.specs.Code.{Code, LabelledInTurn}
use Rattle.calls.specs.declared.call.Call.{Call}
use Rattle.calls.specs.declared.call.Call.TheVariants.{Get, Put, Renew}
use Rattle.calls.specs.declared.fault.StoreFault.{StoreFault}
use Rattle.calls.specs.declared.fault.StoreFault.TheVariants.{NoRecord, NoValue, Full, Fits, Unreached, Device}
use Rattle.calls.specs.Ledger.{blank}
use Rattle.calls.specs.Faults.{number}
use Rattle.calls.specs.Records.{making_rows, page_of}
use Rattle.calls.specs.Calls.{state_of, record_of, rows, Places, Obeys}
use Rattle.calls.specs.History.{Event, LinkedCells, Every}
use Rattle.calls.specs.Promise.{Promise}
use Rattle.calls.proofs.Values.{shape_kept}
use Rattle.cells.proofs.SameRows.{served_not_refused, refused_once}
use Rattle.calls.proofs.Singly.{single_calls_suffice}
use Rattle.c_entry.specs.Entry.{opening_rows, entry_rows, CallsOnImage}
use Rattle.c_entry.specs.Together.{ImageCall, LinkedBytes, number_for_c, PromiseOnImage, KeepTogether}

-- a refusal that the first table does not give is one by the second
refused_later : (rs ss : List Row) (k : ℕ) → Served rs → Refused (rs ++ ss) k → Refused ss k
refused_later [] ss k none refused = refused
refused_later (r ∷ rs) ss k none (inl here) = absurd (none.0 here.0)
refused_later (r ∷ rs) ss k none (inr later) = refused_later rs ss k none.1 later.1

-- the fault of a store by its number, with the record of the call and its page
fault_for :
    (c : Code) (m : Cells) (call : Call) (k : ℕ) → Refused (rows c m call) k →
    (f : StoreFault) × (number f ≡ k) × Places f (record_of call) (page_of c m (record_of call))
fault_for c m (Get j) k (inl a) = (NoRecord j, sym a.1, refl)
fault_for c m (Get j) k (inr a) = absurd a.1
fault_for c m (Put j x) k (inl a) = (NoRecord j, sym a.1, refl)
fault_for c m (Put j x) k (inr (_, inl a)) = (NoValue j, sym a.1, refl)
fault_for c m (Put j x) k (inr (_, inr (_, inl a))) = (Full j, sym a.1, refl)
fault_for c m (Put j x) k (inr (_, inr (_, inr a))) = absurd a.1
fault_for c m (Renew j x) k (inl a) = (NoRecord j, sym a.1, refl)
fault_for c m (Renew j x) k (inr (_, inl a)) = (NoValue j, sym a.1, refl)
fault_for c m (Renew j x) k (inr (_, inr (_, inl a))) = (Fits j, sym a.1, refl)
fault_for c m (Renew j x) k (inr (_, inr (_, inr (_, inl a)))) = (Unreached j, sym a.1, refl)
fault_for c m (Renew j x) k (inr (_, inr (_, inr (_, inr (_, inl a))))) = (Device j (Worn (page_of c m j)), sym a.1, (refl, (refl, refl)))
fault_for c m (Renew j x) k (inr (_, inr (_, inr (_, inr (_, inr a))))) = absurd a.1

-- a making stays accepted where the width stays
making_stays : (c : Code) (m m' : Cells) → Shaped m m' → Served (making_rows c m) → Served (making_rows c m')
making_stays c m m' shape made = (made.0, (made.1.0, ((λ narrow. let wide = made.1.1.0 in let same = shape.width in wide (omega arith)), tt)))

module _ (c : Code) where
  -- a call on an image as the call of a store, whose cells are those of the bytes; afterwards stores can be made still
  record AsEvent (e : ImageCall) : Type 0 where
    event : Event
    call : event.call ≡ e.call
    answered : e.answer ≡ number_for_c event.answer
    obeys : Obeys c event.call event.answer event.before event.after
    found : event.before.cells ≡ decoded Flash e.before
    left : event.after.cells ≡ decoded Flash e.after
    opens : Served (opening_rows c e.after)

  as_event : (e : ImageCall) → Served (opening_rows c e.before) → CallsOnImage c e.call e.before e.after e.answer → AsEvent e
  as_event e open_first (inl served) =
      let m = decoded Flash e.before in
      let m' = decoded Flash e.after in
      let making = served_rest (image_rows Flash e.before) (making_rows c m) open_first in record {
        event = record { call = e.call; answer = Ok e.answer; before = state_of m blank; after = state_of m' served.counts };
        call = refl;
        answered = refl;
        obeys = served.obeys;
        found = refl;
        left = refl;
        opens =
            served_both (image_rows Flash e.after) (making_rows c m') served.good
            (making_stays c m m' (shape_kept c e.call (Ok e.answer) (state_of m blank) (state_of m' served.counts) served.obeys) making);
      }
  as_event e open_first (inr refused) =
      let m = decoded Flash e.before in
      let m' = decoded Flash e.after in
      let fault = fault_for c m e.call refused.0 (refused_later (opening_rows c e.before) (rows c m e.call) refused.0 open_first refused.1.refused) in
      let same : m' ≡ m = ap (decoded Flash) refused.1.unchanged in record {
        event = record { call = e.call; answer = Err fault.0; before = state_of m blank; after = state_of m' blank };
        call = refl;
        answered = refused.2 ∙ ap (λ k. 10000 + k) (sym fault.1);
        obeys = (subst (Refused (rows c m e.call)) (sym fault.1) (refused_later (opening_rows c e.before) (rows c m e.call) refused.0 open_first refused.1.refused), fault.2, ap (λ z. state_of z blank) same);
        found = refl;
        left = refl;
        opens = subst (λ bytes. Served (opening_rows c bytes)) (sym refused.1.unchanged) open_first;
      }

  -- all of them
  record AsEvents (xs : List ℕ) (made : List ImageCall) (ys : List ℕ) : Type 0 where
    events : List Event
    calls : map (λ (e : Event). e.call) events ≡ map (λ (e : ImageCall). e.call) made
    answered : map (λ (e : ImageCall). e.answer) made ≡ map number_for_c (map (λ (e : Event). e.answer) events)
    linked : LinkedCells (decoded Flash xs) events (decoded Flash ys)
    obeys : Every (λ e. Obeys c e.call e.answer e.before e.after) events
    found : map (λ (e : Event). e.before.cells) events ≡ map (λ (e : ImageCall). decoded Flash e.before) made
    left : map (λ (e : Event). e.after.cells) events ≡ map (λ (e : ImageCall). decoded Flash e.after) made

  abbrev IsCall : ImageCall → Type 0
  IsCall e = CallsOnImage c e.call e.before e.after e.answer

  as_events : (xs : List ℕ) (made : List ImageCall) (ys : List ℕ) → LinkedBytes xs made ys → All IsCall made → Served (opening_rows c xs) → AsEvents xs made ys
  as_events xs [] ys linked all open_first =
      record { events = []; calls = refl; answered = refl; linked = ap (decoded Flash) linked; obeys = tt; found = refl; left = refl }
  as_events xs (e ∷ es) ys linked all open_first =
      let one = as_event e (subst (λ bytes. Served (opening_rows c bytes)) (sym linked.0) open_first) (All-head IsCall e es all) in
      let rest = as_events e.after es ys linked.1 (All-tail IsCall e es all) one.opens in record {
        events = one.event ∷ rest.events;
        calls = ap₂ ◌∷◌ one.call rest.calls;
        answered = ap₂ ◌∷◌ one.answered rest.answered;
        linked = (one.found ∙ ap (decoded Flash) linked.0, subst (λ m. LinkedCells m rest.events (decoded Flash ys)) (sym one.left) rest.linked);
        obeys = (one.obeys, rest.obeys);
        found = ap₂ ◌∷◌ one.found rest.found;
        left = ap₂ ◌∷◌ one.left rest.left;
      }

  -- where no store can be made, each is refused alike
  all_refused :
      (xs : List ℕ) (made : List ImageCall) (ys : List ℕ) → LinkedBytes xs made ys → All IsCall made → (k : ℕ) → Refused (opening_rows c xs) k →
      All (λ (e : ImageCall). e.answer ≡ 10000 + k) made × (ys ≡ xs)
  all_refused xs [] ys linked all k refused = (All-nil _, linked)
  all_refused xs (e ∷ es) ys linked all k refused =
      let here : Refused (opening_rows c e.before) k = subst (λ bytes. Refused (opening_rows c bytes) k) (sym linked.0) refused in
      let one = one_refused (All-head IsCall e es all) here in
      let rest = all_refused e.after es ys linked.1 (All-tail IsCall e es all) k (subst (λ bytes. Refused (opening_rows c bytes) k) (sym one.1) here) in
      (All-cons (λ (x : ImageCall). x.answer ≡ 10000 + k) e es one.0 rest.0, rest.1 ∙ one.1 ∙ linked.0)
    where
      one_refused : IsCall e → Refused (opening_rows c e.before) k → (e.answer ≡ 10000 + k) × (e.after ≡ e.before)
      one_refused (inl served) barred =
          absurd (served_not_refused (opening_rows c e.before) k (served_first (opening_rows c e.before) (rows c (decoded Flash e.before) e.call) served.served) barred)
      one_refused (inr other) barred = (
        other.2
            ∙ ap (λ j. 10000 + j)
            (refused_once (entry_rows c e.call e.before) k other.0
            (refused_first (opening_rows c e.before) (rows c (decoded Flash e.before) e.call) k barred) other.1.refused),
        other.1.unchanged,
      )

  pub keep_together :
      Lawful c.group → LabelledInTurn c → (xs : List ℕ) (made : List ImageCall) (ys : List ℕ) → LinkedBytes xs made ys → All IsCall made →
      KeepTogether c xs made ys
  keep_together laws labels xs made ys linked all = record { refused = all_refused xs made ys linked all; kept = kept }
    where
      kept : Served (opening_rows c xs) → PromiseOnImage c xs made ys
      kept open_first =
          let events = as_events xs made ys linked all open_first in
          let kept = single_calls_suffice c laws labels (decoded Flash xs) events.events (decoded Flash ys) events.linked events.obeys in
          let P = λ (calls : List Call). (p : Promise c (state_of (decoded Flash xs) blank) calls (map (λ (e : Event). e.answer) events.events) (state_of (decoded Flash ys) kept.0)) × (map (λ (e : Event). e.before.cells) p.history ≡ map (λ (e : Event). e.before.cells) events.events) × (map (λ (e : Event). e.after.cells) p.history ≡ map (λ (e : Event). e.after.cells) events.events) in
          let p : P (map (λ (e : ImageCall). e.call) made) = subst P events.calls (kept.1, kept.2, kept.3) in record {
            answers = map (λ (e : Event). e.answer) events.events;
            counts = kept.0;
            numbers = events.answered;
            promise = p.0;
            found = p.1 ∙ events.found;
            left = p.2 ∙ events.left;
          }
