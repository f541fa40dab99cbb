-- Whoever keeps the rules, from states that agree, answers the same and ends in states that agree. Assumes nothing.
use Rattle.std.proofs.Common.{◌≡◌, ℕ, ◌<◌, false, cond, eqb, ◌++◌, List, [], ◌∷◌, map, length, get_or, drop, is_some, Option, None, Some, Ok, Err, sym, refl, ap, ◌∙◌, subst, ap₂, arith}
use Rattle.std.proofs.lemmas.Bool.{both_ways}
use Rattle.cells.specs.declared.array.CellArray.{Ghosts}
use Rattle.cells.specs.declared.fault.DeviceFault.TheVariants.{NoPage, NoCell, Worn}
use Rattle.cells.specs.Cells.{Cells, Alike}
use Rattle.cells.specs.Rows.{Served}
use Rattle.coset.specs.Code.{Code}
use Rattle.coset.proofs.Sums.{size_agree}
use Rattle.coset.proofs.OnePlan.{plans_agree, plan_move}
use Rattle.calls.specs.declared.call.Call.{Call}
use Rattle.calls.specs.declared.call.Call.TheVariants.{Get, Put, Renew}
use Rattle.calls.specs.declared.call.Entry.{Entry}
use Rattle.calls.specs.declared.fault.StoreFault.{StoreFault}
use Rattle.calls.specs.declared.fault.StoreFault.TheVariants.{NoRecord, NoValue, Full, Fits, Unreached, Device}
use Rattle.calls.specs.Records.{records, free, value}
use Rattle.calls.specs.Faults.{number}
use Rattle.calls.specs.Ledger.{noted}
use Rattle.calls.specs.Calls.{State, Answer, rows, record_of, Places, Serves, Obeys}
use Rattle.calls.specs.History.{Event}
use Rattle.calls.specs.Promise.{Promise}
use Rattle.calls.specs.Steps.{refused_steps, steps_of}
use Rattle.calls.specs.Determined.{StatesAgree, SameRun, CallsAgree, HistoriesAgree, RunsAgree, ListsAgree}
use Rattle.calls.proofs.Geometry.{there}
use Rattle.cells.proofs.SameRows.{rows_back, refused_same, served_same, served_not_refused}
use Rattle.calls.proofs.SameRecord.{page_too, free_same, value_same, step_same, rows_same}
use Rattle.calls.proofs.SamePut.{put_alike, put_steps}
use Rattle.calls.proofs.SameRenewal.{renewal_marks, renewal_alike, renewal_steps}

-- the fault of a number, of a record and its page
fault_of : ℕ → ℕ → ℕ → StoreFault
fault_of j k p =
    cond (eqb j 40) (NoRecord k)
    (cond (eqb j 41) (NoValue k)
    (cond (eqb j 42) (Full k)
    (cond (eqb j 43) (Fits k)
    (cond (eqb j 44) (Unreached k)
    (cond (eqb j 20) (Device k (NoPage p None)) (Device k (Worn p)))))))

-- a fault that is placed is known by its number
fault_is : (f : StoreFault) (k p : ℕ) → Places f k p → f ≡ fault_of (number f) k p
unfolding fault_of
fault_is (NoRecord j) k p e = ap (λ i. NoRecord i) e
fault_is (NoValue j) k p e = ap (λ i. NoValue i) e
fault_is (Full j) k p e = ap (λ i. Full i) e
fault_is (Fits j) k p e = ap (λ i. Fits i) e
fault_is (Unreached j) k p e = ap (λ i. Unreached i) e
fault_is (Device j (NoPage q i)) k p e = ap₂ (λ a b. Device a b) e.0 (ap₂ (λ a b. NoPage a b) e.1.0 e.1.1)
fault_is (Device j (NoCell q i)) k p e = absurd (both_ways false refl (ap is_some (sym e.1.1)))
fault_is (Device j (Worn q)) k p e = ap₂ (λ a b. Device a b) e.0 (ap (λ a. Worn a) e.1.0)

-- every table begins with the row on the record
pub served_record : (c : Code) (m : Cells) (call : Call) → Served (rows c m call) → record_of call < records c m
served_record c m (Get k) served = let no = served.0 in omega arith
served_record c m (Put k x) served = let no = served.0 in omega arith
served_record c m (Renew k x) served = let no = served.0 in omega arith

module _ (c : Code) (m m' n n' : Cells) (alike : Alike m m') where
  -- a call that is served in both
  pub serves_same :
      (call : Call) (r r' : ℕ) → record_of call < records c m → Serves c call r m n → Serves c call r' m' n' →
      (r' ≡ r) × (steps_of c call (Ok r') m' n' ≡ steps_of c call (Ok r) m n) × Alike n n'
  serves_same (Get k) r r' some done done' = (
    done'.0 ∙ value_same c m m' alike k (there c m k some) ∙ sym done.0,
    refl,
    rw (done.1, done'.1) alike,
  )
  serves_same (Put k x) r r' some done done' =
      let at = there c m k some in
      let same =
      plans_agree c (free c m k) (free c m' k) _ done.0 done'.0 (free_same c m m' alike k at) done.1
      (plan_move c (free c m' k) (free c m' k) _ _ done'.0 (λ i h. refl) (step_same c m m' alike k x at) done'.1) in (
        done'.3 ∙ size_agree done'.0 done.0 c.cells same ∙ sym done.3,
        put_steps c m m' alike k at n n' done.0 done'.0 same done.2 done'.2,
        put_alike c m m' alike k at n n' done.0 done'.0 same done.2 done'.2,
      )
  serves_same (Renew k x) r r' some done done' =
      let at = there c m k some in (
        renewal_marks c m m' alike k x at n n' r r' done done',
        renewal_steps c m m' alike k x at n n' r r' done done',
        renewal_alike c m m' alike k x at n n' r r' done done',
      )

  -- and one that is refused in both
  refused_steps_same : (call : Call) (f f' : StoreFault) → f' ≡ f → steps_of c call (Err f') m' n' ≡ steps_of c call (Err f) m n
  refused_steps_same (Get k) f f' e = refl
  refused_steps_same (Put k x) f f' e = refl
  refused_steps_same (Renew k x) f f' e = ap₂ refused_steps (page_too c m m' alike k) e

pub calls_agree : CallsAgree
calls_agree c call (Ok r) (Ok r') s t s' t' agree obeys obeys' =
    let some = served_record c s.cells call obeys.0 in
    let done = serves_same c s.cells s'.cells t.cells t'.cells agree.cells call r r' some obeys.1 obeys'.1 in
    record {
      answer = ap (λ z. Ok z) done.0;
      steps = done.1;
      left = record {
        cells = done.2;
        ledger =
            obeys'.2
            ∙ ap (λ v. noted call v r' s'.ledger) (value_same c s.cells s'.cells agree.cells (record_of call) (there c s.cells (record_of call) some))
            ∙ ap₂ (λ z l. noted call (value c s.cells (record_of call)) z l) done.0 agree.ledger ∙ sym obeys.2;
      };
    }
calls_agree c call (Ok r) (Err f) s t s' t' agree obeys obeys' =
    absurd (served_not_refused _ _ (served_same _ _ (rows_same c s.cells s'.cells agree.cells call) obeys.0) obeys'.0)
calls_agree c call (Err f) (Ok r) s t s' t' agree obeys obeys' =
    absurd (served_not_refused _ _ (served_same _ _ (rows_back _ _ (rows_same c s.cells s'.cells agree.cells call)) obeys'.0) obeys.0)
calls_agree c call (Err f) (Err f') s t s' t' agree obeys obeys' =
    let k = record_of call in
    let numbers = refused_same _ _ (number f) (number f') (rows_same c s.cells s'.cells agree.cells call) obeys.0 obeys'.0 in
    let same : f' ≡ f =
    fault_is f' k _ obeys'.1 ∙ ap₂ (λ j p. fault_of j k p) numbers (page_too c s.cells s'.cells agree.cells k)
    ∙ sym (fault_is f k _ obeys.1) in
    record {
      answer = ap (λ z. Err z) same;
      steps = refused_steps_same c s.cells s'.cells t.cells t'.cells agree.cells call f f' same;
      left = rw (obeys.2, obeys'.2) agree;
    }

abbrev calls_in : List Event → List Call
calls_in = map (λ (e : Event). e.call)

pub histories_agree : HistoriesAgree
histories_agree c [] [] s t s' t' agree calls linked obeys linked' obeys' =
    record { answers = refl; steps = refl; left = rw (linked, linked') agree }
histories_agree c [] (e' ∷ h') s t s' t' agree calls linked obeys linked' obeys' =
    absurd (let no = ap length calls in omega arith)
histories_agree c (e ∷ h) [] s t s' t' agree calls linked obeys linked' obeys' =
    absurd (let no = ap length calls in omega arith)
histories_agree c (e ∷ h) (e' ∷ h') s t s' t' agree calls linked obeys linked' obeys' =
    let call : e'.call ≡ e.call = ap (λ l. get_or l 0 e.call) calls in
    let one =
    calls_agree c e.call e.answer e'.answer e.before e.after e'.before e'.after (rw (linked.0, linked'.0) agree) obeys.0
    (subst (λ z. Obeys c z e'.answer e'.before e'.after) call obeys'.0) in
    let rest = histories_agree c h h' e.after t e'.after t' one.left (ap (drop 1) calls) linked.1 obeys.1 linked'.1 obeys'.1 in
    record {
      answers = ap₂ (λ a l. a ∷ l) one.answer rest.answers;
      steps = ap₂ (λ x y. x ++ y) (ap (λ z. steps_of c z e'.answer e'.before.cells e'.after.cells) call ∙ one.steps) rest.steps;
      left = rest.left;
    }

-- lists of calls with the promise
promises_agree :
    (c : Code) (calls calls' : List Call) (answers answers' : List Answer) (first last first' last' : State) → calls' ≡ calls →
    StatesAgree first first' → (p : Promise c first calls answers last) → (p' : Promise c first' calls' answers' last') →
    SameRun c answers answers' p.history p'.history last last'
promises_agree c calls calls' answers answers' first last first' last' e agree p p' =
    let same =
    histories_agree c p.history p'.history first last first' last' agree (p'.its_calls ∙ e ∙ sym p.its_calls) p.linked p.obeys
    p'.linked p'.obeys in
    record { answers = sym p'.its_answers ∙ same.answers ∙ p.its_answers; steps = same.steps; left = same.left }

pub runs_agree : RunsAgree
runs_agree c calls answers answers' first last first' last' agree p p' =
    promises_agree c calls calls answers answers' first last first' last' refl agree p p'

-- entries are known by their calls and answers
module _ {C : Type 0} where
  entry : C → Option Answer → Entry C
  entry c a = record { call = c; answer = a }

  entries_same :
      (es fs : List (Entry C)) → map (λ (e : Entry C). e.call) fs ≡ map (λ (e : Entry C). e.call) es →
      map (λ (e : Entry C). e.answer) fs ≡ map (λ (e : Entry C). e.answer) es → fs ≡ es
  unfolding entry
  entries_same [] [] calls answers = refl
  entries_same [] (f ∷ fs) calls answers = absurd (let no = ap length calls in omega arith)
  entries_same (e ∷ es) [] calls answers = absurd (let no = ap length calls in omega arith)
  entries_same (e ∷ es) (f ∷ fs) calls answers =
      ap₂ (λ x xs. x ∷ xs) (ap₂ entry (ap (λ l. get_or l 0 e.call) calls) (ap (λ l. get_or l 0 e.answer) answers))
      (entries_same es fs (ap (drop 1) calls) (ap (drop 1) answers))

  -- what they ask for is known by their calls
  asked_same :
      (call : C → Call) (es fs : List (Entry C)) → map (λ (e : Entry C). e.call) fs ≡ map (λ (e : Entry C). e.call) es →
      map (λ (e : Entry C). call e.call) fs ≡ map (λ (e : Entry C). call e.call) es
  asked_same call [] [] calls = refl
  asked_same call [] (f ∷ fs) calls = absurd (let no = ap length calls in omega arith)
  asked_same call (e ∷ es) [] calls = absurd (let no = ap length calls in omega arith)
  asked_same call (e ∷ es) (f ∷ fs) calls =
      ap₂ (λ x xs. x ∷ xs) (ap (λ cs. call (get_or cs 0 e.call)) calls) (asked_same call es fs (ap (drop 1) calls))

pub lists_agree : {A B : Type 0} (array : Ghosts A) (other : Ghosts B) (C : Type 0) → ListsAgree array other C
lists_agree array other C c call before after before' after' counted counts counts' asked asked' served served' same alike done done' =
    let agree =
    promises_agree c _ _ done.answers done'.answers _ _ _ _ (asked_same call asked asked' same)
    (record { cells = alike; ledger = refl }) done.kept.promise done'.kept.promise in
    record {
      entries =
          entries_same served served' (done'.calls_kept ∙ same ∙ sym done.calls_kept)
          (done'.all_answered ∙ ap (map Some) agree.answers ∙ sym done.all_answered);
      ledger = agree.left.ledger;
      cells = agree.left.cells;
      steps = agree.steps;
    }
