-- What each call leaves of the values, the set cells, the wear and the ledger. Assumes nothing.
use Rattle.std.proofs.Common.{◌≡◌, ℕ, ◌+◌, ◌-◌, ◌*◌, ◌%◌, ◌<◌, ◌≤◌, Bool, true, false, cond, not, ◌&&◌, eqb, ◌⊎◌, ◌↔◌, Ok, Err, sym, refl, ap, ◌∙◌, subst, ap₂, inl, inr, arith}
use Rattle.std.proofs.lemmas.Bool.{cases_eq, cases_lt, eq-eqb, ne_eqb, both_ways, or_left, and_right}
use Rattle.group.specs.Group.{Group, Lawful, In, step}
use Rattle.cells.specs.Cells.{Cells, Shaped, Cell}
use Rattle.cells.specs.Sets.{Cellset}
use Rattle.cells.specs.Rows.{Refused, Served, rows_before}
use Rattle.calls.specs.declared.call.Call.{Call}
use Rattle.calls.specs.declared.call.Call.TheVariants.{Get, Put, Renew}
use Rattle.coset.specs.Code.{Code, code, sum_of, Unreachable, Plan}
use Rattle.calls.specs.Records.{per_page, records, page_of, first_of, Within, held, free, value}
use Rattle.calls.specs.Faults.{number}
use Rattle.calls.specs.Ledger.{ceiling, raised, noted}
use Rattle.calls.specs.Calls.{State, Answer, Sets, Renewed, renewed_value, rows, Obeys}
use Rattle.calls.specs.History.{Event, is_renewal, renewed, changed, on_page, marks, accepts}
use Rattle.calls.specs.Sample.{event}
use Rattle.calls.specs.Promise.{FullExactly, Fewest, Lasts, WithinCeiling}
use Rattle.coset.proofs.Sums.{Agree, sum_agree}
use Rattle.calls.proofs.Geometry.{at_place, There, there, place_within, number_of, page_same, place_same}
use Rattle.calls.proofs.Effects.{put_others, put_value}

pub no_count : (a b : Bool) → ◌≡◌ {A = ℕ} (cond ((a && false) && b) 1 0) 0
no_count true b = refl
no_count false b = refl

-- an event keeps pages, width and limit
pub shape_kept : (c : Code) (call : Call) (answer : Answer) (before after : State) → Obeys c call answer before after → Shaped before.cells after.cells
shape_kept c call (Err f) before after obeys = rw obeys.2 (record { pages = refl; width = refl; limit = refl })
shape_kept c (Get k) (Ok r) before after obeys = rw obeys.1.1 (record { pages = refl; width = refl; limit = refl })
shape_kept c (Put k x) (Ok r) before after obeys = obeys.1.2.shape
shape_kept c (Renew k x) (Ok r) before after obeys = obeys.1.shape

-- A put is full exactly when no set of free cells sums to the step.
pub full_exactly : (c : Code) (call : Call) (answer : Answer) (before after : State) → Obeys c call answer before after → FullExactly c call answer before.cells
full_exactly c (Get k) answer before after obeys = tt
full_exactly c (Renew k x) answer before after obeys = tt
full_exactly c (Put k x) (Ok r) before after obeys = λ earlier. (λ no. absurd no, λ full. absurd (obeys.0.1.1.0 full))
full_exactly c (Put k x) (Err f) before after obeys = λ earlier. go earlier obeys.0
  where
    go :
        Served (rows_before 42 (rows c before.cells (Put k x))) → Refused (rows c before.cells (Put k x)) (number f) →
        (number f ≡ 42) ↔ Unreachable c (free c before.cells k) (step c.group (value c before.cells k) x)
    go earlier (inl here) = absurd (earlier.0 here.0)
    go earlier (inr (no40, inl here)) = absurd (earlier.1.0 here.0)
    go earlier (inr (no40, inr (no41, inl here))) = (λ _. here.0, λ _. here.1)
    go earlier (inr (no40, inr (no41, inr (no42, never)))) = absurd never

-- An accepted put sets the cells of the plan.
pub fewest : (c : Code) (call : Call) (answer : Answer) (before after : State) → Obeys c call answer before after → Fewest c call answer before.cells after.cells
fewest c (Get k) answer before after obeys = tt
fewest c (Renew k x) answer before after obeys = tt
fewest c (Put k x) (Err f) before after obeys = tt
fewest c (Put k x) (Ok r) before after obeys = obeys.1

-- A set cell becomes unset only by an accepted renewal of its page.
module _ (c : Code) (before after : State) (p i : ℕ) (cell : Cell before.cells p i) (was : before.cells.set p i ≡ true) (is : after.cells.set p i ≡ false) where
  -- it would otherwise be as it was
  same_cell : after.cells.set p i ≡ before.cells.set p i → ⊥
  same_cell e = both_ways _ is (e ∙ was)

  put_lasts : (k : ℕ) (s : Cellset) → Sets c k s before.cells after.cells → ⊥
  put_lasts k s sets = go (cases_eq p (page_of c before.cells k)) (cases_lt i (first_of c before.cells k)) (cases_lt i (first_of c before.cells k + c.cells))
    where
      m : Cells
      m = before.cells

      outside : (Within c before.cells k p i → ⊥) → ⊥
      outside no_place = same_cell (sets.others p i cell no_place)

      go : ((p ≡ page_of c before.cells k) ⊎ (p ≡ page_of c before.cells k → ⊥)) → ((i < first_of c before.cells k) ⊎ (first_of c before.cells k ≤ i)) → ((i < first_of c before.cells k + c.cells) ⊎ (first_of c before.cells k + c.cells ≤ i)) → ⊥
      go (inr ne) lo hi = outside (λ w. ne w.page)
      go (inl e) (inl below) hi = outside (λ w. let from = w.from in omega arith)
      go (inl e) (inr from) (inr past) = outside (λ w. let below = w.below in omega arith)
      go (inl e) (inr from) (inl below) =
          let j = i - first_of c before.cells k in
          let back : first_of c before.cells k + j ≡ i = omega arith in
          let held_before : held c before.cells k j ≡ true = ap₂ before.cells.set (sym e) back ∙ was in
          let held_after : held c after.cells k j ≡ true = sets.here j (omega arith) ∙ or_left (held c before.cells k j) (s j) held_before in
          let there_after : after.cells.set p i ≡ held c after.cells k j =
          ap₂ after.cells.set (e ∙ sym (page_same c before.cells after.cells sets.shape k))
          (sym back ∙ ap (λ q. q * c.cells + j) (sym (place_same c before.cells after.cells sets.shape k))) in
          both_ways _ is (there_after ∙ held_after)

pub lasts : (c : Code) (call : Call) (answer : Answer) (before after : State) → Obeys c call answer before after → Lasts c (event call answer before after)
lasts c call (Err f) before after obeys p i cell was is = absurd (same_cell c before after p i cell was is (ap (λ z. z.cells.set p i) obeys.2))
lasts c (Get k) (Ok r) before after obeys p i cell was is = absurd (same_cell c before after p i cell was is (ap (λ z. z.set p i) obeys.1.1))
lasts c (Put k x) (Ok r) before after obeys p i cell was is = absurd (put_lasts c before after p i cell was is k obeys.1.0 obeys.1.2)
lasts c (Renew k x) (Ok r) before after obeys p i cell was is = go (cases_eq (page_of c before.cells k) p)
  where
    go : ((page_of c before.cells k ≡ p) ⊎ (page_of c before.cells k ≡ p → ⊥)) → eqb (page_of c before.cells k) p ≡ true
    go (inl e) = eq-eqb _ _ e
    go (inr ne) = absurd (same_cell c before after p i cell was is (obeys.1.others p i cell (λ e. ne (sym e))))

-- the test whether two numbers are one, either way round
eqb_sym : (a b : ℕ) → eqb a b ≡ eqb b a
eqb_sym a b = go (cases_eq a b)
  where
    go : ((a ≡ b) ⊎ (a ≡ b → ⊥)) → eqb a b ≡ eqb b a
    go (inl e) = eq-eqb a b e ∙ sym (eq-eqb b a (sym e))
    go (inr ne) = ne_eqb a b ne ∙ sym (ne_eqb b a (λ e. ne (sym e)))

-- After each call a record holds the value last accepted for it.
module _ (g : Group) (laws : Lawful g) (n : ℕ) where
  abbrev c : Code
  c = code g n

  -- a record whose cells are as they were holds what it held
  value_same : (m m' : Cells) (k : ℕ) → Shaped m m' → There c m k → Agree (at_place c m' (page_of c m k) (k % per_page c m)) (at_place c m (page_of c m k) (k % per_page c m)) n → value c m' k ≡ value c m k
  value_same m m' k shape at same =
      ap₂ (λ q r. sum_of c (at_place c m' q r)) (page_same c m m' shape k) (place_same c m m' shape k)
      ∙ sum_agree c (at_place c m' (page_of c m k) (k % per_page c m)) (held c m k) n same

  put_after : (m m' : Cells) (j y k : ℕ) (s : Cellset) → There c m j → There c m k → In g y → Plan c (free c m j) (step g (value c m j) y) s → Sets c j s m m' → value c m' k ≡ cond (eqb j k) y (value c m k)
  put_after m m' j y k s at_j at_k hy plan sets = go (cases_eq j k)
    where
      go : ((j ≡ k) ⊎ (j ≡ k → ⊥)) → value c m' k ≡ cond (eqb j k) y (value c m k)
      go (inl e) = ap (value c m') (sym e) ∙ put_value g laws at_j.usable n m m' j y s hy plan sets ∙ sym (ap (λ b. cond b y (value c m k)) (eq-eqb j k e))
      go (inr ne) =
          value_same m m' k sets.shape at_k
          (put_others c j s m m' at_j sets (page_of c m k) (k % per_page c m) at_k.page at_k.place
          (λ o. ne (sym (number_of c m j) ∙ ap₂ (λ q r. q * per_page c m + r) (sym o.0) (sym o.1) ∙ number_of c m k)))
          ∙ sym (ap (λ b. cond b y (value c m k)) (ne_eqb j k ne))

  renew_after : (m m' : Cells) (j y k marked : ℕ) → There c m j → There c m k → Renewed c j y m m' marked → value c m' k ≡ cond (eqb j k) y (value c m k)
  renew_after m m' j y k marked at_j at_k done = go (cases_eq (page_of c m k) (page_of c m j))
    where
      go : ((page_of c m k ≡ page_of c m j) ⊎ (page_of c m k ≡ page_of c m j → ⊥)) → value c m' k ≡ cond (eqb j k) y (value c m k)
      go (inl e) =
          let r = k % per_page c m in
          let itself : page_of c m j * per_page c m + k % per_page c m ≡ k = ap (λ q. q * per_page c m + k % per_page c m) (sym e) ∙ number_of c m k in
          ap₂ (λ q i. sum_of c (at_place c m' q i)) (page_same c m m' done.shape k ∙ e) (place_same c m m' done.shape k)
          ∙ sum_agree c (at_place c m' (page_of c m j) (k % per_page c m)) (done.plans (k % per_page c m)) n
          (λ i h. done.written (k % per_page c m) i at_k.place h)
          ∙ (done.planned (k % per_page c m) at_k.place).reaches.sums
          ∙ ap (renewed_value c m j y) itself
          ∙ ap (λ b. cond b y (value c m k)) (eqb_sym k j)
      go (inr ne) =
          value_same m m' k done.shape at_k
          (λ i h. done.others (page_of c m k) (k % per_page c m * n + i) (record { page = at_k.page; cell = place_within c m (k % per_page c m) i at_k.some at_k.place h }) ne)
          ∙ sym (ap (λ b. cond b y (value c m k)) (ne_eqb j k (λ e. ne (ap (page_of c m) (sym e)))))

  pub value_after :
      (call : Call) (answer : Answer) (before after : State) → Obeys c call answer before after → (k : ℕ) → k < records c before.cells →
      value c after.cells k ≡ accepts k call answer (value c before.cells k)
  value_after (Get j) (Err f) before after obeys k h = ap (λ z. value c z.cells k) obeys.2
  value_after (Get j) (Ok r) before after obeys k h = ap (λ z. value c z k) obeys.1.1
  value_after (Put j y) (Err f) before after obeys k h = ap (λ z. value c z.cells k) obeys.2
  value_after (Renew j y) (Err f) before after obeys k h = ap (λ z. value c z.cells k) obeys.2
  value_after (Put j y) (Ok r) before after obeys k h =
      put_after before.cells after.cells j y k obeys.1.0 (there c before.cells j (omega (arith, obeys.0.0))) (there c before.cells k h) (omega (arith, obeys.0.1.0)) obeys.1.1 obeys.1.2
  value_after (Renew j y) (Ok r) before after obeys k h =
      renew_after before.cells after.cells j y k r (there c before.cells j (omega (arith, obeys.0.0))) (there c before.cells k h) obeys.1

-- An accepted renewal is the only thing that wears a page.
pub wear_after :
    (c : Code) (call : Call) (answer : Answer) (before after : State) → Obeys c call answer before after → (p : ℕ) → p < before.cells.pages →
    after.cells.wear p ≡ before.cells.wear p + cond (renewed (event call answer before after) && on_page c p (event call answer before after)) 1 0
wear_after c call (Err f) before after obeys p h =
    let same = ap (λ z. z.cells.wear p) obeys.2 in
    let nothing = no_count (is_renewal call) (on_page c p (event call (Err f) before after)) in
    omega arith
wear_after c (Get k) (Ok r) before after obeys p h = let same = ap (λ z. z.wear p) obeys.1.1 in omega arith
wear_after c (Put k x) (Ok r) before after obeys p h = let same = obeys.1.2.wear p h in omega arith
wear_after c (Renew k x) (Ok r) before after obeys p h = go (cases_eq (page_of c before.cells k) p)
  where
    go : ((page_of c before.cells k ≡ p) ⊎ (page_of c before.cells k ≡ p → ⊥)) → after.cells.wear p ≡ before.cells.wear p + cond (eqb (page_of c before.cells k) p) 1 0
    go (inl e) =
        subst (λ q. after.cells.wear q ≡ before.cells.wear q + cond (eqb (page_of c before.cells k) q) 1 0) e
        (rw (eq-eqb (page_of c before.cells k) (page_of c before.cells k) refl) obeys.1.worn)
    go (inr ne) =
        let same = obeys.1.unworn p h (λ e. ne (sym e)) in
        let nothing : ◌≡◌ {A = ℕ} (cond (eqb (page_of c before.cells k) p) 1 0) 0 = ap (λ b. cond b 1 0) (ne_eqb (page_of c before.cells k) p ne) in
        omega arith

-- The ledger counts each call as the history does, to the ceiling.
pub raised_small : (k x : ℕ) → raised k x ≤ ceiling
raised_small k x = omega arith

pub raised_none : (x : ℕ) → x ≤ ceiling → x ≡ raised 0 x
raised_none x h = omega arith

pub raised_twice : (j k x : ℕ) → raised k (raised j x) ≡ raised (j + k) x
raised_twice j k x = omega arith

-- what one call adds to each count
pub record Noted (c : Code) (e : Event) : Type 0 where
  pub changes : e.after.ledger.changes ≡ raised (cond (changed c e) 1 0) e.before.ledger.changes
  pub renewals : e.after.ledger.renewals ≡ raised (cond (renewed e) 1 0) e.before.ledger.renewals
  pub marked : e.after.ledger.marked ≡ raised (marks e.call e.answer) e.before.ledger.marked

-- nothing is added
unnoted : (c : Code) (e : Event) → WithinCeiling e.before.ledger → e.after.ledger ≡ e.before.ledger → changed c e ≡ false → renewed e ≡ false → marks e.call e.answer ≡ 0 → Noted c e
unnoted c e small same a b d =
    record {
      changes = ap (λ l. l.changes) same ∙ raised_none _ small.changes ∙ ap (λ t. raised (cond t 1 0) e.before.ledger.changes) (sym a);
      renewals = ap (λ l. l.renewals) same ∙ raised_none _ small.renewals ∙ ap (λ t. raised (cond t 1 0) e.before.ledger.renewals) (sym b);
      marked = ap (λ l. l.marked) same ∙ raised_none _ small.marked ∙ ap (λ t. raised t e.before.ledger.marked) (sym d);
    }

pub noted_after : (c : Code) (call : Call) (answer : Answer) (before after : State) → Obeys c call answer before after → WithinCeiling before.ledger → Noted c (event call answer before after)
noted_after c (Get k) (Err f) before after obeys small = unnoted c (event (Get k) (Err f) before after) small (ap (λ z. z.ledger) obeys.2) refl refl refl
noted_after c (Put k x) (Err f) before after obeys small =
    unnoted c (event (Put k x) (Err f) before after) small (ap (λ z. z.ledger) obeys.2) (and_right (not (eqb (value c before.cells k) x)) false refl) refl refl
noted_after c (Renew k x) (Err f) before after obeys small = unnoted c (event (Renew k x) (Err f) before after) small (ap (λ z. z.ledger) obeys.2) refl refl refl
noted_after c (Get k) (Ok r) before after obeys small = unnoted c (event (Get k) (Ok r) before after) small obeys.2 refl refl refl
noted_after c (Put k x) (Ok r) before after obeys small =
    record {
      changes = ap (λ l. l.changes) obeys.2 ∙ ap (λ j. raised j before.ledger.changes) (other (eqb (value c before.cells k) x));
      renewals = ap (λ l. l.renewals) obeys.2 ∙ raised_none _ small.renewals;
      marked = ap (λ l. l.marked) obeys.2;
    }
  where
    other : (b : Bool) → ◌≡◌ {A = ℕ} (cond b 0 1) (cond (not b && true) 1 0)
    other true = refl
    other false = refl
noted_after c (Renew k x) (Ok r) before after obeys small =
    record {
      changes = ap (λ l. l.changes) obeys.2 ∙ raised_none _ small.changes;
      renewals = ap (λ l. l.renewals) obeys.2;
      marked = ap (λ l. l.marked) obeys.2;
    }

pub noted_small : (c : Code) (e : Event) → Noted c e → WithinCeiling e.after.ledger
noted_small c e noted =
    record {
      changes = rw noted.changes (raised_small _ _);
      renewals = rw noted.renewals (raised_small _ _);
      marked = rw noted.marked (raised_small _ _);
    }
