-- Changes per erase: between two renewals of a page there are at least h changes. Assumes nothing.
use Rattle.std.proofs.Common.{◌≡◌, ℕ, zero, suc, ◌+◌, ◌*◌, ◌%◌, ◌<◌, ◌≤◌, Bool, true, false, cond, not, ◌&&◌, eqb, ◌⊎◌, List, [], ◌∷◌, Ok, Err, sym, refl, ap, ◌∙◌, subst, ap₂, inl, inr, mul-zero, mul-one, mul-add, arith}
use Rattle.std.proofs.lemmas.Bool.{cases_eq, cases_lt, eq-eqb, eqb-true, ne_eqb, false≢true}
use Rattle.group.specs.Group.{Group, Lawful, Usable, In, step, figure}
use Rattle.cells.specs.Cells.{Cells, Shaped}
use Rattle.cells.specs.Rows.{Refused}
use Rattle.cells.specs.Sets.{Cellset, size_below}
use Rattle.cells.proofs.Sizes.{size_le}
use Rattle.calls.specs.declared.call.Call.{Call}
use Rattle.calls.specs.declared.call.Call.TheVariants.{Get, Put, Renew}
use Rattle.coset.specs.Code.{Code, code, every, size_of, Reaches, Reachable, Plan}
use Rattle.calls.specs.Records.{per_page, page_of, held, free, value}
use Rattle.calls.specs.Faults.{number}
use Rattle.calls.specs.Calls.{State, Answer, Sets, Renewed, renewed_value, record_of, rows, Obeys}
use Rattle.calls.specs.History.{Event, Linked, Every, total, is_renewal, is_change, renewed, changed, on_page, accepted, RefusedFull, RefusedWorn, renewals, changes}
use Rattle.calls.specs.DataSheet.{Unset}
use Rattle.coset.proofs.Groups.{step_in, step_same, step_zero}
use Rattle.coset.proofs.Sums.{none, only, either, Agree, size_agree, size_either, size_none, size_only, sum_none, sum_only, label_in, label_first}
use Rattle.calls.proofs.Geometry.{at_place, There, there, place_within, page_same, place_same, per_page_same}
use Rattle.calls.proofs.Effects.{put_others, free_apart, value_in}
use Rattle.calls.proofs.Values.{no_count, shape_kept}
use Rattle.calls.proofs.TwoCells.{reaches_two}

module _ (g : Group) (laws : Lawful g) (n : ℕ) where
  abbrev c : Code
  c = code g n

  -- no cell sums to 0
  reach_none : (open_cells : Cellset) → Usable g → Reaches c open_cells 0 none
  reach_none open_cells usable =
      record { within = λ i h e. absurd (false≢true e); sums = sum_none c n }

  -- so a plan for 0 has no cell
  pub plan_none : (open_cells s : Cellset) → Usable g → Plan c open_cells 0 s → size_of c s ≡ 0
  plan_none open_cells s usable plan =
      let least = plan.fewest none (reach_none open_cells usable) in
      let empty = size_none n in
      omega arith

module _ (g : Group) (laws : Lawful g) (n : ℕ) (long : g.order ≤ n + 1) where
  -- a plan from empty has at most one cell, as each element is a label
  plan_first : (x : ℕ) (s : Cellset) → Usable g → In g x → Plan (code g n) every x s → size_of (code g n) s ≤ 1
  plan_first zero s usable h plan = let no_cell = plan_none g laws n every s usable plan in omega arith
  plan_first (suc j) s usable h plan =
      let one =
      plan.fewest (only j)
      (record {
        within = λ i lt e. refl;
        sums = sum_only (code g n) laws usable (label_in g laws n) j n (omega arith) ∙ label_first g n j h;
      }) in
      let single = size_only j n (omega arith) in
      omega arith

  -- every record of page p has at most b set cells
  abbrev pub Bound : Cells → ℕ → ℕ → Type 0
  Bound m p b = (r : ℕ) → r < per_page (code g n) m → size_below (at_place (code g n) m p r) n ≤ b

  -- h changes since the last renewal of page p, or few set cells after t changes
  abbrev pub Known : Cells → ℕ → ℕ → Type 0
  Known m p t = (figure g ≤ t) ⊎ Bound m p (1 + 2 * t)

  -- with fewer than h changes each value is within reach of each record, by two cells at most
  near :
      (m : Cells) (k t : ℕ) → There (code g n) m k → Bound m (page_of (code g n) m k) (1 + 2 * t) → t < figure g → (d : ℕ) → In g d → (d ≡ 0 → ⊥) →
      (s : Cellset) × Reaches (code g n) (free (code g n) m k) d s × (size_of (code g n) s ≤ 2)
  unfolding figure
  near m k t at light early d h nonzero =
      let few = light (k % per_page (code g n) m) at.place in
      reaches_two g laws at.usable n long (held (code g n) m k) d h nonzero (omega arith)

  -- a page whose records are as they were is bounded as it was
  bound_same :
      (m m' : Cells) (p b : ℕ) → Shaped m m' →
      ((r : ℕ) → r < per_page (code g n) m → Agree (at_place (code g n) m' p r) (at_place (code g n) m p r) n) → Bound m p b → Bound m' p b
  bound_same m m' p b shape same bound r h =
      let lt : r < per_page (code g n) m = rw (per_page_same (code g n) m m' shape) at h in
      let few = bound r lt in
      let size = size_agree (at_place (code g n) m' p r) (at_place (code g n) m p r) n (same r lt) in
      omega arith

  -- An accepted put.
  module _ (m m' : Cells) (k x : ℕ) (s : Cellset) (at : There (code g n) m k) (hx : In g x)
      (plan : Plan (code g n) (free (code g n) m k) (step g (value (code g n) m k) x) s) (sets : Sets (code g n) k s m m') where
    abbrev home : ℕ
    home = page_of (code g n) m k

    abbrev spot : ℕ
    spot = k % per_page (code g n) m

    -- record k has as many cells more as s has
    grown : size_below (at_place (code g n) m' home spot) n ≡ size_below (at_place (code g n) m home spot) n + size_of (code g n) s
    grown =
        ap₂ (λ q r. size_below (at_place (code g n) m' q r) n) (sym (page_same (code g n) m m' sets.shape k)) (sym (place_same (code g n) m m' sets.shape k))
        ∙ size_agree (held (code g n) m' k) (either (held (code g n) m k) s) n sets.here
        ∙ size_either (held (code g n) m k) s n (free_apart (code g n) m k _ s plan.reaches)

    bound_more : (a b : ℕ) → size_of (code g n) s ≤ a → Bound m home b → Bound m' home (b + a)
    bound_more a b small bound r h = go (cases_eq r spot)
      where
        lt : r < per_page (code g n) m
        lt = rw (per_page_same (code g n) m m' sets.shape) at h

        go : ((r ≡ spot) ⊎ (r ≡ spot → ⊥)) → size_below (at_place (code g n) m' home r) n ≤ b + a
        go (inl e) =
            let more = ap (λ q. size_below (at_place (code g n) m' home q) n) e ∙ grown in
            let few = bound spot at.place in
            omega arith
        go (inr ne) =
            let same =
            size_agree (at_place (code g n) m' home r) (at_place (code g n) m home r) n
            (put_others (code g n) k s m m' at sets home r at.page lt (λ o. ne o.1)) in
            let few = bound r lt in
            omega arith

    -- on another page
    put_away : (p t : ℕ) → p < m.pages → (home ≡ p → ⊥) → Known m p t → Known m' p t
    put_away p t h ne (inl done) = inl done
    put_away p t h ne (inr light) =
        inr (bound_same m m' p (1 + 2 * t) sets.shape (λ r lt. put_others (code g n) k s m m' at sets p r h lt (λ o. ne (sym o.0))) light)

    -- of the held value
    put_held : (t : ℕ) → value (code g n) m k ≡ x → Known m home t → Known m' home t
    put_held t e (inl done) = inl done
    put_held t e (inr light) =
        let zero_step : step g (value (code g n) m k) x ≡ 0 =
        ap (step g (value (code g n) m k)) (sym e) ∙ step_same g laws at.usable (value (code g n) m k) (value_in g laws at.usable n m k) in
        let empty =
        plan_none g laws n (free (code g n) m k) s at.usable (subst (λ d. Plan (code g n) (free (code g n) m k) d s) zero_step plan) in
        let bound = bound_more 0 (1 + 2 * t) (omega arith) light in
        inr (λ r h. let few = bound r h in omega arith)

    -- of another value: a change
    put_change : (t : ℕ) → (value (code g n) m k ≡ x → ⊥) → Known m home t → Known m' home (t + 1)
    put_change t ne (inl done) = inl (omega arith)
    put_change t ne (inr light) = go (cases_lt t (figure g))
      where
        go : ((t < figure g) ⊎ (figure g ≤ t)) → Known m' home (t + 1)
        go (inr done) = inl (omega arith)
        go (inl early) =
            let d = step g (value (code g n) m k) x in
            let hv = value_in g laws at.usable n m k in
            let two =
            near m k t at light early d (step_in g laws at.usable (value (code g n) m k) x hv hx)
            (λ z. ne (step_zero g laws at.usable (value (code g n) m k) x hv hx z)) in
            let fewest = plan.fewest two.0 two.1 in
            let most = two.2 in
            let bound = bound_more 2 (1 + 2 * t) (omega arith) light in
            inr (λ r h. let few = bound r h in omega arith)

  -- A value that no free cells of its record reach comes after h changes.
  late :
      (m : Cells) (k x : ℕ) → There (code g n) m k → In g x → (Reachable (code g n) (free (code g n) m k) (step g (value (code g n) m k) x) → ⊥) →
      (t : ℕ) → Known m (page_of (code g n) m k) t → figure g ≤ t
  late m k x at hx far t (inl enough) = enough
  late m k x at hx far t (inr light) = go (cases_lt t (figure g))
    where
      hv : In g (value (code g n) m k)
      hv = value_in g laws at.usable n m k

      go : ((t < figure g) ⊎ (figure g ≤ t)) → figure g ≤ t
      go (inr enough) = enough
      go (inl early) = reach (cases_eq (step g (value (code g n) m k) x) 0)
        where
          reach : ((step g (value (code g n) m k) x ≡ 0) ⊎ (step g (value (code g n) m k) x ≡ 0 → ⊥)) → figure g ≤ t
          reach (inl z) = absurd (far (none, subst (λ d. Reaches (code g n) (free (code g n) m k) d none) (sym z) (reach_none g laws n (free (code g n) m k) at.usable)))
          reach (inr nz) =
              let two = near m k t at light early (step g (value (code g n) m k) x) (step_in g laws at.usable (value (code g n) m k) x hv hx) nz in
              absurd (far (two.0, two.1))

  -- An accepted renewal.
  module _ (m m' : Cells) (k x marked : ℕ) (at : There (code g n) m k) (hx : In g x) (far : Reachable (code g n) (free (code g n) m k) (step g (value (code g n) m k) x) → ⊥)
      (done : Renewed (code g n) k x m m' marked) where
    -- it leaves at most one set cell in each record of the page
    renewed_light : Bound m' (page_of (code g n) m k) 1
    renewed_light r h =
        let lt : r < per_page (code g n) m = rw (per_page_same (code g n) m m' done.shape) at h in
        let B = per_page (code g n) m in
        let target = renewed_value (code g n) m k x (page_of (code g n) m k * per_page (code g n) m + r) in
        let same = size_agree (at_place (code g n) m' (page_of (code g n) m k) r) (done.plans r) n (λ i i_lt. done.written r i lt i_lt) in
        let small = plan_first target (done.plans r) at.usable (target_in (eqb (page_of (code g n) m k * per_page (code g n) m + r) k) (page_of (code g n) m k * per_page (code g n) m + r)) (done.planned r lt) in
        omega arith
      where
        target_in : (b : Bool) (q : ℕ) → In g (cond b x (value (code g n) m q))
        target_in true q = hx
        target_in false q = value_in g laws at.usable n m q

    -- on another page it changes nothing
    renewed_away : (p t : ℕ) → p < m.pages → (page_of (code g n) m k ≡ p → ⊥) → Known m p t → Known m' p t
    renewed_away p t h ne (inl enough) = inl enough
    renewed_away p t h ne (inr light) = inr (bound_same m m' p (1 + 2 * t) done.shape
        (λ r lt i i_lt. done.others p (r * n + i) (record { page = h; cell = place_within (code g n) m r i at.some lt i_lt }) (λ e. ne (sym e))) light)

  -- what an event adds to the two counts of page p
  abbrev renews : ℕ → Event → ℕ
  renews p e = cond (renewed e && on_page (code g n) p e) 1 0

  abbrev alters : ℕ → Event → ℕ
  alters p e = cond (changed (code g n) e && on_page (code g n) p e) 1 0

  -- One event: the balance of the counts, and what is known after it.
  abbrev Turn : Event → ℕ → ℕ → Type 0
  Turn e p t = (t' : ℕ) × (figure g * renews p e + t' ≤ alters p e + t) × Known e.after.cells p t'

  -- an event that counts for nothing on page p
  still : (e : Event) (p t : ℕ) → renews p e ≡ 0 → alters p e ≡ 0 → Known e.after.cells p t → Turn e p t
  still e p t a b known =
      let none_renewed : figure g * renews p e ≡ 0 = ap (λ z. figure g * z) a ∙ mul-zero (figure g) in
      (t, omega arith, known)

  not_here : (a b : Bool) → b ≡ false → ◌≡◌ {A = ℕ} (cond (a && b) 1 0) 0
  not_here true b e = rw e refl
  not_here false b e = refl

  turn :
      (call : Call) (answer : Answer) (before after : State) (p t : ℕ) → Obeys (code g n) call answer before after → p < before.cells.pages →
      Known before.cells p t → Turn (record { call = call; answer = answer; before = before; after = after }) p t
  turn call (Err f) before after p t obeys h known =
      let e : Event = record { call = call; answer = Err f; before = before; after = after } in
      still e p t (no_count (is_renewal call) (on_page (code g n) p e)) (no_count (is_change (code g n) before.cells call) (on_page (code g n) p e))
      (subst (λ z. Known z.cells p t) (sym obeys.2) known)
  turn (Get k) (Ok r) before after p t obeys h known =
      still (record { call = Get k; answer = Ok r; before = before; after = after }) p t refl refl (subst (λ z. Known z p t) (sym obeys.1.1) known)
  turn (Put k x) (Ok r) before after p t obeys h known = go (cases_eq (page_of (code g n) before.cells k) p) (cases_eq (value (code g n) before.cells k) x)
    where
      m : Cells
      m = before.cells

      at : There (code g n) before.cells k
      at = there (code g n) before.cells k (omega (arith, obeys.0.0))

      hx : In g x
      hx = omega (arith, obeys.0.1.0)

      e : Event
      e = record { call = Put k x; answer = Ok r; before = before; after = after }

      away : (page_of (code g n) before.cells k ≡ p → ⊥) → Turn e p t
      away ne =
          still e p t refl
          (not_here (not (eqb (value (code g n) before.cells k) x) && true) (eqb (page_of (code g n) before.cells k) p) (ne_eqb _ _ ne))
          (put_away before.cells after.cells k x obeys.1.0 at hx obeys.1.1 obeys.1.2 p t h ne known)

      go : ((page_of (code g n) before.cells k ≡ p) ⊎ (page_of (code g n) before.cells k ≡ p → ⊥)) → ((value (code g n) before.cells k ≡ x) ⊎ (value (code g n) before.cells k ≡ x → ⊥)) → Turn e p t
      go (inr ne) v = away ne
      go (inl q) (inl same) =
          still e p t refl (ap (λ z. cond ((not z && true) && eqb (page_of (code g n) before.cells k) p) 1 0) (eq-eqb (value (code g n) before.cells k) x same))
          (subst (λ z. Known after.cells z t) q
          (put_held before.cells after.cells k x obeys.1.0 at hx obeys.1.1 obeys.1.2 t same (subst (λ z. Known before.cells z t) (sym q) known)))
      go (inl q) (inr other) =
          let one : alters p e ≡ 1 =
          ap₂ (λ z b. cond ((not z && true) && b) 1 0) (ne_eqb (value (code g n) before.cells k) x other) (eq-eqb (page_of (code g n) before.cells k) p q) in
          let none_renewed = mul-zero (figure g) in (
            t + 1,
            omega arith,
            subst (λ z. Known after.cells z (t + 1)) q
                (put_change before.cells after.cells k x obeys.1.0 at hx obeys.1.1 obeys.1.2 t other (subst (λ z. Known before.cells z t) (sym q) known)),
          )
  turn (Renew k x) (Ok r) before after p t obeys h known = go (cases_eq (page_of (code g n) before.cells k) p)
    where
      at : There (code g n) before.cells k
      at = there (code g n) before.cells k (omega (arith, obeys.0.0))

      hx : In g x
      hx = omega (arith, obeys.0.1.0)

      e : Event
      e = record { call = Renew k x; answer = Ok r; before = before; after = after }

      go : ((page_of (code g n) before.cells k ≡ p) ⊎ (page_of (code g n) before.cells k ≡ p → ⊥)) → Turn e p t
      go (inl q) =
          let one : figure g * renews p e ≡ figure g =
          ap (λ b. figure g * cond b 1 0) (eq-eqb (page_of (code g n) before.cells k) p q) ∙ mul-one (figure g) in
          let enough = late before.cells k x at hx obeys.0.1.1.0 t (subst (λ z. Known before.cells z t) (sym q) known) in (
            0,
            omega arith,
            inr (subst (λ z. Bound after.cells z 1) q (renewed_light before.cells after.cells k x r at hx obeys.0.1.1.0 obeys.1)),
          )
      go (inr ne) =
          still e p t (ap (λ b. cond b 1 0) (ne_eqb (page_of (code g n) before.cells k) p ne)) refl
          (renewed_away before.cells after.cells k x r at hx obeys.0.1.1.0 obeys.1 p t h ne known)

  abbrev pub Rules : Event → Type 0
  Rules e = Obeys (code g n) e.call e.answer e.before e.after

  -- The events from a state on, where t changes are known: the balance of the counts, and what is known after them.
  pub reckon :
      (es : List Event) (first last : State) → Linked first es last → Every Rules es → (p t : ℕ) → p < first.cells.pages → Known first.cells p t →
      (t' : ℕ) × (figure g * renewals (code g n) p es + t' ≤ changes (code g n) p es + t) × Known last.cells p t'
  unfolding total
  reckon [] first last linked all p t h known =
      let none_renewed = mul-zero (figure g) in
      (t, omega arith, subst (λ z. Known z.cells p t) (sym linked) known)
  reckon (e ∷ es) first last linked all p t h known =
      let inside : p < e.before.cells.pages = rw linked.0 h in
      let next = turn e.call e.answer e.before e.after p t all.0 inside (subst (λ z. Known z.cells p t) (sym linked.0) known) in
      let still_inside : p < e.after.cells.pages = rw (shape_kept (code g n) e.call e.answer e.before e.after all.0).pages inside in
      let later = reckon es e.after last linked.1 all.1 p next.0 still_inside next.2 in
      let sum = mul-add (figure g) (renews p e) (renewals (code g n) p es) in
      let this = next.1 in
      let rest = later.1 in
      (later.0, omega arith, later.2)

  -- At first h changes are known of any page, none of a page with no cell set, and none after an accepted renewal.
  pub known_any : (m : Cells) (p : ℕ) → Known m p (figure g)
  known_any m p = inl (omega arith)

  pub known_unset : (m : Cells) (p : ℕ) → Unset m p → Known m p 0
  known_unset m p unset = inr (λ r h. few r h (cases_lt 0 n))
    where
      few : (r : ℕ) → r < per_page (code g n) m → ((0 < n) ⊎ (n ≤ 0)) → size_below (at_place (code g n) m p r) n ≤ 1
      few r h (inl some) =
          let same = size_agree (at_place (code g n) m p r) none n (λ i lt. unset (r * n + i) (place_within (code g n) m r i some h lt)) in
          let empty = size_none n in
          omega arith
      few r h (inr no_cells) = let small = size_le (at_place (code g n) m p r) n in omega arith

  pub known_renewed :
      (call : Call) (answer : Answer) (before after : State) (p : ℕ) → Obeys (code g n) call answer before after →
      (is_renewal call && accepted answer) ≡ true → eqb (page_of (code g n) before.cells (record_of call)) p ≡ true → Known after.cells p 0
  known_renewed (Get k) answer before after p obeys is here = absurd (false≢true is)
  known_renewed (Put k x) answer before after p obeys is here = absurd (false≢true is)
  known_renewed (Renew k x) (Err f) before after p obeys is here = absurd (false≢true is)
  known_renewed (Renew k x) (Ok r) before after p obeys is here =
      inr (subst (λ z. Bound after.cells z 1) (eqb-true _ p here)
      (renewed_light before.cells after.cells k x r (there (code g n) before.cells k (omega (arith, obeys.0.0))) (omega (arith, obeys.0.1.0)) obeys.0.1.1.0 obeys.1))

  -- What is refused as full or as worn out comes after h changes.
  pub late_full :
      (call : Call) (answer : Answer) (before after : State) (p t : ℕ) → Obeys (code g n) call answer before after → RefusedFull answer →
      eqb (page_of (code g n) before.cells (record_of call)) p ≡ true → Known before.cells p t → figure g ≤ t
  late_full call (Ok r) before after p t obeys full here known = absurd full
  late_full (Get k) (Err f) before after p t obeys full here known = absurd (go obeys.0)
    where
      go : Refused (rows (code g n) before.cells (Get k)) (number f) → ⊥
      go (inl (_, is)) = omega (arith, is)
      go (inr (_, never)) = never
  late_full (Renew k x) (Err f) before after p t obeys full here known = absurd (go obeys.0)
    where
      go : Refused (rows (code g n) before.cells (Renew k x)) (number f) → ⊥
      go (inl (_, is)) = omega (arith, is)
      go (inr (_, inl (_, is))) = omega (arith, is)
      go (inr (_, inr (_, inl (_, is)))) = omega (arith, is)
      go (inr (_, inr (_, inr (_, inl (_, is))))) = omega (arith, is)
      go (inr (_, inr (_, inr (_, inr (_, inl (_, is)))))) = omega (arith, is)
      go (inr (_, inr (_, inr (_, inr (_, inr (_, never)))))) = never
  late_full (Put k x) (Err f) before after p t obeys full here known = go obeys.0
    where
      go : Refused (rows (code g n) before.cells (Put k x)) (number f) → figure g ≤ t
      go (inl (_, is)) = absurd (omega (arith, is))
      go (inr (_, inl (_, is))) = absurd (omega (arith, is))
      go (inr (there_is, inr (element, inl (full_now, _)))) =
          late before.cells k x (there (code g n) before.cells k (omega (arith, there_is))) (omega (arith, element)) (λ reach. full_now reach.0 reach.1) t
          (subst (λ z. Known before.cells z t) (sym (eqb-true _ p here)) known)
      go (inr (_, inr (_, inr (_, never)))) = absurd never

  pub late_worn :
      (call : Call) (answer : Answer) (before after : State) (p t : ℕ) → Obeys (code g n) call answer before after → RefusedWorn answer →
      eqb (page_of (code g n) before.cells (record_of call)) p ≡ true → Known before.cells p t → (figure g ≤ t) × (before.cells.limit ≤ before.cells.wear p)
  late_worn call (Ok r) before after p t obeys worn here known = absurd worn
  late_worn (Get k) (Err f) before after p t obeys worn here known = absurd (go obeys.0)
    where
      go : Refused (rows (code g n) before.cells (Get k)) (number f) → ⊥
      go (inl (_, is)) = omega (arith, is)
      go (inr (_, never)) = never
  late_worn (Put k x) (Err f) before after p t obeys worn here known = absurd (go obeys.0)
    where
      go : Refused (rows (code g n) before.cells (Put k x)) (number f) → ⊥
      go (inl (_, is)) = omega (arith, is)
      go (inr (_, inl (_, is))) = omega (arith, is)
      go (inr (_, inr (_, inl (_, is)))) = omega (arith, is)
      go (inr (_, inr (_, inr (_, never)))) = never
  late_worn (Renew k x) (Err f) before after p t obeys worn here known = go obeys.0
    where
      page : page_of (code g n) before.cells k ≡ p
      page = eqb-true _ p here

      go : Refused (rows (code g n) before.cells (Renew k x)) (number f) → (figure g ≤ t) × (before.cells.limit ≤ before.cells.wear p)
      go (inl (_, is)) = absurd (omega (arith, is))
      go (inr (_, inl (_, is))) = absurd (omega (arith, is))
      go (inr (_, inr (_, inl (_, is)))) = absurd (omega (arith, is))
      go (inr (_, inr (_, inr (_, inl (_, is))))) = absurd (omega (arith, is))
      go (inr (there_is, inr (element, inr (far, inr (_, inl (limit, _)))))) = (
        late before.cells k x (there (code g n) before.cells k (omega (arith, there_is))) (omega (arith, element)) far t
            (subst (λ z. Known before.cells z t) (sym page) known),
        subst (λ z. before.cells.limit ≤ before.cells.wear z) page limit,
      )
      go (inr (_, inr (_, inr (_, inr (_, inr (_, never)))))) = absurd never

  -- Whatever the list of calls, a page is renewed only after h changes, but for the first time.
  pub changes_per_erase :
      (es : List Event) (first last : State) → Linked first es last → Every Rules es → (p : ℕ) → p < first.cells.pages →
      figure g * renewals (code g n) p es ≤ changes (code g n) p es + figure g
  changes_per_erase es first last linked all p h =
      let known = reckon es first last linked all p (figure g) h (known_any first.cells p) in
      let balance = known.1 in
      omega arith
