-- When a page can be full, and when it can be worn out. Assumes nothing.
use Rattle.std.proofs.Common.{◌≡◌, ℕ, ◌+◌, ◌-◌, ◌*◌, ◌<◌, ◌≤◌, true, List, ◌∷◌, ◌++◌, sym, refl, ap, ◌∙◌, subst, mul-add, mul-one, mul-le-mul_left, arith}
use Rattle.group.specs.Group.{Group, Lawful, figure}
use Rattle.coset.specs.Code.{code}
use Rattle.calls.specs.Calls.{State}
use Rattle.calls.specs.History.{Event, Linked, Every, RefusedFull, RefusedWorn, renewed, on_page, renewals, changes}
use Rattle.calls.specs.DataSheet.{DataSheet}
use Rattle.calls.proofs.Parts.{Rules, parted, shape_all, erases}
use Rattle.calls.proofs.Values.{shape_kept}
use Rattle.calls.proofs.PerErase.{Known, reckon, known_any, known_unset, known_renewed, late_full, late_worn}

module _ (g : Group) (laws : Lawful g) (n : ℕ) (long : g.order ≤ n + 1) where
  -- a history that goes on from a state where t changes of page p are known
  module _ (history : List Event) (first last : State) (linked : Linked first history last) (all : Every (Rules (code g n)) history)
      (p t : ℕ) (h : p < first.cells.pages) (known : Known g laws n long first.cells p t) where
    -- its first events
    so_far : (earlier later : List Event) → history ≡ earlier ++ later → figure g * renewals (code g n) p earlier ≤ changes (code g n) p earlier + t
    so_far earlier later split =
        let parts =
        parted (Rules (code g n)) earlier later first last (subst (λ es. Linked first es last) split linked) (subst (Every (Rules (code g n))) split all) in
        let counts = reckon g laws n long earlier first parts.0 parts.1 parts.3 p t h known in
        let balance = counts.1 in
        omega arith

    -- those before one that is refused as full
    full_after :
        (earlier : List Event) (e : Event) (later : List Event) → history ≡ earlier ++ (e ∷ later) → RefusedFull e.answer →
        on_page (code g n) p e ≡ true → figure g * (renewals (code g n) p earlier + 1) ≤ changes (code g n) p earlier + t
    full_after earlier e later split full here =
        let parts =
        parted (Rules (code g n)) earlier (e ∷ later) first last (subst (λ es. Linked first es last) split linked) (subst (Every (Rules (code g n))) split all) in
        let counts = reckon g laws n long earlier first parts.0 parts.1 parts.3 p t h known in
        let enough =
        late_full g laws n long e.call e.answer e.before e.after p counts.0 parts.4.0 full here
        (subst (λ z. Known g laws n long z.cells p counts.0) (sym parts.2.0) counts.2) in
        let balance = counts.1 in
        let sum = mul-add (figure g) (renewals (code g n) p earlier) 1 in
        let one = mul-one (figure g) in
        omega arith

    -- and those before one that is refused as worn out
    worn_after :
        (earlier : List Event) (e : Event) (later : List Event) → history ≡ earlier ++ (e ∷ later) → RefusedWorn e.answer →
        on_page (code g n) p e ≡ true → figure g * (first.cells.limit - first.cells.wear p + 1) ≤ changes (code g n) p earlier + t
    worn_after earlier e later split worn here =
        let parts =
        parted (Rules (code g n)) earlier (e ∷ later) first last (subst (λ es. Linked first es last) split linked) (subst (Every (Rules (code g n))) split all) in
        let counts = reckon g laws n long earlier first parts.0 parts.1 parts.3 p t h known in
        let spent =
        late_worn g laws n long e.call e.answer e.before e.after p counts.0 parts.4.0 worn here
        (subst (λ z. Known g laws n long z.cells p counts.0) (sym parts.2.0) counts.2) in
        let enough = spent.0 in
        let at_limit = spent.1 in
        let balance = counts.1 in
        let wear = ap (λ z. z.cells.wear p) parts.2.0 ∙ erases (code g n) earlier first parts.0 parts.1 parts.3 p h in
        let limit = ap (λ z. z.cells.limit) parts.2.0 ∙ (shape_all (code g n) earlier first parts.0 parts.1 parts.3).limit in
        let left : first.cells.limit - first.cells.wear p + 1 ≤ renewals (code g n) p earlier + 1 = omega arith in
        let most = mul-le-mul_left (figure g) left in
        let sum = mul-add (figure g) (renewals (code g n) p earlier) 1 in
        let one = mul-one (figure g) in
        omega arith

  -- After an accepted renewal of a page the history goes on as from a start where no changes are left out.
  abbrev Restart : (p : ℕ) (r : Event) (later : List Event) (last : State) → Type 0
  Restart p r later last =
      Linked r.after later last × Every (Rules (code g n)) later × (p < r.after.cells.pages) × Known g laws n long r.after.cells p 0

  module _ (history : List Event) (first last : State) (linked : Linked first history last) (all : Every (Rules (code g n)) history) where
    restart :
        (p : ℕ) → p < first.cells.pages → (earlier : List Event) (r : Event) (later : List Event) → history ≡ earlier ++ (r ∷ later) →
        renewed r ≡ true → on_page (code g n) p r ≡ true → Restart p r later last
    restart p h earlier r later split is here =
        let parts =
        parted (Rules (code g n)) earlier (r ∷ later) first last (subst (λ es. Linked first es last) split linked) (subst (Every (Rules (code g n))) split all) in
        let before = (shape_all (code g n) earlier first parts.0 parts.1 parts.3).pages in
        let start = ap (λ z. z.cells.pages) parts.2.0 in
        let after = (shape_kept (code g n) r.call r.answer r.before r.after parts.4.0).pages in
        (parts.2.1, parts.4.1, omega arith, known_renewed g laws n long r.call r.answer r.before r.after p parts.4.0 is here)

    pub data_sheet : DataSheet (code g n) first.cells history
    data_sheet = record {
      renewals_at_most = λ p h. so_far history first last linked all p (figure g) h (known_any g laws n long first.cells p);
      renewals_from_unset = λ p h unset earlier later split.
          let counts = so_far history first last linked all p 0 h (known_unset g laws n long first.cells p unset) earlier later split in omega arith;
      renewals_from_renewal = λ p h earlier r between later split is here.
          let on = restart p h earlier r (between ++ later) split is here in
          let counts = so_far (between ++ later) r.after last on.0 on.1 p 0 on.2 on.3 between later refl in
          omega arith;
      full = λ p h. full_after history first last linked all p (figure g) h (known_any g laws n long first.cells p);
      full_from_unset = λ p h unset earlier e later split full here.
          let counts = full_after history first last linked all p 0 h (known_unset g laws n long first.cells p unset) earlier e later split full here in omega arith;
      full_from_renewal = λ p h earlier r between e later split is here full there.
          let on = restart p h earlier r (between ++ (e ∷ later)) split is here in
          let counts = full_after (between ++ (e ∷ later)) r.after last on.0 on.1 p 0 on.2 on.3 between e later refl full there in
          omega arith;
      worn = λ p h earlier e later split worn here.
          let counts = worn_after history first last linked all p (figure g) h (known_any g laws n long first.cells p) earlier e later split worn here in
          let sum = mul-add (figure g) (first.cells.limit - first.cells.wear p) 1 in
          let one = mul-one (figure g) in
          omega arith;
      worn_from_unset = λ p h unset earlier e later split worn here.
          let counts = worn_after history first last linked all p 0 h (known_unset g laws n long first.cells p unset) earlier e later split worn here in omega arith;
    }
