-- From the steps of a renewal to the rules that it obeys. Assumes nothing.
use Rattle.std.proofs.Common.{◌≡◌, ℕ, ◌+◌, ◌*◌, ◌%◌, ◌<◌, ◌≤◌, Bool, true, false, cond, eqb, ◌⊎◌, List, length, get_or, None, Ok, Err, Result, IsOkAnd, sym, refl, ap, ◌∙◌, subst, ap₂, inl, inr, arith}
use Rattle.std.proofs.lemmas.Bool.{cases_eq, eq-eqb, ne_eqb}
use Rattle.group.specs.Group.{step}
use Rattle.cells.specs.Cells.{Cells, Cell}
use Rattle.cells.specs.Rows.{Refused, Served}
use Rattle.cells.specs.Sets.{Cellset}
use Rattle.cells.specs.declared.fault.DeviceFault.{DeviceFault}
use Rattle.cells.specs.Faults.{device_number}
use Rattle.cells.specs.Device.{erase_rows, Names, Erased, Erases}
use Rattle.calls.specs.Faults.{located}
use Rattle.coset.specs.Code.{Code, every, sum_of, Reachable, Unreachable, Plan}
use Rattle.coset.specs.CellSets.{members_of}
use Rattle.coset.specs.declared.cellset.CellSet.{CellSet}
use Rattle.calls.specs.declared.call.Call.TheVariants.{Renew}
use Rattle.calls.specs.declared.ledger.Ledger.{Ledger}
use Rattle.calls.specs.Ledger.{raised}
use Rattle.calls.specs.Records.{makes, per_page, records, page_of, free, value}
use Rattle.calls.specs.Calls.{state_of, Renewed, renewed_value, rows, Obeys}
use Rattle.calls.proofs.Geometry.{There, there, number_of, page_back, place_back}
use Rattle.store.specs.declared.place.Found.{Found}
use Rattle.store.specs.Parts.{FoundRecord, set_from, nth_place, target, PlansOfPage, PageWritten}
use Rattle.cells.proofs.Alikes.{shaped_then}
use Rattle.store.proofs.Located.{located_ok}
use Rattle.store.proofs.Serving.{unreachable_free, open_cells, open_free}

-- what an erase did, by its answer with the record beside a refusal
pub erase_served :
    (k p : ℕ) (m m' : Cells) {U : Type 0} (r : Result U DeviceFault) (u : U) → located k r ≡ Ok u → Erases p m m' r →
    Served (erase_rows m p) × Erased p m m'
erase_served k p m m' (Ok v) u e erases = erases
erase_served k p m m' (Err f) u e erases = absurd (let z : ◌≡◌ {A = ℕ} 0 1 = cc in omega arith)

pub erase_refused_at :
    (k p : ℕ) (m m' : Cells) {U : Type 0} (r : Result U DeviceFault) (e : ℕ × DeviceFault) → located k r ≡ Err e → Erases p m m' r →
    Refused (erase_rows m p) (device_number e.1) × Names e.1 p None × (m' ≡ m) × (e.0 ≡ k)
erase_refused_at k p m m' (Ok v) e is erases = absurd (let z : ◌≡◌ {A = ℕ} 0 1 = cc in omega arith)
erase_refused_at k p m m' (Err f) e is erases =
    let pair : (k, f) ≡ e = cc in
    let same : f ≡ e.1 = ap (λ q. q.1) pair in
    (subst (λ d. Refused (erase_rows m p) (device_number d)) same erases.0, subst (λ d. Names d p None) same erases.1, erases.2, sym (ap (λ q. q.0) pair))

-- an erase of a page that there is is refused by 22 alone
pub erase_refused : (m : Cells) (p d : ℕ) → p < m.pages → Refused (erase_rows m p) d → (m.limit ≤ m.wear p) × (d ≡ 22)
erase_refused m p d h (inl here) = absurd (let past = here.0 in omega arith)
erase_refused m p d h (inr (no20, inl here)) = here
erase_refused m p d h (inr (no20, inr (no22, never))) = absurd never

-- what was written of a page, by the answer with the record beside a refusal
pub page_written :
    (k n page b marked : ℕ) (items plans : List CellSet) (m m' : Cells) (r : Result ℕ DeviceFault) → located k r ≡ Ok marked →
    IsOkAnd r (PageWritten n page (length items) items m m') → items ≡ plans → length plans ≡ b → PageWritten n page b plans m m' marked
page_written k n page b marked items plans m m' r e written same all =
    subst (λ l. PageWritten n page l plans m m' marked) all
    (subst (λ ps. PageWritten n page (length ps) ps m m' marked) same
    (located_ok k r marked (PageWritten n page (length items) items m m') e written))

-- a store that has a record was made with its check
pub records_to_page : (c : Code) (m : Cells) (k : ℕ) → k < records c m → cond (makes c m) (per_page c m) 0 ≡ per_page c m
records_to_page c m k h = go (makes c m) h
  where
    go : (b : Bool) → k < cond b (m.pages * per_page c m) 0 → cond b (per_page c m) 0 ≡ per_page c m
    go true lt = refl
    go false lt = absurd (omega arith)

module _ (c : Code) (m : Cells) (k : ℕ) (found : Found) (known : FoundRecord c m k found) (x : ℕ) (element : x < c.group.order) where
  abbrev opened : Cellset
  opened = open_cells c m k found known

  module _ (none : Unreachable c opened (step c.group found.value x)) where
    no_put : Reachable c (free c m k) (step c.group (value c m k) x) → ⊥
    no_put r =
        unreachable_free c opened (free c m k) (step c.group (value c m k) x) (open_free c m k found known)
        (subst (λ v. Unreachable c opened (step c.group v x)) known.value none) r.0 r.1

    module _ (plans : List CellSet) (planned : PlansOfPage c m (page_of c m k) (k % per_page c m) x (per_page c m) plans) where
      abbrev d₀ : CellSet
      d₀ = record { bits = 0; few = omega arith }

      t : There c m k
      t = there c m k known.place.0

      -- the record of each place, by its number
      target_is : (r : ℕ) → r < per_page c m → target c m (page_of c m k) (k % per_page c m) x r ≡ renewed_value c m k x (page_of c m k * per_page c m + r)
      target_is r h =
          ap₂ (λ b v. cond b x v) (same_place (cases_eq r (k % per_page c m)))
          (ap₂ (λ p q. sum_of c (λ i. m.set p (q * c.cells + i))) (sym (page_back c m (page_of c m k) r h)) (sym (place_back c m (page_of c m k) r h)))
        where
          same_place : ((r ≡ k % per_page c m) ⊎ (r ≡ k % per_page c m → ⊥)) → eqb r (k % per_page c m) ≡ eqb (page_of c m k * per_page c m + r) k
          same_place (inl e) =
              eq-eqb r (k % per_page c m) e ∙ sym (eq-eqb (page_of c m k * per_page c m + r) k (ap (λ q. page_of c m k * per_page c m + q) e ∙ number_of c m k))
          same_place (inr ne) =
              ne_eqb r (k % per_page c m) ne
              ∙ sym (ne_eqb (page_of c m k * per_page c m + r) k (λ e. ne (sym (place_back c m (page_of c m k) r h) ∙ ap (λ z. z % per_page c m) e)))

      all_planned : (r : ℕ) → r < per_page c m → Plan c every (renewed_value c m k x (page_of c m k * per_page c m + r)) (members_of (get_or plans r d₀))
      all_planned r h = subst (λ d. Plan c every d (members_of (get_or plans r d₀))) (target_is r h) (planned.each r d₀ h)

      -- the new value is within reach from empty
      within_reach : Unreachable c every x → ⊥
      within_reach far =
          let r = k % per_page c m in
          let p = planned.each (k % per_page c m) d₀ t.place in
          far (members_of (get_or plans (k % per_page c m) d₀))
          (subst (λ b. Plan c every (cond b x (sum_of c (set_from m (nth_place c (page_of c m k) (k % per_page c m))))) (members_of (get_or plans (k % per_page c m) d₀)))
          (eq-eqb (k % per_page c m) (k % per_page c m) refl) p).reaches

      -- the page is worn
      pub renew_worn : m.limit ≤ m.wear found.place.page → Refused (rows c m (Renew k x)) 22
      renew_worn worn =
          let there_is = known.place.0 in
          inr (λ h. omega arith, inr (λ h. omega arith, inr (no_put, inr (within_reach, inl (subst (λ p. m.limit ≤ m.wear p) known.place.1 worn, refl)))))

      -- the page was erased and written
      pub renew_served :
          (m' m'' : Cells) (l l' : Ledger) (marked : ℕ) → (m.limit ≤ m.wear found.place.page → ⊥) → Erased found.place.page m m' →
          PageWritten c.cells found.place.page (per_page c m) plans m' m'' marked → l'.changes ≡ l.changes → l'.renewals ≡ raised 1 l.renewals →
          l'.marked ≡ raised marked l.marked → Obeys c (Renew k x) (Ok marked) (state_of m l) (state_of m'' l')
      renew_served m' m'' l l' marked fresh erased written a b d =
          let there_is = known.place.0 in (
            (λ h. omega arith, (λ h. omega arith, (no_put, (within_reach, ((λ worn. fresh (subst (λ p. m.limit ≤ m.wear p) (sym known.place.1) worn)), tt))))),
            renewed,
            λ i. record { changes = a i; renewals = b i; marked = d i },
          )
        where
          page_inside : found.place.page < m'.pages
          page_inside = rw (erased.shape.pages, known.place.1) t.page

          cell' : (p j : ℕ) → Cell m p j → Cell m' p j
          cell' p j cell = record { page = rw erased.shape.pages cell.page; cell = rw erased.shape.width cell.cell }

          renewed : Renewed c k x m m'' marked
          renewed =
              record {
                shape = shaped_then erased.shape written.shape;
                plans = λ r. members_of (get_or plans r d₀);
                planned = all_planned;
                written = λ r i h lt. ap (λ p. m''.set p (r * c.cells + i)) (sym known.place.1) ∙ written.written r i d₀ h lt;
                beyond = λ j lo hi. ap (λ p. m''.set p j) (sym known.place.1) ∙ written.beyond j lo (rw erased.shape.width hi);
                others = λ p j cell apart.
                    written.others p j (cell' p j cell) (λ e. apart (e ∙ known.place.1)) ∙ erased.others p j cell (λ e. apart (e ∙ known.place.1));
                worn = subst (λ p. m''.wear p ≡ m.wear p + 1) known.place.1 (written.wear found.place.page page_inside ∙ erased.worn);
                unworn = λ p h apart. written.wear p (rw erased.shape.pages h) ∙ erased.unworn p h (λ e. apart (e ∙ known.place.1));
                counted = written.counted d₀;
              }
