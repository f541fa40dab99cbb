-- Planning and writing the records of a page one by one. Assumes nothing.
use Rattle.std.proofs.Common.{◌≡◌, ℕ, zero, suc, ◌+◌, ◌*◌, ◌/◌, ◌<◌, ◌≤◌, min, Bool, true, false, cond, ◌||◌, eqb, ◌⊎◌, List, [], ◌∷◌, ◌++◌, length, get_or, sym, refl, ap, ◌∙◌, inl, inr, mul-le-mul_right, suc-mul, add-one, arith}
use Rattle.std.proofs.lemmas.Nat.{mul-add-lt, div-add-mod'}
use Rattle.std.proofs.lemmas.List.{get_or_push, get_or_append_left, length-append}
use Rattle.std.proofs.lemmas.Bool.{cases_eq}
use Rattle.cells.specs.Cells.{Cells, Cell}
use Rattle.cells.specs.Sets.{Cellset, size_below}
use Rattle.cells.proofs.Sizes.{size_le}
use Rattle.coset.specs.Code.{Code, every, sum_of, Unreachable, Plan}
use Rattle.coset.specs.CellSets.{members_of}
use Rattle.coset.specs.declared.cellset.CellSet.{CellSet}
use Rattle.calls.specs.Calls.{sizes}
use Rattle.store.specs.Parts.{set_from, SetsCells, nth_place, target, PlansOfPage, PageWritten}
use Rattle.cells.proofs.Alikes.{shaped_then}

-- the value of a set of cells is within reach from empty
own_reach : (c : Code) (s : Cellset) → Unreachable c every (sum_of c s) → ⊥
own_reach c s none = none s (record { within = λ i h m. refl; sums = refl })

module _ (c : Code) (m : Cells) (page named x : ℕ) where
  -- so only the new value can be out of reach
  pub out_of_reach : (r : ℕ) → Unreachable c every (target c m page named x r) → Unreachable c every x
  out_of_reach r none = go (eqb r named) none
    where
      go : (b : Bool) → Unreachable c every (cond b x (sum_of c (set_from m (nth_place c page r)))) → Unreachable c every x
      go true u = u
      go false u = absurd (own_reach c (set_from m (nth_place c page r)) u)

  -- one plan more
  pub page_more :
      (r : ℕ) (plans : List CellSet) (p : CellSet) → PlansOfPage c m page named x r plans →
      Plan c every (target c m page named x r) (members_of p) → PlansOfPage c m page named x (r + 1) (plans ++ p ∷ [])
  page_more r plans p earlier plan =
      record {
        all = let long = length-append plans (p ∷ []) in let few = earlier.all in omega arith;
        each = λ k d h. go k d h (cases_eq k r);
      }
    where
      go : (k : ℕ) (d : CellSet) → k < r + 1 → ((k ≡ r) ⊎ (k ≡ r → ⊥)) → Plan c every (target c m page named x k) (members_of (get_or (plans ++ p ∷ []) k d))
      go k d h (inl e) =
          rw (e, get_or_push plans p d r earlier.all) plan
      go k d h (inr ne) =
          let few = earlier.all in
          rw (get_or_append_left plans (p ∷ []) d k (omega arith)) (earlier.each k d (omega arith))

-- the cells of record r of a page are before those of the next
row_end : (n r : ℕ) → r * n + n ≡ (r + 1) * n
row_end n r = rw add-one (sym (suc-mul r n))

before_row : (n r q i : ℕ) → q < r → i < n → q * n + i < r * n
before_row n r q i h k = let lt = mul-add-lt q n i r h k in omega arith

-- b sets of at most 63 cells
pub sizes_few : (n : ℕ) (sets : ℕ → Cellset) (b : ℕ) → n ≤ 63 → sizes n sets b ≤ b * 63
unfolding sizes
sizes_few n sets zero h = omega arith
sizes_few n sets (suc b) h =
    let one = size_le (sets b) n in
    let rest = sizes_few n sets b h in
    let product = suc-mul b 63 in
    omega arith

-- as many records as fit lie within the width
pub page_fits : (n w b : ℕ) → b ≡ min (w / n) 64 → b * n ≤ w
page_fits n w b e =
    let few : b ≤ w / n = omega arith in
    let le = mul-le-mul_right n few in
    let whole = div-add-mod' w n in
    omega arith

-- the first rows of a page are within it
pub rows_within : (n r b w : ℕ) → r < b → b * n ≤ w → r * n + n ≤ w
rows_within n r b w h fits = let le = mul-le-mul_right n h in let one = suc-mul r n in omega arith

pub next_within : (n r b w : ℕ) → r < b → b * n ≤ w → (r + 1) * n ≤ w
next_within n r b w h fits = let inside = rows_within n r b w h fits in let end = row_end n r in omega arith

module _ (n page : ℕ) (plans : List CellSet) (m : Cells) where
  pub page_none : ((j : ℕ) → j < m.width → m.set page j ≡ false) → PageWritten n page 0 plans m m 0
  unfolding sizes
  page_none unset =
      record {
        shape = record { pages = refl; width = refl; limit = refl };
        written = λ r i d h k. absurd (omega arith);
        beyond = λ j lo hi. unset j hi;
        others = λ p j cell apart. refl;
        wear = λ p h. refl;
        counted = λ d. refl;
      }

  pub page_step :
      (r marked count : ℕ) (s : CellSet) (m' m'' : Cells) → r < length plans → ((d : CellSet) → get_or plans r d ≡ s) → (r + 1) * n ≤ m.width → page < m.pages →
      PageWritten n page r plans m m' marked → SetsCells n (record { page = page; first = r * n }) (members_of s) m' m'' → count ≡ size_below (members_of s) n →
      PageWritten n page (r + 1) plans m m'' (marked + count)
  unfolding sizes
  page_step r marked count s m' m'' room is fits here written sets counts =
      record {
        shape = shaped_then written.shape sets.shape;
        written = λ q i d h k. cells q i d h k (cases_eq q r);
        beyond = λ j lo hi.
            let end = row_end n r in
            sets.others page j (cell' page j (record { page = here; cell = hi })) (λ o. let past = o.2 in omega arith)
            ∙ written.beyond j (omega arith) hi;
        others = λ p j cell apart. sets.others p j (cell' p j cell) (λ o. apart o.0) ∙ written.others p j cell apart;
        wear = λ p h. sets.wear p (rw written.shape.pages h) ∙ written.wear p h;
        counted = λ d.
            let earlier = written.counted d in
            let this = counts ∙ ap (λ t. size_below (members_of t) n) (sym (is d)) in
            rw add-one (omega arith);
      }
    where
      cell' : (p j : ℕ) → Cell m p j → Cell m' p j
      cell' p j cell = record { page = rw written.shape.pages cell.page; cell = rw written.shape.width cell.cell }

      cells :
          (q i : ℕ) (d : CellSet) → q < r + 1 → i < n → ((q ≡ r) ⊎ (q ≡ r → ⊥)) → m''.set page (q * n + i) ≡ members_of (get_or plans q d) i
      cells q i d h k (inl e) =
          let end = row_end n r in
          ap (λ z. m''.set page (z * n + i)) e
          ∙ sets.here i k
          ∙ ap (λ b. b || members_of s i) (written.beyond (r * n + i) (omega arith) (omega arith))
          ∙ ap (λ t. members_of t i) (sym (is d) ∙ ap (λ z. get_or plans z d) (sym e))
      cells q i d h k (inr ne) =
          let end = row_end n r in
          let low = before_row n r q i (omega arith) k in
          sets.others page (q * n + i) (cell' page (q * n + i) (record { page = here; cell = omega arith })) (λ o. let lo = o.1 in omega arith)
          ∙ written.written q i d (omega arith) k
