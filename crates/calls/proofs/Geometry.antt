-- Where the records lie: each within its page, and apart from the others. Assumes nothing.
use Rattle.std.proofs.Common.{◌≡◌, ℕ, ◌+◌, ◌-◌, ◌*◌, ◌/◌, ◌%◌, ◌<◌, ◌≤◌, min, Bool, true, false, cond, not, ◌&&◌, eqb, ltb, leb, sym, refl, ap, ◌∙◌, ap₂, mul-le-mul_right, arith}
use Rattle.std.proofs.lemmas.Nat.{div-add-mod', div_below, mod_below, le-div, mul-add-lt, div-mul-add, mod-mul-add}
use Rattle.std.proofs.lemmas.Bool.{and_parts, not-true, eqb-false, ltb-true, leb-true}
use Rattle.group.specs.Group.{Usable, unusable}
use Rattle.cells.specs.Cells.{Cells, Shaped}
use Rattle.cells.specs.Sets.{Cellset}
use Rattle.coset.specs.Code.{Code}
use Rattle.calls.specs.Records.{makes, per_page, records, page_of, Within}

-- the cells of the record at place r of page p
abbrev pub at_place : Code → Cells → ℕ → ℕ → Cellset
at_place c m p r i = m.set p (r * c.cells + i)

-- what is known of a record that there is
pub record There (c : Code) (m : Cells) (k : ℕ) : Type 0 where
  pub usable : Usable c.group
  pub some : 0 < c.cells
  pub few : c.cells < 64
  pub fits : c.cells ≤ m.width
  pub shared : 0 < per_page c m
  pub page : page_of c m k < m.pages
  pub place : k % per_page c m < per_page c m

module _ (c : Code) (m : Cells) where
  made : (b : Bool) (n k : ℕ) → k < cond b n 0 → (b ≡ true) × (k < n)
  made true n k h = (refl, h)
  made false n k h = absurd (omega arith)

  pub there : (k : ℕ) → k < records c m → There c m k
  there k h =
      let B = per_page c m in
      let all = made (makes c m) (m.pages * per_page c m) k h in
      let one = and_parts (not (eqb c.group.order unusable)) _ all.0 in
      let two = and_parts (ltb 0 c.cells) _ one.1 in
      let three = and_parts (ltb c.cells 64) (leb c.cells m.width) two.1 in
      let some = ltb-true 0 c.cells two.0 in
      let wide = leb-true c.cells m.width three.1 in
      let one_record = le-div 1 m.width c.cells some (omega arith) in
      let shared : 0 < per_page c m = omega arith in
      record {
        usable = λ e. eqb-false _ _ (not-true _ one.0) e;
        some = some;
        few = ltb-true c.cells 64 three.0;
        fits = wide;
        shared = shared;
        page = div_below k (per_page c m) m.pages shared all.1;
        place = mod_below k (per_page c m) shared;
      }

  -- the cells of all records of a page are cells of it
  pub place_within : (r i : ℕ) → 0 < c.cells → r < per_page c m → i < c.cells → r * c.cells + i < m.width
  place_within r i some h lt =
      let n = c.cells in
      let inside = mul-add-lt r c.cells i (per_page c m) h lt in
      let all = mul-le-mul_right c.cells (least 64 (m.width / c.cells)) in
      let whole = div-add-mod' m.width c.cells in
      omega arith
    where
      least : (a b : ℕ) → min a b ≤ b
      least a b = omega arith

  -- the place and the page of a record give its number
  pub number_of : (k : ℕ) → page_of c m k * per_page c m + k % per_page c m ≡ k
  number_of k = div-add-mod' k (per_page c m)

  pub page_back : (p r : ℕ) → r < per_page c m → page_of c m (p * per_page c m + r) ≡ p
  page_back p r h = div-mul-add p (per_page c m) r h

  pub place_back : (p r : ℕ) → r < per_page c m → (p * per_page c m + r) % per_page c m ≡ r
  place_back p r h = mod-mul-add p (per_page c m) r h

  -- a cell at another place is not within the record
  pub not_within : (k p r i : ℕ) → i < c.cells → ((p ≡ page_of c m k) × (r ≡ k % per_page c m) → ⊥) → Within c m k p (r * c.cells + i) → ⊥
  not_within k p r i h apart w =
      let lo = w.from in
      let hi = w.below in
      let n = c.cells in
      let q = k % per_page c m in
      apart (w.page, sym (div-mul-add r n i h) ∙ ap (λ z. z / n) (omega arith) ∙ div-mul-add q n (r * n + i - q * n) (omega arith))

-- the same shape gives the same places
module _ (c : Code) (m m' : Cells) (shape : Shaped m m') where
  pub per_page_same : per_page c m' ≡ per_page c m
  per_page_same = ap (λ w. min 64 (w / c.cells)) shape.width

  pub page_same : (k : ℕ) → page_of c m' k ≡ page_of c m k
  page_same k = ap (λ b. k / b) per_page_same

  pub place_same : (k : ℕ) → k % per_page c m' ≡ k % per_page c m
  place_same k = ap (λ b. k % b) per_page_same

  pub records_same : records c m' ≡ records c m
  records_same =
      ap₂ (λ P w. cond (not (eqb c.group.order unusable) && (ltb 0 c.cells && (ltb c.cells 64 && leb c.cells w))) (P * min 64 (w / c.cells)) 0)
      shape.pages shape.width
