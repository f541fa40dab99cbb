-- A renewal of one record in cells that agree sets as many cells, and leaves cells that agree. Assumes nothing.
use Rattle.std.proofs.Common.{◌≡◌, ℕ, zero, suc, ◌+◌, ◌*◌, ◌/◌, ◌%◌, ◌<◌, ◌≤◌, cond, eqb, ◌⊎◌, ◌∷◌, List, sym, refl, ap, ◌∙◌, subst, ap₂, inl, inr, arith}
use Rattle.std.proofs.lemmas.Bool.{cases_eq, cases_lt}
use Rattle.std.proofs.lemmas.Nat.{div-add-mod', div_below, mod_below}
use Rattle.cells.specs.Cells.{Cells, Cell, Alike}
use Rattle.cells.specs.Sets.{Cellset}
use Rattle.cells.specs.Steps.{Step}
use Rattle.cells.specs.Steps.Step.{Erase}
use Rattle.cells.proofs.Alikes.{shaped_back, page_there, cell_there, cell_back}
use Rattle.coset.specs.Code.{Code, every, Plan}
use Rattle.coset.specs.OnePlan.{SameCells}
use Rattle.coset.proofs.Sums.{size_agree}
use Rattle.coset.proofs.OnePlan.{plans_agree}
use Rattle.calls.specs.Records.{per_page, page_of}
use Rattle.calls.specs.Calls.{Renewed, renewed_value, sizes}
use Rattle.calls.specs.Steps.{marks_of}
use Rattle.calls.proofs.Geometry.{There, page_back, place_back, per_page_same}
use Rattle.calls.proofs.Marks.{marks_agree}
use Rattle.calls.proofs.SameRecord.{shape_left, page_too, value_same}

sizes_same : (n : ℕ) (s t : ℕ → Cellset) (b : ℕ) → ((r : ℕ) → r < b → (i : ℕ) → i < n → t r i ≡ s r i) → sizes n t b ≡ sizes n s b
unfolding sizes
sizes_same n s t zero same = refl
sizes_same n s t (suc b) same =
    ap₂ (λ x y. x + y) (size_agree (t b) (s b) n (same b (omega arith))) (sizes_same n s t b (λ r h. same r (omega arith)))

module _ (c : Code) (m m' : Cells) (alike : Alike m m') (k x : ℕ) (at : There c m k) (n n' : Cells) (r r' : ℕ) (done : Renewed c k x m n r) (done' : Renewed c k x m' n' r') where
  -- the records of the page
  neighbour : (q : ℕ) → q < per_page c m → There c m (page_of c m k * per_page c m + q)
  neighbour q h = record {
    usable = at.usable;
    some = at.some;
    few = at.few;
    fits = at.fits;
    shared = at.shared;
    page = rw (page_back c m (page_of c m k) q h) at.page;
    place = rw (place_back c m (page_of c m k) q h) h;
  }

  share : per_page c m' ≡ per_page c m
  share = per_page_same c m m' alike.shape

  -- the value that the record at a place of the page is to have
  target : Cells → ℕ → ℕ
  target m q = renewed_value c m k x (page_of c m k * per_page c m + q)

  target_same : (q : ℕ) → q < per_page c m → target m' q ≡ target m q
  unfolding target
  target_same q h =
      ap (λ j. renewed_value c m' k x j) (ap₂ (λ p b. p * b + q) (page_too c m m' alike k) share)
      ∙ ap (λ v. cond (eqb (page_of c m k * per_page c m + q) k) x v)
      (value_same c m m' alike (page_of c m k * per_page c m + q) (neighbour q h))

  plans_same : (q : ℕ) → q < per_page c m → SameCells c (done.plans q) (done'.plans q)
  unfolding target
  plans_same q h =
      plans_agree c every every _ (done.plans q) (done'.plans q) (λ i lt. refl) (done.planned q h)
      (subst (λ d. Plan c every d (done'.plans q)) (target_same q h) (done'.planned q (omega (arith, share))))

  pub renewal_marks : r' ≡ r
  renewal_marks =
      done'.counted ∙ ap (sizes c.cells done'.plans) share
      ∙ sizes_same c.cells done.plans done'.plans (per_page c m) plans_same ∙ sym done.counted

  -- a cell of the page, by its record and the place in it, or past the records
  on_page : (j : ℕ) → j < m.width → (j < per_page c m * c.cells) ⊎ (per_page c m * c.cells ≤ j) → n'.set (page_of c m' k) j ≡ n.set (page_of c m k) j
  on_page j h (inl low) =
      let q = j / c.cells in
      let i = j % c.cells in
      let place : q * c.cells + i ≡ j = div-add-mod' j c.cells in
      let hq = div_below j c.cells (per_page c m) at.some low in
      let hi = mod_below j c.cells at.some in
      ap (λ z. n'.set (page_of c m' k) z) (sym place) ∙ done'.written q i (omega (arith, share)) hi ∙ plans_same q hq i hi
      ∙ sym (ap (λ z. n.set (page_of c m k) z) (sym place) ∙ done.written q i hq hi)
  on_page j h (inr beyond) =
      let w = alike.shape.width in
      done'.beyond j (omega (arith, ap (λ z. z * c.cells) share)) (omega arith) ∙ sym (done.beyond j beyond h)

  set_same : (p j : ℕ) → Cell m p j → (p ≡ page_of c m k) ⊎ (p ≡ page_of c m k → ⊥) → n'.set p j ≡ n.set p j
  set_same p j cell (inl e) =
      ap (λ z. n'.set z j) (e ∙ sym (page_too c m m' alike k)) ∙ on_page j cell.cell (cases_lt j (per_page c m * c.cells))
      ∙ sym (ap (λ z. n.set z j) e)
  set_same p j cell (inr ne) =
      done'.others p j (cell_back alike.shape cell) (λ e. ne (e ∙ page_too c m m' alike k)) ∙ alike.set p j cell
      ∙ sym (done.others p j cell ne)

  wear_same : (p : ℕ) → p < m.pages → (p ≡ page_of c m k) ⊎ (p ≡ page_of c m k → ⊥) → n'.wear p ≡ n.wear p
  wear_same p h (inl e) =
      let before = ap m'.wear (page_too c m m' alike k) ∙ alike.wear (page_of c m k) at.page in
      ap n'.wear (e ∙ sym (page_too c m m' alike k)) ∙ done'.worn ∙ ap (λ z. z + 1) before ∙ sym done.worn ∙ ap n.wear (sym e)
  wear_same p h (inr ne) =
      done'.unworn p (page_there (shaped_back alike.shape) h) (λ e. ne (e ∙ page_too c m m' alike k)) ∙ alike.wear p h
      ∙ sym (done.unworn p h ne)

  pub renewal_alike : Alike n n'
  renewal_alike = record {
    shape = shape_left alike done.shape done'.shape;
    set = λ p j cell. set_same p j (cell_there done.shape cell) (cases_eq p (page_of c m k));
    wear = λ p h. wear_same p (page_there done.shape h) (cases_eq p (page_of c m k));
  }

  -- the erase, and the marks of the page
  abbrev renewal : Cells → Cells → List Step
  renewal m n = Erase (page_of c m k) ∷ marks_of (page_of c m k) 0 (n.set (page_of c m k)) m.width

  pub renewal_steps : renewal m' n' ≡ renewal m n
  renewal_steps =
      ap₂ (λ p w. Erase p ∷ marks_of p 0 (n'.set (page_of c m' k)) w) (page_too c m m' alike k) alike.shape.width
      ∙ ap (λ ss. Erase (page_of c m k) ∷ ss)
      (marks_agree (page_of c m k) 0 (n'.set (page_of c m' k)) (n.set (page_of c m k)) m.width
      (λ j h. on_page j h (cases_lt j (per_page c m * c.cells))))
