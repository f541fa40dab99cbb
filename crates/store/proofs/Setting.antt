-- Setting the cells of a set one by one. Assumes nothing.
use Rattle.std.proofs.Common.{◌≡◌, ℕ, ◌+◌, ◌<◌, ◌≤◌, Bool, true, false, ◌&&◌, ◌||◌, ltb, ◌⊎◌, sym, refl, ap, ◌∙◌, ap₂, inl, inr, arith}
use Rattle.std.proofs.lemmas.Bool.{cases_eq, cases_lt, lt-ltb, le-ltb, or_right}
use Rattle.cells.specs.Cells.{Cells, Cell}
use Rattle.cells.specs.Sets.{Cellset}
use Rattle.cells.specs.Device.{Marked}
use Rattle.store.specs.declared.place.Place.{Place}
use Rattle.cells.proofs.Alikes.{shaped_itself, shaped_then}
use Rattle.store.specs.Parts.{Inside, set_from, SetsCells}

-- the cells of s below k
abbrev pub first_of_set : Cellset → ℕ → Cellset
first_of_set s k i = ltb i k && s i

-- sets that agree on the n cells
pub sets_agree : (n : ℕ) (at : Place) (s t : Cellset) (m m' : Cells) → ((i : ℕ) → i < n → s i ≡ t i) → SetsCells n at s m m' → SetsCells n at t m m'
sets_agree n at s t m m' same sets =
    record {
      shape = sets.shape;
      here = λ i h. sets.here i h ∙ ap (λ b. set_from m at i || b) (same i h);
      others = sets.others;
      wear = sets.wear;
    }

or_false : (b : Bool) → b ≡ (b || false)
or_false true = refl
or_false false = refl

pub sets_none : (n : ℕ) (at : Place) (s : Cellset) (m : Cells) → SetsCells n at (first_of_set s 0) m m
sets_none n at s m =
    record {
      shape = shaped_itself m;
      here = λ i h. or_false (set_from m at i) ∙ ap (λ b. set_from m at i || (b && s i)) (sym (le-ltb i 0 (omega arith)));
      others = λ p j cell outside. refl;
      wear = λ p h. refl;
    }

-- a cell that is not in s
pub sets_without :
    (n : ℕ) (at : Place) (s : Cellset) (k : ℕ) (m m' : Cells) → s k ≡ false → SetsCells n at (first_of_set s k) m m' →
    SetsCells n at (first_of_set s (k + 1)) m m'
sets_without n at s k m m' out sets = sets_agree n at (first_of_set s k) (first_of_set s (k + 1)) m m' (λ i h. same i (cases_eq i k)) sets
  where
    same : (i : ℕ) → ((i ≡ k) ⊎ (i ≡ k → ⊥)) → (ltb i k && s i) ≡ (ltb i (k + 1) && s i)
    same i (inl e) = ap₂ ◌&&◌ (le-ltb i k (omega arith)) refl ∙ sym (ap₂ ◌&&◌ (lt-ltb i (k + 1) (omega arith)) (ap s e ∙ out))
    same i (inr ne) = go (cases_lt i k)
      where
        go : ((i < k) ⊎ (k ≤ i)) → (ltb i k && s i) ≡ (ltb i (k + 1) && s i)
        go (inl lt) = ap (λ b. b && s i) (lt-ltb i k lt ∙ sym (lt-ltb i (k + 1) (omega arith)))
        go (inr ge) = ap (λ b. b && s i) (le-ltb i k ge ∙ sym (le-ltb i (k + 1) (omega arith)))

-- a cell that is, and was marked
pub sets_with :
    (n : ℕ) (at : Place) (s : Cellset) (k : ℕ) (m m' m'' : Cells) → Inside m n at → k < n → s k ≡ true → SetsCells n at (first_of_set s k) m m' →
    Marked at.page (at.first + k) m' m'' → SetsCells n at (first_of_set s (k + 1)) m m''
sets_with n at s k m m' m'' inside lt member sets marked =
    record {
      shape = shaped_then sets.shape marked.shape;
      here = λ i h. here i h (cases_eq i k);
      others = λ p j cell outside.
          marked.others p j (cell' p j cell) (λ at_k. outside (at_k.0, let e = at_k.1 in omega arith, let e = at_k.1 in omega arith))
          ∙ sets.others p j cell outside;
      wear = λ p h. marked.wear p (rw sets.shape.pages h) ∙ sets.wear p h;
    }
  where
    cell' : (p j : ℕ) → Cell m p j → Cell m' p j
    cell' p j cell = record { page = rw sets.shape.pages cell.page; cell = rw sets.shape.width cell.cell }

    here : (i : ℕ) → i < n → ((i ≡ k) ⊎ (i ≡ k → ⊥)) → set_from m'' at i ≡ (set_from m at i || (ltb i (k + 1) && s i))
    here i h (inl e) =
        ap (set_from m'' at) e ∙ marked.here
        ∙ sym (or_right (set_from m at i) (ltb i (k + 1) && s i) (ap₂ ◌&&◌ (lt-ltb i (k + 1) (omega arith)) (ap s e ∙ member)))
    here i h (inr ne) =
        marked.others at.page (at.first + i) (cell' at.page (at.first + i) (record { page = inside.page; cell = let w = inside.cells in omega arith }))
        (λ o. ne (let e = o.1 in omega arith))
        ∙ sets.here i h
        ∙ ap (λ b. set_from m at i || (b && s i)) (go (cases_lt i k))
      where
        go : ((i < k) ⊎ (k ≤ i)) → ltb i k ≡ ltb i (k + 1)
        go (inl below) = lt-ltb i k below ∙ sym (lt-ltb i (k + 1) (omega arith))
        go (inr above) = le-ltb i k above ∙ sym (le-ltb i (k + 1) (omega arith))
