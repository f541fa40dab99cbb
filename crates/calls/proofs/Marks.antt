-- The marks of sets of cells, and how many they are. Assumes nothing.
use Rattle.std.proofs.Common.{◌≡◌, ℕ, zero, suc, ◌+◌, ◌<◌, ◌≤◌, true, false, Bool, cond, [], ◌∷◌, ◌++◌, sym, refl, ap, ◌∙◌, ap₂, add-one, append_assoc, arith}
use Rattle.std.proofs.lemmas.List.{append-nil}
use Rattle.std.proofs.lemmas.List.Sums.{sum_by-append}
use Rattle.std.specs.Prelude.{count_by}
use Rattle.cells.specs.Sets.{Cellset, size_below}
use Rattle.cells.specs.Steps.Step.{Mark}
use Rattle.cells.specs.Chain.{is_mark}
use Rattle.calls.specs.Steps.{marks_of}

module _ (p first : ℕ) where
  pub marks_none : (s : Cellset) → marks_of p first s 0 ≡ []
  unfolding marks_of
  marks_none s = refl

  pub marks_with : (s : Cellset) (i : ℕ) → s i ≡ true → marks_of p first s (i + 1) ≡ marks_of p first s i ++ (Mark p (first + i) ∷ [])
  unfolding marks_of
  marks_with s i e = rw (add-one, e) refl

  pub marks_without : (s : Cellset) (i : ℕ) → s i ≡ false → marks_of p first s (i + 1) ≡ marks_of p first s i
  unfolding marks_of
  marks_without s i e = rw (add-one, e) (append-nil (marks_of p first s i))

  -- sets that agree
  pub marks_agree : (s t : Cellset) (n : ℕ) → ((i : ℕ) → i < n → s i ≡ t i) → marks_of p first s n ≡ marks_of p first t n
  unfolding marks_of
  marks_agree s t zero same = refl
  marks_agree s t (suc n) same =
      ap₂ (λ ms b. ms ++ cond b (Mark p (first + n) ∷ []) []) (marks_agree s t n (λ i h. same i (omega arith))) (same n (omega arith))

  -- the marks of some cells and then of those after them
  pub marks_both :
      (s : Cellset) (a n : ℕ) → marks_of p first s (a + n) ≡ marks_of p first s a ++ marks_of p (first + a) (λ i. s (a + i)) n
  unfolding marks_of
  marks_both s a zero = let e : a + 0 ≡ a = omega arith in ap (marks_of p first s) e ∙ sym (append-nil (marks_of p first s a))
  marks_both s a (suc n) =
      let next : a + suc n ≡ suc (a + n) = omega arith in
      let place : first + a + n ≡ first + (a + n) = omega arith in
      let last = cond (s (a + n)) (Mark p (first + (a + n)) ∷ []) [] in
      ap (marks_of p first s) next
      ∙ ap (λ ms. ms ++ last) (marks_both s a n)
      ∙ append_assoc (marks_of p first s a) (marks_of p (first + a) (λ i. s (a + i)) n) last
      ∙ ap (λ j. marks_of p first s a ++ (marks_of p (first + a) (λ i. s (a + i)) n ++ cond (s (a + n)) (Mark p j ∷ []) [])) (sym place)

  -- no mark of cells that are not in the set
  pub marks_beyond :
      (s : Cellset) (a n : ℕ) → ((i : ℕ) → a ≤ i → i < a + n → s i ≡ false) → marks_of p first s (a + n) ≡ marks_of p first s a
  unfolding marks_of
  marks_beyond s a zero none = let e : a + 0 ≡ a = omega arith in ap (marks_of p first s) e
  marks_beyond s a (suc n) none =
      let next : a + suc n ≡ suc (a + n) = omega arith in
      ap (marks_of p first s) next
      ∙ ap (λ b. marks_of p first s (a + n) ++ cond b (Mark p (first + (a + n)) ∷ []) []) (none (a + n) (omega arith) (omega arith))
      ∙ append-nil (marks_of p first s (a + n))
      ∙ marks_beyond s a n (λ i lo hi. none i lo (omega arith))

-- they are as many as the set has cells
mark_or_none : (p i : ℕ) (b : Bool) → count_by is_mark (cond b (Mark p i ∷ []) []) ≡ cond b 1 0
mark_or_none p i true = refl
mark_or_none p i false = refl

pub count_marks : (p first : ℕ) (s : Cellset) (n : ℕ) → count_by is_mark (marks_of p first s n) ≡ size_below s n
unfolding marks_of size_below
count_marks p first s zero = refl
count_marks p first s (suc n) = go (s n) (count_marks p first s n)
  where
    go : (b : Bool) → count_by is_mark (marks_of p first s n) ≡ size_below s n → count_by is_mark (marks_of p first s n ++ cond b (Mark p (first + n) ∷ []) []) ≡ cond b (1 + size_below s n) (size_below s n)
    go true e = let all = sum_by-append (λ t. cond (is_mark t) 1 0) (marks_of p first s n) (Mark p (first + n) ∷ []) in omega (arith, mark_or_none p (first + n) true)
    go false e = ap (count_by is_mark) (append-nil (marks_of p first s n)) ∙ e
