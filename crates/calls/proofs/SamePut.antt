-- A put by one plan in cells that agree leaves cells that agree. Assumes nothing.
use Rattle.std.proofs.Common.{◌≡◌, ℕ, ◌+◌, ◌-◌, ◌*◌, ◌<◌, ◌≤◌, ◌&&◌, ◌||◌, not, ◌⊎◌, sym, ap, ◌∙◌, ap₂, inl, inr, arith}
use Rattle.std.proofs.lemmas.Bool.{cases_eq, cases_lt}
use Rattle.cells.specs.Cells.{Cells, Shaped, Cell, Alike}
use Rattle.cells.specs.Sets.{Cellset}
use Rattle.cells.proofs.Alikes.{shaped_back, page_there, cell_there, cell_back}
use Rattle.coset.specs.Code.{Code}
use Rattle.coset.specs.OnePlan.{SameCells}
use Rattle.calls.specs.Records.{page_of, first_of, Within, held}
use Rattle.calls.specs.Calls.{Sets}
use Rattle.calls.specs.Steps.{marks_of, newly_set}
use Rattle.calls.proofs.Geometry.{There, page_same, place_same}
use Rattle.calls.proofs.Marks.{marks_agree}
use Rattle.calls.proofs.SameRecord.{shape_left, page_too, first_too, held_same}

-- a cell lies within a record, or does not
within_or : (c : Code) (m : Cells) (k p j : ℕ) → Within c m k p j ⊎ (Within c m k p j → ⊥)
within_or c m k p j = go (cases_eq p (page_of c m k)) (cases_lt j (first_of c m k)) (cases_lt j (first_of c m k + c.cells))
  where
    go :
        (p ≡ page_of c m k) ⊎ (p ≡ page_of c m k → ⊥) → (j < first_of c m k) ⊎ (first_of c m k ≤ j) →
        (j < first_of c m k + c.cells) ⊎ (first_of c m k + c.cells ≤ j) → Within c m k p j ⊎ (Within c m k p j → ⊥)
    go (inl e) (inr lo) (inl hi) = inl (record { page = e; from = lo; below = hi })
    go (inr ne) _ _ = inr (λ w. ne w.page)
    go (inl e) (inl early) _ = inr (λ w. let lo = w.from in omega arith)
    go (inl e) (inr lo) (inr late) = inr (λ w. let hi = w.below in omega arith)

-- a cell within a record is one that the record holds
in_record : (c : Code) (k : ℕ) (m n : Cells) (p j : ℕ) → Shaped m n → Within c m k p j → n.set p j ≡ held c n k (j - first_of c m k)
in_record c k m n p j shape w =
    let from = w.from in
    ap₂ n.set (w.page ∙ sym (page_same c m n shape k)) (omega (arith, ap (λ q. q * c.cells) (place_same c m n shape k)))

module _ (c : Code) (m m' : Cells) (alike : Alike m m') (k : ℕ) (at : There c m k) (n n' : Cells) (s s' : Cellset) (same : SameCells c s s') (sets : Sets c k s m n) (sets' : Sets c k s' m' n') where
  within_there : (p j : ℕ) → Within c m k p j → Within c m' k p j
  within_there p j w =
      let first = first_too c m m' alike k in
      let lo = w.from in
      let hi = w.below in
      record { page = w.page ∙ sym (page_too c m m' alike k); from = omega arith; below = omega arith }

  within_back : (p j : ℕ) → Within c m' k p j → Within c m k p j
  within_back p j w =
      let first = first_too c m m' alike k in
      let lo = w.from in
      let hi = w.below in
      record { page = w.page ∙ page_too c m m' alike k; from = omega arith; below = omega arith }

  -- the record holds the same afterwards
  here_same : SameCells c (held c n k) (held c n' k)
  here_same i h =
      sets'.here i h ∙ ap₂ (λ a b. a || b) (held_same c m m' alike k at i h) (same i h) ∙ sym (sets.here i h)

  set_same : (p j : ℕ) → Cell m p j → Within c m k p j ⊎ (Within c m k p j → ⊥) → n'.set p j ≡ n.set p j
  set_same p j cell (inl w) =
      let lo = w.from in
      let hi = w.below in
      in_record c k m' n' p j sets'.shape (within_there p j w) ∙ ap (λ q. held c n' k (j - q)) (first_too c m m' alike k)
      ∙ here_same (j - first_of c m k) (omega arith) ∙ sym (in_record c k m n p j sets.shape w)
  set_same p j cell (inr outside) =
      sets'.others p j (cell_back alike.shape cell) (λ w. outside (within_back p j w)) ∙ alike.set p j cell
      ∙ sym (sets.others p j cell outside)

  pub put_alike : Alike n n'
  put_alike = record {
    shape = shape_left alike sets.shape sets'.shape;
    set = λ p j cell. set_same p j (cell_there sets.shape cell) (within_or c m k p j);
    wear = λ p h.
        let page = page_there sets.shape h in
        sets'.wear p (page_there (shaped_back alike.shape) page) ∙ alike.wear p page ∙ sym (sets.wear p page);
  }

  pub put_steps :
      marks_of (page_of c m' k) (first_of c m' k) (newly_set c m' n' k) c.cells
      ≡ marks_of (page_of c m k) (first_of c m k) (newly_set c m n k) c.cells
  put_steps =
      ap₂ (λ p j. marks_of p j (newly_set c m' n' k) c.cells) (page_too c m m' alike k) (first_too c m m' alike k)
      ∙ marks_agree (page_of c m k) (first_of c m k) (newly_set c m' n' k) (newly_set c m n k) c.cells newly_same
    where
      newly_same : (i : ℕ) → i < c.cells → newly_set c m' n' k i ≡ newly_set c m n k i
      newly_same i h =
          ap₂ (λ a b. a && not b)
          (sym (ap₂ (λ p j. n'.set p (j + i)) (page_same c m' n' sets'.shape k) (ap (λ q. q * c.cells) (place_same c m' n' sets'.shape k)))
          ∙ here_same i h
          ∙ ap₂ (λ p j. n.set p (j + i)) (page_same c m n sets.shape k) (ap (λ q. q * c.cells) (place_same c m n sets.shape k)))
          (held_same c m m' alike k at i h)
