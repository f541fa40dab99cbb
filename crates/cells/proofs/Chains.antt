-- Arrays that take steps, one after the other. Assumes nothing.
use Rattle.std.proofs.Common.{◌≡◌, ℕ, ◌+◌, Bool, true, false, not, ◌&&◌, ◌||◌, List, [], ◌∷◌, ◌++◌, ◌==◌, ◌<◌, cond, sym, refl, ap, ◌∙◌, subst, inl, inr, ◌⊎◌, arith}
use Rattle.std.specs.List.{flat_map}
use Rattle.std.proofs.lemmas.List.Sums.{sum_by-cons}
use Rattle.std.proofs.lemmas.Bool.{cases_eq, eq-eqb, ne_eqb}
use Rattle.cells.specs.declared.array.CellArray.{Ghosts}
use Rattle.cells.specs.Cells.{Cells, Shaped, Cell}
use Rattle.cells.proofs.Alikes.{shaped_itself, shaped_then, cell_back}
use Rattle.cells.specs.Steps.{Step, Stepped}
use Rattle.cells.specs.Steps.Step.{Mark, Erase, MarkRefused, EraseRefused}
use Rattle.cells.specs.Chain.{Chain, Takes, CellsAfter, set_after, set_after_one, is_erase_of}

module _ {A : Type 0} (one : A → Step → A → Type 0) where
  -- steps, and then others
  pub chain_both : (xs ys : List Step) (a b c : A) → Chain one xs a b → Chain one ys b c → Chain one (xs ++ ys) a c
  chain_both [] ys a b c first second = subst (λ z. Chain one ys z c) first second
  chain_both (s ∷ xs) ys a b c first second = (first.0, first.1, chain_both xs ys first.0 b c first.2 second)

  pub chain_one : (s : Step) (a b : A) → one a s b → Chain one (s ∷ []) a b
  chain_one s a b step = (b, step, refl)

-- the steps of what is seen of an array, of which each of its own is some
pub chain_within :
    {A B : Type 0} (one : A → Step → A → Type 0) (those : B → Step → B → Type 0) (view : B → A) (each : Step → List Step) →
    ((a : B) (s : Step) (b : B) → those a s b → Chain one (each s) (view a) (view b)) →
    (ss : List Step) (a b : B) → Chain those ss a b → Chain one (flat_map each ss) (view a) (view b)
chain_within one those view each seen [] a b none = ap view none
chain_within one those view each seen (s ∷ ss) a b taken =
    chain_both one (each s) (flat_map each ss) (view a) (view taken.0) (view b) (seen a s taken.0 taken.1)
    (chain_within one those view each seen ss taken.0 b taken.2)

-- the same steps
pub chain_through :
    {A B : Type 0} (one : A → Step → A → Type 0) (those : B → Step → B → Type 0) (view : B → A) →
    ((a : B) (s : Step) (b : B) → those a s b → one (view a) s (view b)) →
    (ss : List Step) (a b : B) → Chain those ss a b → Chain one ss (view a) (view b)
chain_through one those view seen [] a b none = ap view none
chain_through one those view seen (s ∷ ss) a b taken =
    (view taken.0, seen a s taken.0 taken.1, chain_through one those view seen ss taken.0 b taken.2)

-- what one step tells
one_shape : (s : Step) (m n : Cells) → Stepped s m n → Shaped m n
one_shape (Mark q j) m n step = step.1.shape
one_shape (Erase q) m n step = step.1.shape
one_shape (MarkRefused q j) m n step = rw step.1 (shaped_itself m)
one_shape (EraseRefused q) m n step = rw step.1 (shaped_itself m)

one_set : (s : Step) (m n : Cells) → Stepped s m n → (p i : ℕ) → Cell m p i → n.set p i ≡ set_after_one s p i (m.set p i)
one_set (Mark q j) m n step p i cell = go (cases_eq q p) (cases_eq j i)
  where
    tests : (x y : Bool) → (q == p) ≡ x → (j == i) ≡ y → set_after_one (Mark q j) p i (m.set p i) ≡ ((x && y) || m.set p i)
    tests x y e f = rw (e, f) refl

    go : (q ≡ p) ⊎ (q ≡ p → ⊥) → (j ≡ i) ⊎ (j ≡ i → ⊥) → n.set p i ≡ set_after_one (Mark q j) p i (m.set p i)
    go (inl e) (inl f) = subst (λ k. n.set k i ≡ true) e (subst (λ k. n.set q k ≡ true) f step.1.here) ∙ sym (tests true true (eq-eqb q p e) (eq-eqb j i f))
    go (inl e) (inr f) = step.1.others p i cell (λ same. f (sym same.1)) ∙ sym (tests true false (eq-eqb q p e) (ne_eqb j i f))
    go (inr e) _ = step.1.others p i cell (λ same. e (sym same.0)) ∙ sym (ap (λ x. (x && (j == i)) || m.set p i) (ne_eqb q p e))
one_set (Erase q) m n step p i cell = go (cases_eq q p)
  where
    go : (q ≡ p) ⊎ (q ≡ p → ⊥) → n.set p i ≡ (not (q == p) && m.set p i)
    go (inl e) = subst (λ k. n.set k i ≡ false) e (step.1.here i cell.cell) ∙ sym (ap (λ x. not x && m.set p i) (eq-eqb q p e))
    go (inr e) = step.1.others p i cell (λ same. e (sym same)) ∙ sym (ap (λ x. not x && m.set p i) (ne_eqb q p e))
one_set (MarkRefused q j) m n step p i cell = ap (λ (k : Cells). k.set p i) step.1
one_set (EraseRefused q) m n step p i cell = ap (λ (k : Cells). k.set p i) step.1

one_wear : (s : Step) (m n : Cells) → Stepped s m n → (p : ℕ) → p < m.pages → n.wear p ≡ m.wear p + cond (is_erase_of p s) 1 0
one_wear (Mark q j) m n step p there = let e = step.1.wear p there in omega arith
one_wear (Erase q) m n step p there = go (cases_eq q p)
  where
    go : (q ≡ p) ⊎ (q ≡ p → ⊥) → n.wear p ≡ m.wear p + cond (q == p) 1 0
    go (inl e) = subst (λ k. n.wear k ≡ m.wear k + 1) e step.1.worn ∙ sym (ap (λ x. m.wear p + cond x 1 0) (eq-eqb q p e))
    go (inr e) = let kept = step.1.unworn p there (λ same. e (sym same)) in rw (ne_eqb q p e) (omega arith)
one_wear (MarkRefused q j) m n step p there = let e = ap (λ (k : Cells). k.wear p) step.1 in omega arith
one_wear (EraseRefused q) m n step p there = let e = ap (λ (k : Cells). k.wear p) step.1 in omega arith

module _ {A : Type 0} (array : Ghosts A) where
  pub steps_tell : (ss : List Step) (a b : A) → Takes array ss a b → CellsAfter ss (array.cells a) (array.cells b)
  unfolding set_after
  steps_tell [] a b none =
      rw none
      (record { shape = shaped_itself _; set = λ p i cell. refl; wear = λ p there. omega arith })
  steps_tell (s ∷ ss) a b taken =
      let m = array.cells a in
      let mid = array.cells taken.0 in
      let step = taken.1.0 in
      let shape = one_shape s m mid step in
      let rest = steps_tell ss taken.0 b taken.2 in
      record {
        shape = shaped_then shape rest.shape;
        set = λ p i cell.
            rest.set p i (cell_back shape cell)
            ∙ ap (set_after ss p i) (one_set s m mid step p i cell);
        wear = λ p there.
            let later = rest.wear p (rw shape.pages there) in
            let one = one_wear s m mid step p there in
            let all = sum_by-cons (λ t. cond (is_erase_of p t) 1 0) s ss in
            omega arith;
      }
