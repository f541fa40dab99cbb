-- Sums of numbers over the numbers below a bound. Assumes nothing.
use Rattle.std.proofs.Common.{◌≡◌, ℕ, zero, suc, ◌+◌, ◌<◌, ◌≤◌, Bool, true, false, cond, eqb, ◌⊎◌, sym, refl, ap, ◌∙◌, ap₂, inl, inr, arith}
use Rattle.std.proofs.lemmas.Bool.{cases_eq, eq-eqb, ne_eqb}
use Rattle.cells.specs.Sets.{Cellset, size_below}

-- f 0 + … + f (n - 1)
abbrev pub add_up : (ℕ → ℕ) → ℕ → ℕ
add_up f zero = 0
add_up f (suc n) = f n + add_up f n

pub add_same : (f h : ℕ → ℕ) (n : ℕ) → ((i : ℕ) → i < n → f i ≡ h i) → add_up f n ≡ add_up h n
add_same f h zero same = refl
add_same f h (suc n) same = ap₂ (λ a b. a + b) (same n (omega arith)) (add_same f h n (λ i lt. same i (omega arith)))

pub add_le : (f h : ℕ → ℕ) (n : ℕ) → ((i : ℕ) → i < n → f i ≤ h i) → add_up f n ≤ add_up h n
add_le f h zero le = omega arith
add_le f h (suc n) le = let a = le n (omega arith) in let b = add_le f h n (λ i lt. le i (omega arith)) in omega arith

pub add_plus : (f h : ℕ → ℕ) (n : ℕ) → add_up (λ i. f i + h i) n ≡ add_up f n + add_up h n
add_plus f h zero = refl
add_plus f h (suc n) = let rest = add_plus f h n in omega arith

pub add_none : (n : ℕ) → add_up (λ i. 0) n ≡ 0
add_none zero = refl
add_none (suc n) = let rest = add_none n in omega arith

pub add_ones : (n : ℕ) → add_up (λ i. 1) n ≡ n
add_ones zero = refl
add_ones (suc n) = let rest = add_ones n in omega arith

-- the first first
pub add_shift : (f : ℕ → ℕ) (n : ℕ) → add_up f (suc n) ≡ f 0 + add_up (λ i. f (suc i)) n
add_shift f zero = refl
add_shift f (suc n) = let rest = add_shift f n in omega arith

-- rows before columns or columns before rows
pub add_swap : (f : ℕ → ℕ → ℕ) (n m : ℕ) → add_up (λ i. add_up (f i) m) n ≡ add_up (λ j. add_up (λ i. f i j) n) m
add_swap f zero m = sym (add_none m)
add_swap f (suc n) m = ap (λ k. add_up (f n) m + k) (add_swap f n m) ∙ sym (add_plus (f n) (λ j. add_up (λ i. f i j) n) m)

-- one of them alone
pub add_pick : (f : ℕ → ℕ) (j n : ℕ) → j < n → add_up (λ i. cond (eqb i j) (f i) 0) n ≡ f j
add_pick f j zero h = absurd (omega arith)
add_pick f j (suc n) h = go (cases_eq n j) (add_pick f j n)
  where
    go : ((n ≡ j) ⊎ (n ≡ j → ⊥)) → (j < n → add_up (λ i. cond (eqb i j) (f i) 0) n ≡ f j) → cond (eqb n j) (f n) 0 + add_up (λ i. cond (eqb i j) (f i) 0) n ≡ f j
    go (inl e) earlier =
        let others = add_same (λ i. cond (eqb i j) (f i) 0) (λ i. 0) n (λ i lt. ap (λ b. cond b (f i) 0) (ne_eqb i j (λ same. omega arith))) in
        let nothing = add_none n in
        let here : cond (eqb n j) (f n) 0 ≡ f j = ap (λ b. cond b (f n) 0) (eq-eqb n j e) ∙ ap f e in
        omega arith
    go (inr ne) earlier =
        let rest = earlier (omega arith) in
        let here : cond (eqb n j) (f n) 0 ≡ 0 = ap (λ b. cond b (f n) 0) (ne_eqb n j ne) in
        omega arith

-- A sum stays the same when the numbers change places by a map that is its own inverse.
module _ (π : ℕ → ℕ) (n : ℕ) (inside : (i : ℕ) → i < n → π i < n) (twice : (i : ℕ) → i < n → π (π i) ≡ i) where
  meets : (i j : ℕ) → i < n → j < n → eqb j (π i) ≡ eqb i (π j)
  meets i j hi hj = go (cases_eq j (π i))
    where
      go : ((j ≡ π i) ⊎ (j ≡ π i → ⊥)) → eqb j (π i) ≡ eqb i (π j)
      go (inl e) = eq-eqb j (π i) e ∙ sym (eq-eqb i (π j) (sym (ap π e ∙ twice i hi)))
      go (inr ne) = ne_eqb j (π i) ne ∙ sym (ne_eqb i (π j) (λ e. ne (sym (ap π e ∙ twice j hj))))

  pub add_places : (f : ℕ → ℕ) → add_up (λ i. f (π i)) n ≡ add_up f n
  add_places f =
      add_same (λ i. f (π i)) (λ i. add_up (λ j. cond (eqb j (π i)) (f j) 0) n) n (λ i h. sym (add_pick f (π i) n (inside i h)))
      ∙ add_swap (λ i j. cond (eqb j (π i)) (f j) 0) n n
      ∙ add_same (λ j. add_up (λ i. cond (eqb j (π i)) (f j) 0) n) f n
      (λ j h.
      add_same (λ i. cond (eqb j (π i)) (f j) 0) (λ i. cond (eqb i (π j)) (f j) 0) n (λ i k. ap (λ b. cond b (f j) 0) (meets i j k h))
      ∙ add_pick (λ i. f j) (π j) n (inside j h))

-- the size of a set as such a sum
pub size_adds : (s : Cellset) (n : ℕ) → size_below s n ≡ add_up (λ i. cond (s i) 1 0) n
unfolding size_below
size_adds s zero = refl
size_adds s (suc n) = go (s n) (size_adds s n)
  where
    go : (b : Bool) → size_below s n ≡ add_up (λ i. cond (s i) 1 0) n → cond b (1 + size_below s n) (size_below s n) ≡ cond b 1 0 + add_up (λ i. cond (s i) 1 0) n
    go true e = omega arith
    go false e = omega arith
