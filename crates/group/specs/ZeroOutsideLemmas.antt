-- Proofs about `zero_outside`: what it gives at its elements, and that it is lawful. Assumes nothing.
use Rattle.std.specs.Prelude.{◌≡◌, ℕ, ◌<◌, ◌≤◌, Bool, true, false, ◌&&◌, ◌⊎◌, ◌≢◌, refl}
use Rattle.std.proofs.Common.{inl, inr, arith, lit≤}
use Rattle.std.proofs.lemmas.Bool.{cases_eq, cases_lt}
use Rattle.std.proofs.lemmas.Bool.Decides.{nat_tests}
use Rattle.group.specs.Group.{Group, Lawful, In, has, unusable}
use Rattle.group.specs.ZeroOutside.{zero_outside}

-- The numbers below n are an abelian group under sum, and opposite gives the inverses.
pub record Abelian (n : ℕ) (sum : ℕ → ℕ → ℕ) (opposite : ℕ → ℕ) : Type 0 where
  pub closed : (a b : ℕ) → a < n → b < n → sum a b < n
  pub commutes : (a b : ℕ) → a < n → b < n → sum a b ≡ sum b a
  pub associates : (a b c : ℕ) → a < n → b < n → c < n → sum (sum a b) c ≡ sum a (sum b c)
  pub neutral : (a : ℕ) → a < n → sum 0 a ≡ a
  pub opposed : (a : ℕ) → a < n → (opposite a < n) × (sum a (opposite a) ≡ 0)

-- At the elements of a usable group its sum and its opposite are those that it is given by.
module _ (n : ℕ) (sum : ℕ → ℕ → ℕ) (opposite : ℕ → ℕ) where
  pub at_sum : (a b : ℕ) → a < n → b < n → (zero_outside true n sum opposite).sum a b ≡ sum a b
  at_sum a b i j = grind (arith, nat_tests)

  pub at_opposite : (a : ℕ) → a < n → (zero_outside true n sum opposite).opposite a ≡ opposite a
  at_opposite a i = grind (arith, nat_tests)

  usable_lawful : 2 ≤ n → n ≤ 64 → Abelian n sum opposite → Lawful (zero_outside true n sum opposite)
  usable_lawful least most laws = record {
    least = least;
    most = omega arith;
    closed = λ u a b i j. omega (arith, at_sum a b i j, laws.closed a b i j);
    commutes = λ u a b i j. cc (at_sum a b i j, at_sum b a j i, laws.commutes a b i j);
    associates = λ u a b c i j k.
        cc (
          at_sum a b i j,
          at_sum b c j k,
          at_sum (sum a b) c (laws.closed a b i j) k,
          at_sum a (sum b c) i (laws.closed b c j k),
          laws.associates a b c i j k,
        );
    neutral = λ u a i. cc (at_sum 0 a (omega arith) i, laws.neutral a i);
    opposed = λ u a i.
        let inverse = laws.opposed a i in
        let e = at_opposite a i in
        (omega (arith, inverse.0), cc (at_sum a (opposite a) i inverse.0, inverse.1));
    outside_left = λ a b i. grind (arith, nat_tests);
    outside_right = λ a b i. grind (arith, nat_tests);
    outside_opposite = λ a i. grind (arith, nat_tests);
    unusable_sum = λ e a b. absurd (omega arith);
    unusable_opposite = λ e a. absurd (omega arith);
  }

  pub zero_outside_lawful : (usable : Bool) → (usable ≡ true → (2 ≤ n) × (n ≤ 64) × Abelian n sum opposite) → Lawful (zero_outside usable n sum opposite)
  zero_outside_lawful true given = let (least, most, laws) = given refl in usable_lawful least most laws
  zero_outside_lawful false given = record {
    least = lit≤ tt;
    most = lit≤ tt;
    closed = λ u. absurd (u refl);
    commutes = λ u. absurd (u refl);
    associates = λ u. absurd (u refl);
    neutral = λ u. absurd (u refl);
    opposed = λ u. absurd (u refl);
    outside_left = λ a b i. refl;
    outside_right = λ a b i. refl;
    outside_opposite = λ a i. refl;
    unusable_sum = λ e a b. refl;
    unusable_opposite = λ e a. refl;
  }

-- At any numbers a sum is an element, since it is 0 away from the elements; and so is an opposite.
module _ {g : Group} (laws : Lawful g) where
  pub sum_in : (a b : ℕ) → In g (g.sum a b)
  sum_in a b = inside (cases_eq g.order unusable) (cases_lt a g.order) (cases_lt b g.order)
    where
      inside : (g.order ≡ unusable) ⊎ (g.order ≢ unusable) → (a < g.order) ⊎ (g.order ≤ a) → (b < g.order) ⊎ (g.order ≤ b) → In g (g.sum a b)
      inside (inl e) _ _ = omega (arith, laws.least, laws.unusable_sum e a b)
      inside (inr u) (inr i) _ = omega (arith, laws.least, laws.outside_left a b i)
      inside (inr u) (inl i) (inr j) = omega (arith, laws.least, laws.outside_right a b j)
      inside (inr u) (inl i) (inl j) = laws.closed u a b i j

  pub opposite_in : (a : ℕ) → In g (g.opposite a)
  opposite_in a = inside (cases_eq g.order unusable) (cases_lt a g.order)
    where
      inside : (g.order ≡ unusable) ⊎ (g.order ≢ unusable) → (a < g.order) ⊎ (g.order ≤ a) → In g (g.opposite a)
      inside (inl e) _ = omega (arith, laws.least, laws.unusable_opposite e a)
      inside (inr u) (inr i) = omega (arith, laws.least, laws.outside_opposite a i)
      inside (inr u) (inl i) = (laws.opposed u a i).0

  -- Away from the elements both are 0.
  pub sum_outside : (a b : ℕ) → (has g a && has g b) ≡ false → g.sum a b ≡ 0
  sum_outside a b none = outside (cases_eq g.order unusable) (cases_lt a g.order) (cases_lt b g.order)
    where
      outside : (g.order ≡ unusable) ⊎ (g.order ≢ unusable) → (a < g.order) ⊎ (g.order ≤ a) → (b < g.order) ⊎ (g.order ≤ b) → g.sum a b ≡ 0
      outside (inl e) _ _ = laws.unusable_sum e a b
      outside (inr u) (inr i) _ = laws.outside_left a b i
      outside (inr u) (inl i) (inr j) = laws.outside_right a b j
      outside (inr u) (inl i) (inl j) = absurd (grind (arith, nat_tests))

  pub opposite_outside : (a : ℕ) → has g a ≡ false → g.opposite a ≡ 0
  opposite_outside a none = outside (cases_eq g.order unusable) (cases_lt a g.order)
    where
      outside : (g.order ≡ unusable) ⊎ (g.order ≢ unusable) → (a < g.order) ⊎ (g.order ≤ a) → g.opposite a ≡ 0
      outside (inl e) _ = laws.unusable_opposite e a
      outside (inr u) (inr i) = laws.outside_opposite a i
      outside (inr u) (inl i) = absurd (grind (arith, nat_tests))
