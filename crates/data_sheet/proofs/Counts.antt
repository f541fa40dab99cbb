-- The halves of an element, and the most halves, as counts and maxima over lists of numbers. Assumes nothing.
use Rattle.std.proofs.Common.{◌≡◌, ℕ, zero, suc, ◌+◌, ◌≤◌, max, Bool, cond, eqb, length, refl, ap, ◌∙◌, add-one, zero-add, arith}
use Rattle.std.specs.List.{filter, fold, range_with_len}
use Rattle.group.specs.Group.{Group, halves, most_halves}
use Rattle.cells.specs.Sets.{size_below}
use Rattle.cells.proofs.Sizes.{size_none, size_le, size_counted}

module _ (g : Group) where
  -- whether d is the double of a
  abbrev pub doubles : ℕ → ℕ → Bool
  doubles d a = eqb (g.sum a a) d

  halves_size : (d n : ℕ) → halves g d n ≡ size_below (doubles d) n
  unfolding halves size_below
  halves_size d zero = refl
  halves_size d (suc n) = ap (λ k. cond (doubles d n) (1 + k) k) (halves_size d n)

  pub halves_counted : (d n : ℕ) → length (filter (doubles d) (range_with_len 0 n)) ≡ halves g d n
  halves_counted d n =
      let none = size_none (doubles d) in
      let all = size_counted (doubles d) (doubles d) 0 n (λ i lo hi. refl) in
      let end = ap (size_below (doubles d)) (zero-add n) in
      omega (arith, halves_size d n)

  halves_le : (d n : ℕ) → halves g d n ≤ n
  halves_le d n = omega (arith, halves_size d n, size_le (doubles d) n)

  pub most_halves_le : (n : ℕ) → most_halves g n ≤ g.order
  unfolding most_halves
  most_halves_le zero = omega arith
  most_halves_le (suc n) = omega (arith, halves_le (suc n) g.order, most_halves_le n)

  one_more : (k : ℕ) → max (most_halves g k) (halves g (k + 1) g.order) ≡ most_halves g (k + 1)
  unfolding most_halves
  one_more k = rw add-one (omega arith)

  -- the n elements after the first k
  more :
      (k n : ℕ) → fold (λ most d. max most (halves g d g.order)) (most_halves g k) (range_with_len (k + 1) n) ≡ most_halves g (k + n)
  more k zero = ap (most_halves g) (omega arith)
  more k (suc n) =
      ap (λ most. fold (λ m d. max m (halves g d g.order)) most (range_with_len (k + 1 + 1) n)) (one_more k)
      ∙ more (k + 1) n ∙ ap (most_halves g) (omega arith)

  pub most_folded : (n : ℕ) → fold (λ most d. max most (halves g d g.order)) 0 (range_with_len 1 n) ≡ most_halves g n
  unfolding most_halves
  most_folded n = more 0 n ∙ ap (most_halves g) (zero-add n)
