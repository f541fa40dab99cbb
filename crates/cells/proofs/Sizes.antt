-- How many cells a set has, one cell after the other. Assumes nothing.
use Rattle.std.proofs.Common.{◌≡◌, ℕ, zero, suc, ◌+◌, ◌≤◌, Bool, true, false, cond, List, ◌∷◌, length, refl, ap, ◌∙◌, ◌<◌, add-one, arith}
use Rattle.std.specs.List.{filter, range_with_len}
use Rattle.cells.specs.Sets.{Cellset, size_below}

module _ (s : Cellset) where
  pub size_none : size_below s 0 ≡ 0
  unfolding size_below
  size_none = refl

  pub size_with : (n : ℕ) → s n ≡ true → size_below s (n + 1) ≡ size_below s n + 1
  unfolding size_below
  size_with n e = rw (add-one, e) (omega arith)

  pub size_without : (n : ℕ) → s n ≡ false → size_below s (n + 1) ≡ size_below s n
  unfolding size_below
  size_without n e = rw (add-one, e) refl

  pub size_le : (n : ℕ) → size_below s n ≤ n
  unfolding size_below
  size_le zero = omega arith
  size_le (suc n) = go (s n) (size_le n)
    where
      go : (b : Bool) → size_below s n ≤ n → cond b (1 + size_below s n) (size_below s n) ≤ suc n
      go true h = omega arith
      go false h = omega arith

  -- the cells of a range that pass a test which agrees with the set there
  one_more :
      (test : ℕ → Bool) (a : ℕ) (rest : List ℕ) (b : Bool) → test a ≡ b → s a ≡ b →
      size_below s a + length (cond (test a) (a ∷ rest) rest) ≡ size_below s (a + 1) + length rest
  one_more test a rest true h e = let more = size_with a e in rw h (omega arith)
  one_more test a rest false h e = let more = size_without a e in rw h (omega arith)

  pub size_counted :
      (test : ℕ → Bool) (a n : ℕ) → ((i : ℕ) → a ≤ i → i < a + n → test i ≡ s i) →
      size_below s a + length (filter test (range_with_len a n)) ≡ size_below s (a + n)
  size_counted test a zero same = let end : a + 0 ≡ a = omega arith in let none = ap (size_below s) end in omega arith
  size_counted test a (suc n) same =
      let end : a + 1 + n ≡ a + suc n = omega arith in
      one_more test a (filter test (range_with_len (a + 1) n)) (s a) (same a (omega arith) (omega arith)) refl
      ∙ size_counted test (a + 1) n (λ i lo hi. same i (omega arith) (omega arith)) ∙ ap (size_below s) end
