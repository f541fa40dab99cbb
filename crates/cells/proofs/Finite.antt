-- Facts about all numbers below a bound, by a test that antt computes. Assumes nothing.
use Rattle.std.proofs.Common.{◌≡◌, ℕ, zero, suc, ◌<◌, Bool, true, ◌&&◌, refl}
use Rattle.std.proofs.lemmas.Bool.Decides.{Decides-below_and}

-- the test passes at every number below n
abbrev pub all_below : (ℕ → Bool) → ℕ → Bool
all_below p zero = true
all_below p (suc n) = p n && all_below p n

pub passes : (p : ℕ → Bool) (n : ℕ) → all_below p n ≡ true → (k : ℕ) → k < n → p k ≡ true
passes p n = (Decides-below_and p (λ k. p k ≡ true) (all_below p) (λ k. (λ e. e, λ e. e)) refl (λ _. refl) n).0

-- the same of every two numbers
pub passes_both : (p : ℕ → ℕ → Bool) (n m : ℕ) → all_below (λ j. all_below (p j) m) n ≡ true → (j k : ℕ) → j < n → k < m → p j k ≡ true
passes_both p n m e j k h i = passes (p j) m (passes (λ j'. all_below (p j') m) n e j h) k i
