-- Lines taken one after another. Assumes nothing.
use Rattle.std.proofs.Common.{◌≡◌, ℕ, ◌+◌, ◌<◌, ◌≤◌, List, [], ◌∷◌, length, refl, ap, ◌∙◌, arith}
use Rattle.script.specs.Lines.{numbered}

-- a line that is not empty has its number; an empty one only counts
module _ (k : ℕ) (l : List ℕ) (ls all : List (List ℕ)) (first : all ≡ l ∷ ls) where
  pub numbered_some : 0 < length l → numbered k all ≡ (l, k) ∷ numbered (k + 1) ls
  unfolding numbered
  numbered_some some = ap (numbered k) first ∙ go l some
    where
      go : (l : List ℕ) → 0 < length l → numbered k (l ∷ ls) ≡ (l, k) ∷ numbered (k + 1) ls
      go [] h = absurd (omega arith)
      go (b ∷ rest) h = refl

  pub numbered_empty : length l ≤ 0 → numbered k all ≡ numbered (k + 1) ls
  unfolding numbered
  numbered_empty none = ap (numbered k) first ∙ go l none
    where
      go : (l : List ℕ) → length l ≤ 0 → numbered k (l ∷ ls) ≡ numbered (k + 1) ls
      go [] h = refl
      go (b ∷ rest) h = absurd (omega arith)

pub numbered_none : (k : ℕ) (ls : List (List ℕ)) → ls ≡ [] → numbered k ls ≡ []
unfolding numbered
numbered_none k ls e = ap (numbered k) e
