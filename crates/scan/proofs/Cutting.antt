-- Cutting a list at a separator and joining its pieces again. Assumes nothing.
use Rattle.std.proofs.Common.{◌≡◌, ℕ, zero, suc, ◌<◌, Bool, true, false, cond, eqb, List, [], ◌∷◌, ◌++◌, length, get_or, sym, refl, ap, ◌∙◌, arith}
use Rattle.std.specs.List.{All, AllByRecursion, slice_split, onto_first}
use Rattle.std.proofs.lemmas.List.{get_or_default}
use Rattle.std.proofs.lemmas.List.Splits.{slice_split_none, slice_split_at, length-slice_split, join_with_byte-slice_split}
use Rattle.std.proofs.lemmas.Bool.{eq-eqb, ne_eqb, eqb-false}
use Rattle.scan.specs.Pieces.{cut, joined, Lacks, Cuts, CutLaw}

module _ (b : ℕ) where
  pub lacks_none : Lacks b []
  lacks_none k h = absurd (omega arith)

  pub lacks_more : (x : ℕ) (xs : List ℕ) → (x ≡ b → ⊥) → Lacks b xs → Lacks b (x ∷ xs)
  lacks_more x xs other lacks zero h = other
  lacks_more x xs other lacks (suc k) h = lacks k (omega arith)

  pub lacks_first : (x : ℕ) (xs : List ℕ) → Lacks b (x ∷ xs) → x ≡ b → ⊥
  lacks_first x xs lacks = lacks 0 (omega arith)

  pub lacks_rest : (x : ℕ) (xs : List ℕ) → Lacks b (x ∷ xs) → Lacks b xs
  lacks_rest x xs lacks k h = lacks (suc k) (omega arith)

  pub lacks_append : (xs ys : List ℕ) → Lacks b xs → Lacks b ys → Lacks b (xs ++ ys)
  lacks_append [] ys none more = more
  lacks_append (x ∷ xs) ys none more =
      lacks_more x (xs ++ ys) (lacks_first x xs none) (lacks_append xs ys (lacks_rest x xs none) more)

  lacks_all : (xs : List ℕ) → Lacks b xs → All (λ x. eqb x b ≡ false) xs
  lacks_all xs lacks k d h = ne_eqb (get_or xs k d) b (λ same. lacks k h (get_or_default xs k 0 d h ∙ same))

  -- a list that has no separator is its only piece
  pub cut_alone : (p : List ℕ) → Lacks b p → cut b p ≡ p ∷ []
  unfolding cut
  cut_alone p lacks = slice_split_none (λ x. eqb x b) p (lacks_all p lacks)

  -- the first separator ends the first piece
  pub cut_first : (p rest : List ℕ) → Lacks b p → cut b (p ++ (b ∷ rest)) ≡ p ∷ cut b rest
  unfolding cut
  cut_first p rest lacks = slice_split_at (λ x. eqb x b) p b rest (lacks_all p lacks) (eq-eqb b b refl)

  -- pieces without the separator are cut apart again
  pub cut_joined : (p : List ℕ) (ps : List (List ℕ)) → AllByRecursion (Lacks b) (p ∷ ps) → cut b (joined b (p ∷ ps)) ≡ p ∷ ps
  unfolding joined
  cut_joined p [] clean = cut_alone p clean.0
  cut_joined p (q ∷ ps) clean =
      cut_first p (joined b (q ∷ ps)) clean.0 ∙ ap (λ (qs : List (List ℕ)). p ∷ qs) (cut_joined q ps clean.1)

  pub cut_some : (xs : List ℕ) → 0 < length (cut b xs)
  unfolding cut
  cut_some xs = omega (arith, length-slice_split (λ x. eqb x b) xs)

  -- no piece has the separator
  pub cut_clean : (xs : List ℕ) → AllByRecursion (Lacks b) (cut b xs)
  unfolding cut
  cut_clean [] = (lacks_none, tt)
  cut_clean (x ∷ xs) = go (eqb x b) refl (slice_split (λ y. eqb y b) xs) (cut_clean xs)
    where
      go : (same : Bool) → eqb x b ≡ same → (ps : List (List ℕ)) → AllByRecursion (Lacks b) ps → AllByRecursion (Lacks b) (cond same ([] ∷ ps) (onto_first x ps))
      go true e ps clean = (lacks_none, clean)
      go false e [] clean = (lacks_more x [] (eqb-false x b e) lacks_none, tt)
      go false e (p ∷ ps) clean = (lacks_more x p (eqb-false x b e) clean.0, clean.1)

  -- joined again, the pieces are what was cut
  pub joined_cut : (xs : List ℕ) → joined b (cut b xs) ≡ xs
  unfolding cut joined
  joined_cut xs = join_with_byte-slice_split b xs

  only_pieces : (xs : List ℕ) (ps : List (List ℕ)) → Cuts b xs ps → ps ≡ cut b xs
  only_pieces xs [] cuts = absurd (let some = cuts.some in omega arith)
  only_pieces xs (p ∷ ps) cuts = sym (cut_joined p ps cuts.clean) ∙ ap (cut b) cuts.joins

-- cut gives the pieces, and there are no others
pub cut_law : CutLaw
cut_law b xs = (record { some = cut_some b xs; clean = cut_clean b xs; joins = joined_cut b xs }, only_pieces b xs)
