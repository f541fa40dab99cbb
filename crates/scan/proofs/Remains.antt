-- The first piece of bytes that are left to cut, and what is left after it. Assumes nothing.
use Rattle.std.proofs.Common.{◌≡◌, ℕ, ◌+◌, ◌<◌, ◌≤◌, ◌⊎◌, Bool, eqb, not, List, [], ◌∷◌, length, take, drop, Some, None, Option, Bor, sym, refl, ap, ◌∙◌, subst, inl, inr, arith}
use Rattle.std.specs.List.{PartBy, position_or_len, position}
use Rattle.std.specs.Option.{unwrap_or}
use Rattle.std.proofs.lemmas.List.{take_all, length-drop}
use Rattle.std.proofs.lemmas.List.Sums.{fails_before_first, prefix_len-le-length}
use Rattle.std.proofs.lemmas.List.Splits.{slice_split_first, slice_split_none}
use Rattle.std.proofs.lemmas.Bool.{cases_lt, lt-ltb, le-ltb}
use Rattle.scan.specs.Rest.{reach}
use Rattle.scan.specs.Pieces.{cut, pieces_in}

module _ (b : ℕ) (xs : List ℕ) where
  abbrev is_b : ℕ → Bool
  is_b x = eqb x b

  abbrev first_end : ℕ
  first_end = position_or_len is_b xs

  pub end_within : position_or_len (λ x. eqb x b) xs ≤ length xs
  end_within = prefix_len-le-length (λ x. not (eqb x b)) xs

  -- the place of the first separator, or the end
  pub end_found : (r : Option ℕ) → r ≡ position (λ x. eqb x b) xs → unwrap_or r (length xs) ≡ position_or_len (λ x. eqb x b) xs
  end_found r is = go (cases_lt first_end (length xs))
    where
      go : (first_end < length xs) ⊎ (length xs ≤ first_end) → unwrap_or r (length xs) ≡ position_or_len (λ x. eqb x b) xs
      go (inl inside) = rw (is, lt-ltb first_end (length xs) inside) refl
      go (inr past) = rw (is, le-ltb first_end (length xs) past) (let w = end_within in omega arith)

  -- The first piece ends at the first separator, and `get` gives the bytes after that, or none where the piece is the last.
  first_taken :
      (r : Option (Bor (List ℕ))) → PartBy (λ (x : Bor (List ℕ)). x.now) xs (first_end + 1) (length xs) r →
      cut b xs ≡ take first_end xs ∷ pieces_in b r
  unfolding cut
  first_taken (Some rest) part =
      let found = part.0 in
      let inside : first_end < length xs = omega (arith, found.0, found.1) in
      let whole : rest.now ≡ drop (first_end + 1) xs = found.2 ∙ take_all _ (drop (first_end + 1) xs) (omega (arith, length-drop (first_end + 1) xs)) in
      slice_split_first is_b xs 0 inside ∙ ap (λ ys. take first_end xs ∷ cut b ys) (sym whole)
  first_taken None part =
      let last : length xs ≤ first_end = go part.0 in
      slice_split_none is_b xs (λ k d h. fails_before_first is_b xs k d (omega arith)) ∙ ap (λ p. p ∷ []) (sym (take_all first_end xs last))
    where
      go : (length xs < first_end + 1) ⊎ (length xs < length xs) → length xs ≤ first_end
      go (inl h) = omega arith
      go (inr h) = absurd (omega arith)

-- the same, where the end is known by its place
pub left_first :
    (b : ℕ) (xs : List ℕ) (end : ℕ) (r : Option (Bor (List ℕ))) → end ≡ position_or_len (λ x. eqb x b) xs →
    PartBy (λ (x : Bor (List ℕ)). x.now) xs (end + 1) (length xs) r → cut b xs ≡ take end xs ∷ pieces_in b r
left_first b xs end r is part =
    subst (λ e. cut b xs ≡ take e xs ∷ pieces_in b r) (sym is)
    (first_taken b xs r (subst (λ e. PartBy (λ (x : Bor (List ℕ)). x.now) xs (e + 1) (length xs) r) is part))

-- what is left reaches as far as before
pub reach_kept :
    (at end : ℕ) (xs : List ℕ) (r : Option (Bor (List ℕ))) → end ≤ length xs → PartBy (λ (x : Bor (List ℕ)). x.now) xs (end + 1) (length xs) r →
    reach (at + end + 1) r ≡ at + length xs + 1
reach_kept at end xs (Some rest) within part = omega (arith, part.0.3)
reach_kept at end xs None within part = omega (arith, go part.0)
  where
    go : (length xs < end + 1) ⊎ (length xs < length xs) → length xs ≤ end
    go (inl h) = omega arith
    go (inr h) = absurd (omega arith)
