-- What the list of the cells of a set has, and that dictionary order is a total order, by the first place where two
-- lists differ. Assumes nothing.
use Rattle.std.proofs.Common.{◌≡◌, ℕ, zero, suc, ◌+◌, ◌<◌, ◌≤◌, Bool, true, false, cond, ◌⊎◌, List, [], ◌∷◌, length, get_or, take, drop, Ordering, Less, Equal, Greater, sym, refl, ap, ◌∙◌, ap₂, subst, inl, inr, arith}
use Rattle.std.specs.Prelude.{Contains, slice_index}
use Rattle.std.specs.Cmp.Lexicographic.{slice_cmp}
use Rattle.std.specs.List.{range_with_len}
use Rattle.std.specs.List.Sorted.{IsStrictlyIncreasing}
use Rattle.std.specs.Ordering.{nat_cmp, is_le, ordering_reverse}
use Rattle.std.proofs.lemmas.Bool.{both_ways, cases_eq}
use Rattle.std.proofs.lemmas.Cmp.{nat_list_cmp_total}
use Rattle.std.proofs.lemmas.List.FromFn.{length-range_with_len, get_or-range_with_len}
use Rattle.std.proofs.lemmas.List.Kept.{IsStrictlyIncreasing-filter}
use Rattle.cells.specs.Sets.{Cellset}
use Rattle.coset.specs.Code.{ComesNoLater}
use Rattle.coset.specs.CellLists.{CellsListed, ComesBefore, FirstPlaceDecides, TotalOrder}
use Rattle.coset.proofs.Lists.{cells_from, cells_whole, NoLaterBy, no_later, no_later_by, no_later_both}

-- a number that a list has is its first or one of the rest
contains_cases : (x i : ℕ) (xs : List ℕ) → Contains (x ∷ xs) i → (x ≡ i) ⊎ Contains xs i
contains_cases x i xs (zero, inside, is) = inl is
contains_cases x i xs (suc k, inside, is) = inr (k, omega arith, is)

contains_later : (x i : ℕ) (xs : List ℕ) → Contains xs i → Contains (x ∷ xs) i
contains_later x i xs (k, inside, is) = (suc k, omega arith, is)

-- the list has no other cells than those of the set among these
only_members : (s : Cellset) (i n j : ℕ) → Contains (cells_from s i n) j → (i ≤ j) × (j < i + n) × (s j ≡ true)
only_members s i zero j (k, inside, is) = absurd (omega arith)
only_members s i (suc n) j h = go (s i) refl (only_members s (i + 1) n j) h
  where
    Among : Type 0
    Among = (i ≤ j) × (j < i + suc n) × (s j ≡ true)

    wider : (i + 1 ≤ j) × (j < i + 1 + n) × (s j ≡ true) → Among
    wider found = let from = found.0 in let below = found.1 in (omega arith, omega arith, found.2)

    go :
        (b : Bool) → s i ≡ b → (Contains (cells_from s (i + 1) n) j → (i + 1 ≤ j) × (j < i + 1 + n) × (s j ≡ true)) →
        Contains (cond b (i ∷ cells_from s (i + 1) n) (cells_from s (i + 1) n)) j → Among
    go false e later there = wider (later there)
    go true e later there = by (contains_cases i j (cells_from s (i + 1) n) there)
      where
        by : (i ≡ j) ⊎ Contains (cells_from s (i + 1) n) j → Among
        by (inl same) = (omega arith, omega arith, ap s (sym same) ∙ e)
        by (inr rest) = wider (later rest)

-- and it has each of them
each_member : (s : Cellset) (i n j : ℕ) → i ≤ j → j < i + n → s j ≡ true → Contains (cells_from s i n) j
each_member s i zero j from below member = absurd (omega arith)
each_member s i (suc n) j from below member =
    go (s i) refl (cases_eq i j) (λ apart. each_member s (i + 1) n j (omega arith) (omega arith) member)
  where
    go :
        (b : Bool) → s i ≡ b → (i ≡ j) ⊎ (i ≡ j → ⊥) → ((i ≡ j → ⊥) → Contains (cells_from s (i + 1) n) j) →
        Contains (cond b (i ∷ cells_from s (i + 1) n) (cells_from s (i + 1) n)) j
    go true e (inl same) later = (zero, omega arith, same)
    go true e (inr apart) later = contains_later i j (cells_from s (i + 1) n) (later apart)
    go false e (inl same) later = absurd (both_ways (s i) e (ap s same ∙ member))
    go false e (inr apart) later = later apart

range_rises : (i n : ℕ) → IsStrictlyIncreasing (range_with_len i n)
range_rises i n k inside =
    let long = length-range_with_len i n in
    omega (arith, get_or-range_with_len i n k 0 (omega arith), get_or-range_with_len i n (k + 1) 0 (omega arith))

pub cells_listed : CellsListed
cells_listed c s = record {
  has = λ i. (
    (λ there. let found = only_members s 0 c.cells i there in let below = found.1 in (omega arith, found.2)),
    (λ is. let inside = is.0 in each_member s 0 c.cells i (omega arith) (omega arith) is.1),
  );
  rising = IsStrictlyIncreasing-filter s (range_with_len 0 c.cells) (range_rises 0 c.cells);
  count = cells_whole s c.cells;
}

-- By the first place where two lists differ.
before_head : (x y : ℕ) (xs ys : List ℕ) → x < y → ComesBefore (x ∷ xs) (y ∷ ys)
before_head x y xs ys less = record {
  place = 0;
  inside = omega arith;
  same = refl;
  decides = inr (omega arith, less);
}

before_rest : (x y : ℕ) (xs ys : List ℕ) → x ≡ y → ComesBefore xs ys → ComesBefore (x ∷ xs) (y ∷ ys)
before_rest x y xs ys e before = record {
  place = suc before.place;
  inside = let inside = before.inside in omega arith;
  same = ap₂ (λ z l. z ∷ l) e before.same;
  decides = go before.decides;
}
  where
    go :
        (length xs ≡ before.place) ⊎ ((before.place < length xs) × (slice_index xs before.place < slice_index ys before.place)) →
        (length (x ∷ xs) ≡ suc before.place) ⊎ ((suc before.place < length (x ∷ xs)) × (slice_index xs before.place < slice_index ys before.place))
    go (inl ended) = inl (ap suc ended)
    go (inr smaller) = let inside = smaller.0 in inr (omega arith, smaller.1)

first_place : (xs ys : List ℕ) → ComesNoLater xs ys → (xs ≡ ys) ⊎ ComesBefore xs ys
first_place [] [] h = inl refl
first_place [] (y ∷ ys) h = inr (record { place = 0; inside = omega arith; same = refl; decides = inl refl })
first_place (x ∷ xs) [] h = absurd (no_later_by (x ∷ xs) [] h)
first_place (x ∷ xs) (y ∷ ys) h = go (no_later_by (x ∷ xs) (y ∷ ys) h) (first_place xs ys)
  where
    go :
        (x < y) ⊎ ((x ≡ y) × ComesNoLater xs ys) → (ComesNoLater xs ys → (xs ≡ ys) ⊎ ComesBefore xs ys) →
        (x ∷ xs ≡ y ∷ ys) ⊎ ComesBefore (x ∷ xs) (y ∷ ys)
    go (inl less) later = inr (before_head x y xs ys less)
    go (inr same) later = by (later same.1)
      where
        by : (xs ≡ ys) ⊎ ComesBefore xs ys → (x ∷ xs ≡ y ∷ ys) ⊎ ComesBefore (x ∷ xs) (y ∷ ys)
        by (inl e) = inl (ap₂ (λ z l. z ∷ l) same.0 e)
        by (inr before) = inr (before_rest x y xs ys same.0 before)

itself : (xs : List ℕ) → ComesNoLater xs xs
itself [] = refl
itself (x ∷ xs) = no_later (x ∷ xs) (x ∷ xs) (inr (refl, itself xs))

comes_before :
    (xs ys : List ℕ) (k : ℕ) → k < length ys → take k xs ≡ take k ys →
    (length xs ≡ k) ⊎ ((k < length xs) × (slice_index xs k < slice_index ys k)) → ComesNoLater xs ys
comes_before [] ys k inside same decides = no_later [] ys tt
comes_before (x ∷ xs) [] k inside same decides = absurd (omega arith)
comes_before (x ∷ xs) (y ∷ ys) zero inside same (inl ended) = absurd (omega arith)
comes_before (x ∷ xs) (y ∷ ys) zero inside same (inr smaller) = no_later (x ∷ xs) (y ∷ ys) (inl smaller.1)
comes_before (x ∷ xs) (y ∷ ys) (suc k) inside same decides =
    no_later (x ∷ xs) (y ∷ ys)
    (inr (ap (λ l. get_or l 0 0) same, comes_before xs ys k (omega arith) (ap (drop 1) same) (rest decides)))
  where
    rest :
        (length (x ∷ xs) ≡ suc k) ⊎ ((suc k < length (x ∷ xs)) × (slice_index xs k < slice_index ys k)) →
        (length xs ≡ k) ⊎ ((k < length xs) × (slice_index xs k < slice_index ys k))
    rest (inl ended) = inl (omega arith)
    rest (inr smaller) = let inside = smaller.0 in inr (omega arith, smaller.1)

pub first_place_decides : FirstPlaceDecides
first_place_decides xs ys = (first_place xs ys, back)
  where
    back : (xs ≡ ys) ⊎ ComesBefore xs ys → ComesNoLater xs ys
    back (inl e) = subst (ComesNoLater xs) e (itself xs)
    back (inr before) = comes_before xs ys before.place before.inside before.same before.decides

either_way : (o : Ordering) → (is_le (ordering_reverse o) ≡ true) ⊎ (is_le o ≡ true)
either_way Less = inr refl
either_way Equal = inr refl
either_way Greater = inl refl

one_comes_first : (xs ys : List ℕ) → ComesNoLater xs ys ⊎ ComesNoLater ys xs
one_comes_first xs ys = go (either_way (slice_cmp nat_cmp ys xs))
  where
    go :
        (is_le (ordering_reverse (slice_cmp nat_cmp ys xs)) ≡ true) ⊎ (is_le (slice_cmp nat_cmp ys xs) ≡ true) →
        ComesNoLater xs ys ⊎ ComesNoLater ys xs
    go (inl first) = inl (ap is_le (nat_list_cmp_total.antisymm xs ys) ∙ first)
    go (inr second) = inr second

no_later_still : (xs ys zs : List ℕ) → ComesNoLater xs ys → ComesNoLater ys zs → ComesNoLater xs zs
no_later_still [] ys zs h h' = no_later [] zs tt
no_later_still (x ∷ xs) [] zs h h' = absurd (no_later_by (x ∷ xs) [] h)
no_later_still (x ∷ xs) (y ∷ ys) [] h h' = absurd (no_later_by (y ∷ ys) [] h')
no_later_still (x ∷ xs) (y ∷ ys) (z ∷ zs) h h' =
    no_later (x ∷ xs) (z ∷ zs)
    (go (no_later_by (x ∷ xs) (y ∷ ys) h) (no_later_by (y ∷ ys) (z ∷ zs) h') (no_later_still xs ys zs))
  where
    go :
        NoLaterBy (x ∷ xs) (y ∷ ys) → NoLaterBy (y ∷ ys) (z ∷ zs) →
        (ComesNoLater xs ys → ComesNoLater ys zs → ComesNoLater xs zs) → NoLaterBy (x ∷ xs) (z ∷ zs)
    go (inl less) (inl less') later = inl (omega arith)
    go (inl less) (inr same') later = let e = same'.0 in inl (omega arith)
    go (inr same) (inl less') later = let e = same.0 in inl (omega arith)
    go (inr same) (inr same') later = inr (same.0 ∙ same'.0, later same.1 same'.1)

pub total_order : TotalOrder
total_order = record { total = one_comes_first; antisymmetric = no_later_both; transitive = no_later_still }
