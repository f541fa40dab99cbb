-- The lists of the cells of sets: how long they are, and which comes first in dictionary order. Assumes nothing.
use Rattle.std.proofs.Common.{◌≡◌, ℕ, zero, suc, ◌+◌, ◌<◌, ◌≤◌, Bool, true, false, cond, ◌⊎◌, List, [], ◌∷◌, length, Ordering, Less, Equal, Greater, sym, refl, ap, ◌∙◌, ap₂, inl, inr, arith}
use Rattle.std.specs.Cmp.{nat_cmp_is}
use Rattle.std.specs.Cmp.Lexicographic.{slice_cmp}
use Rattle.std.specs.List.{filter, range_with_len}
use Rattle.std.specs.Ordering.{nat_cmp, is_le, is_lt, ordering_reverse, ordering_then}
use Rattle.std.specs.FinMap.{nat_cmp-IsAntisymmetric, slice_cmp-IsAntisymmetric}
use Rattle.std.proofs.lemmas.Cmp.{nat_list_cmp_total}
use Rattle.std.proofs.lemmas.Bool.{both_ways, cases_eq, cases_lt}
use Rattle.cells.specs.Sets.{Cellset, size_below}
use Rattle.coset.specs.Code.{ComesNoLater}

-- the cells of s among the n cells from i on, rising
abbrev pub cells_from : Cellset → ℕ → ℕ → List ℕ
cells_from s i n = filter s (range_with_len i n)

-- sets that agree on these cells have the same list
pub cells_agree : (s t : Cellset) (i n : ℕ) → ((j : ℕ) → i ≤ j → j < i + n → s j ≡ t j) → cells_from s i n ≡ cells_from t i n
cells_agree s t i zero same = refl
cells_agree s t i (suc n) same =
    ap₂ (λ b l. cond b (i ∷ l) l) (same i (omega arith) (omega arith))
    (cells_agree s t (i + 1) n (λ j lo hi. same j (omega arith) (omega arith)))

-- cells from the m-th on that are not in the set add nothing
pub cells_beyond :
    (s : Cellset) (i m n : ℕ) → m ≤ n → ((j : ℕ) → i + m ≤ j → j < i + n → s j ≡ false) → cells_from s i n ≡ cells_from s i m
cells_beyond s i zero zero le quiet = refl
cells_beyond s i zero (suc n) le quiet =
    rw (quiet i (omega arith) (omega arith))
    (cells_beyond s (i + 1) zero n (omega arith) (λ j lo hi. quiet j (omega arith) (omega arith)))
cells_beyond s i (suc m) zero le quiet = absurd (omega arith)
cells_beyond s i (suc m) (suc n) le quiet =
    ap (λ l. cond (s i) (i ∷ l) l) (cells_beyond s (i + 1) m n (omega arith) (λ j lo hi. quiet j (omega arith) (omega arith)))

-- the list has as many cells as the set
cells_count : (s : Cellset) (i n : ℕ) → length (cells_from s i n) + size_below s i ≡ size_below s (i + n)
unfolding size_below
cells_count s i zero = let e : i ≡ i + 0 = omega arith in omega (arith, ap (size_below s) e)
cells_count s i (suc n) = go (s i) refl (cells_count s (i + 1) n)
  where
    next : i + 1 ≡ suc i
    next = omega arith

    last : i + 1 + n ≡ i + suc n
    last = omega arith

    go :
        (b : Bool) → s i ≡ b → length (cells_from s (i + 1) n) + size_below s (i + 1) ≡ size_below s (i + 1 + n) →
        length (cond b (i ∷ cells_from s (i + 1) n) (cells_from s (i + 1) n)) + size_below s i ≡ size_below s (i + suc n)
    go true e later =
        let here = ap (size_below s) next ∙ ap (λ b. cond b (1 + size_below s i) (size_below s i)) e in
        let there = ap (size_below s) last in
        omega arith
    go false e later =
        let here = ap (size_below s) next ∙ ap (λ b. cond b (1 + size_below s i) (size_below s i)) e in
        let there = ap (size_below s) last in
        omega arith

pub cells_whole : (s : Cellset) (n : ℕ) → length (cells_from s 0 n) ≡ size_below s n
unfolding size_below
cells_whole s n = let e : 0 + n ≡ n = omega arith in omega (arith, cells_count s 0 n, ap (size_below s) e)

-- a list does not begin below i
abbrev pub BeginsFrom : ℕ → List ℕ → Type 0
BeginsFrom i [] = Unit {0}
BeginsFrom i (x ∷ xs) = i ≤ x

begins_before : (i : ℕ) (l : List ℕ) → BeginsFrom (i + 1) l → BeginsFrom i l
begins_before i [] h = tt
begins_before i (x ∷ xs) h = omega arith

pub cells_begin : (s : Cellset) (i n : ℕ) → BeginsFrom i (cells_from s i n)
cells_begin s i zero = tt
cells_begin s i (suc n) = go (s i) (cells_begin s (i + 1) n)
  where
    go : (b : Bool) → BeginsFrom (i + 1) (cells_from s (i + 1) n) → BeginsFrom i (cond b (i ∷ cells_from s (i + 1) n) (cells_from s (i + 1) n))
    go true h = omega arith
    go false h = begins_before i (cells_from s (i + 1) n) h

-- Dictionary order by its first numbers: a list comes no later where its first number is smaller, or is the same and
-- its rest comes no later.
abbrev pub NoLaterBy : List ℕ → List ℕ → Type 0
NoLaterBy [] ys = Unit {0}
NoLaterBy (x ∷ xs) [] = ⊥
NoLaterBy (x ∷ xs) (y ∷ ys) = (x < y) ⊎ ((x ≡ y) × ComesNoLater xs ys)

pub no_later : (xs ys : List ℕ) → NoLaterBy xs ys → ComesNoLater xs ys
no_later [] [] h = refl
no_later [] (y ∷ ys) h = refl
no_later (x ∷ xs) [] h = absurd h
no_later (x ∷ xs) (y ∷ ys) (inl less) =
    ap (λ o. is_le (ordering_then o (slice_cmp nat_cmp xs ys))) (sym (nat_cmp_is x y Less less))
no_later (x ∷ xs) (y ∷ ys) (inr same) =
    ap (λ o. is_le (ordering_then o (slice_cmp nat_cmp xs ys))) (sym (nat_cmp_is x y Equal same.0)) ∙ same.1

pub no_later_by : (xs ys : List ℕ) → ComesNoLater xs ys → NoLaterBy xs ys
no_later_by [] ys h = tt
no_later_by (x ∷ xs) [] h = absurd (both_ways false refl h)
no_later_by (x ∷ xs) (y ∷ ys) h = go (cases_lt x y) (cases_eq x y)
  where
    by : (o : Ordering) → o ≡ nat_cmp x y → is_le (ordering_then o (slice_cmp nat_cmp xs ys)) ≡ true
    by o e = ap (λ o. is_le (ordering_then o (slice_cmp nat_cmp xs ys))) e ∙ h

    go : (x < y) ⊎ (y ≤ x) → (x ≡ y) ⊎ (x ≡ y → ⊥) → (x < y) ⊎ ((x ≡ y) × ComesNoLater xs ys)
    go (inl less) _ = inl less
    go (inr le) (inl e) = inr (e, by Equal (nat_cmp_is x y Equal e))
    go (inr le) (inr ne) = absurd (both_ways false refl (by Greater (nat_cmp_is x y Greater (omega arith))))

-- lists of which each comes no later than the other are one
pub no_later_both : (xs ys : List ℕ) → ComesNoLater xs ys → ComesNoLater ys xs → xs ≡ ys
no_later_both xs ys h h' =
    slice_cmp-IsAntisymmetric nat_cmp-IsAntisymmetric xs ys
    (equal (slice_cmp nat_cmp xs ys) (slice_cmp nat_cmp ys xs) (nat_list_cmp_total.antisymm xs ys) h h')
  where
    equal : (o p : Ordering) → o ≡ ordering_reverse p → is_le o ≡ true → is_le p ≡ true → o ≡ Equal
    equal Less Less e h h' = absurd (both_ways true (ap is_le e) refl)
    equal Less Equal e h h' = absurd (both_ways true (ap is_lt e) refl)
    equal Less Greater e h h' = absurd (both_ways false refl h')
    equal Equal p e h h' = refl
    equal Greater p e h h' = absurd (both_ways false refl h)
