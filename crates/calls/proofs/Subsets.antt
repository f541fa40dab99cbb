-- Statements about every set of a few cells, by tests that antt computes. Assumes nothing.
use Rattle.std.proofs.Common.{◌≡◌, ℕ, zero, suc, ◌<◌, ◌≤◌, Bool, true, false, cond, not, ◌&&◌, ◌||◌, eqb, leb, ◌⊎◌, List, [], ◌∷◌, get_or, sym, refl, ◌∙◌, subst, inl, inr, arith}
use Rattle.std.specs.Cmp.Lexicographic.{slice_cmp}
use Rattle.std.specs.Ordering.{nat_cmp, is_le}
use Rattle.std.proofs.lemmas.Bool.{and_parts, eqb-true, eq-eqb, leb-true, le-leb, both_ways, not-true, or_cases, and_from}
use Rattle.cells.specs.Sets.{Cellset}
use Rattle.cells.proofs.Finite.{all_below, passes}
use Rattle.coset.specs.Code.{Code, sum_of, size_of, cells_of, ComesNoLater, Reaches, Unreachable, Plan}
use Rattle.calls.specs.Examples.{labelled, Listed}
use Rattle.coset.proofs.Lists.{cells_agree}
use Rattle.coset.proofs.Sums.{Agree, size_agree, sum_agree}

-- the test passes at every list of n flags
abbrev every_list : ℕ → (List Bool → Bool) → Bool
every_list zero test = test []
every_list (suc n) test = every_list n (λ bs. test (true ∷ bs)) && every_list n (λ bs. test (false ∷ bs))

-- a set as flags, and flags as a set
abbrev flags : ℕ → Cellset → List Bool
flags zero s = []
flags (suc n) s = s 0 ∷ flags n (λ i. s (suc i))

abbrev as_set : List Bool → Cellset
as_set bs i = get_or bs i false

at_flags : (n : ℕ) (test : List Bool → Bool) → every_list n test ≡ true → (s : Cellset) → test (flags n s) ≡ true
at_flags zero test e s = e
at_flags (suc n) test e s =
    let parts = and_parts (every_list n (λ bs. test (true ∷ bs))) (every_list n (λ bs. test (false ∷ bs))) e in
    go (s 0) (at_flags n (λ bs. test (true ∷ bs)) parts.0 (λ i. s (suc i))) (at_flags n (λ bs. test (false ∷ bs)) parts.1 (λ i. s (suc i)))
  where
    go : (b : Bool) → test (true ∷ flags n (λ i. s (suc i))) ≡ true → test (false ∷ flags n (λ i. s (suc i))) ≡ true → test (b ∷ flags n (λ i. s (suc i))) ≡ true
    go true x y = x
    go false x y = y

same_set : (n : ℕ) (s : Cellset) → Agree (as_set (flags n s)) s n
same_set zero s i h = absurd (omega arith)
same_set (suc n) s zero h = refl
same_set (suc n) s (suc i) h = same_set n (λ j. s (suc j)) i (omega arith)

-- whether a set has free cells alone that sum to d
abbrev reaches : Code → Cellset → ℕ → Cellset → Bool
reaches c open_cells d s = all_below (λ i. not (s i) || open_cells i) c.cells && eqb (sum_of c s) d

reaches_true : (c : Code) (open_cells : Cellset) (d : ℕ) (s : Cellset) → reaches c open_cells d s ≡ true → Reaches c open_cells d s
reaches_true c open_cells d s e =
    let parts = and_parts (all_below (λ i. not (s i) || open_cells i) c.cells) (eqb (sum_of c s) d) e in
    record {
      within = λ i h m. use_cell (s i) (open_cells i) m (passes (λ j. not (s j) || open_cells j) c.cells parts.0 i h);
      sums = eqb-true _ _ parts.1;
    }
  where
    use_cell : (a b : Bool) → a ≡ true → (not a || b) ≡ true → b ≡ true
    use_cell true b p q = q
    use_cell false b p q = absurd (both_ways false refl p)

true_reaches : (c : Code) (open_cells : Cellset) (d : ℕ) (s : Cellset) → Reaches c open_cells d s → reaches c open_cells d s ≡ true
true_reaches c open_cells d s r =
    and_from _ _ (everywhere c.cells (λ i h. fits (s i) (open_cells i) (r.within i h))) (eq-eqb _ _ r.sums)
  where
    fits : (a b : Bool) → (a ≡ true → b ≡ true) → (not a || b) ≡ true
    fits true b f = f refl
    fits false b f = refl

    everywhere : (n : ℕ) → ((i : ℕ) → i < n → (not (s i) || open_cells i) ≡ true) → all_below (λ i. not (s i) || open_cells i) n ≡ true
    everywhere zero f = refl
    everywhere (suc n) f = and_from _ _ (f n (omega arith)) (everywhere n (λ i h. f i (omega arith)))

-- sets that agree reach the same
reaches_agree : (c : Code) (open_cells : Cellset) (d : ℕ) (s t : Cellset) → Agree s t c.cells → Reaches c open_cells d t → Reaches c open_cells d s
reaches_agree c open_cells d s t same r =
    record { within = λ i h m. r.within i h (sym (same i h) ∙ m); sums = sum_agree c s t c.cells same ∙ r.sums }

module _ (c : Code) (open_cells : Cellset) (d : ℕ) where
  -- the flags of a set that reaches d pass the test
  flags_reach : (s : Cellset) → Reaches c open_cells d s → reaches c open_cells d (as_set (flags c.cells s)) ≡ true
  flags_reach s r = true_reaches c open_cells d (as_set (flags c.cells s)) (reaches_agree c open_cells d (as_set (flags c.cells s)) s (same_set c.cells s) r)

  -- whether no set reaches d
  abbrev pub full_test : Bool
  full_test = every_list c.cells (λ bs. not (reaches c open_cells d (as_set bs)))

  pub none_reaches : full_test ≡ true → Unreachable c open_cells d
  none_reaches e s r = both_ways _ (not-true _ (at_flags c.cells (λ bs. not (reaches c open_cells d (as_set bs))) e s)) (flags_reach s r)

  implied : (a b : Bool) → a ≡ true → (not a || b) ≡ true → b ≡ true
  implied true b x y = y
  implied false b x y = absurd (both_ways false refl x)

  -- whether each set that reaches d passes a test
  abbrev each_reaching : (Cellset → Bool) → Bool
  each_reaching test = every_list c.cells (λ bs. not (reaches c open_cells d (as_set bs)) || test (as_set bs))

  at_reaching :
      (test : Cellset → Bool) → each_reaching test ≡ true → (t : Cellset) → Reaches c open_cells d t →
      test (as_set (flags c.cells t)) ≡ true
  at_reaching test e t q =
      implied (reaches c open_cells d (as_set (flags c.cells t))) (test (as_set (flags c.cells t))) (flags_reach t q)
      (at_flags c.cells (λ bs. not (reaches c open_cells d (as_set bs)) || test (as_set bs)) e t)

  size : (t : Cellset) → size_of c (as_set (flags c.cells t)) ≡ size_of c t
  size t = size_agree (as_set (flags c.cells t)) t c.cells (same_set c.cells t)

  -- whether p is one of the smallest sets that reach d
  abbrev pub smallest_test : Cellset → Bool
  smallest_test p = reaches c open_cells d p && each_reaching (λ t. leb (size_of c p) (size_of c t))

  pub smallest_by :
      (p : Cellset) → smallest_test p ≡ true →
      Reaches c open_cells d p × ((t : Cellset) → Reaches c open_cells d t → size_of c p ≤ size_of c t)
  smallest_by p e =
      let parts = and_parts (reaches c open_cells d p) (each_reaching (λ t. leb (size_of c p) (size_of c t))) e in (
        reaches_true c open_cells d p parts.0,
        (λ t q.
            let fact = leb-true _ _ (at_reaching (λ s. leb (size_of c p) (size_of c s)) parts.1 t q) in
            let same = size t in
            omega arith),
      )

  -- whether p comes no later than a set that is as small
  abbrev no_later_than : Cellset → Cellset → Bool
  no_later_than p t = not (eqb (size_of c t) (size_of c p)) || is_le (slice_cmp nat_cmp (cells_of c p) (cells_of c t))

  -- whether p is the plan
  abbrev pub plan_test : Cellset → Bool
  plan_test p = smallest_test p && each_reaching (no_later_than p)

  pub plan_by : (p : Cellset) → plan_test p ≡ true → Plan c open_cells d p
  plan_by p e =
      let parts = and_parts (smallest_test p) (each_reaching (no_later_than p)) e in
      let smallest = smallest_by p parts.0 in record {
        reaches = smallest.0;
        fewest = smallest.1;
        first = λ t q same.
            subst (ComesNoLater (cells_of c p))
            (cells_agree (as_set (flags c.cells t)) t 0 c.cells (λ j lo hi. same_set c.cells t j (omega arith)))
            (implied _ _ (eq-eqb _ _ (size t ∙ same)) (at_reaching (no_later_than p) parts.1 t q));
      }

  -- whether a set has the cells of one of these sets of labels
  abbrev same_flag : Bool → Bool → Bool
  same_flag a b = cond a b (not b)

  abbrev listed : List (List ℕ) → Cellset → Bool
  listed [] s = false
  listed (ls ∷ more) s = all_below (λ i. same_flag (s i) (labelled ls i)) c.cells || listed more s

  listed_true : (ps : List (List ℕ)) (s t : Cellset) → Agree t s c.cells → listed ps t ≡ true → Listed c s ps
  listed_true [] s t same e = both_ways false refl e
  listed_true (ls ∷ more) s t same e =
      go (or_cases (all_below (λ i. same_flag (t i) (labelled ls i)) c.cells) (listed more t) e) (listed_true more s t same)
    where
      equal : (a b : Bool) → same_flag a b ≡ true → a ≡ b
      equal true b x = sym x
      equal false b x = sym (not-true b x)

      go : ((all_below (λ i. same_flag (t i) (labelled ls i)) c.cells ≡ true) ⊎ (listed more t ≡ true)) → (listed more t ≡ true → Listed c s more) → ((i : ℕ) → i < c.cells → s i ≡ labelled ls i) ⊎ Listed c s more
      go (inl here) later = inl (λ i h. sym (same i h) ∙ equal (t i) (labelled ls i) (passes (λ j. same_flag (t j) (labelled ls j)) c.cells here i h))
      go (inr there) later = inr (later there)

  -- whether every set as small as p that reaches d is listed
  abbrev pub list_test : Cellset → List (List ℕ) → Bool
  list_test p ps = each_reaching (λ t. not (leb (size_of c t) (size_of c p)) || listed ps t)

  pub listed_by :
      (p : Cellset) (ps : List (List ℕ)) → list_test p ps ≡ true → (s : Cellset) → Reaches c open_cells d s →
      size_of c s ≤ size_of c p → Listed c s ps
  listed_by p ps e s reach small =
      let same = size s in
      let le = le-leb (size_of c (as_set (flags c.cells s))) (size_of c p) (omega arith) in
      listed_true ps s (as_set (flags c.cells s)) (same_set c.cells s)
      (implied _ _ le (at_reaching (λ t. not (leb (size_of c t) (size_of c p)) || listed ps t) e s reach))
