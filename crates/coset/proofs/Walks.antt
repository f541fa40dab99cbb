-- The walk through the planner's table, which ends with the plan. Assumes nothing.
use Rattle.std.proofs.Common.{◌≡◌, ℕ, zero, suc, ◌+◌, ◌-◌, ◌<◌, ◌≤◌, min, Bool, true, false, cond, not, ◌&&◌, ◌||◌, eqb, ◌⊎◌, sym, refl, ap, ◌∙◌, subst, inl, inr, arith}
use Rattle.std.proofs.lemmas.Bool.{cases_Bool, cases_eq, cases_lt, eq-eqb, ne_eqb, eqb-true, and_parts, and_from, or_cases, or_left, or_right, not-true, not_from_false, both_ways}
use Rattle.group.specs.Group.{Group, Lawful, Usable, In, step}
use Rattle.cells.specs.Sets.{Cellset, size_below}
use Rattle.coset.specs.Code.{code, sum_of, size_of, Reaches, Plan}
use Rattle.coset.specs.OnePlan.{HasLowest}
use Rattle.coset.specs.Plans.{Filled, fewest_at, entry_from_next}
use Rattle.coset.specs.declared.planner.Table.{Table}
use Rattle.coset.proofs.Groups.{step_in, step_leads, step_only, sum_zero}
use Rattle.coset.proofs.Sums.{Agree, Apart, only, either, label_in, sum_in, sum_agree, sum_either, sum_only, size_agree, size_either, size_only}
use Rattle.coset.proofs.Beyond.{sum_empty, size_empty}
use Rattle.coset.proofs.OnePlan.{has_where_other_has, lowest_is_first}
use Rattle.coset.proofs.Entries.{turn_in, without, size_without, From, from_without, rest_without, entry_least}

-- The walk to d stands before cell i: it has chosen cells before i, and the cells from i on are to sum to the rest.
pub record Walked (g : Group) (n : ℕ) (free : Cellset) (table : Table) (d i : ℕ) (chosen : Cellset) (rest : ℕ) : Type 0 where
  pub within : (j : ℕ) → chosen j ≡ true → (free j ≡ true) × (j < i)
  pub element : In g rest
  pub sums : g.sum (sum_of (code g n) chosen) rest ≡ d
  pub sizes : size_of (code g n) chosen + fewest_at table i rest ≡ fewest_at table 0 d
  pub reached : fewest_at table i rest < 255
  -- where a set with as few cells first differs from the chosen cells, it is these that have the cell
  pub first :
      (t : Cellset) → Reaches (code g n) free d t → size_of (code g n) t ≤ fewest_at table 0 d → (j : ℕ) → j < i → Agree t chosen j →
      t j ≡ true → chosen j ≡ true

or_none : (b : Bool) → (b || false) ≡ b
or_none true = refl
or_none false = refl

-- the entry of a cell that is not taken is the next one's
left_entry :
    (g : Group) (label : ℕ) (free : Bool) (next : ℕ → ℕ) (s e : ℕ) → e ≡ entry_from_next g label free next s →
    (free ≡ true → min (next (step g label s) + 1) 255 ≡ e → ⊥) → next s ≡ e
left_entry g label true next s e is worse = let no_better = worse refl in omega arith
left_entry g label false next s e is worse = sym is

module _ (g : Group) (laws : Lawful g) (usable : Usable g) (n : ℕ) (free : Cellset) (table : Table) (filled : Filled (code g n) free table 0) (d : ℕ) where
  pub walk_starts : (none : Cellset) → ((i : ℕ) → none i ≡ false) → In g d → fewest_at table 0 d < 255 → Walked g n free table d 0 none d
  walk_starts none empty element reached = record {
    within = λ j member. absurd (both_ways (none j) (empty j) member);
    element = element;
    sums = ap (λ z. g.sum z d) (sum_empty (code g n) none n (λ j l h. empty j)) ∙ laws.neutral usable d element;
    sizes = omega (arith, size_empty none n (λ j l h. empty j));
    reached = reached;
    first = λ t reaches few j h. absurd (omega arith);
  }

  module _ (i : ℕ) (inside : i < n) (chosen : Cellset) (rest : ℕ) (walked : Walked g n free table d i chosen rest) where
    apart : Apart chosen (only i) n
    apart j h member same = let early = (walked.within j member).1 in let e = eqb-true j i same in omega arith

    -- A set with as few cells that has chosen the same before i and has cell i shows that the walk takes it.
    module _ (t : Cellset) (reaches : Reaches (code g n) free d t) (few : size_of (code g n) t ≤ fewest_at table 0 d) (same : Agree t chosen i) where
      -- its cells that are not chosen
      tail : Cellset
      tail j = not (chosen j) && t j

      parted : Agree t (either chosen tail) n
      unfolding tail
      parted j h = go (chosen j) refl
        where
          go : (b : Bool) → chosen j ≡ b → t j ≡ (b || (not b && t j))
          go true e = same j (walked.within j e).1 ∙ e
          go false e = refl

      tail_apart : Apart chosen tail n
      unfolding tail
      tail_apart j h = go (chosen j)
        where
          go : (b : Bool) → b ≡ true → (not b && t j) ≡ true → ⊥
          go true e member = both_ways false refl member
          go false e member = both_ways false refl e

      tail_from : From n free tail i
      unfolding tail
      tail_from j h both = (reaches.within j h of_t, late (cases_lt j i))
        where
          of_t : t j ≡ true
          of_t = (and_parts (not (chosen j)) (t j) both).1

          late : (j < i) ⊎ (i ≤ j) → i ≤ j
          late (inl early) = absurd (both_ways (chosen j) (not-true (chosen j) (and_parts (not (chosen j)) (t j) both).0) (sym (same j early) ∙ of_t))
          late (inr l) = l

      tail_sum : sum_of (code g n) tail ≡ rest
      tail_sum =
          sym (step_only g laws usable (sum_of (code g n) chosen) (sum_of (code g n) tail) (summed chosen) (summed tail))
          ∙ ap (step g (sum_of (code g n) chosen))
          (sym (sum_agree (code g n) t (either chosen tail) n parted ∙ sum_either (code g n) laws usable (label_in g laws n) chosen tail n tail_apart)
          ∙ reaches.sums ∙ sym walked.sums)
          ∙ step_only g laws usable (sum_of (code g n) chosen) rest (summed chosen) walked.element
        where
          summed : (s : Cellset) → In g (sum_of (code g n) s)
          summed s = sum_in (code g n) laws usable (label_in g laws n) s n

      must_take : t i ≡ true → (free i ≡ true) × (min (fewest_at table (i + 1) (step g ((code g n).label i) rest) + 1) 255 ≡ fewest_at table i rest)
      unfolding tail
      must_take member = (is_free, omega (arith, taken, least, size, sizes, size_tail, walked.reached, walked.sizes, few))
        where
          is_free : free i ≡ true
          is_free = reaches.within i inside member

          of_tail : tail i ≡ true
          of_tail = go (cases_Bool (chosen i))
            where
              go : (chosen i ≡ true) ⊎ (chosen i ≡ false) → tail i ≡ true
              go (inl e) = absurd (let early = (walked.within i e).1 in omega arith)
              go (inr e) = and_from (not (chosen i)) (t i) (not_from_false (chosen i) e) member

          sizes : size_of (code g n) t ≡ size_of (code g n) chosen + size_of (code g n) tail
          sizes = size_agree t (either chosen tail) n parted ∙ size_either chosen tail n tail_apart

          size_tail : size_of (code g n) tail ≡ 1 + size_of (code g n) (without tail i)
          size_tail = size_without tail i n inside of_tail

          size : fewest_at table i rest ≤ fewest_at table (i + 1) (step g ((code g n).label i) rest) + 1
          size =
              let here = turn_in g ((code g n).label i) (free i) (fewest_at table (i + 1)) rest is_free in
              omega (arith, filled.entries i rest (omega arith) inside walked.element)

          least : fewest_at table (i + 1) (sum_of (code g n) (without tail i)) ≤ size_of (code g n) (without tail i)
          least = entry_least g laws usable n free table filled (n - (i + 1)) (i + 1) (omega arith) (without tail i) (from_without n free tail i tail_from)

          taken : fewest_at table (i + 1) (step g ((code g n).label i) rest) ≡ fewest_at table (i + 1) (sum_of (code g n) (without tail i))
          taken = ap (fewest_at table (i + 1)) (ap (step g ((code g n).label i)) (sym tail_sum) ∙ rest_without g laws usable n tail i inside of_tail)

    pub walk_takes :
        (more : Cellset) → ((j : ℕ) → more j ≡ (chosen j || eqb j i)) → (after : ℕ) → after ≡ step g ((code g n).label i) rest → free i ≡ true →
        min (fewest_at table (i + 1) after + 1) 255 ≡ fewest_at table i rest → Walked g n free table d (i + 1) more after
    walk_takes more is after left is_free best = record {
      within = λ j member. within j (or_cases (chosen j) (eqb j i) (sym (is j) ∙ member));
      element = rw left (step_in g laws usable label rest (label_in g laws n i) walked.element);
      sums =
          ap (λ z. g.sum z after) sum ∙ ap (g.sum (g.sum before label)) left
          ∙ laws.associates usable before label (step g label rest) before_in (label_in g laws n i) (step_in g laws usable label rest (label_in g laws n i) walked.element)
          ∙ ap (g.sum before) (step_leads g laws usable label rest (label_in g laws n i) walked.element)
          ∙ walked.sums;
      sizes = let sizes = walked.sizes in let reached = walked.reached in omega (arith, size);
      reached = let reached = walked.reached in omega arith;
      first = λ t reaches few j h same member. first t reaches few j h same member (cases_eq j i);
    }
      where
        label : ℕ
        label = (code g n).label i

        before : ℕ
        before = sum_of (code g n) chosen

        before_in : In g before
        before_in = sum_in (code g n) laws usable (label_in g laws n) chosen n

        sum : sum_of (code g n) more ≡ g.sum before label
        sum =
            sum_agree (code g n) more (either chosen (only i)) n (λ j h. is j)
            ∙ sum_either (code g n) laws usable (label_in g laws n) chosen (only i) n apart
            ∙ ap (g.sum before) (sum_only (code g n) laws usable (label_in g laws n) i n inside)

        size : size_of (code g n) more ≡ size_of (code g n) chosen + 1
        size =
            size_agree more (either chosen (only i)) n (λ j h. is j) ∙ size_either chosen (only i) n apart
            ∙ ap (λ k. size_below chosen n + k) (size_only i n inside)

        first :
            (t : Cellset) → Reaches (code g n) free d t → size_of (code g n) t ≤ fewest_at table 0 d → (j : ℕ) → j < i + 1 → Agree t more j →
            t j ≡ true → (j ≡ i) ⊎ (j ≡ i → ⊥) → more j ≡ true
        first t reaches few j h same member (inl e) = is j ∙ or_right (chosen j) (eqb j i) (eq-eqb j i e)
        first t reaches few j h same member (inr ne) =
            is j ∙ or_left (chosen j) (eqb j i) (walked.first t reaches few j (omega arith) (λ k l. same k l ∙ unchanged k (omega arith)) member)
          where
            unchanged : (k : ℕ) → k < i → more k ≡ chosen k
            unchanged k l = is k ∙ ap (λ b. chosen k || b) (ne_eqb k i (λ e. omega arith)) ∙ or_none (chosen k)

        within : (j : ℕ) → (chosen j ≡ true) ⊎ (eqb j i ≡ true) → (free j ≡ true) × (j < i + 1)
        within j (inl member) = let early = (walked.within j member).1 in ((walked.within j member).0, omega arith)
        within j (inr same) = let e = eqb-true j i same in (ap free e ∙ is_free, omega arith)

    pub walk_leaves :
        (free i ≡ true → min (fewest_at table (i + 1) (step g ((code g n).label i) rest) + 1) 255 ≡ fewest_at table i rest → ⊥) →
        Walked g n free table d (i + 1) chosen rest
    walk_leaves worse =
        let same = left_entry g ((code g n).label i) (free i) (fewest_at table (i + 1)) rest (fewest_at table i rest) (filled.entries i rest (omega arith) inside walked.element) worse in
        record {
          within = λ j member. let early = (walked.within j member).1 in ((walked.within j member).0, omega arith);
          element = walked.element;
          sums = walked.sums;
          sizes = let size = walked.sizes in omega arith;
          reached = let before = walked.reached in omega arith;
          first = λ t reaches few j h same member. first t reaches few j h same member (cases_eq j i);
        }
      where
        first :
            (t : Cellset) → Reaches (code g n) free d t → size_of (code g n) t ≤ fewest_at table 0 d → (j : ℕ) → j < i + 1 → Agree t chosen j →
            t j ≡ true → (j ≡ i) ⊎ (j ≡ i → ⊥) → chosen j ≡ true
        first t reaches few j h same member (inl e) =
            let agree : Agree t chosen i = λ k l. same k (omega arith) in
            let (is_free, best) = must_take t reaches few agree (sym (ap t e) ∙ member) in
            absurd (worse is_free best)
        first t reaches few j h same member (inr ne) = walked.first t reaches few j (omega arith) same member

    -- once the rest is 0, no cell is better taken
    walk_rests : rest ≡ 0 → Walked g n free table d (i + 1) chosen rest
    walk_rests at_end = walk_leaves (λ is_free best. let here = ap (fewest_at table i) at_end ∙ none_left in omega arith)
      where
        none : Cellset
        none j = false

        none_left : fewest_at table i 0 ≡ 0
        none_left =
            let least = entry_least g laws usable n free table filled (n - i) i (omega arith) none (λ j h member. absurd (both_ways false refl member)) in
            let sum = ap (fewest_at table i) (sum_empty (code g n) none n (λ j l h. refl)) in
            let size = size_empty none n (λ j l h. refl) in
            omega arith

  module _ (i : ℕ) (end : i ≡ n) (chosen : Cellset) (rest : ℕ) (walked : Walked g n free table d i chosen rest) where
    at_end : rest ≡ 0
    at_end = go (cases_eq rest 0)
      where
        go : (rest ≡ 0) ⊎ (rest ≡ 0 → ⊥) → rest ≡ 0
        go (inl e) = e
        go (inr ne) =
            let last = ap (λ k. fewest_at table k rest) end ∙ filled.last rest walked.element ∙ ap (λ b. cond b 0 255) (ne_eqb rest 0 ne) in
            let reached = walked.reached in
            omega arith

    walk_lowest : HasLowest (code g n) free d chosen
    walk_lowest t reaches same j h agree differ =
        let sizes = walked.sizes in
        has_where_other_has (chosen j) (t j) (walked.first t reaches (omega arith) j (omega arith) agree) differ

    pub walk_ends : Plan (code g n) free d chosen
    walk_ends = record {
      reaches = record {
        within = λ j h member. (walked.within j member).0;
        sums =
            sym (sum_zero g laws usable (sum_of (code g n) chosen) (sum_in (code g n) laws usable (label_in g laws n) chosen n))
            ∙ ap (g.sum (sum_of (code g n) chosen)) (sym at_end) ∙ walked.sums;
      };
      fewest = λ t reaches.
          let least = entry_least g laws usable n free table filled n 0 (omega arith) t (λ j h member. (reaches.within j h member, omega arith)) in
          let sizes = walked.sizes in
          omega (arith, ap (λ z. fewest_at table 0 z) reaches.sums);
      first = lowest_is_first (code g n) free d chosen walk_lowest;
    }

  -- Where nothing is left before the last cell, the cells from there on are left out, and the chosen cells are the plan.
  rests_to_end :
      (k i : ℕ) (chosen : Cellset) (rest : ℕ) → i + k ≡ n → rest ≡ 0 → Walked g n free table d i chosen rest →
      Walked g n free table d n chosen rest
  rests_to_end zero i chosen rest end done walked =
      subst (λ j. Walked g n free table d j chosen rest) (omega arith) walked
  rests_to_end (suc k) i chosen rest end done walked =
      rests_to_end k (i + 1) chosen rest (omega arith) done (walk_rests i (omega arith) chosen rest walked done)

  pub walk_stops :
      (i : ℕ) → i < n → (chosen : Cellset) (rest : ℕ) → rest ≡ 0 → Walked g n free table d i chosen rest →
      Plan (code g n) free d chosen
  walk_stops i inside chosen rest done walked =
      walk_ends n refl chosen rest (rests_to_end (n - i) i chosen rest (omega arith) done walked)
