-- A record with few set cells reaches every value by one or two cells more. Assumes nothing.
use Rattle.std.proofs.Common.{◌≡◌, ℕ, zero, suc, ◌+◌, ◌-◌, ◌*◌, ◌<◌, ◌≤◌, max, Bool, true, false, cond, not, ◌&&◌, eqb, ◌⊎◌, sym, refl, ap, ◌∙◌, ap₂, inl, inr, arith}
use Rattle.std.proofs.lemmas.Bool.{cases_eq, cases_Bool, eqb-true, eqb-false, not-true, and_parts, or_cases, both_ways}
use Rattle.group.specs.Group.{Group, Lawful, Usable, In, step, halves, most_halves}
use Rattle.cells.specs.Sets.{Cellset, size_below}
use Rattle.coset.specs.Code.{Code, code, size_of, Reaches}
use Rattle.coset.proofs.Groups.{step_in, step_leads, step_zero, step_back}
use Rattle.coset.proofs.Sums.{only, either, Apart, size_more, size_only, size_either, sum_only, sum_either, label_in, label_first}
use Rattle.calls.proofs.Totals.{add_up, add_le, add_plus, add_ones, add_shift, add_places, size_adds}

-- the count of elements that doubled give d, as a sum
halves_add : (g : Group) (d n : ℕ) → halves g d n ≡ add_up (λ a. cond (eqb (g.sum a a) d) 1 0) n
unfolding halves
halves_add g d zero = refl
halves_add g d (suc n) = go (eqb (g.sum n n) d) (halves_add g d n)
  where
    go : (b : Bool) → halves g d n ≡ add_up (λ a. cond (eqb (g.sum a a) d) 1 0) n → cond b (1 + halves g d n) (halves g d n) ≡ cond b 1 0 + add_up (λ a. cond (eqb (g.sum a a) d) 1 0) n
    go true e = omega arith
    go false e = omega arith

-- the largest of them is at least each
pub halves_most : (g : Group) (d n : ℕ) → 0 < d → d ≤ n → halves g d g.order ≤ most_halves g n
unfolding most_halves
halves_most g d zero h k = absurd (omega arith)
halves_most g d (suc n) h k = go (cases_eq d (suc n)) (halves_most g d n h)
  where
    go : ((d ≡ suc n) ⊎ (d ≡ suc n → ⊥)) → (d ≤ n → halves g d g.order ≤ most_halves g n) → halves g d g.order ≤ max (halves g (suc n) g.order) (most_halves g n)
    go (inl e) earlier = let same = ap (λ z. halves g z g.order) e in omega arith
    go (inr ne) earlier = let rest = earlier (omega arith) in omega arith

-- whether the first cell with the label a is in s; no cell has the label 0
abbrev taken : Cellset → ℕ → Bool
taken s zero = false
taken s (suc i) = s i

-- some number below n passes the test, or none does
search_below : (p : ℕ → Bool) (n : ℕ) → ((k : ℕ) × (k < n) × (p k ≡ true)) ⊎ ((k : ℕ) → k < n → p k ≡ false)
search_below p zero = inr (λ k h. absurd (omega arith))
search_below p (suc n) = go (cases_Bool (p n)) (search_below p n)
  where
    go : ((p n ≡ true) ⊎ (p n ≡ false)) → (((k : ℕ) × (k < n) × (p k ≡ true)) ⊎ ((k : ℕ) → k < n → p k ≡ false)) → ((k : ℕ) × (k < suc n) × (p k ≡ true)) ⊎ ((k : ℕ) → k < suc n → p k ≡ false)
    go (inl e) rest = inl (n, omega arith, e)
    go (inr e) (inl found) = let lt = found.1 in inl (found.0, omega arith, found.2)
    go (inr e) (inr nowhere) = inr each
      where
        each : (k : ℕ) → k < suc n → p k ≡ false
        each k h = last (cases_eq k n)
          where
            last : ((k ≡ n) ⊎ (k ≡ n → ⊥)) → p k ≡ false
            last (inl same) = ap p same ∙ e
            last (inr other) = nowhere k (omega arith)

module _ (g : Group) (laws : Lawful g) (usable : Usable g) (n : ℕ) (long : g.order ≤ n + 1) (held : Cellset) (d : ℕ) (here : In g d) (nonzero : d ≡ 0 → ⊥) where
  abbrev c : Code
  c = code g n

  abbrev v : ℕ
  v = g.order

  -- what is left to d
  abbrev rest : ℕ → ℕ
  rest a = step g a d

  rest_in : (a : ℕ) → a < v → rest a < v
  rest_in a h = step_in g laws usable a d h here

  -- neither the cell labelled a nor that labelled d - a is set, and they are two
  abbrev both_free : ℕ → Bool
  both_free a = not (taken held a) && (not (taken held (rest a)) && not (eqb (g.sum a a) d))

  -- the number of elements is at most twice the set cells and the halves
  counted : ((a : ℕ) → a < v → both_free a ≡ false) → v ≤ 2 * size_below held n + halves g d v
  counted nowhere =
      let each = add_le (λ a. 1) (λ a. (cond (taken held a) 1 0 + cond (taken held (rest a)) 1 0) + cond (eqb (g.sum a a) d) 1 0) v (λ a h. one (taken held a) (taken held (rest a)) (eqb (g.sum a a) d) (nowhere a h)) in
      let ones = add_ones v in
      let split = add_plus (λ a. cond (taken held a) 1 0 + cond (taken held (rest a)) 1 0) (λ a. cond (eqb (g.sum a a) d) 1 0) v in
      let again = add_plus (λ a. cond (taken held a) 1 0) (λ a. cond (taken held (rest a)) 1 0) v in
      let places = add_places rest v rest_in (λ a h. step_back g laws usable a d h here) (λ a. cond (taken held a) 1 0) in
      let half = halves_add g d v in
      let few = set_cells in
      omega arith
    where
      one : (a b e : Bool) → (not a && (not b && not e)) ≡ false → 1 ≤ (cond a 1 0 + cond b 1 0) + cond e 1 0
      one true b e h = omega arith
      one false true e h = omega arith
      one false false true h = omega arith
      one false false false h = absurd (both_ways true h refl)

      set_cells : add_up (λ a. cond (taken held a) 1 0) v ≤ size_below held n
      set_cells =
          let least = laws.least in
          let first : v ≡ suc (v - 1) = omega arith in
          let shifted = ap (add_up (λ a. cond (taken held a) 1 0)) first ∙ add_shift (λ a. cond (taken held a) 1 0) (v - 1) in
          let size = size_adds held (v - 1) in
          let more = size_more held (v - 1) (n - (v - 1)) in
          let whole : v - 1 + (n - (v - 1)) ≡ n = omega arith in
          let same = ap (size_below held) whole in
          omega arith

  abbrev Two : Type 0
  Two = (s : Cellset) × Reaches c (λ i. not (held i)) d s × (size_of c s ≤ 2)

  labels : (i : ℕ) → In g (c.label i)
  labels i = label_in g laws n i

  -- cell j is free, so that a set of it alone has free cells alone
  only_free : (j : ℕ) → held j ≡ false → (i : ℕ) → only j i ≡ true → not (held i) ≡ true
  only_free j h i e = ap (λ k. not (held k)) (eqb-true i j e) ∙ ap not h

  -- the cell labelled d
  one_cell : (a : ℕ) → a ≡ d → taken held a ≡ false → Two
  one_cell zero e h = absurd (nonzero (sym e))
  one_cell (suc j) e h = (
    only j,
    record {
      within = λ i lt m. only_free j h i m;
      sums = sum_only c laws usable labels j n (omega arith) ∙ label_first g n j (omega arith) ∙ e;
    },
    let one = size_only j n (omega arith) in omega arith,
  )

  -- the cells labelled a and b
  two_cells : (a b : ℕ) → a < v → b < v → g.sum a b ≡ d → (a ≡ b → ⊥) → (a ≡ 0 → ⊥) → (b ≡ 0 → ⊥) → taken held a ≡ false → taken held b ≡ false → Two
  two_cells zero b ha hb e ne a0 b0 fa fb = absurd (a0 refl)
  two_cells (suc i) zero ha hb e ne a0 b0 fa fb = absurd (b0 refl)
  two_cells (suc i) (suc j) ha hb e ne a0 b0 fa fb =
      let apart : Apart (only i) (only j) n = λ k lt p q. ne (ap suc (sym (eqb-true k i p) ∙ eqb-true k j q)) in (
        either (only i) (only j),
        record {
          within = λ k lt m. free k (or_cases (only i k) (only j k) m);
          sums =
              sum_either c laws usable labels (only i) (only j) n apart
              ∙ ap₂ g.sum (sum_only c laws usable labels i n (omega arith) ∙ label_first g n i ha) (sum_only c laws usable labels j n (omega arith) ∙ label_first g n j hb)
              ∙ e;
        },
        let size = size_either (only i) (only j) n apart in
            let one = size_only i n (omega arith) in
            let other = size_only j n (omega arith) in
            omega arith,
      )
    where
      free : (k : ℕ) → ((only i k ≡ true) ⊎ (only j k ≡ true)) → not (held k) ≡ true
      free k (inl m) = only_free i fa k m
      free k (inr m) = only_free j fb k m

  some_cells : (a : ℕ) → a < v → both_free a ≡ true → Two
  some_cells a h free = go (cases_eq a 0) (cases_eq (rest a) 0)
    where
      parts : (not (taken held a) ≡ true) × ((not (taken held (rest a)) && not (eqb (g.sum a a) d)) ≡ true)
      parts = and_parts (not (taken held a)) (not (taken held (rest a)) && not (eqb (g.sum a a) d)) free

      more : (not (taken held (rest a)) ≡ true) × (not (eqb (g.sum a a) d) ≡ true)
      more = and_parts (not (taken held (rest a))) (not (eqb (g.sum a a) d)) parts.1

      leads : g.sum a (rest a) ≡ d
      leads = step_leads g laws usable a d h here

      go : ((a ≡ 0) ⊎ (a ≡ 0 → ⊥)) → ((rest a ≡ 0) ⊎ (rest a ≡ 0 → ⊥)) → Two
      go (inl e) r =
          one_cell (rest a) (sym (laws.neutral usable (rest a) (rest_in a h)) ∙ ap (λ z. g.sum z (rest a)) (sym e) ∙ leads) (not-true _ more.0)
      go (inr ne) (inl e) = one_cell a (step_zero g laws usable a d h here e) (not-true _ parts.0)
      go (inr ne) (inr other) =
          two_cells a (rest a) h (rest_in a h) leads
          (λ same. eqb-false _ _ (not-true _ more.1) (ap (g.sum a) same ∙ leads)) ne other (not-true _ parts.0) (not-true _ more.0)

  pub reaches_two : 2 * size_below held n + most_halves g (v - 1) < v → (s : Cellset) × Reaches c (λ i. not (held i)) d s × (size_of c s ≤ 2)
  reaches_two few = go (search_below both_free v)
    where
      go : (((a : ℕ) × (a < v) × (both_free a ≡ true)) ⊎ ((a : ℕ) → a < v → both_free a ≡ false)) → Two
      go (inl found) = some_cells found.0 found.1 found.2
      go (inr nowhere) =
          let all = counted nowhere in
          let most = halves_most g d (v - 1) (omega arith) (omega arith) in
          absurd (omega arith)
