-- No set of free cells has fewer cells than the planner's table says. Assumes nothing.
use Rattle.std.proofs.Common.{◌≡◌, ℕ, zero, suc, ◌+◌, ◌<◌, ◌≤◌, Bool, true, false, not, ◌&&◌, ◌||◌, eqb, ◌⊎◌, sym, refl, ap, ◌∙◌, inl, inr, arith}
use Rattle.std.proofs.lemmas.Bool.{and_parts, not-true, eqb-false, cases_Bool, cases_eq, eq-eqb, ne_eqb, both_ways}
use Rattle.group.specs.Group.{Group, Lawful, Usable, step}
use Rattle.cells.specs.Sets.{Cellset, size_below}
use Rattle.coset.specs.Code.{code, sum_of, size_of, Unreachable}
use Rattle.coset.specs.Plans.{Filled, fewest_at, entry_from_next}
use Rattle.coset.specs.declared.planner.Table.{Table}
use Rattle.coset.proofs.Groups.{zero_in, step_only}
use Rattle.cells.proofs.Sizes.{size_le}
use Rattle.coset.proofs.Sums.{Agree, Apart, only, either, label_in, sum_in, sum_agree, sum_either, sum_only, size_agree, size_either, size_only}
use Rattle.coset.proofs.Beyond.{sum_empty}

-- A cell may be left out or, where it is free, taken.
pub turn_out : (g : Group) (label : ℕ) (free : Bool) (next : ℕ → ℕ) (s : ℕ) → entry_from_next g label free next s ≤ next s
turn_out g label true next s = omega arith
turn_out g label false next s = omega arith

pub turn_in : (g : Group) (label : ℕ) (free : Bool) (next : ℕ → ℕ) (s : ℕ) → free ≡ true → entry_from_next g label free next s ≤ next (step g label s) + 1
turn_in g label true next s is_free = omega arith
turn_in g label false next s is_free = absurd (both_ways false refl is_free)

-- t without cell i
abbrev pub without : Cellset → ℕ → Cellset
without t i j = not (eqb j i) && t j

parted : (t : Cellset) (i n : ℕ) → t i ≡ true → Agree t (either (only i) (without t i)) n
parted t i n member j h = go (cases_eq j i)
  where
    go : (j ≡ i) ⊎ (j ≡ i → ⊥) → t j ≡ (eqb j i || (not (eqb j i) && t j))
    go (inl e) = rw (eq-eqb j i e) (ap t e ∙ member)
    go (inr ne) = rw (ne_eqb j i ne) refl

apart : (t : Cellset) (i n : ℕ) → Apart (only i) (without t i) n
apart t i n j h = go (eqb j i)
  where
    go : (b : Bool) → b ≡ true → (not b && t j) ≡ true → ⊥
    go true e member = both_ways false refl member
    go false e member = both_ways false refl e

pub size_without : (t : Cellset) (i n : ℕ) → i < n → t i ≡ true → size_below t n ≡ 1 + size_below (without t i) n
size_without t i n h member =
    size_agree t (either (only i) (without t i)) n (parted t i n member)
    ∙ size_either (only i) (without t i) n (apart t i n)
    ∙ ap (λ k. k + size_below (without t i) n) (size_only i n h)

-- the cells of t below n lie from i on, and are free
abbrev pub From : ℕ → Cellset → Cellset → ℕ → Type 0
From n free t i = (j : ℕ) → j < n → t j ≡ true → (free j ≡ true) × (i ≤ j)

pub from_without : (n : ℕ) (free t : Cellset) (i : ℕ) → From n free t i → From n free (without t i) (i + 1)
from_without n free t i from j h both =
    let (other, of_t) = and_parts (not (eqb j i)) (t j) both in
    let ne = eqb-false j i (not-true (eqb j i) other) in
    ((from j h of_t).0, let late = (from j h of_t).1 in omega arith)

module _ (g : Group) (laws : Lawful g) (usable : Usable g) (n : ℕ) where
  sum_without : (t : Cellset) (i : ℕ) → i < n → t i ≡ true → sum_of (code g n) t ≡ g.sum ((code g n).label i) (sum_of (code g n) (without t i))
  sum_without t i h member =
      sum_agree (code g n) t (either (only i) (without t i)) n (parted t i n member)
      ∙ sum_either (code g n) laws usable (label_in g laws n) (only i) (without t i) n (apart t i n)
      ∙ ap (λ z. g.sum z (sum_of (code g n) (without t i))) (sum_only (code g n) laws usable (label_in g laws n) i n h)

  pub rest_without :
      (t : Cellset) (i : ℕ) → i < n → t i ≡ true → step g ((code g n).label i) (sum_of (code g n) t) ≡ sum_of (code g n) (without t i)
  rest_without t i h member =
      ap (step g ((code g n).label i)) (sum_without t i h member)
      ∙ step_only g laws usable ((code g n).label i) (sum_of (code g n) (without t i)) (label_in g laws n i)
      (sum_in (code g n) laws usable (label_in g laws n) (without t i) n)

  module _ (free : Cellset) (table : Table) (filled : Filled (code g n) free table 0) where
    pub entry_least : (k i : ℕ) → i + k ≡ n → (t : Cellset) → From n free t i → fewest_at table i (sum_of (code g n) t) ≤ size_of (code g n) t
    entry_least zero i e t from = omega (arith, last)
      where
        quiet : (j : ℕ) → 0 ≤ j → j < n → t j ≡ false
        quiet j _ h = go (cases_Bool (t j))
          where
            go : (t j ≡ true) ⊎ (t j ≡ false) → t j ≡ false
            go (inl member) = absurd (let late = (from j h member).1 in omega arith)
            go (inr not_member) = not_member

        here : i ≡ n
        here = omega arith

        last : fewest_at table i (sum_of (code g n) t) ≡ 0
        last = rw (here, sum_empty (code g n) t n quiet) (filled.last 0 (zero_in g laws usable))
    entry_least (suc k) i e t from = go (cases_Bool (t i)) (entry_least k (i + 1) (omega arith))
      where
        entries : fewest_at table i (sum_of (code g n) t) ≡ entry_from_next g ((code g n).label i) (free i) (fewest_at table (i + 1)) (sum_of (code g n) t)
        entries = filled.entries i (sum_of (code g n) t) (omega arith) (omega arith) (sum_in (code g n) laws usable (label_in g laws n) t n)

        go :
            (t i ≡ true) ⊎ (t i ≡ false) →
            ((u : Cellset) → From n free u (i + 1) → fewest_at table (i + 1) (sum_of (code g n) u) ≤ size_of (code g n) u) →
            fewest_at table i (sum_of (code g n) t) ≤ size_of (code g n) t
        go (inl member) earlier =
            let here = turn_in g ((code g n).label i) (free i) (fewest_at table (i + 1)) (sum_of (code g n) t) (from i (omega arith) member).0 in
            let size = size_without t i n (omega arith) member in
            let few = earlier (without t i) (from_without n free t i from) in
            omega (arith, entries, ap (λ z. fewest_at table (i + 1) z) (rest_without t i (omega arith) member))
        go (inr not_member) earlier =
            let here = turn_out g ((code g n).label i) (free i) (fewest_at table (i + 1)) (sum_of (code g n) t) in
            let few = earlier t later in
            omega (arith, entries)
          where
            later : From n free t (i + 1)
            later j h of_t =
                let ne : j ≡ i → ⊥ = λ same. both_ways (t i) not_member (sym (ap t same) ∙ of_t) in
                ((from j h of_t).0, let late = (from j h of_t).1 in omega arith)

    -- an element at which the first row is full is the sum of no free cells
    pub entry_unreachable : n ≤ 63 → (d : ℕ) → fewest_at table 0 d ≡ 255 → Unreachable (code g n) free d
    entry_unreachable few d full t reaches =
        let least = entry_least n 0 (omega arith) t (λ j h member. (reaches.within j h member, omega arith)) in
        omega (arith, size_le t n, ap (λ z. fewest_at table 0 z) reaches.sums)
