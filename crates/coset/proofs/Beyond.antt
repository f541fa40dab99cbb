-- Sets with no cell from some cell on, and codes with more cells than a set can use. Assumes nothing.
use Rattle.std.proofs.Common.{◌≡◌, ℕ, zero, suc, ◌<◌, ◌≤◌, Bool, true, false, cond, ◌⊎◌, [], sym, refl, ap, ◌∙◌, inl, inr, arith}
use Rattle.std.proofs.lemmas.Bool.{cases_Bool, cases_eq, cases_lt, both_ways}
use Rattle.std.proofs.lemmas.Bool.Decides.{nat_tests}
use Rattle.group.specs.Group.{Group, Lawful, Usable, has, unusable}
use Rattle.cells.specs.Sets.{Cellset, size_below}
use Rattle.coset.specs.Code.{Code, code, sum_below, cells_of, Reaches, Unreachable, Plan}
use Rattle.coset.proofs.Sums.{label_in, sum_in}
use Rattle.coset.proofs.Lists.{cells_beyond, no_later}

-- no cell of s lies from m on and below n
abbrev pub Quiet : Cellset → ℕ → ℕ → Type 0
Quiet s m n = (j : ℕ) → m ≤ j → j < n → s j ≡ false

pub sum_beyond : (c : Code) (s : Cellset) (m n : ℕ) → m ≤ n → Quiet s m n → sum_below c s n ≡ sum_below c s m
unfolding sum_below
sum_beyond c s m zero le quiet = let e : 0 ≡ m = omega arith in ap (sum_below c s) e
sum_beyond c s m (suc n) le quiet = go (cases_eq m (suc n)) (sum_beyond c s m n)
  where
    go : (m ≡ suc n) ⊎ (m ≡ suc n → ⊥) → (m ≤ n → Quiet s m n → sum_below c s n ≡ sum_below c s m) → sum_below c s (suc n) ≡ sum_below c s m
    go (inl e) earlier = ap (sum_below c s) (sym e)
    go (inr ne) earlier = rw (quiet n (omega arith) (omega arith)) (earlier (omega arith) (λ j l h. quiet j l (omega arith)))

pub size_beyond : (s : Cellset) (m n : ℕ) → m ≤ n → Quiet s m n → size_below s n ≡ size_below s m
unfolding size_below
size_beyond s m zero le quiet = let e : 0 ≡ m = omega arith in ap (size_below s) e
size_beyond s m (suc n) le quiet = go (cases_eq m (suc n)) (size_beyond s m n)
  where
    go : (m ≡ suc n) ⊎ (m ≡ suc n → ⊥) → (m ≤ n → Quiet s m n → size_below s n ≡ size_below s m) → size_below s (suc n) ≡ size_below s m
    go (inl e) earlier = ap (size_below s) (sym e)
    go (inr ne) earlier = rw (quiet n (omega arith) (omega arith)) (earlier (omega arith) (λ j l h. quiet j l (omega arith)))

pub sum_empty : (c : Code) (s : Cellset) (n : ℕ) → Quiet s 0 n → sum_below c s n ≡ 0
unfolding sum_below
sum_empty c s n quiet = sum_beyond c s 0 n (omega arith) quiet

pub size_empty : (s : Cellset) (n : ℕ) → Quiet s 0 n → size_below s n ≡ 0
unfolding size_below
size_empty s n quiet = size_beyond s 0 n (omega arith) quiet

-- every sum of an unusable group is 0
pub sum_never : (c : Code) → Lawful c.group → c.group.order ≡ unusable → (s : Cellset) (n : ℕ) → sum_below c s n ≡ 0
unfolding sum_below
sum_never c laws never s zero = refl
sum_never c laws never s (suc n) = go (s n) (sum_never c laws never s n)
  where
    go : (b : Bool) → sum_below c s n ≡ 0 → cond b (c.group.sum (sum_below c s n) (c.label n)) (sum_below c s n) ≡ 0
    go true e = laws.unusable_sum never _ _
    go false e = e

-- the empty set is the plan for 0
pub plan_nothing : (c : Code) (free s : Cellset) → ((i : ℕ) → s i ≡ false) → Plan c free 0 s
plan_nothing c free s empty = record {
  reaches = record {
    within = λ i h member. absurd (both_ways (s i) (empty i) member);
    sums = sum_empty c s c.cells (λ j l h. empty j);
  };
  fewest = λ t reaches. let e = size_empty s c.cells (λ j l h. empty j) in omega arith;
  first = λ t reaches same. rw (cells_beyond s 0 0 c.cells (omega arith) (λ j lo hi. empty j)) (no_later [] (cells_of c t) tt);
}

-- no other number is a sum in an unusable group, and only elements are sums in a usable one
pub unusable_unreachable : (g : Group) → Lawful g → g.order ≡ unusable → (n : ℕ) (free : Cellset) (d : ℕ) → (d ≡ 0 → ⊥) → Unreachable (code g n) free d
unusable_unreachable g laws never n free d ne s reaches = ne (sym reaches.sums ∙ sum_never (code g n) laws never s n)

pub outside_unreachable : (g : Group) → Lawful g → Usable g → (n : ℕ) (free : Cellset) (d : ℕ) → g.order ≤ d → Unreachable (code g n) free d
outside_unreachable g laws usable n free d outside s reaches =
    let inside = sum_in (code g n) laws usable (label_in g laws n) s n in omega (arith, reaches.sums)

-- so where d is neither 0 nor an element nothing sums to it
pub no_element : (g : Group) → Lawful g → (n : ℕ) (free : Cellset) (d : ℕ) → (d ≡ 0 → ⊥) → has g d ≡ false → Unreachable (code g n) free d
no_element g laws n free d ne none = go (cases_eq g.order unusable) (cases_lt d g.order)
  where
    go : (g.order ≡ unusable) ⊎ (g.order ≡ unusable → ⊥) → (d < g.order) ⊎ (g.order ≤ d) → Unreachable (code g n) free d
    go (inl never) _ = unusable_unreachable g laws never n free d ne
    go (inr usable) (inr outside) = outside_unreachable g laws usable n free d outside
    go (inr usable) (inl inside) = absurd (grind (arith, nat_tests))

-- The sums do not depend on how many cells a record has.
sum_cells : (g : Group) (m n : ℕ) (s : Cellset) (k : ℕ) → sum_below (code g m) s k ≡ sum_below (code g n) s k
unfolding sum_below
sum_cells g m n s zero = refl
sum_cells g m n s (suc k) = ap (λ z. cond (s k) (g.sum z ((code g n).label k)) z) (sum_cells g m n s k)

-- Cells from m on that are not free change nothing.
module _ (g : Group) (m n : ℕ) (fewer : m ≤ n) (free : Cellset) (none_free : Quiet free m n) (d : ℕ) where
  quiet : (t : Cellset) → Reaches (code g n) free d t → Quiet t m n
  quiet t reaches j l h = go (cases_Bool (t j))
    where
      go : (t j ≡ true) ⊎ (t j ≡ false) → t j ≡ false
      go (inl member) = absurd (both_ways (free j) (none_free j l h) (reaches.within j h member))
      go (inr e) = e

  fewer_reaches : (t : Cellset) → Reaches (code g n) free d t → Reaches (code g m) free d t
  fewer_reaches t reaches = record {
    within = λ i h. reaches.within i (omega arith);
    sums = sum_cells g m n t m ∙ sym (sum_beyond (code g n) t m n fewer (quiet t reaches)) ∙ reaches.sums;
  }

  pub more_unreachable : Unreachable (code g m) free d → Unreachable (code g n) free d
  more_unreachable never t reaches = never t (fewer_reaches t reaches)

  pub more_plan : (s : Cellset) → Quiet s m n → Plan (code g m) free d s → Plan (code g n) free d s
  more_plan s none_beyond plan = record {
    reaches = record {
      within = λ i h member. inside i h member (cases_lt i m);
      sums = sum_beyond (code g n) s m n fewer none_beyond ∙ sum_cells g n m s m ∙ plan.reaches.sums;
    };
    fewest = λ t reaches.
        let few = plan.fewest t (fewer_reaches t reaches) in
        let size_s = size_beyond s m n fewer none_beyond in
        let size_t = size_beyond t m n fewer (quiet t reaches) in
        omega arith;
    first = λ t reaches same.
        let size_s = size_beyond s m n fewer none_beyond in
        let size_t = size_beyond t m n fewer (quiet t reaches) in
        rw (
          cells_beyond s 0 m n fewer (λ j lo hi. none_beyond j (omega arith) (omega arith)),
          cells_beyond t 0 m n fewer (λ j lo hi. quiet t reaches j (omega arith) (omega arith)),
        ) (plan.first t (fewer_reaches t reaches) (omega arith));
  }
    where
      inside : (i : ℕ) → i < n → s i ≡ true → (i < m) ⊎ (m ≤ i) → free i ≡ true
      inside i h member (inl below) = plan.reaches.within i below member
      inside i h member (inr beyond) = absurd (both_ways (s i) (none_beyond i beyond h) member)
