-- A plan is one set, which has the lowest cell in which it and another fewest set differ. Assumes nothing.
use Rattle.std.proofs.Common.{◌≡◌, ℕ, zero, suc, ◌+◌, ◌<◌, ◌≤◌, Bool, true, false, cond, ◌⊎◌, List, [], ◌∷◌, length, get_or, drop, sym, refl, ap, ◌∙◌, inl, inr, arith}
use Rattle.std.proofs.lemmas.Bool.{both_ways, cases_eq}
use Rattle.cells.specs.Sets.{Cellset}
use Rattle.coset.specs.Code.{Code, size_of, cells_of, ComesNoLater, Reaches, Plan}
use Rattle.coset.specs.OnePlan.{SameCells, PlansAgree, HasLowest, LowestDecides}
use Rattle.coset.proofs.Lists.{cells_from, cells_whole, BeginsFrom, cells_begin, NoLaterBy, no_later, no_later_by, no_later_both}

-- Of two sets with as many of these cells, s comes no later where s has the first cell in which they differ.
lowest_first :
    (s t : Cellset) (i n : ℕ) → length (cells_from t i n) ≡ length (cells_from s i n) →
    ((j : ℕ) → i ≤ j → j < i + n → ((k : ℕ) → i ≤ k → k < j → t k ≡ s k) → (t j ≡ s j → ⊥) → s j ≡ true) →
    ComesNoLater (cells_from s i n) (cells_from t i n)
lowest_first s t i zero count lowest = refl
lowest_first s t i (suc n) count lowest =
    go (s i) (t i) refl refl count (lowest i (omega arith) (omega arith) (λ k lo hi. absurd (omega arith)))
    (cells_begin t (i + 1) n)
    (λ same count. lowest_first s t (i + 1) n count (λ j lo hi agree. lowest j (omega arith) (omega arith) (λ k from below. at same j agree k from below (cases_eq k i))))
  where
    S : List ℕ
    S = cells_from s (i + 1) n

    T : List ℕ
    T = cells_from t (i + 1) n

    at :
        t i ≡ s i → (j : ℕ) → ((k : ℕ) → i + 1 ≤ k → k < j → t k ≡ s k) → (k : ℕ) → i ≤ k → k < j →
        (k ≡ i) ⊎ (k ≡ i → ⊥) → t k ≡ s k
    at same j agree k from below (inl e) = ap t e ∙ same ∙ ap s (sym e)
    at same j agree k from below (inr ne) = agree k (omega arith) below

    -- a list as long that begins after i
    earlier : (l : List ℕ) → length l ≡ suc (length S) → BeginsFrom (i + 1) l → ComesNoLater (i ∷ S) l
    earlier [] e from = absurd (omega arith)
    earlier (y ∷ l) e from = no_later (i ∷ S) (y ∷ l) (inl (omega arith))

    go :
        (a b : Bool) → s i ≡ a → t i ≡ b → length (cond b (i ∷ T) T) ≡ length (cond a (i ∷ S) S) →
        ((t i ≡ s i → ⊥) → s i ≡ true) → BeginsFrom (i + 1) T → (t i ≡ s i → length T ≡ length S → ComesNoLater S T) →
        ComesNoLater (cond a (i ∷ S) S) (cond b (i ∷ T) T)
    go true true p q e h from later = no_later (i ∷ S) (i ∷ T) (inr (refl, later (q ∙ sym p) (omega arith)))
    go true false p q e h from later = earlier T (omega arith) from
    go false true p q e h from later = absurd (both_ways (s i) p (h (λ same. both_ways (t i) (same ∙ p) q)))
    go false false p q e h from later = later (q ∙ sym p) e

-- And of two sets with as many, the one that comes no later has the first cell in which they differ.
first_lowest :
    (s t : Cellset) (i n : ℕ) → length (cells_from t i n) ≡ length (cells_from s i n) →
    ComesNoLater (cells_from s i n) (cells_from t i n) → (j : ℕ) → i ≤ j → j < i + n →
    ((k : ℕ) → i ≤ k → k < j → t k ≡ s k) → t j ≡ true → s j ≡ true
first_lowest s t i zero count first j lo hi same member = absurd (omega arith)
first_lowest s t i (suc n) count first j lo hi same member =
    go (s i) (t i) refl refl count first (cells_begin s (i + 1) n) (cases_eq j i)
    (λ ne count first. first_lowest s t (i + 1) n count first j (omega arith) (omega arith) (λ k from below. same k (omega arith) below) member)
  where
    S : List ℕ
    S = cells_from s (i + 1) n

    T : List ℕ
    T = cells_from t (i + 1) n

    late : (l : List ℕ) → BeginsFrom (i + 1) l → suc (length T) ≡ length l → NoLaterBy l (i ∷ T) → ⊥
    late [] from e first = omega arith
    late (y ∷ l) from e (inl less) = omega arith
    late (y ∷ l) from e (inr same) = let at = same.0 in omega arith

    both : NoLaterBy (i ∷ S) (i ∷ T) → ComesNoLater S T
    both (inl less) = absurd (omega arith)
    both (inr rest) = rest.1

    go :
        (a b : Bool) → s i ≡ a → t i ≡ b → length (cond b (i ∷ T) T) ≡ length (cond a (i ∷ S) S) →
        ComesNoLater (cond a (i ∷ S) S) (cond b (i ∷ T) T) → BeginsFrom (i + 1) S → (j ≡ i) ⊎ (j ≡ i → ⊥) →
        ((j ≡ i → ⊥) → length T ≡ length S → ComesNoLater S T → s j ≡ true) → s j ≡ true
    go true b p q e first from (inl at) later = ap s at ∙ p
    go false false p q e first from (inl at) later = absurd (both_ways (t i) q (ap t (sym at) ∙ member))
    go false true p q e first from (inl at) later = absurd (late S from e (no_later_by S (i ∷ T) first))
    go true true p q e first from (inr ne) later = later ne (omega arith) (both (no_later_by (i ∷ S) (i ∷ T) first))
    go false false p q e first from (inr ne) later = later ne e first
    go true false p q e first from (inr ne) later =
        absurd (both_ways (t i) q (same i (omega arith) (omega arith) ∙ p))
    go false true p q e first from (inr ne) later =
        absurd (both_ways (s i) p (sym (same i (omega arith) (omega arith)) ∙ q))

-- sets with the same list have the same cells
cells_same : (s t : Cellset) (i n : ℕ) → cells_from s i n ≡ cells_from t i n → (j : ℕ) → i ≤ j → j < i + n → t j ≡ s j
cells_same s t i zero e j lo hi = absurd (omega arith)
cells_same s t i (suc n) e j lo hi =
    go (s i) (t i) refl refl e (cases_eq j i) (λ e ne. cells_same s t (i + 1) n e j (omega arith) (omega arith))
  where
    S : List ℕ
    S = cells_from s (i + 1) n

    T : List ℕ
    T = cells_from t (i + 1) n

    apart : (l m : List ℕ) → BeginsFrom (i + 1) l → i ∷ m ≡ l → ⊥
    apart [] m from e = let no = ap length e in omega arith
    apart (y ∷ l) m from e = let no = ap (λ l. get_or l 0 0) e in omega arith

    here : t i ≡ s i → S ≡ T → (j ≡ i) ⊎ (j ≡ i → ⊥) → (S ≡ T → (j ≡ i → ⊥) → t j ≡ s j) → t j ≡ s j
    here same e (inl at) later = ap t at ∙ same ∙ ap s (sym at)
    here same e (inr ne) later = later e ne

    go :
        (a b : Bool) → s i ≡ a → t i ≡ b → cond a (i ∷ S) S ≡ cond b (i ∷ T) T → (j ≡ i) ⊎ (j ≡ i → ⊥) →
        (S ≡ T → (j ≡ i → ⊥) → t j ≡ s j) → t j ≡ s j
    go true true p q e at later = here (q ∙ sym p) (ap (drop 1) e) at later
    go true false p q e at later = absurd (apart T S (cells_begin t (i + 1) n) e)
    go false true p q e at later = absurd (apart S T (cells_begin s (i + 1) n) (sym e))
    go false false p q e at later = here (q ∙ sym p) e at later

-- sets of the same size have lists of the same length
same_length : (c : Code) (s t : Cellset) → size_of c t ≡ size_of c s → length (cells_of c t) ≡ length (cells_of c s)
same_length c s t same = cells_whole t c.cells ∙ same ∙ sym (cells_whole s c.cells)

-- a set that has the lowest cell comes first
pub lowest_is_first :
    (c : Code) (free : Cellset) (d : ℕ) (s : Cellset) → HasLowest c free d s → (t : Cellset) → Reaches c free d t →
    size_of c t ≡ size_of c s → ComesNoLater (cells_of c s) (cells_of c t)
lowest_is_first c free d s lowest t reaches same =
    lowest_first s t 0 c.cells (same_length c s t same)
    (λ j lo hi agree differ. lowest t reaches same j (omega arith) (λ k h. agree k (omega arith) h) differ)

-- of two sets that differ in a cell the one that has it where the other has it has it
pub has_where_other_has : (a b : Bool) → (b ≡ true → a ≡ true) → (b ≡ a → ⊥) → a ≡ true
has_where_other_has true b other differ = refl
has_where_other_has false true other differ = other refl
has_where_other_has false false other differ = absurd (differ refl)

plan_has_lowest : (c : Code) (free : Cellset) (d : ℕ) (s : Cellset) → Plan c free d s → HasLowest c free d s
plan_has_lowest c free d s plan t reaches same i h agree differ =
    has_where_other_has (s i) (t i)
    (first_lowest s t 0 c.cells (same_length c s t same) (plan.first t reaches same) i (omega arith) (omega arith) (λ k lo below. agree k below))
    differ

pub lowest_decides : LowestDecides
lowest_decides c free d s reaches fewest = (
  plan_has_lowest c free d s,
  (λ lowest. record { reaches = reaches; fewest = fewest; first = lowest_is_first c free d s lowest }),
)

-- What is free and what the step is may be told by whatever is the same.
pub reaches_move : (c : Code) (f h : Cellset) (d e : ℕ) (s : Cellset) → SameCells c h f → d ≡ e → Reaches c f d s → Reaches c h e s
reaches_move c f h d e s same is r =
    record { within = λ i lt member. sym (same i lt) ∙ r.within i lt member; sums = r.sums ∙ is }

pub plan_move : (c : Code) (f h : Cellset) (d e : ℕ) (s : Cellset) → SameCells c h f → d ≡ e → Plan c f d s → Plan c h e s
plan_move c f h d e s same is plan = record {
  reaches = reaches_move c f h d e s same is plan.reaches;
  fewest = λ t r. plan.fewest t (back t r);
  first = λ t r size. plan.first t (back t r) size;
}
  where
    back : (t : Cellset) → Reaches c h e t → Reaches c f d t
    back t r = reaches_move c h f e d t (λ i lt. sym (same i lt)) (sym is) r

pub plans_agree : PlansAgree
plans_agree c free free' d s s' same plan there i h =
    let plan' = plan_move c free' free d d s' same refl there in
    let few = plan.fewest s' plan'.reaches in
    let few' = plan'.fewest s plan.reaches in
    cells_same s s' 0 c.cells
    (no_later_both (cells_of c s) (cells_of c s') (plan.first s' plan'.reaches (omega arith)) (plan'.first s plan.reaches (omega arith)))
    i (omega arith) (omega arith)
