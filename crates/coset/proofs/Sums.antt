-- Sums and sizes of sets of labelled cells. Assumes nothing.
use Rattle.std.proofs.Common.{◌≡◌, ℕ, zero, suc, ◌+◌, ◌-◌, ◌%◌, ◌<◌, ◌≤◌, Bool, true, false, cond, ◌||◌, eqb, ◌⊎◌, sym, refl, ap, ◌∙◌, ap₂, inl, inr, add-zero, add-suc, mod-eq_of_lt, arith}
use Rattle.std.proofs.lemmas.Nat.{mod_below}
use Rattle.std.proofs.lemmas.Bool.{cases_eq, eq-eqb, ne_eqb, cond-true}
use Rattle.group.specs.Group.{Group, Lawful, Usable, In}
use Rattle.cells.specs.Sets.{Cellset, size_below}
use Rattle.coset.specs.Code.{Code, code, sum_below}
use Rattle.coset.proofs.Groups.{zero_in, sum_zero, sum_swap}

-- no cell
abbrev pub none : Cellset
none i = false

-- cell j alone
abbrev pub only : ℕ → Cellset
only j i = eqb i j

-- the cells of either
abbrev pub either : Cellset → Cellset → Cellset
either s t i = s i || t i

-- no cell below n is in both
abbrev pub Apart : Cellset → Cellset → ℕ → Type 0
Apart s t n = (i : ℕ) → i < n → s i ≡ true → t i ≡ true → ⊥

-- the cells below n are in the one exactly when they are in the other
abbrev pub Agree : Cellset → Cellset → ℕ → Type 0
Agree s t n = (i : ℕ) → i < n → s i ≡ t i

pub size_agree : (s t : Cellset) (n : ℕ) → Agree s t n → size_below s n ≡ size_below t n
unfolding size_below
size_agree s t zero same = refl
size_agree s t (suc n) same =
    ap₂ (λ b k. cond b (1 + k) k) (same n (omega arith)) (size_agree s t n (λ i h. same i (omega arith)))

pub size_none : (n : ℕ) → size_below none n ≡ 0
unfolding size_below
size_none zero = refl
size_none (suc n) = size_none n

-- a longer record has at least as many
pub size_more : (s : Cellset) (n k : ℕ) → size_below s n ≤ size_below s (n + k)
unfolding size_below
size_more s n zero = rw add-zero (omega arith)
size_more s n (suc k) = rw add-suc (go (s (n + k)) (size_more s n k))
  where
    go : (b : Bool) → size_below s n ≤ size_below s (n + k) → size_below s n ≤ cond b (1 + size_below s (n + k)) (size_below s (n + k))
    go true h = omega arith
    go false h = h

pub size_either : (s t : Cellset) (n : ℕ) → Apart s t n → size_below (either s t) n ≡ size_below s n + size_below t n
unfolding size_below
size_either s t zero apart = refl
size_either s t (suc n) apart = go (s n) (t n) refl refl (size_either s t n (λ i h. apart i (omega arith)))
  where
    go :
        (a b : Bool) → s n ≡ a → t n ≡ b → size_below (either s t) n ≡ size_below s n + size_below t n →
        cond (a || b) (1 + size_below (either s t) n) (size_below (either s t) n) ≡ cond a (1 + size_below s n) (size_below s n) + cond b (1 + size_below t n) (size_below t n)
    go true true p q e = absurd (apart n (omega arith) p q)
    go true false p q e = omega arith
    go false true p q e = omega arith
    go false false p q e = e

pub size_only : (j n : ℕ) → j < n → size_below (only j) n ≡ 1
unfolding size_below
size_only j zero h = absurd (omega arith)
size_only j (suc n) h = go (cases_eq n j) (size_only j n)
  where
    go : ((n ≡ j) ⊎ (n ≡ j → ⊥)) → (j < n → size_below (only j) n ≡ 1) → cond (eqb n j) (1 + size_below (only j) n) (size_below (only j) n) ≡ 1
    go (inl e) earlier = rw (eq-eqb n j e) (rw (before n (omega arith)) refl)
      where
        before : (k : ℕ) → k ≤ j → size_below (only j) k ≡ 0
        before k le = size_agree (only j) none k (λ i lt. ne_eqb i j (λ same. omega arith)) ∙ size_none k
    go (inr ne) earlier = rw (ne_eqb n j ne) (earlier (omega arith))

pub sum_agree : (c : Code) (s t : Cellset) (n : ℕ) → Agree s t n → sum_below c s n ≡ sum_below c t n
unfolding sum_below
sum_agree c s t zero same = refl
sum_agree c s t (suc n) same =
    ap₂ (λ b k. cond b (c.group.sum k (c.label n)) k) (same n (omega arith)) (sum_agree c s t n (λ i h. same i (omega arith)))

-- with a cell of the set
pub sum_next : (c : Code) (s : Cellset) (i : ℕ) → s i ≡ true → sum_below c s (i + 1) ≡ c.group.sum (sum_below c s i) (c.label i)
unfolding sum_below
sum_next c s i member = let next : i + 1 ≡ suc i = omega arith in ap (sum_below c s) next ∙ cond-true (s i) _ _ member

pub sum_none : (c : Code) (n : ℕ) → sum_below c none n ≡ 0
unfolding sum_below
sum_none c zero = refl
sum_none c (suc n) = sum_none c n

module _ (c : Code) (laws : Lawful c.group) (usable : Usable c.group) (labels : (i : ℕ) → In c.group (c.label i)) where
  pub sum_in : (s : Cellset) (n : ℕ) → In c.group (sum_below c s n)
  unfolding sum_below
  sum_in s zero = zero_in c.group laws usable
  sum_in s (suc n) = go (s n) (sum_in s n)
    where
      go : (b : Bool) → In c.group (sum_below c s n) → In c.group (cond b (c.group.sum (sum_below c s n) (c.label n)) (sum_below c s n))
      go true h = laws.closed usable _ _ h (labels n)
      go false h = h

  pub sum_either : (s t : Cellset) (n : ℕ) → Apart s t n → sum_below c (either s t) n ≡ c.group.sum (sum_below c s n) (sum_below c t n)
  unfolding sum_below
  sum_either s t zero apart = sym (sum_zero c.group laws usable 0 (zero_in c.group laws usable))
  sum_either s t (suc n) apart = go (s n) (t n) refl refl (sum_either s t n (λ i h. apart i (omega arith)))
    where
      S : ℕ
      S = sum_below c s n

      T : ℕ
      T = sum_below c t n

      go :
          (a b : Bool) → s n ≡ a → t n ≡ b → sum_below c (either s t) n ≡ c.group.sum S T →
          cond (a || b) (c.group.sum (sum_below c (either s t) n) (c.label n)) (sum_below c (either s t) n)
          ≡ c.group.sum (cond a (c.group.sum S (c.label n)) S) (cond b (c.group.sum T (c.label n)) T)
      go true true p q e = absurd (apart n (omega arith) p q)
      go true false p q e =
          ap (λ z. c.group.sum z (c.label n)) e ∙ sum_swap c.group laws usable S T (c.label n) (sum_in s n) (sum_in t n) (labels n)
      go false true p q e =
          ap (λ z. c.group.sum z (c.label n)) e ∙ laws.associates usable S T (c.label n) (sum_in s n) (sum_in t n) (labels n)
      go false false p q e = e

  pub sum_only : (j n : ℕ) → j < n → sum_below c (only j) n ≡ c.label j
  unfolding sum_below
  sum_only j zero h = absurd (omega arith)
  sum_only j (suc n) h = go (cases_eq n j) (sum_only j n)
    where
      before : (k : ℕ) → k ≤ j → sum_below c (only j) k ≡ 0
      before k le = sum_agree c (only j) none k (λ i lt. ne_eqb i j (λ same. omega arith)) ∙ sum_none c k

      go : ((n ≡ j) ⊎ (n ≡ j → ⊥)) → (j < n → sum_below c (only j) n ≡ c.label j) → cond (eqb n j) (c.group.sum (sum_below c (only j) n) (c.label n)) (sum_below c (only j) n) ≡ c.label j
      go (inl e) earlier = rw (eq-eqb n j e, before n (omega arith)) (laws.neutral usable (c.label n) (labels n) ∙ ap c.label e)
      go (inr ne) earlier = rw (ne_eqb n j ne) (earlier (omega arith))

-- the labels of the code of a usable group are elements, and none is 0
pub label_in : (g : Group) → Lawful g → (n i : ℕ) → In g ((code g n).label i)
label_in g laws n i = let least = laws.least in let r = mod_below i (g.order - 1) (omega arith) in omega arith

-- the first of them are 1, 2, 3 and so on
pub label_first : (g : Group) (n i : ℕ) → suc i < g.order → (code g n).label i ≡ suc i
label_first g n i h = let r : i % (g.order - 1) ≡ i = mod-eq_of_lt (omega arith) in omega arith
