-- Tables of refusals that refuse alike. Assumes nothing.
use Rattle.std.proofs.Common.{◌≡◌, ℕ, ◌↔◌, List, [], ◌∷◌, sym, refl, ◌∙◌, inl, inr}
use Rattle.cells.specs.Rows.{Row, Refused, Served}

-- The tables have the same numbers, and each row holds in both or in neither, where none before it does.
abbrev pub SameRows : List Row → List Row → Type 0
SameRows [] [] = Unit {0}
SameRows [] (q ∷ qs) = ⊥
SameRows (r ∷ rs) [] = ⊥
SameRows (r ∷ rs) (q ∷ qs) = (q.number ≡ r.number) × (r.holds ↔ q.holds) × ((r.holds → ⊥) → SameRows rs qs)

pub rows_itself : (rs : List Row) → SameRows rs rs
rows_itself [] = tt
rows_itself (r ∷ rs) = (refl, ((λ h. h), (λ h. h)), λ none. rows_itself rs)

pub rows_back : (rs qs : List Row) → SameRows rs qs → SameRows qs rs
rows_back [] [] same = tt
rows_back [] (q ∷ qs) same = absurd same
rows_back (r ∷ rs) [] same = absurd same
rows_back (r ∷ rs) (q ∷ qs) same =
    (sym same.0, (same.1.1, same.1.0), λ none. rows_back rs qs (same.2 (λ h. none (same.1.0 h))))

pub refused_same : (rs qs : List Row) (k j : ℕ) → SameRows rs qs → Refused rs k → Refused qs j → j ≡ k
refused_same [] qs k j same a b = absurd a
refused_same (r ∷ rs) [] k j same a b = absurd b
refused_same (r ∷ rs) (q ∷ qs) k j same (inl a) (inl b) = b.1 ∙ same.0 ∙ sym a.1
refused_same (r ∷ rs) (q ∷ qs) k j same (inl a) (inr b) = absurd (b.0 (same.1.0 a.0))
refused_same (r ∷ rs) (q ∷ qs) k j same (inr a) (inl b) = absurd (a.0 (same.1.1 b.0))
refused_same (r ∷ rs) (q ∷ qs) k j same (inr a) (inr b) = refused_same rs qs k j (same.2 a.0) a.1 b.1

pub served_same : (rs qs : List Row) → SameRows rs qs → Served rs → Served qs
served_same [] [] same a = tt
served_same [] (q ∷ qs) same a = absurd same
served_same (r ∷ rs) [] same a = absurd same
served_same (r ∷ rs) (q ∷ qs) same a = ((λ h. a.0 (same.1.1 h)), served_same rs qs (same.2 a.0) a.1)

-- a table refuses or serves, and refuses by one number
pub served_not_refused : (rs : List Row) (k : ℕ) → Served rs → Refused rs k → ⊥
served_not_refused [] k a b = b
served_not_refused (r ∷ rs) k a (inl b) = a.0 b.0
served_not_refused (r ∷ rs) k a (inr b) = served_not_refused rs k a.1 b.1

pub refused_once : (rs : List Row) (k j : ℕ) → Refused rs k → Refused rs j → j ≡ k
refused_once rs k j a b = refused_same rs rs k j (rows_itself rs) a b
