-- Tables of refusals put one after the other. Assumes nothing.
use Rattle.std.proofs.Common.{ℕ, List, [], ◌∷◌, ◌++◌, inl, inr}
use Rattle.cells.specs.Rows.{Row, Refused, Served}

pub served_both : (rs ss : List Row) → Served rs → Served ss → Served (rs ++ ss)
served_both [] ss a b = b
served_both (r ∷ rs) ss a b = (a.0, served_both rs ss a.1 b)

pub served_first : (rs ss : List Row) → Served (rs ++ ss) → Served rs
served_first [] ss a = tt
served_first (r ∷ rs) ss a = (a.0, served_first rs ss a.1)

pub served_rest : (rs ss : List Row) → Served (rs ++ ss) → Served ss
served_rest [] ss a = a
served_rest (r ∷ rs) ss a = served_rest rs ss a.1

-- a refusal by the first table is one by both
pub refused_first : (rs ss : List Row) (k : ℕ) → Refused rs k → Refused (rs ++ ss) k
refused_first [] ss k a = absurd a
refused_first (r ∷ rs) ss k (inl here) = inl here
refused_first (r ∷ rs) ss k (inr later) = inr (later.0, refused_first rs ss k later.1)

-- and so is one by the second, where the first serves
pub refused_rest : (rs ss : List Row) (k : ℕ) → Served rs → Refused ss k → Refused (rs ++ ss) k
refused_rest [] ss k a b = b
refused_rest (r ∷ rs) ss k a b = inr (a.0, refused_rest rs ss k a.1 b)
