-- Tables of refusals one after another. Assumes nothing.
use Rattle.std.proofs.Common.{ℕ, List, [], ◌∷◌, ◌++◌, inr}
use Rattle.commands.specs.PlacedRows.{PlacedRow, RefusedAt, NotRefused}

pub accepted_both : (xs ys : List PlacedRow) → NotRefused xs → NotRefused ys → NotRefused (xs ++ ys)
accepted_both [] ys p q = q
accepted_both (x ∷ xs) ys p q = (p.0, accepted_both xs ys p.1 q)

pub refused_then : (xs ys : List PlacedRow) (k j : ℕ) → NotRefused xs → RefusedAt ys k j → RefusedAt (xs ++ ys) k j
refused_then [] ys k j p s = s
refused_then (x ∷ xs) ys k j p s = inr (p.0, refused_then xs ys k j p.1 s)
