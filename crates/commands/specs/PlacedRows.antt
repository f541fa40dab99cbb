-- Tables of the refusals of a line: a row also has the column that its refusal prints. Assumes nothing.
use Rattle.std.specs.Prelude.{◌≡◌, ℕ, ◌⊎◌, List, [], ◌∷◌}

pub record PlacedRow : Type 1 where
  pub number : ℕ
  pub column : ℕ
  pub holds : Type 0

abbrev pub placed_row : ℕ → ℕ → Type 0 → PlacedRow
placed_row k j P = record { number = k; column = j; holds = P }

-- the first row that holds has the number k and the column j
abbrev pub RefusedAt : List PlacedRow → ℕ → ℕ → Type 0
RefusedAt [] k j = ⊥
RefusedAt (r ∷ rs) k j = (r.holds × (k ≡ r.number) × (j ≡ r.column)) ⊎ ((r.holds → ⊥) × RefusedAt rs k j)

-- no row holds
abbrev pub NotRefused : List PlacedRow → Type 0
NotRefused [] = Unit {0}
NotRefused (r ∷ rs) = (r.holds → ⊥) × NotRefused rs
