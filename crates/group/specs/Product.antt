-- The direct product of two groups. Assumes nothing.
use Rattle.std.specs.Prelude.{◌≡◌, ℕ, ◌+◌, ◌*◌, ◌/◌, ◌%◌, ◌<◌, ◌≤◌, Bool, nat_le}
use Rattle.group.specs.Group.{Group, Usable, In, unusable}
use Rattle.group.specs.ZeroOutside.{zero_outside}

-- the number of pairs
abbrev pub product_size : Group → Group → ℕ
product_size g h = g.order * h.order

abbrev pub product_usable : Group → Group → Bool
product_usable g h = nat_le (product_size g h) 64

abbrev pub product_sum : Group → Group → ℕ → ℕ → ℕ
product_sum g h x y = let r = h.order in g.sum (x / r) (y / r) * r + h.sum (x % r) (y % r)

abbrev pub product_opposite : Group → Group → ℕ → ℕ
product_opposite g h x = let r = h.order in g.opposite (x / r) * r + h.opposite (x % r)

abbrev pub product : Group → Group → Group
product g h = zero_outside (product_usable g h) (product_size g h) (product_sum g h) (product_opposite g h)

-- k is the product of g and h, if both are usable and there are at most 64 pairs, and is unusable otherwise.
-- The pair of a and b has the number a * r + b, where r is the order of h.
pub record DirectProduct (g h k : Group) : Type 0 where
  pub order : Usable g → Usable h → g.order * h.order ≤ 64 → k.order ≡ g.order * h.order
  pub sum : Usable g → Usable h → g.order * h.order ≤ 64 → (a b c d : ℕ) → In g a → In h b → In g c → In h d → k.sum (a * h.order + b) (c * h.order + d) ≡ g.sum a c * h.order + h.sum b d
  pub opposite : Usable g → Usable h → g.order * h.order ≤ 64 → (a b : ℕ) → In g a → In h b → k.opposite (a * h.order + b) ≡ g.opposite a * h.order + h.opposite b
  pub left_unusable : g.order ≡ unusable → k.order ≡ unusable
  pub right_unusable : h.order ≡ unusable → k.order ≡ unusable
  pub above : 64 < g.order * h.order → k.order ≡ unusable
