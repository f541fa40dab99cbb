-- The binary vectors of m bits. Assumes nothing.
use Rattle.std.specs.Prelude.{◌≡◌, ℕ, ◌^◌, ◌<◌, ◌≤◌, Bool, ◌&&◌, bit_xor, nat_le}
use Rattle.group.specs.Group.{Group, unusable}
use Rattle.group.specs.ZeroOutside.{zero_outside}

abbrev pub vectors_usable : ℕ → Bool
vectors_usable m = nat_le 1 m && nat_le m 6

abbrev pub vectors : ℕ → Group
vectors m = zero_outside (vectors_usable m) (2 ^ m) bit_xor (λ a. a)

-- g is the group of the vectors of m bits under exclusive or, if m is from 1 to 6, and is unusable otherwise.
pub record BinaryVectors (m : ℕ) (g : Group) : Type 0 where
  pub order : 1 ≤ m → m ≤ 6 → g.order ≡ 2 ^ m
  pub sum : 1 ≤ m → m ≤ 6 → (a b : ℕ) → a < 2 ^ m → b < 2 ^ m → g.sum a b ≡ bit_xor a b
  pub opposite : 1 ≤ m → m ≤ 6 → (a : ℕ) → a < 2 ^ m → g.opposite a ≡ a
  pub below : m < 1 → g.order ≡ unusable
  pub above : 6 < m → g.order ≡ unusable
