-- The integers modulo v. Assumes nothing.
use Rattle.std.specs.Prelude.{◌≡◌, ℕ, ◌+◌, ◌-◌, ◌%◌, ◌<◌, ◌≤◌, Bool, ◌&&◌, nat_le}
use Rattle.group.specs.Group.{Group, unusable}
use Rattle.group.specs.ZeroOutside.{zero_outside}

abbrev pub integers_usable : ℕ → Bool
integers_usable v = nat_le 2 v && nat_le v 64

abbrev pub integers : ℕ → Group
integers v = zero_outside (integers_usable v) v (λ a b. (a + b) % v) (λ a. (v - a) % v)

-- g is the group of the integers modulo v, if v is from 2 to 64, and is unusable otherwise.
pub record IntegersModulo (v : ℕ) (g : Group) : Type 0 where
  pub order : 2 ≤ v → v ≤ 64 → g.order ≡ v
  pub sum : 2 ≤ v → v ≤ 64 → (a b : ℕ) → a < v → b < v → g.sum a b ≡ (a + b) % v
  pub opposite : 2 ≤ v → v ≤ 64 → (a : ℕ) → a < v → g.opposite a ≡ (v - a) % v
  pub below : v < 2 → g.order ≡ unusable
  pub above : 64 < v → g.order ≡ unusable
