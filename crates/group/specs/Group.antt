-- A finite abelian group with numbered elements, its laws, and the figure that its doublings give. Assumes nothing.
use Rattle.std.specs.Prelude.{◌≡◌, ℕ, zero, suc, ◌+◌, ◌-◌, ◌/◌, ◌<◌, ◌≤◌, max, Bool, cond, not, ◌&&◌, ◌==◌, nat_lt}

-- The elements of a usable group are the numbers below its order, and 0 is the neutral one.
pub record Group : Type 0 where
  pub order : ℕ
  pub sum : ℕ → ℕ → ℕ
  pub opposite : ℕ → ℕ

-- No group of the crate has more than 64 elements, so this order marks parameters that name none.
abbrev pub unusable : ℕ
unusable = 65

abbrev pub Usable : Group → Type 0
Usable g = g.order ≡ unusable → ⊥

-- a is below the order, so where g is usable the number of an element
abbrev pub In : Group → ℕ → Type 0
In g a = a < g.order

-- The same as tests: whether g is usable, and whether a is one of its elements. An unusable group has none.
abbrev pub is_usable : Group → Bool
is_usable g = not (g.order == unusable)

abbrev pub has : Group → ℕ → Bool
has g a = is_usable g && nat_lt a g.order

-- The laws of an abelian group, and what is answered outside of it: 0.
pub record Lawful (g : Group) : Type 0 where
  pub least : 2 ≤ g.order
  pub most : g.order ≤ unusable
  pub closed : Usable g → (a b : ℕ) → In g a → In g b → In g (g.sum a b)
  pub commutes : Usable g → (a b : ℕ) → In g a → In g b → g.sum a b ≡ g.sum b a
  pub associates : Usable g → (a b c : ℕ) → In g a → In g b → In g c → g.sum (g.sum a b) c ≡ g.sum a (g.sum b c)
  pub neutral : Usable g → (a : ℕ) → In g a → g.sum 0 a ≡ a
  pub opposed : Usable g → (a : ℕ) → In g a → In g (g.opposite a) × (g.sum a (g.opposite a) ≡ 0)
  pub outside_left : (a b : ℕ) → g.order ≤ a → g.sum a b ≡ 0
  pub outside_right : (a b : ℕ) → g.order ≤ b → g.sum a b ≡ 0
  pub outside_opposite : (a : ℕ) → g.order ≤ a → g.opposite a ≡ 0
  pub unusable_sum : g.order ≡ unusable → (a b : ℕ) → g.sum a b ≡ 0
  pub unusable_opposite : g.order ≡ unusable → (a : ℕ) → g.opposite a ≡ 0

-- the difference y - x, which added to x gives y
abbrev pub step : Group → ℕ → ℕ → ℕ
step g x y = g.sum y (g.opposite x)

-- the number of elements below n whose double is d
unfoldable pub halves : Group → ℕ → ℕ → ℕ
halves g d zero = 0
halves g d (suc a) = cond (g.sum a a == d) (1 + halves g d a) (halves g d a)

-- the largest number of halves that an element from 1 to n has
unfoldable pub most_halves : Group → ℕ → ℕ
most_halves g zero = 0
most_halves g (suc d) = max (halves g (suc d) g.order) (most_halves g d)

-- h, the figure. With v - 1 cells to a record, or more, a page takes h changes or more from one erase to the next.
-- `most_halves g (g.order - 1)` is e.
unfoldable pub figure : Group → ℕ
figure g = (g.order + 1 - most_halves g (g.order - 1)) / 4
