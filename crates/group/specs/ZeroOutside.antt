-- A group by whether it is usable, its order, and its sum and opposite at its elements. Assumes nothing.
use Rattle.std.specs.Prelude.{ℕ, Bool, cond, ◌&&◌, nat_lt}
use Rattle.group.specs.Group.{Group, unusable}

-- whether a is an element of a group of n elements; an unusable group has none
abbrev pub is_element : Bool → ℕ → ℕ → Bool
is_element usable n a = usable && nat_lt a n

-- Away from the elements every answer is 0.
abbrev pub zero_outside : Bool → ℕ → (ℕ → ℕ → ℕ) → (ℕ → ℕ) → Group
zero_outside usable n sum opposite = record {
  order = cond usable n unusable;
  sum = λ a b. cond (is_element usable n a && is_element usable n b) (sum a b) 0;
  opposite = λ a. cond (is_element usable n a) (opposite a) 0;
}
