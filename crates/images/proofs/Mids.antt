-- A list after a write to a part of it, place by place. Assumes nothing.
use Rattle.std.proofs.Common.{◌≡◌, ℕ, ◌+◌, ◌<◌, ◌≤◌, List, length, get_or, arith, rules}
use borrow.Rule.Slice.PartMut.{put_mid}
use Rattle.std.proofs.lemmas.List.{places}

module _ {X : Type 0} (d : X) (a k : ℕ) (xs ys : List X) (room : a + k ≤ length xs) (same : length ys ≡ k) where
  pub mid_length : length (put_mid a k xs ys) ≡ length xs
  mid_length = search (rules, places)

  pub mid_below : (j : ℕ) → j < a → get_or (put_mid a k xs ys) j d ≡ get_or xs j d
  mid_below j h = grind (arith, places)

  pub mid_above : (j : ℕ) → a + k ≤ j → get_or (put_mid a k xs ys) j d ≡ get_or xs j d
  mid_above j h = grind (arith, places)

  pub mid_inside : (j : ℕ) → j < k → get_or (put_mid a k xs ys) (a + j) d ≡ get_or ys j d
  mid_inside j h = grind (arith, places)
