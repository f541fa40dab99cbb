-- Proof that the direct product of two lawful groups is lawful, which `Product` names. Assumes nothing.
use Rattle.std.specs.Prelude.{◌≡◌, ℕ, ◌+◌, ◌*◌, ◌/◌, ◌%◌, ◌<◌, ◌≤◌, true}
use Rattle.std.proofs.Math.Arith.{digits_lt}
use Rattle.std.proofs.Math.Nat.{zero-div, zero-mod}
use Rattle.std.proofs.Common.{zero-mul, arith}
use Rattle.std.proofs.lemmas.Nat.{div-add-mod', div_below, div-mul-add, mod_below, mod-mul-add, mul-le}
use Rattle.std.proofs.lemmas.Bool.Decides.{nat_tests}
use Rattle.group.specs.Group.{Group, In, Lawful, Usable, unusable}
use Rattle.group.specs.Product.{DirectProduct, product, product_opposite, product_size, product_sum, product_usable}
use Rattle.group.specs.ZeroOutsideLemmas.{Abelian, at_opposite, at_sum, zero_outside_lawful, opposite_in, sum_in}

module _ {g h : Group} (left : Lawful g) (right : Lawful h) where
  pos : 0 < h.order
  pos = omega (arith, right.least)

  pair_in : (a b : ℕ) → In g a → In h b → a * h.order + b < product_size g h
  pair_in a b i j = digits_lt i j

  first_in : (x : ℕ) → x < product_size g h → In g (x / h.order)
  first_in x i = div_below x h.order g.order pos i

  second_in : (x : ℕ) → In h (x % h.order)
  second_in x = mod_below x h.order pos

  sum_first : (x y : ℕ) → product_sum g h x y / h.order ≡ g.sum (x / h.order) (y / h.order)
  sum_first x y = div-mul-add _ h.order _ (sum_in right _ _)

  sum_second : (x y : ℕ) → product_sum g h x y % h.order ≡ h.sum (x % h.order) (y % h.order)
  sum_second x y = mod-mul-add _ h.order _ (sum_in right _ _)

  opposite_first : (x : ℕ) → product_opposite g h x / h.order ≡ g.opposite (x / h.order)
  opposite_first x = div-mul-add _ h.order _ (opposite_in right _)

  opposite_second : (x : ℕ) → product_opposite g h x % h.order ≡ h.opposite (x % h.order)
  opposite_second x = mod-mul-add _ h.order _ (opposite_in right _)

  pub pairs : Usable g → Usable h → Abelian (product_size g h) (product_sum g h) (product_opposite g h)
  pairs u v = record {
    closed = λ x y i j. pair_in _ _ (sum_in left _ _) (sum_in right _ _);
    commutes = λ x y i j. cc (left.commutes u _ _ (first_in x i) (first_in y j), right.commutes v _ _ (second_in x) (second_in y));
    associates = λ x y z i j k.
        cc (
          sum_first x y,
          sum_second x y,
          sum_first y z,
          sum_second y z,
          left.associates u _ _ _ (first_in x i) (first_in y j) (first_in z k),
          right.associates v _ _ _ (second_in x) (second_in y) (second_in z),
        );
    neutral = λ x i.
        cc (
          zero-div h.order,
          zero-mod h.order,
          left.neutral u _ (first_in x i),
          right.neutral v _ (second_in x),
          div-add-mod' x h.order,
        );
    opposed = λ x i. (
      pair_in _ _ (opposite_in left _) (opposite_in right _),
      cc (
        opposite_first x,
        opposite_second x,
        (left.opposed u _ (first_in x i)).1,
        (right.opposed v _ (second_in x)).1,
        zero-mul h.order,
      ),
    );
  }

  many : 4 ≤ product_size g h
  many = mul-le 2 2 g.order h.order left.least right.least

  -- with an unusable part there are at least 2 * 65 pairs
  left_usable : product_size g h ≤ 64 → Usable g
  left_usable i e = omega (arith, mul-le 65 2 g.order h.order (omega arith) right.least)

  right_usable : product_size g h ≤ 64 → Usable h
  right_usable i e = omega (arith, mul-le 2 65 g.order h.order left.least (omega arith))

  pub product_lawful : Lawful (product g h)
  product_lawful = zero_outside_lawful (product_size g h) (product_sum g h) (product_opposite g h) (product_usable g h) given
    where
      given : product_usable g h ≡ true → (2 ≤ product_size g h) × (product_size g h ≤ 64) × Abelian (product_size g h) (product_sum g h) (product_opposite g h)
      given u =
          let few : product_size g h ≤ 64 = grind (arith, nat_tests) in
          (omega (arith, many), few, pairs (left_usable few) (right_usable few))

  usable : product_size g h ≤ 64 → product_usable g h ≡ true
  usable few = grind (arith, nat_tests)

  pub product_direct : DirectProduct g h (product g h)
  product_direct = record {
    order = λ u v few. rw (usable few);
    sum = λ u v few a b c d i j k l.
        cc (
          usable few,
          at_sum (product_size g h) (product_sum g h) (product_opposite g h) _ _ (pair_in a b i j) (pair_in c d k l),
          div-mul-add a h.order b j,
          mod-mul-add a h.order b j,
          div-mul-add c h.order d l,
          mod-mul-add c h.order d l,
        );
    opposite = λ u v few a b i j.
        cc (
          usable few,
          at_opposite (product_size g h) (product_sum g h) (product_opposite g h) _ (pair_in a b i j),
          div-mul-add a h.order b j,
          mod-mul-add a h.order b j,
        );
    left_unusable = λ e. unless (λ few. left_usable few e);
    right_unusable = λ e. unless (λ few. right_usable few e);
    above = λ i. unless (λ few. omega arith);
  }
    where
      unless : (product_size g h ≤ 64 → ⊥) → (product g h).order ≡ unusable
      unless many = grind (arith, nat_tests)
