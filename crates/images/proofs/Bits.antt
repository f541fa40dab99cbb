-- Single bits of a byte, and what a mask makes of them. Assumes nothing.
use Rattle.std.proofs.Common.{◌≡◌, ℕ, ◌-◌, ◌*◌, ◌/◌, ◌%◌, ◌^◌, ◌<◌, cond, eqb, ◌⊎◌, refl, ap, ◌∙◌, inl, inr, arith}
use lib.Bits.{bit_and, bit_or}
use Rattle.std.proofs.lemmas.Nat.{or_shr, or_mod, and_shr, and_mod}
use Rattle.std.proofs.lemmas.Bool.{eqb-true, eq-eqb, ne_eqb, cond-true, cond-false}
use Rattle.images.specs.declared.format.Format.TheVariants.{Fuse, Flash}
use Rattle.images.specs.Image.{bit, SetsBit}
use Rattle.cells.proofs.Finite.{passes_both}

-- one bit's mask, as the code computes it
abbrev mask : ℕ → ℕ
mask k = (1 * 2 ^ k) % 256

mask_bit : (k b : ℕ) → k < 8 → b < 8 → bit (mask k) b ≡ cond (eqb b k) 1 0
mask_bit k b h i = eqb-true _ _ (passes_both (λ k' b'. eqb (bit (mask k') b') (cond (eqb b' k') 1 0)) 8 8 refl k b h i)

unmask_bit : (k b : ℕ) → k < 8 → b < 8 → bit (255 - mask k) b ≡ cond (eqb b k) 0 1
unmask_bit k b h i = eqb-true _ _ (passes_both (λ k' b'. eqb (bit (255 - mask k') b') (cond (eqb b' k') 0 1)) 8 8 refl k b h i)

bit_of_or : (x y b : ℕ) → bit (bit_or x y) b ≡ bit_or (bit x b) (bit y b)
bit_of_or x y b = ap (λ z. z % 2) (or_shr x y b) ∙ or_mod (x / 2 ^ b) (y / 2 ^ b) 1

bit_of_and : (x y b : ℕ) → bit (bit_and x y) b ≡ bit_and (bit x b) (bit y b)
bit_of_and x y b = ap (λ z. z % 2) (and_shr x y b) ∙ and_mod (x / 2 ^ b) (y / 2 ^ b) 1

-- a bit is 0 or 1
abbrev Bit : ℕ → Type 0
Bit z = (z ≡ 0) ⊎ (z ≡ 1)

pub zero_or_one : (x b : ℕ) → Bit (bit x b)
zero_or_one x b = go (x / 2 ^ b)
  where
    go : (y : ℕ) → (y % 2 ≡ 0) ⊎ (y % 2 ≡ 1)
    go y = grind arith

or_one : (z : ℕ) → Bit z → bit_or z 1 ≡ 1
or_one z (inl e) = rw e refl
or_one z (inr e) = rw e refl

or_none : (z : ℕ) → Bit z → bit_or z 0 ≡ z
or_none z (inl e) = rw e refl
or_none z (inr e) = rw e refl

and_one : (z : ℕ) → Bit z → bit_and z 1 ≡ z
and_one z (inl e) = rw e refl
and_one z (inr e) = rw e refl

and_none : (z : ℕ) → Bit z → bit_and z 0 ≡ 0
and_none z (inl e) = rw e refl
and_none z (inr e) = rw e refl

module _ (k x : ℕ) (h : k < 8) where
  pub fuse_sets : SetsBit Fuse k x (bit_or x (mask k))
  fuse_sets =
      record {
        here =
            eq-eqb _ 1
            (bit_of_or x (mask k) k ∙ ap (bit_or (bit x k)) (mask_bit k k h h ∙ cond-true (eqb k k) 1 0 (eq-eqb k k refl))
            ∙ or_one (bit x k) (zero_or_one x k));
        others = λ b i apart.
            bit_of_or x (mask k) b ∙ ap (bit_or (bit x b)) (mask_bit k b h i ∙ cond-false (eqb b k) 1 0 (ne_eqb b k apart))
            ∙ or_none (bit x b) (zero_or_one x b);
      }

  pub flash_sets : SetsBit Flash k x (bit_and x (255 - mask k))
  flash_sets =
      record {
        here =
            eq-eqb _ 0
            (bit_of_and x (255 - mask k) k ∙ ap (bit_and (bit x k)) (unmask_bit k k h h ∙ cond-true (eqb k k) 0 1 (eq-eqb k k refl))
            ∙ and_none (bit x k) (zero_or_one x k));
        others = λ b i apart.
            bit_of_and x (255 - mask k) b ∙ ap (bit_and (bit x b)) (unmask_bit k b h i ∙ cond-false (eqb b k) 0 1 (ne_eqb b k apart))
            ∙ and_one (bit x b) (zero_or_one x b);
      }
