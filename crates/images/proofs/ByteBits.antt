-- A byte and its eight bits, and a number and its four bytes. Assumes nothing.
use Rattle.std.proofs.Common.{◌≡◌, ℕ, zero, suc, ◌+◌, ◌*◌, ◌<◌, ◌≤◌, Bool, true, false, eqb, ◌⊎◌, refl, inl, inr, arith}
use native.Mathlib.Nat.{div-div-eq-div-mul}
use Rattle.std.proofs.lemmas.Bool.{eqb-true}
use Rattle.images.specs.declared.format.Format.{Format}
use Rattle.images.specs.declared.format.Format.TheVariants.{Fuse, Flash}
use Rattle.images.specs.Image.{bit, set_cell_bit, reads}
use Rattle.images.specs.Written.{big_endian_byte, byte_of, bit_for}
use Rattle.cells.proofs.Finite.{passes}
use Rattle.images.proofs.Bits.{zero_or_one}

-- what holds of 0 to 7 holds below 8
below_eight : (P : ℕ → Type 0) → P 0 → P 1 → P 2 → P 3 → P 4 → P 5 → P 6 → P 7 → (k : ℕ) → k < 8 → P k
below_eight P a b c d e f g h zero lt = a
below_eight P a b c d e f g h (suc zero) lt = b
below_eight P a b c d e f g h (suc (suc zero)) lt = c
below_eight P a b c d e f g h (suc (suc (suc zero))) lt = d
below_eight P a b c d e f g h (suc (suc (suc (suc zero)))) lt = e
below_eight P a b c d e f g h (suc (suc (suc (suc (suc zero))))) lt = f
below_eight P a b c d e f g h (suc (suc (suc (suc (suc (suc zero)))))) lt = g
below_eight P a b c d e f g h (suc (suc (suc (suc (suc (suc (suc zero))))))) lt = h
below_eight P a b c d e f g h (suc (suc (suc (suc (suc (suc (suc (suc k)))))))) lt = absurd (omega arith)

-- the bits of a byte that is made of bits
pub bit_of_byte : (b : ℕ → ℕ) → ((k : ℕ) → b k ≤ 1) → (k : ℕ) → k < 8 → bit (byte_of b) k ≡ b k
bit_of_byte b small =
    let h₀ = small 0 in
    let h₁ = small 1 in
    let h₂ = small 2 in
    let h₃ = small 3 in
    let h₄ = small 4 in
    let h₅ = small 5 in
    let h₆ = small 6 in
    let h₇ = small 7 in
    below_eight (λ k. bit (byte_of b) k ≡ b k) (omega arith) (omega arith) (omega arith) (omega arith) (omega arith) (omega arith)
    (omega arith) (omega arith)

-- a byte is made of its bits
pub byte_of_bits : (x : ℕ) → x < 256 → byte_of (bit x) ≡ x
byte_of_bits x h = eqb-true _ _ (passes (λ y. eqb (byte_of (bit y)) y) 256 refl x h)

-- bytes of the same bits are the same
pub byte_same : (b d : ℕ → ℕ) → ((k : ℕ) → k < 8 → b k ≡ d k) → byte_of b ≡ byte_of d
byte_same b d same =
    let e₀ = same 0 (omega arith) in
    let e₁ = same 1 (omega arith) in
    let e₂ = same 2 (omega arith) in
    let e₃ = same 3 (omega arith) in
    let e₄ = same 4 (omega arith) in
    let e₅ = same 5 (omega arith) in
    let e₆ = same 6 (omega arith) in
    let e₇ = same 7 (omega arith) in
    omega arith

-- the bit of a cell is a bit, reads as the cell, and is the bit that was read
pub bit_for_small : (f : Format) (s : Bool) → bit_for f s ≤ 1
bit_for_small Fuse true = omega arith
bit_for_small Fuse false = omega arith
bit_for_small Flash true = omega arith
bit_for_small Flash false = omega arith

pub bit_for_reads : (f : Format) (s : Bool) → eqb (bit_for f s) (set_cell_bit f) ≡ s
bit_for_reads Fuse true = refl
bit_for_reads Fuse false = refl
bit_for_reads Flash true = refl
bit_for_reads Flash false = refl

pub bit_for_read : (f : Format) (x k : ℕ) → bit_for f (reads f x k) ≡ bit x k
bit_for_read f x k = go f (bit x k) (zero_or_one x k)
  where
    go : (g : Format) (z : ℕ) → ((z ≡ 0) ⊎ (z ≡ 1)) → bit_for g (eqb z (set_cell_bit g)) ≡ z
    go Fuse z (inl e) = rw e refl
    go Fuse z (inr e) = rw e refl
    go Flash z (inl e) = rw e refl
    go Flash z (inr e) = rw e refl

-- a number of four bytes is the sum of its digits
pub four_digits : (w : ℕ) → w < 4294967296 → big_endian_byte w 0 * 16777216 + big_endian_byte w 1 * 65536 + big_endian_byte w 2 * 256 + big_endian_byte w 3 ≡ w
four_digits w h =
    let b = div-div-eq-div-mul w 256 256 in
    let c = div-div-eq-div-mul w 65536 256 in
    let d = div-div-eq-div-mul w 16777216 256 in
    omega arith

-- and the digits of a sum of four bytes are those bytes
pub digits_of :
    (a b c d : ℕ) → a < 256 → b < 256 → c < 256 → d < 256 →
    (big_endian_byte (a * 16777216 + b * 65536 + c * 256 + d) 0 ≡ a) × (big_endian_byte (a * 16777216 + b * 65536 + c * 256 + d) 1 ≡ b)
    × (big_endian_byte (a * 16777216 + b * 65536 + c * 256 + d) 2 ≡ c) × (big_endian_byte (a * 16777216 + b * 65536 + c * 256 + d) 3 ≡ d)
digits_of a b c d ha hb hc hd = (omega arith, omega arith, omega arith, omega arith)
