-- Proof that the vectors of m bits are an abelian group under exclusive or, which `Vectors` names. Assumes nothing.
use Rattle.std.specs.Prelude.{◌≡◌, ℕ, ◌^◌, ◌<◌, ◌≤◌, true, bit_xor}
use Rattle.std.proofs.Common.{arith, pow_mono}
use Rattle.std.specs.Int.Bits.{xor_assoc, xor_self, xor_zero_l}
use Rattle.std.proofs.lemmas.Nat.{pow_below, xor_comm, xor_lt}
use Rattle.std.proofs.lemmas.Bool.Decides.{nat_tests}
use Rattle.group.specs.Group.{Lawful}
use Rattle.group.specs.Vectors.{vectors, vectors_usable}
use Rattle.group.specs.ZeroOutsideLemmas.{Abelian, zero_outside_lawful}

pub binary : (m : ℕ) → Abelian (2 ^ m) bit_xor (λ a. a)
binary m = record {
  closed = λ a b i j. xor_lt m a b i j;
  commutes = λ a b i j. xor_comm a b;
  associates = λ a b c i j k. xor_assoc a b c;
  neutral = λ a i. xor_zero_l a;
  opposed = λ a i. (i, xor_self a);
}

pub vectors_lawful : (m : ℕ) → Lawful (vectors m)
vectors_lawful m = zero_outside_lawful (2 ^ m) bit_xor (λ a. a) (vectors_usable m) given
  where
    given : vectors_usable m ≡ true → (2 ≤ 2 ^ m) × (2 ^ m ≤ 64) × Abelian (2 ^ m) bit_xor (λ a. a)
    given u =
        let least : 0 < m = grind (arith, nat_tests) in
        let most : m ≤ 6 = grind (arith, nat_tests) in
        (pow_below 0 m least, pow_mono most, binary m)
