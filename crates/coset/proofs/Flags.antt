-- The bits of a set of cells. Assumes nothing.
use Rattle.std.proofs.Common.{◌≡◌, ℕ, ◌+◌, ◌*◌, ◌^◌, ◌%◌, ◌<◌, ◌≤◌, ◌==◌, true, false, not, bit_or, bit_and, bit_xor, if◌then◌else◌, w64, ◌⊎◌, inl, inr, sym, ap, ◌∙◌, ◌/◌, mod-lt, arith, rules, ◌≢◌, ◌-◌}
use Rattle.std.specs.Int.{bit_at, trailing_zeros}
use Rattle.std.proofs.lemmas.Nat.{and_le_l, or_lt}
use Rattle.std.proofs.Math.Nat.{div-le_self, mod-le}
use Rattle.std.proofs.Math.Pow.{split, pow_pos, pow_mono}
use Rattle.std.specs.Int.Count.{trailing_of_zero}
use Rattle.std.proofs.lemmas.Nat.Bits.{bit_at_set_same, bit_at_set_other, bit_at_clear_same, bit_at_clear_other, bit_at_xor, bit_at_ones, bit_at-lt, bit_at_above, bit_at-zero, bit_at_cat_high, bit_at-trailing_zeros}
use Rattle.std.proofs.lemmas.Bool.{cases_eq, cases_lt, ne_eqb}
use Rattle.coset.specs.CellSets.{members_of}
use Rattle.coset.specs.declared.cellset.CellSet.{CellSet}

-- no cell from 63 on is in any set
pub none_beyond : (s : CellSet) (i : ℕ) → 63 ≤ i → members_of s i ≡ false
none_beyond s i h = rw (bit_at_above s.bits 63 i s.few h) (search rules)

-- setting bit k puts cell k into a set, and leaves every other cell as it was
pub inserted : (n k i : ℕ) → k < 63 → (bit_at (bit_or n (1 * 2 ^ k % 18446744073709551616)) i == 1) ≡ (if i == k then true else (bit_at n i == 1))
inserted n k i few = go (cases_eq i k)
  where
    go : (i ≡ k) ⊎ (i ≢ k) → (bit_at (bit_or n (1 * 2 ^ k % 18446744073709551616)) i == 1) ≡ (if i == k then true else (bit_at n i == 1))
    go (inl e) = rw e (rw (bit_at_set_same w64 n k (omega arith)) (search rules))
    go (inr ne) = rw (bit_at_set_other w64 n k (omega arith) i ne) (search rules)

-- clearing bit k takes cell k out of it, and leaves every other cell as it was
pub removed : (n k i : ℕ) → n < 9223372036854775808 → k < 63 → (bit_at (bit_and n (18446744073709551615 - 1 * 2 ^ k % 18446744073709551616)) i == 1) ≡ (if i == k then false else (bit_at n i == 1))
removed n k i fits few = go (cases_eq i k)
  where
    go : (i ≡ k) ⊎ (i ≢ k) → (bit_at (bit_and n (18446744073709551615 - 1 * 2 ^ k % 18446744073709551616)) i == 1) ≡ (if i == k then false else (bit_at n i == 1))
    go (inl e) = rw e (rw (bit_at_clear_same w64 n k (omega arith)) (search rules))
    go (inr ne) = elim (cases_lt i 63) [
      | inl inside ↦ rw (bit_at_clear_other w64 n k (omega arith) i (omega arith) ne) (search rules)
      | inr beyond ↦
          let less = and_le_l n (18446744073709551615 - 1 * 2 ^ k % 18446744073709551616) in
          rw (bit_at_above (bit_and n (18446744073709551615 - 1 * 2 ^ k % 18446744073709551616)) 63 i (omega (arith, less)) beyond, bit_at_above n 63 i fits beyond, ne_eqb i k ne) (search rules)
    ]

-- a bit that is turned over is set where it was not
pub complemented : (n i : ℕ) → i < 63 → (bit_at (bit_xor n 9223372036854775807) i == 1) ≡ not (bit_at n i == 1)
complemented n i few =
    rw (bit_at_xor n 9223372036854775807 i) (rw (bit_at_ones 63 i few) (go (cases_eq (bit_at n i) 1) (bit_at-lt n i)))
  where
    go : (bit_at n i ≡ 1) ⊎ (bit_at n i ≢ 1) → bit_at n i < 2 → ((bit_at n i + 1) % 2 == 1) ≡ not (bit_at n i == 1)
    go (inl e) _ = rw e (search rules)
    go (inr ne) small = let unset : bit_at n i ≡ 0 = omega arith in rw unset (search rules)

-- the bits of a number from bit k on
shifted : (n k i : ℕ) → k ≤ i → bit_at n i ≡ bit_at (n / 2 ^ k) (i - k)
shifted n k i le = sym (ap (λ m. bit_at m i) (split n k)) ∙ bit_at_cat_high (n / 2 ^ k) k (n % 2 ^ k) i (mod-lt n (pow_pos k)) le

lower : (n k : ℕ) → n < 18446744073709551616 → n / 2 ^ k < 18446744073709551616
lower n k fits = omega (arith, div-le_self n (2 ^ k))

-- no cell is in a set from k on and before the lowest bit that is set from there on
pub none_between : (s : CellSet) (k i : ℕ) → s.bits < 18446744073709551616 → k ≤ i → i < k + trailing_zeros w64 (s.bits / 2 ^ k) → members_of s i ≡ false
none_between s k i fits late early = go (cases_eq (s.bits / 2 ^ k) 0)
  where
    unset : bit_at (s.bits / 2 ^ k) (i - k) ≡ 0 → members_of s i ≡ false
    unset e = rw (shifted s.bits k i late ∙ e) (search rules)

    go : (s.bits / 2 ^ k ≡ 0) ⊎ (s.bits / 2 ^ k ≢ 0) → members_of s i ≡ false
    go (inl e) = unset (rw e (bit_at-zero (i - k)))
    go (inr ne) = unset ((bit_at-trailing_zeros w64 (s.bits / 2 ^ k) (omega arith) (lower s.bits k fits)).2 (i - k) (omega arith))

-- that bit's cell is
pub member_there : (s : CellSet) (k : ℕ) → s.bits < 18446744073709551616 → k + trailing_zeros w64 (s.bits / 2 ^ k) < 63 → members_of s (k + trailing_zeros w64 (s.bits / 2 ^ k)) ≡ true
member_there s k fits inside = go (cases_eq (s.bits / 2 ^ k) 0)
  where
    z : ℕ
    z = trailing_zeros w64 (s.bits / 2 ^ k)

    go : (s.bits / 2 ^ k ≡ 0) ⊎ (s.bits / 2 ^ k ≢ 0) → members_of s (k + z) ≡ true
    go (inl e) = absurd (let all = ap (λ n. trailing_zeros w64 n) e ∙ trailing_of_zero 64 in omega arith)
    go (inr ne) =
        let set = (bit_at-trailing_zeros w64 (s.bits / 2 ^ k) (omega arith) (lower s.bits k fits)).1 in
        let place : k + z - k ≡ z = omega arith in
        let member : bit_at s.bits (k + z) ≡ 1 = shifted s.bits k (k + z) (omega arith) ∙ ap (bit_at (s.bits / 2 ^ k)) place ∙ set in
        rw member (search rules)

-- a set with a cell or without one has no bit from 63 on
pub still_few : (n k : ℕ) → n < 9223372036854775808 → k < 63 → bit_or n (1 * 2 ^ k % 18446744073709551616) < 9223372036854775808
still_few n k fits few =
    let small = pow_mono {i = k} {j = 62} (omega arith) in
    let less = mod-le (1 * 2 ^ k) 18446744073709551616 in
    or_lt 63 n (1 * 2 ^ k % 18446744073709551616) fits (omega arith)
