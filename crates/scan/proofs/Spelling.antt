-- Words that spell numbers. Assumes nothing.
use Rattle.std.proofs.Common.{◌≡◌, ℕ, ◌^◌, ◌<◌, ◌≤◌, ◌⊎◌, List, length, get_or, Some, None, decimal, Option, sym, ap, ◌∙◌, inl, inr, arith, rules}
use native.Mathlib.Nat.{pow-le-pow_right}
use Rattle.std.specs.Int.{IsInRange}
use Rattle.std.proofs.lemmas.Fmt.{decimal-digits_value, decimal_nonempty, decimal_digit, digits_decimal, first_decimal, length-decimal-le}
use Rattle.std.proofs.lemmas.Str.Parse.{IsNumeralModel, numerals_by_fold, tells_by_index, digits_value_short}
use Rattle.std.proofs.lemmas.Bool.{cases_lt}
use Rattle.scan.specs.Pieces.{Lacks}
use Rattle.scan.specs.Numbers.{Spells, Reads, AllDigits, value_after, ReadsDigits}

-- digits and their value are those of the library
own : IsNumeralModel AllDigits (value_after 0)
own = numerals_by_fold AllDigits tells_by_index value_after (search rules)

-- a number is written in digits
pub decimal_all_digits : (n : ℕ) → n < 2 ^ 64 → AllDigits (decimal n)
decimal_all_digits n h = digits_decimal own n h

-- and so has no other byte
pub decimal_lacks : (b n : ℕ) → n < 2 ^ 64 → (IsInRange 48 57 b → ⊥) → Lacks b (decimal n)
decimal_lacks b n h out k inside same = out (rw (sym same) (decimal_all_digits n h k inside))

-- digits spell the number that they write, if no zero stands in front of others
pub spells_value :
    (w : List ℕ) → AllDigits w → 0 < length w → length w ≤ 9 → (get_or w 0 0 ≡ 48 → length w ≡ 1) → Spells w (value_after 0 w)
spells_value w digits some short first =
    let below = digits_value_short own w 9 digits short in
    (omega arith, sym (decimal-digits_value own w digits some first (omega arith)))

-- a word that is a number has digits only
pub spelled_digits : (w : List ℕ) (n : ℕ) → Spells w n → AllDigits w
spelled_digits w n (few, is) = rw is (decimal_all_digits n (omega arith))

-- it has one to nine of them
pub spelled_length : (w : List ℕ) (n : ℕ) → Spells w n → (0 < length w) × (length w ≤ 9)
spelled_length w n (few, is) = rw is (decimal_nonempty n (omega arith), length-decimal-le 9 n (omega arith) (omega arith) (omega arith))

-- and it has no zero in front of others
pub spelled_first : (w : List ℕ) (n : ℕ) → Spells w n → get_or w 0 0 ≡ 48 → length w ≡ 1
spelled_first w n (few, is) first = go (cases_lt 0 n)
  where
    go : (0 < n) ⊎ (n ≤ 0) → length w ≡ 1
    go (inl some) = absurd (omega (arith, first_decimal n some (omega arith), ap (λ ds. get_or ds 0 0) is))
    go (inr none) = let zero : n ≡ 0 = omega arith in ap length (is ∙ ap decimal zero ∙ decimal_digit 0 (omega arith))

-- a word that is as long as a number, with no zero in front of others, is a number if it has digits only
pub reads_digits :
    (w : List ℕ) (r : Option ℕ) → ReadsDigits w r → 0 < length w → length w ≤ 9 → (get_or w 0 0 ≡ 48 → length w ≡ 1) → Reads w r
reads_digits w (Some n) (digits, is) some short first = rw is (spells_value w digits some short first)
reads_digits w None other some short first = λ n spells. other (spelled_digits w n spells)

-- a number of fewer than nine digits
pub digits_few : (n i : ℕ) → n < 10 ^ i → i < 9 → n < 100000000
digits_few n i h few = let bound : 10 ^ i ≤ 10 ^ 8 = pow-le-pow_right {n = 10} (omega arith) {i = i} {j = 8} (omega arith) in omega arith
