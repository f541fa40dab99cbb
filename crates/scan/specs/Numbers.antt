-- Numbers written in decimal, of at most nine digits. Assumes nothing.
use Rattle.std.specs.Prelude.{◌≡◌, ℕ, ◌+◌, ◌-◌, ◌*◌, ◌<◌, List, [], ◌∷◌, length, Some, None, decimal, Option, slice_index}
use Rattle.std.specs.Int.{IsInRange}

-- A word is the number n: its bytes are the decimal digits of n, and n has at most nine of them. So there is no leading
-- zero, and zero is "0".
abbrev pub Spells : List ℕ → ℕ → Type 0
Spells w n = (n < 1000000000) × (w ≡ decimal n)

-- The number that a word is, or none where it is no number.
abbrev pub Reads : List ℕ → Option ℕ → Type 0
Reads w (Some n) = Spells w n
Reads w None = (n : ℕ) → Spells w n → ⊥

-- every byte is a digit
abbrev pub AllDigits : List ℕ → Type 0
AllDigits ds = (k : ℕ) → k < length ds → IsInRange 48 57 (slice_index ds k)

-- the number that digits write, after those of n
abbrev pub value_after : ℕ → List ℕ → ℕ
value_after n [] = n
value_after n (c ∷ cs) = value_after (10 * n + (c - 48)) cs

-- The number that digits write, leading zeros or not, or none where a byte is no digit.
abbrev pub ReadsDigits : List ℕ → Option ℕ → Type 0
ReadsDigits ds (Some n) = AllDigits ds × (n ≡ value_after 0 ds)
ReadsDigits ds None = AllDigits ds → ⊥
