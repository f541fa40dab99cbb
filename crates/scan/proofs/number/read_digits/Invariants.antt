use Rattle.std.proofs.Common.{◌≡◌, ℕ, ◌^◌, ◌<◌, get_or, drop}
use Rattle.std.specs.Int.{IsInRange}
use Rattle.scan.specs.Numbers.{value_after}
use Rattle.scan.proofs.number.read_digits.Given as goal

abbrev pub invariant-loop-digit : goal.invariant-loop-digit
invariant-loop-digit l =
    ((k : ℕ) → k < l.digit-index → IsInRange 48 57 (get_or l.digits k 0))
    × (value_after l.number (drop l.digit-index l.digits) ≡ value_after 0 l.digits)
    × (l.number < 10 ^ l.digit-index)
