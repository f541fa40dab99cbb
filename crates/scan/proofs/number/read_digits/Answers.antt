use Rattle.std.proofs.Common.{arith}
use Rattle.scan.proofs.Spelling.{digits_few}
use Rattle.scan.proofs.number.read_digits.Goals as goal

pub overflow_mul-number : goal.overflow_mul-number
overflow_mul-number c = omega (arith, digits_few c.loop-digit.number c.loop-digit.digit-index c.loop-digit.invariant.2 (omega arith))

pub overflow_add-number : goal.overflow_add-number
overflow_add-number c = omega (arith, digits_few c.loop-digit.number c.loop-digit.digit-index c.loop-digit.invariant.2 (omega arith))
