use Rattle.std.proofs.Common.{◌≡◌, ◌≤◌, get_or, length, arith, rules, ltb-false, ltb-true}
use Rattle.scan.proofs.Spelling.{reads_digits, spelled_length, spelled_first}
use Rattle.scan.proofs.number.read_number.Goals as goal
use Rattle.scan.proofs.number.read_number.Goals.{in_default-via-then-word-lt2, in_default-via-else-word-lt2+in_default-1}

pub returns-then-word-gt-MAX_DIGITS : goal.returns-then-word-gt-MAX_DIGITS
returns-then-word-gt-MAX_DIGITS c n spells = let long = spelled_length c.args.word.now n spells in omega arith

pub returns-in-empty : goal.returns-in-empty
returns-in-empty c n spells = let some = spelled_length c.args.word.now n spells in omega arith

pub returns-in-empty-2 : goal.returns-in-empty-2
returns-in-empty-2 c n spells =
    let zero : get_or c.args.word.now 0 0 ≡ 48 = search rules in
    omega (arith, spelled_first c.args.word.now n spells zero)

pub returns-in_default : goal.returns-in_default
returns-in_default c =
    let some : 1 ≤ length c.args.word.now = omega (arith, ltb-false) in
    reads_digits c.args.word.now c.read_digits.result c.read_digits.ensures (omega arith) c.if-word-gt-MAX_DIGITS.false
    (λ zero. grind (arith, ltb-true, ltb-false))
