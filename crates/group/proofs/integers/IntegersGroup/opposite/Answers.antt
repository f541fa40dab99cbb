use Rattle.std.proofs.Common.{◌≡◌, ◌-◌, ◌%◌, ◌<◌, mod-eq_of_lt, rules, arith}
use Rattle.std.proofs.Math.Nat.{mod_self}
use Rattle.std.proofs.lemmas.Bool.Decides.{nat_tests}
use Rattle.group.proofs.integers.IntegersGroup.opposite.Goals as goal
use Rattle.group.proofs.integers.IntegersGroup.opposite.Goals.{else-has-via-then-has+else-a-ne0, else-has-via-else-has}

pub returns-then-a-ne0 : goal.returns-then-a-ne0
returns-then-a-ne0 c =
    let below : c.args.a < c.args.self.now.modulus = grind (arith, nat_tests) in
    let small : (c.args.self.now.modulus - c.args.a) % c.args.self.now.modulus ≡ c.args.self.now.modulus - c.args.a = mod-eq_of_lt (omega arith) in
    search (rules, small)

pub returns-else-has : goal.returns-else-has
returns-else-has c = elim c.else-has.branch [
  | else-has-via-then-has+else-a-ne0 w ↦
      let whole : c.args.self.now.modulus - 0 ≡ c.args.self.now.modulus = omega arith in
      let none : (c.args.self.now.modulus - 0) % c.args.self.now.modulus ≡ 0 = rw whole (mod_self c.args.self.now.modulus) in
      rw (w.if-a-ne0.false, none) (search rules)
  | else-has-via-else-has w ↦ search rules
]
