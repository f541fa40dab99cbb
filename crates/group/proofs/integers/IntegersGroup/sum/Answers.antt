use Rattle.std.proofs.Common.{◌≡◌, ◌+◌, ◌%◌, mod-eq_of_lt, rules, arith}
use Rattle.group.proofs.integers.IntegersGroup.sum.Goals as goal

pub returns-then-sum-self : goal.returns-then-sum-self
returns-then-sum-self c =
    let small : (c.args.a + c.args.b) % c.args.self.now.modulus ≡ c.args.a + c.args.b = mod-eq_of_lt (omega arith) in
    search (rules, small)
