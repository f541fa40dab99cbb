use Rattle.std.proofs.Common.{rules, sym}
use Rattle.group.specs.ZeroOutsideLemmas.{sum_outside}
use Rattle.group.specs.Xor.{vectors_lawful}
use Rattle.group.proofs.vectors.VectorsGroup.sum.Goals as goal

pub returns-else-has : goal.returns-else-has
returns-else-has c = sym (sum_outside (vectors_lawful c.args.self.now.bits) c.args.a c.args.b (search rules))
