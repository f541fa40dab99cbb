use Rattle.std.proofs.Common.{rules, sym}
use Rattle.group.specs.ZeroOutsideLemmas.{opposite_outside}
use Rattle.group.specs.Xor.{vectors_lawful}
use Rattle.group.proofs.vectors.VectorsGroup.opposite.Goals as goal

pub returns-else-has : goal.returns-else-has
returns-else-has c = sym (opposite_outside (vectors_lawful c.args.self.now.bits) c.args.a (search rules))
