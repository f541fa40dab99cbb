-- Proof that the groups of group words keep the laws, which `Factor` and `GroupWord` name. Assumes nothing.
use Rattle.group.specs.Group.{Lawful}
use Rattle.group.specs.Modulo.{integers_lawful}
use Rattle.group.specs.Xor.{vectors_lawful}
use Rattle.group.specs.Pairs.{product_lawful}
use Rattle.commands.specs.declared.factor.Factor.{Factor}
use Rattle.commands.specs.declared.factor.Factor.TheVariants.{Integers, Vectors}
use Rattle.commands.specs.declared.group_word.GroupWord.{GroupWord}
use Rattle.commands.specs.declared.group_word.GroupWord.TheVariants.{One, Two}
use Rattle.commands.specs.Groups.{factor_group, word_group}

pub factor_lawful : (f : Factor) → Lawful (factor_group f)
factor_lawful (Integers g) = integers_lawful g.modulus
factor_lawful (Vectors g) = vectors_lawful g.bits

pub word_lawful : (g : GroupWord) → Lawful (word_group g)
word_lawful (One f) = factor_lawful f
word_lawful (Two p) = product_lawful (factor_lawful p.left) (factor_lawful p.right)
