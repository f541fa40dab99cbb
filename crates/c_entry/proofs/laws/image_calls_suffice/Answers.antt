use Rattle.std.proofs.Common.{ℕ, Bool, true, false, cond, eqb, refl}
use Rattle.group.specs.Group.{Lawful}
use Rattle.group.specs.Integers.{integers}
use Rattle.group.specs.Vectors.{vectors}
use Rattle.group.specs.Modulo.{integers_lawful}
use Rattle.group.specs.Xor.{vectors_lawful}
use Rattle.c_entry.specs.Entry.{code_named}
use Rattle.c_entry.proofs.Together.{keep_together}
use Rattle.c_entry.proofs.laws.image_calls_suffice.Goals as goal

-- whatever the kind, the group is lawful
named_lawful : (a b : Bool) (m : ℕ) → Lawful (cond a (integers m) (cond b (vectors m) (integers 0)))
named_lawful true b m = integers_lawful m
named_lawful false true m = vectors_lawful m
named_lawful false false m = integers_lawful 0

pub returns : goal.returns
returns c = λ kind parameter n. keep_together (code_named kind parameter n) (named_lawful (eqb kind 0) (eqb kind 1) parameter) (λ i. refl)
