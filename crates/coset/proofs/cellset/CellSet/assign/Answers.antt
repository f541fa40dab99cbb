use Rattle.std.proofs.Common.{◌*◌, ◌-◌, ◌%◌, ◌^◌, arith}
use Rattle.std.proofs.lemmas.Nat.{and_le_l}
use Rattle.coset.proofs.Flags.{inserted, removed, still_few}
use Rattle.coset.proofs.cellset.CellSet.assign.Goals as goal
use Rattle.coset.proofs.cellset.CellSet.assign.Goals.{then-member, else-member}

pub returns-after-member-clause-taken : goal.returns-after-member-clause-taken
returns-after-member-clause-taken c few i = elim c.if-member.branch [
  | then-member w ↦ rw (w.self-is, w.if-member.true) (inserted c.args.self.now.bits c.args.cell i few)
  | else-member w ↦ rw (w.self-is, w.if-member.false) (removed c.args.self.now.bits c.args.cell i c.args.self.now.few few)
]

pub invariant_of-self : goal.invariant_of-self
invariant_of-self c = record {
  few = elim c.if-member.branch [
    | then-member w ↦ rw w.self-is (still_few c.args.self.now.bits c.args.cell c.args.self.now.few c.if-cell-lt-MAX_CELLS.true)
    | else-member w ↦ rw w.self-is (let less = and_le_l c.args.self.now.bits (18446744073709551615 - 1 * 2 ^ c.args.cell % 18446744073709551616) in let before = c.args.self.now.few in omega arith)
  ];
}
