use Rattle.std.proofs.Common.{◌≡◌, ◌+◌, ◌/◌, ◌^◌, ap, ◌∙◌, arith, w64, inl, inr}
use Rattle.std.specs.Int.{trailing_zeros}
use Rattle.std.proofs.lemmas.Bool.{cases_lt}
use Rattle.coset.specs.CellSets.{members_of}
use Rattle.coset.proofs.Flags.{none_beyond, none_between, member_there}
use Rattle.coset.proofs.cellset.CellSet.first_in.Goals as goal

pub returns-then-first-lt-MAX_CELLS : goal.returns-then-first-lt-MAX_CELLS
returns-then-first-lt-MAX_CELLS c =
    let s = c.args.self.now in
    let there = member_there s c.args.from (omega arith) c.if-first-lt-MAX_CELLS.true in
    record {
      low = omega (arith, c.min.ensures);
      high = omega (arith, c.min.ensures);
      before = λ i late early. none_between s c.args.from i (omega arith) late (omega (arith, c.min.ensures));
      hit = λ h. let is : c.min.result ≡ c.args.from + trailing_zeros w64 (s.bits / 2 ^ c.args.from) = omega (arith, c.min.ensures) in ap (members_of s) is ∙ there;
    }

pub returns-else-first-lt-MAX_CELLS : goal.returns-else-first-lt-MAX_CELLS
returns-else-first-lt-MAX_CELLS c = record {
  low = c.requires;
  high = omega arith;
  before = λ i late early. elim (cases_lt i 63) [
    | inl inside ↦ none_between c.args.self.now c.args.from i (omega arith) late (omega arith)
    | inr beyond ↦ none_beyond c.args.self.now i beyond
  ];
  hit = λ h. absurd (omega arith);
}

pub returns-then-from-ge-MAX_CELLS : goal.returns-then-from-ge-MAX_CELLS
returns-then-from-ge-MAX_CELLS c = record {
  low = c.requires;
  high = omega arith;
  before = λ i late early. none_beyond c.args.self.now i (omega arith);
  hit = λ h. absurd (omega arith);
}
