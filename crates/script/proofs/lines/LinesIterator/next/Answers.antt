use Rattle.std.proofs.Common.{◌+◌, ◌<◌, ◌≤◌, length, sym, ap, ◌∙◌, arith, tests}
use Rattle.scan.specs.Pieces.{pieces_left}
use Rattle.script.proofs.Numbering.{numbered_some, numbered_empty, numbered_none}
use Rattle.script.proofs.lines.LinesIterator.next.Goals as goal

pub returns-then-not-is_empty-clause-steps : goal.returns-then-not-is_empty-clause-steps
returns-then-not-is_empty-clause-steps c =
    let s = c.loop-piece.self in
    let test = c.if-not-is_empty.ensures in
    let some : 0 < length c.in-Some.piece.bytes.now = omega (arith, tests) in
    sym c.loop-piece.invariant
    ∙ numbered_some (s.number + 1) c.in-Some.piece.bytes.now (pieces_left c.next.new.self) (pieces_left s.pieces) c.in-Some.ensures.steps.first some

pub returns-then-not-is_empty-clause-goes : goal.returns-then-not-is_empty-clause-goes
returns-then-not-is_empty-clause-goes c =
    let fewer = ap length (returns-then-not-is_empty-clause-steps c) in
    record { on = λ finite. (tt, tt, omega arith); keeps = tt; rests = λ finite. tt }

pub loop-piece-preserved : goal.loop-piece-preserved
loop-piece-preserved c =
    let s = c.loop-piece.self in
    let test = c.if-not-is_empty.ensures in
    let none : length c.in-Some.piece.bytes.now ≤ 0 = omega (arith, tests) in
    sym (numbered_empty (s.number + 1) c.in-Some.piece.bytes.now (pieces_left c.next.new.self) (pieces_left s.pieces) c.in-Some.ensures.steps.first none)
    ∙ c.loop-piece.invariant

pub returns-clause-steps : goal.returns-clause-steps
returns-clause-steps c =
    let k = c.loop-piece.self.number + 1 in
    let end = c.in_default.ensures.steps in (
      sym c.loop-piece.invariant ∙ numbered_none k (pieces_left c.loop-piece.self.pieces) end.0,
      numbered_none k (pieces_left c.next.new.self) (ap pieces_left end.1 ∙ end.0),
    )
