use Rattle.std.proofs.Common.{◌+◌, length, refl, ap, ◌∙◌, arith}
use Rattle.scan.specs.Pieces.{pieces_left}
use Rattle.commands.proofs.Counting.{placed_next, placed_none}
use Rattle.commands.proofs.word.WordsIterator.next.Goals as goal

pub returns-in_err-piece-clause-steps : goal.returns-in_err-piece-clause-steps
returns-in_err-piece-clause-steps c =
    let s = c.args.self.now.pieces in
    let end = c.in_err-piece.ensures.steps in
    rw c.from_residual.ensures
    ((placed_none (s.at + 3) (pieces_left s) end.0, placed_none (c.next.new.self.at + 3) (pieces_left c.next.new.self) (ap pieces_left end.1 ∙ end.0)), refl)

pub returns-clause-steps : goal.returns-clause-steps
returns-clause-steps c = (placed_next c.args.self.now.pieces c.next.new.self c.in_ok-piece.piece c.in_ok-piece.ensures.steps, refl)

pub returns-clause-goes : goal.returns-clause-goes
returns-clause-goes c =
    let fewer = ap length (returns-clause-steps c).0 in
    record { on = λ finite. (tt, tt, omega arith); keeps = tt; rests = λ finite. tt }
