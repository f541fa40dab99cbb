use Rattle.std.proofs.Common.{◌≡◌, length}
use Rattle.scan.specs.Pieces.{pieces_left}
use Rattle.script.specs.Lines.{lines_left}
use Rattle.script.proofs.lines.LinesIterator.next.Given as goal

abbrev pub invariant-loop-piece : goal.invariant-loop-piece
invariant-loop-piece l = lines_left l.self ≡ lines_left l.initial.self

abbrev pub decreases-loop-piece : goal.decreases-loop-piece
decreases-loop-piece l = length (pieces_left l.self.pieces)
