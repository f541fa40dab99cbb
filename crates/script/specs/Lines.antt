-- The lines of a script: those that are not empty, each with its number. Assumes nothing.
use Rattle.std.specs.Prelude.{ℕ, ◌+◌, List, [], ◌∷◌}
use Rattle.scan.specs.Pieces.{pieces_left}
use Rattle.script.specs.declared.lines.Line.{Line}
use Rattle.script.specs.declared.lines.Lines.{Lines}

-- the lines that are not empty, where the first line has the number k
unfoldable pub numbered : ℕ → List (List ℕ) → List (List ℕ × ℕ)
numbered k [] = []
numbered k ([] ∷ ls) = numbered (k + 1) ls
numbered k ((b ∷ rest) ∷ ls) = ((b ∷ rest), k) ∷ numbered (k + 1) ls

-- a line's bytes and its number
abbrev pub line_of : Line → List ℕ × ℕ
line_of l = (l.bytes.now, l.number)

-- the lines that are still to be taken
abbrev pub lines_left : Lines → List (List ℕ × ℕ)
lines_left s = numbered (s.number + 1) (pieces_left s.pieces)
