-- The words of a line, and how many they are. Assumes nothing.
use Rattle.std.proofs.Common.{◌≡◌, ℕ, ◌+◌, ◌≤◌, List, [], ◌∷◌, length, Some, sym, ap, ◌∙◌, arith}
use Rattle.scan.specs.declared.pieces.Piece.{Piece}
use Rattle.scan.specs.declared.pieces.Pieces.{Pieces}
use Rattle.scan.specs.Pieces.{pieces_left, Takes}
use Rattle.commands.specs.declared.word.Words.{Words}
use Rattle.commands.specs.Words.{placed, WordsAfter}

-- one piece less
pub placed_next :
    (s t : Pieces) (p : Piece) → Takes s p t → placed (s.at + 3) (pieces_left s) ≡ (p.bytes.now, p.at + 3) ∷ placed (t.at + 3) (pieces_left t)
unfolding placed
placed_next s t p takes =
    ap (placed (s.at + 3)) takes.first
    ∙ ap (λ a. (p.bytes.now, a + 3) ∷ placed (s.at + 3 + length p.bytes.now + 1) (pieces_left t)) (sym takes.place)
    ∙ ap (λ a. (p.bytes.now, p.at + 3) ∷ placed a (pieces_left t)) (let n = takes.next in omega arith)

pub placed_none : (column : ℕ) (ps : List (List ℕ)) → ps ≡ [] → placed column ps ≡ []
unfolding placed
placed_none column ps e = ap (placed column) e

-- what follows a command is nothing, or a space and words
pub opens_empty : (rest : List ℕ) (ws : Words) → length rest ≤ 0 → pieces_left ws.pieces ≡ [] → ws.past ≡ length rest + 2 → WordsAfter rest (Some ws)
opens_empty [] ws h none past = ((λ u. u), placed_none (ws.pieces.at + 3) (pieces_left ws.pieces) none, past)
opens_empty (b ∷ rest) ws h none past = absurd (omega arith)
