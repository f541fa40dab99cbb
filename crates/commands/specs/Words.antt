-- The words of a line: the pieces between the spaces after its command, each with the column of its first byte.
-- Assumes nothing.
use Rattle.std.specs.Prelude.{◌≡◌, ℕ, ◌+◌, List, [], ◌∷◌, length, Some, None, Option}
use Rattle.std.specs.Iterator.{YieldsFirstBy}
use Rattle.scan.specs.Pieces.{cut, pieces_left}
use Rattle.commands.specs.declared.head.Head.{Head}
use Rattle.commands.specs.declared.word.Word.{Word}
use Rattle.commands.specs.declared.word.Words.{Words}

-- pieces with their columns, of which the first starts at this column, with one byte between each two
unfoldable pub placed : ℕ → List (List ℕ) → List (List ℕ × ℕ)
placed column [] = []
placed column (w ∷ ws) = (w, column) ∷ placed (column + length w + 1) ws

-- The words of what follows a command: none where nothing does, and else what follows the next byte, cut at each space.
abbrev pub words_after : List ℕ → List (List ℕ × ℕ)
words_after [] = []
words_after (s ∷ rest) = placed 3 (cut 32 rest)

-- the words of a line, whose first byte is its command
abbrev pub line_words : List ℕ → List (List ℕ × ℕ)
line_words [] = []
line_words (b ∷ rest) = words_after rest

-- there is a byte after the command, and it is no space
abbrev pub Unspaced : List ℕ → Type 0
Unspaced [] = ⊥
Unspaced (s ∷ rest) = s ≡ 32 → ⊥

-- a word's bytes and its column
abbrev pub word_of : Word → List ℕ × ℕ
word_of w = (w.bytes.now, w.column)

-- those of a head
abbrev pub head_words_of : Head Word Word → List (List ℕ × ℕ)
head_words_of h = word_of h.group ∷ (word_of h.n ∷ (word_of h.pages ∷ (word_of h.width ∷ [])))

-- the words that are still to be taken
abbrev pub words_left : Words → List (List ℕ × ℕ)
words_left ws = placed (ws.pieces.at + 3) (pieces_left ws.pieces)

-- the next word is taken, or none is left; the line ends where it did
abbrev pub NextWord : Words → Option Word → Words → Type 0
NextWord s r t = YieldsFirstBy word_of words_left s r t × (t.past ≡ s.past)

-- the words of what follows a command, or none where a byte follows it that is no space
abbrev pub WordsAfter : List ℕ → Option Words → Type 0
WordsAfter rest (Some ws) = (Unspaced rest → ⊥) × (words_left ws ≡ words_after rest) × (ws.past ≡ length rest + 2)
WordsAfter rest None = Unspaced rest
