-- What the lines of a script order, written out, and the tables of their refusals. Assumes nothing.
use Rattle.std.specs.Prelude.{◌≡◌, ℕ, ◌+◌, ◌<◌, ◌≤◌, cond, ◌||◌, ◌⊎◌, List, [], ◌∷◌, ◌++◌, map, length, Some, None, Ok, Err, decimal, Option, Result, ◌==◌, ◌≢◌}
use Rattle.scan.specs.Numbers.{Spells}
use Rattle.commands.specs.declared.fault.Refusal.{Refusal}
use Rattle.commands.specs.declared.group_word.GroupWord.{GroupWord}
use Rattle.commands.specs.declared.command.Command.{Command}
use Rattle.commands.specs.declared.command.Command.TheVariants.{Put, Renew, Save, Get, Ledger}
use Rattle.commands.specs.declared.word.Number.{Number}
use Rattle.commands.specs.declared.head.Head.{Head}
use Rattle.commands.specs.PlacedRows.{PlacedRow, placed_row, RefusedAt, NotRefused}
use Rattle.commands.specs.declared.opening.Opening.{Opening}
use Rattle.commands.specs.declared.word.Word.{Word}
use Rattle.commands.specs.Words.{Unspaced, line_words, word_of, head_words_of, words_left}
use Rattle.commands.specs.Faults.{line_number}
use Rattle.commands.specs.Groups.{NineDigitGroup, SpellsGroup, group_spelt}

-- An order written out as a line: its letter, and each of its numbers in decimal after a space.
abbrev pub written : Command Number → List ℕ
written (Put k x) = 80 ∷ (32 ∷ (decimal k.value ++ (32 ∷ decimal x.value)))
written (Renew k x) = 82 ∷ (32 ∷ (decimal k.value ++ (32 ∷ decimal x.value)))
written (Save k x) = 83 ∷ (32 ∷ (decimal k.value ++ (32 ∷ decimal x.value)))
written (Get k) = 71 ∷ (32 ∷ decimal k.value)
written Ledger = 76 ∷ []

-- A heading written out: H, the group, the cells to a record, the pages and the width.
abbrev pub heading_written : Head GroupWord Number → List ℕ
heading_written h =
    72 ∷ (32 ∷ (group_spelt h.group ++ (32 ∷ (decimal h.n.value ++ (32 ∷ (decimal h.pages.value ++ (32 ∷ decimal h.width.value)))))))

-- each number has the column of its first digit
abbrev pub ColumnsTwo : Number → Number → Type 0
ColumnsTwo k x = (k.column ≡ 3) × (x.column ≡ k.column + length (decimal k.value) + 1)

abbrev pub Columns : Command Number → Type 0
Columns (Put k x) = ColumnsTwo k x
Columns (Renew k x) = ColumnsTwo k x
Columns (Save k x) = ColumnsTwo k x
Columns (Get k) = k.column ≡ 3
Columns Ledger = Unit {0}

pub record HeadingColumns (h : Head GroupWord Number) : Type 0 where
  pub n : h.n.column ≡ 3 + length (group_spelt h.group) + 1
  pub pages : h.pages.column ≡ h.n.column + length (decimal h.n.value) + 1
  pub width : h.width.column ≡ h.pages.column + length (decimal h.pages.value) + 1

-- numbers of at most nine digits
abbrev pub NineDigitOrder : Command Number → Type 0
NineDigitOrder (Put k x) = (k.value < 1000000000) × (x.value < 1000000000)
NineDigitOrder (Renew k x) = (k.value < 1000000000) × (x.value < 1000000000)
NineDigitOrder (Save k x) = (k.value < 1000000000) × (x.value < 1000000000)
NineDigitOrder (Get k) = k.value < 1000000000
NineDigitOrder Ledger = Unit {0}

pub record NineDigitHeading (h : Head GroupWord Number) : Type 0 where
  pub group : NineDigitGroup h.group
  pub n : h.n.value < 1000000000
  pub pages : h.pages.value < 1000000000
  pub width : h.width.value < 1000000000

-- The line orders o: it is o written out, the numbers have the columns of their first digits, and
-- each has at most nine digits, so that the line orders nothing else.
abbrev pub IsOrder : List ℕ → Command Number → Type 0
IsOrder l o = (l ≡ written o) × Columns o × NineDigitOrder o

-- The line is the heading h in the same way, and no other.
abbrev pub IsHeading : List ℕ → Head GroupWord Number → Type 0
IsHeading l h = (l ≡ heading_written h) × HeadingColumns h × NineDigitHeading h

-- how many words a command takes, by its letter; none where the letter is no command
abbrev pub command_word_count : ℕ → Option ℕ
command_word_count b =
    cond (b == 80 || (b == 82 || b == 83)) (Some 2) (cond (b == 71) (Some 1) (cond (b == 76) (Some 0) None))

-- the same in the place of the head
abbrev pub head_word_count : ℕ → Option ℕ
head_word_count b = cond (b == 72) (Some 4) None

-- there is no first byte, or it is no command that may stand here, or the second byte is no space
abbrev pub NoCommand : (ℕ → Option ℕ) → List ℕ → Type 0
NoCommand takes [] = Unit {0}
NoCommand takes (b ∷ rest) = (takes b ≡ None) ⊎ Unspaced rest

-- the first byte is no command that takes as many words as there are
abbrev pub Miscounted : (ℕ → Option ℕ) → List ℕ → Type 0
Miscounted takes [] = ⊥
Miscounted takes (b ∷ rest) = takes b ≡ Some (length (line_words (b ∷ rest))) → ⊥

-- The checks of a line's form, in their order.
abbrev pub form_rows : (ℕ → Option ℕ) → List ℕ → List PlacedRow
form_rows takes l =
    placed_row 53 81 (80 < length l) ∷ (placed_row 50 1 (NoCommand takes l) ∷ (placed_row 52 (length l + 1) (Miscounted takes l) ∷ []))

-- these are not k words; the refusal names the column past the line
abbrev pub count_row : List (List ℕ × ℕ) → ℕ → ℕ → PlacedRow
count_row ws k past = placed_row 52 past (length ws ≢ k)

-- a word that is to be a number, or a group, and is none
abbrev pub number_row : List ℕ × ℕ → PlacedRow
number_row w = placed_row 51 w.1 ((n : ℕ) → Spells w.0 n → ⊥)

abbrev pub group_row : List ℕ × ℕ → PlacedRow
group_row w = placed_row 51 w.1 ((g : GroupWord) → SpellsGroup w.0 g → ⊥)

-- the words of a head: a group, and then numbers
abbrev pub head_word_rows : List (List ℕ × ℕ) → List PlacedRow
head_word_rows [] = []
head_word_rows (w ∷ ws) = group_row w ∷ map number_row ws

-- The table of a line after the head, and that of a head.
abbrev pub line_rows : List ℕ → List PlacedRow
line_rows l = form_rows command_word_count l ++ map number_row (line_words l)

abbrev pub head_rows : List ℕ → List PlacedRow
head_rows l = form_rows head_word_count l ++ head_word_rows (line_words l)

-- the line has this letter and these words
abbrev pub Has : List ℕ → ℕ → List (List ℕ × ℕ) → Type 0
Has [] letter ws = ⊥
Has (b ∷ rest) letter ws = (b ≡ letter) × (line_words (b ∷ rest) ≡ ws)

-- the command is the one of the line
abbrev pub HasCommand : List ℕ → Command Word → Type 0
HasCommand l (Put k x) = Has l 80 (word_of k ∷ (word_of x ∷ []))
HasCommand l (Renew k x) = Has l 82 (word_of k ∷ (word_of x ∷ []))
HasCommand l (Save k x) = Has l 83 (word_of k ∷ (word_of x ∷ []))
HasCommand l (Get k) = Has l 71 (word_of k ∷ [])
HasCommand l Ledger = Has l 76 []

abbrev pub HasHead : List ℕ → Head Word Word → Type 0
HasHead l h = Has l 72 (head_words_of h)

-- a step of the reading of a line: its answer satisfies Q, or the first of its rows that holds refuses the line
abbrev pub ReadsStep : List PlacedRow → {A : Type 0} → (A → Type 0) → Result A Refusal → Type 0
ReadsStep rs Q (Ok x) = NotRefused rs × Q x
ReadsStep rs Q (Err f) = RefusedAt rs (line_number f.fault) f.column

-- a number and its column, read from a word
abbrev pub ReadsNumber : Word → Number → Type 0
ReadsNumber w n = Spells w.bytes.now n.value × (n.column ≡ w.column)

-- The line begins with the letter of o and has its words. It is not too long, and where the letter is a command that
-- may stand there, the line is not refused for it.
pub record Begins (l : List ℕ) (o : Opening) : Type 0 where
  pub past : o.words.past ≡ length l + 1
  pub length : length l ≤ 80
  pub has : Has l o.letter (words_left o.words)
  pub known : (takes : ℕ → Option ℕ) → (takes o.letter ≢ None) → NoCommand takes l → ⊥

-- The line begins so, or is refused by the rows of its form, whichever commands may stand there.
abbrev pub OpensLine : List ℕ → Result Opening Refusal → Type 0
OpensLine l (Ok o) = Begins l o
OpensLine l (Err f) = (takes : ℕ → Option ℕ) → RefusedAt (form_rows takes l) (line_number f.fault) f.column

-- The laws of reading: every order whose numbers have at most nine digits, and every such heading, passes its table
-- when it is written out.
abbrev pub OrdersPass : Type 0
OrdersPass = (o : Command Number) → NineDigitOrder o → NotRefused (line_rows (written o))

abbrev pub HeadingsPass : Type 0
HeadingsPass = (h : Head GroupWord Number) → NineDigitHeading h → NotRefused (head_rows (heading_written h))

-- The laws of one reading: a line is one order at most, and one heading at most.
abbrev pub OneOrder : Type 0
OneOrder = (l : List ℕ) (o o' : Command Number) → IsOrder l o → IsOrder l o' → o ≡ o'

abbrev pub OneHeading : Type 0
OneHeading = (l : List ℕ) (h h' : Head GroupWord Number) → IsHeading l h → IsHeading l h' → h ≡ h'
