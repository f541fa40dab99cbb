-- What a whole script prints and leaves: the head makes a fresh flash part and a store, and the other lines make calls on
-- it.
-- Assumes nothing.
use Rattle.std.specs.Prelude.{◌≡◌, ℕ, ◌<◌, ◌≤◌, ◌⊎◌, List, [], ◌∷◌, length, take, drop, Option, None, Some}
use Rattle.group.specs.Group.{unusable}
use Rattle.cells.specs.Cells.{Cells, Alike}
use Rattle.cells.specs.Rows.{Served}
use Rattle.images.specs.declared.format.Format.TheVariants.{Flash}
use Rattle.images.specs.Image.{size, decoded}
use Rattle.images.specs.Check.{image_rows}
use Rattle.images.specs.Written.{written}
use Rattle.images.specs.Fresh.{blank as fresh_cells}
use Rattle.coset.specs.Code.{Code, code}
use Rattle.calls.specs.declared.call.Call.{Call}
use Rattle.calls.specs.Records.{records}
use Rattle.calls.specs.Ledger.{blank as blank_ledger}
use Rattle.calls.specs.Calls.{State, Answer}
use Rattle.calls.specs.Promise.{Promise}
use Rattle.scan.specs.Pieces.{cut}
use Rattle.commands.specs.declared.head.Head.{Head}
use Rattle.commands.specs.declared.group_word.GroupWord.{GroupWord}
use Rattle.commands.specs.declared.word.Number.{Number}
use Rattle.commands.specs.declared.fault.LineFault.{LineFault}
use Rattle.commands.specs.declared.fault.LineFault.TheVariants.{Command, Size}
use Rattle.commands.specs.Faults.{line_number}
use Rattle.commands.specs.Groups.{word_group}
use Rattle.commands.specs.PlacedRows.{PlacedRow, placed_row, RefusedAt, NotRefused}
use Rattle.commands.specs.Orders.{head_rows, IsHeading}
use Rattle.script.specs.declared.fault.Cause.{Cause}
use Rattle.script.specs.declared.fault.Cause.TheVariants.{Line}
use Rattle.script.specs.declared.reply.Reply.{Reply}
use Rattle.script.specs.declared.reply.Reply.TheVariants.{Made}
use Rattle.script.specs.Faults.{cause_number}
use Rattle.script.specs.Lines.{numbered}
use Rattle.script.specs.Execution.{refusal, ExecutesLines}

-- the code that a heading names
abbrev pub code_of_heading : Head GroupWord Number → Code
code_of_heading h = code (word_group h.group) h.n.value

-- What refuses a heading, in the order of the checks, each at its word.
abbrev pub heading_rows : Head GroupWord Number → List PlacedRow
heading_rows h =
    placed_row 11 h.pages.column ((h.pages.value ≡ 0) ⊎ (64 < h.pages.value)) ∷
    (placed_row 12 h.width.column ((h.width.value ≡ 0) ⊎ (1024 < h.width.value)) ∷
    (placed_row 30 3 ((word_group h.group).order ≡ unusable) ∷
    (placed_row 31 h.n.column ((h.n.value ≡ 0) ⊎ (63 < h.n.value)) ∷
    (placed_row 32 h.n.column (h.width.value < h.n.value) ∷ []))))

-- The bytes that are lent to a script for its image, before and afterwards, and how many of them are then the image that
-- it left, if it left one.
pub record Lent : Type 0 where
  pub before : List ℕ
  pub after : List ℕ
  pub left : Option ℕ

abbrev pub lent : List ℕ → List ℕ → Option ℕ → Lent
lent xs ys n = record { before = xs; after = ys; left = n }

-- No image is left: all the bytes are as they were.
pub record NoImage (l : Lent) : Type 0 where
  pub none : l.left ≡ None
  pub bytes : l.after ≡ l.before

-- The first n bytes are the image of these cells: they are its writing-out, the check accepts it, and it is read as these
-- cells. The bytes after it are as they were.
pub record LeavesImage (n : ℕ) (m : Cells) (l : Lent) : Type 0 where
  pub size : l.left ≡ Some n
  pub image : take n l.after ≡ written Flash m
  pub long : length (written Flash m) ≡ n
  pub good : Served (image_rows Flash (written Flash m))
  pub reads : decoded Flash (written Flash m) ≡ m
  pub others : drop n l.after ≡ drop n l.before

-- The heading is accepted: a store over a fresh part is made, and the lines after it make calls that keep the whole
-- promise of a store. Printed is the number of records, and then the replies to the lines that make these calls. The
-- image that is left has the cells that the last of these very calls left.
pub record MadeStore (h : Head GroupWord Number) (lines : List (List ℕ × ℕ)) (out : List Reply) (l : Lent) : Type 0 where
  pub accepted : NotRefused (heading_rows h)
  pub first : State
  pub last : State
  pub fresh : Alike (fresh_cells h.pages.value h.width.value) first.cells
  pub nothing_counted : first.ledger ≡ blank_ledger
  pub calls : List Call
  pub answers : List Answer
  pub promise : Promise (code_of_heading h) first calls answers last
  pub others : List Reply
  pub prints : out ≡ Made (records (code_of_heading h) first.cells) ∷ others
  pub executes : ExecutesLines lines first promise.history others
  pub leaves : LeavesImage (size Flash h.pages.value h.width.value) last.cells l

-- a head that is not well written, at line k
pub record HeadMalformed (k : ℕ) (head : List ℕ) (out : List Reply) : Type 0 where
  pub fault : LineFault
  pub column : ℕ
  pub refused : RefusedAt (head_rows head) (line_number fault) column
  pub prints : out ≡ refusal (Line fault) k column ∷ []

-- a heading that is refused
pub record HeadRefused (k : ℕ) (h : Head GroupWord Number) (out : List Reply) : Type 0 where
  pub cause : Cause
  pub column : ℕ
  pub refused : RefusedAt (heading_rows h) (cause_number cause) column
  pub prints : out ≡ refusal cause k column ∷ []

-- a head that is well written, and the lines after it
pub record HeadWellFormed (k : ℕ) (head : List ℕ) (lines : List (List ℕ × ℕ)) (out : List Reply) (l : Lent) : Type 0 where
  pub heading : Head GroupWord Number
  pub accepted : NotRefused (head_rows head)
  pub is : IsHeading head heading
  pub outcome : (HeadRefused k heading out × NoImage l) ⊎ MadeStore heading lines out l

-- The first line that is not empty is the head. Where it is refused or missing, one refusal is all that is printed, and
-- no image is left.
abbrev pub Starts : List (List ℕ × ℕ) → List Reply → Lent → Type 0
Starts [] out l = (out ≡ refusal (Line Command) 1 1 ∷ []) × NoImage l
Starts (head ∷ ls) out l =
    (HeadMalformed head.1 head.0 out × NoImage l) ⊎ HeadWellFormed head.1 head.0 ls out l

-- What a script prints, and what it leaves. One of more than 65,535 bytes is refused whole; the lines of any other are
-- parted by byte 10.
abbrev pub Runs : List ℕ → List Reply → Lent → Type 0
Runs script out l =
    ((65535 < length script) × (out ≡ refusal (Line Size) 1 1 ∷ []) × NoImage l)
    ⊎ ((length script ≤ 65535) × Starts (numbered 1 (cut 10 script)) out l)
