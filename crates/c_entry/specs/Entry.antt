-- What a call on the bytes of a flash image answers, and what it leaves there. Assumes nothing.
use Rattle.std.specs.Prelude.{◌≡◌, ℕ, ◌+◌, ◌≤◌, cond, ◌⊎◌, List, ◌++◌, Ok, Err, Result, ◌==◌}
use Rattle.group.specs.Group.{Group}
use Rattle.group.specs.Integers.{integers}
use Rattle.group.specs.Vectors.{vectors}
use Rattle.cells.specs.Rows.{Row, Refused, Served}
use Rattle.images.specs.declared.format.Format.TheVariants.{Flash}
use Rattle.images.specs.Image.{decoded}
use Rattle.images.specs.Check.{image_rows}
use Rattle.images.specs.Written.{written}
use Rattle.coset.specs.Code.{Code, code}
use Rattle.calls.specs.declared.call.Call.{Call}
use Rattle.calls.specs.declared.ledger.Ledger.{Ledger}
use Rattle.calls.specs.Ledger.{blank}
use Rattle.calls.specs.Records.{making_rows}
use Rattle.calls.specs.Calls.{rows, state_of, Obeys}
use Rattle.c_entry.specs.declared.fault.EntryFault.{EntryFault}
use Rattle.c_entry.specs.Faults.{entry_number}

-- The group of a kind and a parameter: 0 for integers, 1 for vectors. Any other kind names the integers modulo 0, which
-- cannot be used.
abbrev pub group_named : ℕ → ℕ → Group
group_named k m = cond (k == 0) (integers m) (cond (k == 1) (vectors m) (integers 0))

-- the code that C names by a kind, a parameter and a number of cells to a record
abbrev pub code_named : ℕ → ℕ → ℕ → Code
code_named kind parameter n = code (group_named kind parameter) n

-- The checks of every call on the image xs, whatever it asks: those of the image, and of the making.
abbrev pub opening_rows : Code → List ℕ → List Row
opening_rows c xs = image_rows Flash xs ++ making_rows c (decoded Flash xs)

-- All the checks of a call, in their order: those, and then its own.
abbrev pub entry_rows : Code → Call → List ℕ → List Row
entry_rows c call xs = opening_rows c xs ++ rows c (decoded Flash xs) call

-- A served call on the image xs, which is ys afterwards: the call obeys the rules of a store whose cells are those of
-- the image, with a ledger that nobody keeps. Before and afterwards the image is the writing-out of its cells, so that
-- every byte is known from them.
pub record ServedOn (c : Code) (call : Call) (xs ys : List ℕ) (a : ℕ) : Type 0 where
  pub served : Served (entry_rows c call xs)
  pub counts : Ledger
  pub obeys : Obeys c call (Ok a) (state_of (decoded Flash xs) blank) (state_of (decoded Flash ys) counts)
  pub good : Served (image_rows Flash ys)
  pub written_before : xs ≡ written Flash (decoded Flash xs)
  pub written_after : ys ≡ written Flash (decoded Flash ys)
  pub small : a ≤ 1024

-- A refused call, by the first row that holds; every byte is as it was.
pub record RefusedOn (c : Code) (call : Call) (xs ys : List ℕ) (k : ℕ) : Type 0 where
  pub refused : Refused (entry_rows c call xs) k
  pub unchanged : ys ≡ xs

-- a call on the image xs, which is ys afterwards, is served with an answer or refused with a fault
abbrev pub Answers : Code → Call → List ℕ → List ℕ → Result ℕ EntryFault → Type 0
Answers c call xs ys (Ok a) = ServedOn c call xs ys a
Answers c call xs ys (Err f) = RefusedOn c call xs ys (entry_number f)

-- the number that a caller in C gets for an answer
abbrev pub answer_number : Result ℕ EntryFault → ℕ
answer_number (Ok a) = a
answer_number (Err f) = 10000 + entry_number f

-- A call from C on the bytes xs of an image answers a, and leaves the bytes ys. The answer is the value or the count of
-- a served call, or 10,000 and the number of the refusal.
abbrev pub CallsOnImage : Code → Call → List ℕ → List ℕ → ℕ → Type 0
CallsOnImage c call xs ys a = ServedOn c call xs ys a ⊎ ((k : ℕ) × RefusedOn c call xs ys k × (a ≡ 10000 + k))
