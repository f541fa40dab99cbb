-- Histories: the calls that were made, their answers, and what can be counted of them. Assumes nothing.
use Rattle.std.specs.Prelude.{◌≡◌, ℕ, ◌+◌, Bool, true, false, cond, not, ◌&&◌, List, [], ◌∷◌, Ok, Err, ◌==◌}
use Rattle.calls.specs.declared.call.Call.{Call}
use Rattle.calls.specs.declared.call.Call.TheVariants.{Get, Put, Renew}
use Rattle.cells.specs.Cells.{Cells}
use Rattle.coset.specs.Code.{Code}
use Rattle.calls.specs.Records.{page_of, value}
use Rattle.calls.specs.Faults.{number}
use Rattle.calls.specs.Calls.{State, Answer, record_of}

-- A call with its answer, and the state that it found and the one that it left.
pub record Event : Type 0 where
  pub call : Call
  pub answer : Answer
  pub before : State
  pub after : State

-- each event begins where the one before it ended, the first at s; the last ends at s'
abbrev pub Linked : State → List Event → State → Type 0
Linked s [] s' = s' ≡ s
Linked s (e ∷ es) s' = (e.before ≡ s) × Linked e.after es s'

-- the same of the cells alone: the ledgers may be those of different stores
abbrev pub LinkedCells : Cells → List Event → Cells → Type 0
LinkedCells m [] m' = m' ≡ m
LinkedCells m (e ∷ es) m' = (e.before.cells ≡ m) × LinkedCells e.after.cells es m'

abbrev pub Every : (Event → Type 0) → List Event → Type 0
Every P [] = Unit {0}
Every P (e ∷ es) = P e × Every P es

-- the sum of a number that each event has
unfoldable pub total : (Event → ℕ) → List Event → ℕ
total f [] = 0
total f (e ∷ es) = f e + total f es

-- the number of events for which a test is true
abbrev pub count : (Event → Bool) → List Event → ℕ
count test = total (λ e. cond (test e) 1 0)

abbrev pub accepted : Answer → Bool
accepted (Ok r) = true
accepted (Err f) = false

-- an answer is the refusal by 42, full, or by 22, worn out
abbrev pub RefusedFull : Answer → Type 0
RefusedFull (Ok r) = ⊥
RefusedFull (Err f) = number f ≡ 42

abbrev pub RefusedWorn : Answer → Type 0
RefusedWorn (Ok r) = ⊥
RefusedWorn (Err f) = number f ≡ 22

abbrev pub is_renewal : Call → Bool
is_renewal (Get k) = false
is_renewal (Put k x) = false
is_renewal (Renew k x) = true

-- whether a call is a put of a value that its record does not hold
abbrev pub is_change : Code → Cells → Call → Bool
is_change c m (Get k) = false
is_change c m (Put k x) = not (value c m k == x)
is_change c m (Renew k x) = false

-- whether an event is a renewal that was accepted
abbrev pub renewed : Event → Bool
renewed e = is_renewal e.call && accepted e.answer

-- whether an event is a change: such a put, accepted
abbrev pub changed : Code → Event → Bool
changed c e = is_change c e.before.cells e.call && accepted e.answer

-- whether the record of the call lies in page p
abbrev pub on_page : Code → ℕ → Event → Bool
on_page c p e = page_of c e.before.cells (record_of e.call) == p

-- how often page p was renewed
abbrev pub renewals : Code → ℕ → List Event → ℕ
renewals c p = count (λ e. renewed e && on_page c p e)

-- how many changes there were of records of page p
abbrev pub changes : Code → ℕ → List Event → ℕ
changes c p = count (λ e. changed c e && on_page c p e)

-- how many cells a call marked, by its answer
abbrev pub marks : Call → Answer → ℕ
marks (Get k) a = 0
marks (Put k x) (Ok r) = r
marks (Put k x) (Err f) = 0
marks (Renew k x) (Ok r) = r
marks (Renew k x) (Err f) = 0

-- the value last accepted for record k after this call, if it was x before
abbrev pub accepts : ℕ → Call → Answer → ℕ → ℕ
accepts k (Get j) a x = x
accepts k (Put j y) a x = cond (accepted a && j == k) y x
accepts k (Renew j y) a x = cond (accepted a && j == k) y x

-- The value that was last accepted for record k in these events. Before the first such event it is x.
unfoldable pub last_accepted : ℕ → List Event → ℕ → ℕ
last_accepted k [] x = x
last_accepted k (e ∷ es) x = last_accepted k es (accepts k e.call e.answer x)
