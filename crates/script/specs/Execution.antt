-- What the lines after the head do: the calls that they make on a store, and what is printed of the answers.
-- Assumes nothing.
use Rattle.std.specs.Prelude.{◌≡◌, ℕ, ◌⊎◌, List, [], ◌∷◌, ◌++◌, Ok, Err, Result}
use Rattle.coset.specs.Code.{Code}
use Rattle.calls.specs.declared.call.Call.{Call}
use Rattle.calls.specs.declared.call.Call.TheVariants.{Get, Put, Renew}
use Rattle.calls.specs.declared.fault.StoreFault.{StoreFault}
use Rattle.calls.specs.declared.fault.StoreFault.TheVariants.{NoRecord, NoValue, Full, Fits, Unreached, Device}
use Rattle.calls.specs.Calls.{State, Answer, Obeys}
use Rattle.calls.specs.History.{Event, Linked, Every, RefusedFull}
use Rattle.calls.specs.Records.{records}
use Rattle.commands.specs.declared.fault.LineFault.{LineFault}
use Rattle.commands.specs.Faults.{line_number}
use Rattle.commands.specs.PlacedRows.{RefusedAt, NotRefused}
use Rattle.commands.specs.declared.command.Command.{Command}
use Rattle.commands.specs.declared.word.Number.{Number}
use Rattle.commands.specs.declared.command.Command.TheVariants.{Put as OrderPut, Renew as OrderRenew, Save as OrderSave, Get as OrderGet, Ledger as OrderLedger}
use Rattle.commands.specs.Orders.{IsOrder, line_rows}
use Rattle.script.specs.declared.fault.Cause.{Cause}
use Rattle.script.specs.declared.fault.Cause.TheVariants.{Line, Store}
use Rattle.script.specs.declared.fault.ScriptFault.{ScriptFault}
use Rattle.script.specs.declared.fault.OrderPlace.{OrderPlace}
use Rattle.script.specs.declared.reply.Reply.{Reply}
use Rattle.script.specs.declared.reply.Reply.TheVariants.{Made, Wrote, Renewed, Holds, Counted, Refused}

-- a refusal at line k and column j
abbrev pub refusal : Cause → ℕ → ℕ → Reply
refusal cause k j = Refused (record { cause = cause; line = k; column = j })

-- the column of a refusal by the store: that of the word it is about, if it is about one
abbrev pub fault_column : OrderPlace → StoreFault → ℕ
fault_column p (NoRecord k) = p.«record»
fault_column p (NoValue k) = p.value
fault_column p (Full k) = 1
fault_column p (Fits k) = 1
fault_column p (Unreached k) = 1
fault_column p (Device k f) = 1

-- the fault of a script for a call that the store refused, with the place of its order
abbrev pub fault_of_call : OrderPlace → StoreFault → ScriptFault
fault_of_call p f = record { cause = Store f; line = p.line; column = fault_column p f }

-- what is printed of an answer to an order at this place: its number, or the refusal
abbrev pub reply_to : OrderPlace → (ℕ → Reply) → Answer → Reply
reply_to p reply (Ok r) = reply r
reply_to p reply (Err f) = Refused (fault_of_call p f)

-- Where an order with these two words at line k stands. A get has no value, and is never refused for one.
abbrev pub place_of : ℕ → Number → Number → OrderPlace
place_of k m x = record { line = k; «record» = m.column; value = x.column }

abbrev pub place_of_get : ℕ → Number → OrderPlace
place_of_get k m = record { line = k; «record» = m.column; value = 1 }

-- one call was made, and r is what is printed of its answer
pub record CallsOnce (call : Call) (reply : Answer → Reply) (h : List Event) (r : Reply) : Type 0 where
  pub event : Event
  pub alone : h ≡ event ∷ []
  pub calls : event.call ≡ call
  pub prints : r ≡ reply event.answer

-- one call was refused as full, and then another was made, and r is what is printed of the other's answer
pub record CallsTwice (first second : Call) (reply : Answer → Reply) (h : List Event) (r : Reply) : Type 0 where
  pub full : Event
  pub event : Event
  pub both : h ≡ full ∷ (event ∷ [])
  pub tries : full.call ≡ first
  pub fails : RefusedFull full.answer
  pub calls : event.call ≡ second
  pub prints : r ≡ reply event.answer

-- An order at line k, carried out in the state s, makes these events and has this reply.
abbrev pub ExecutesOrder : ℕ → Command Number → State → List Event → Reply → Type 0
ExecutesOrder k (OrderPut m x) s h r = CallsOnce (Put m.value x.value) (reply_to (place_of k m x) Wrote) h r
ExecutesOrder k (OrderRenew m x) s h r = CallsOnce (Renew m.value x.value) (reply_to (place_of k m x) Renewed) h r
ExecutesOrder k (OrderSave m x) s h r =
    (CallsOnce (Put m.value x.value) (reply_to (place_of k m x) Wrote) h r × ((e : Event) → h ≡ e ∷ [] → RefusedFull e.answer → ⊥))
    ⊎ CallsTwice (Put m.value x.value) (Renew m.value x.value) (reply_to (place_of k m x) Renewed) h r
ExecutesOrder k (OrderGet m) s h r = CallsOnce (Get m.value) (reply_to (place_of_get k m) Holds) h r
ExecutesOrder k OrderLedger s h r = (h ≡ []) × (r ≡ Counted s.ledger)

-- a line that its table refuses makes no call
pub record LineRefused (k : ℕ) (l : List ℕ) (h : List Event) (r : Reply) : Type 0 where
  pub fault : LineFault
  pub column : ℕ
  pub refused : RefusedAt (line_rows l) (line_number fault) column
  pub no_call : h ≡ []
  pub prints : r ≡ refusal (Line fault) k column

-- any other line is an order written out, which is carried out
pub record LineExecuted (k : ℕ) (l : List ℕ) (s : State) (h : List Event) (r : Reply) : Type 0 where
  pub order : Command Number
  pub accepted : NotRefused (line_rows l)
  pub is : IsOrder l order
  pub executes : ExecutesOrder k order s h r

-- The same of a line, refused or not.
abbrev pub ExecutesLine : ℕ → List ℕ → State → List Event → Reply → Type 0
ExecutesLine k l s h r = LineRefused k l h r ⊎ LineExecuted k l s h r

-- the state after some events
unfoldable pub state_after : State → List Event → State
state_after s [] = s
state_after s (e ∷ es) = state_after e.after es

-- The lines, each with its number, make these events one after another from the state s on, and print these replies.
abbrev pub ExecutesLines : List (List ℕ × ℕ) → State → List Event → List Reply → Type 0
ExecutesLines [] s h out = (h ≡ []) × (out ≡ [])
ExecutesLines (l ∷ ls) s h out =
    (now : List Event) × (later : List Event) × (r : Reply) × (others : List Reply) × (h ≡ now ++ later) × (out ≡ r ∷ others)
    × ExecutesLine l.1 l.0 s now r × ExecutesLines ls (state_after s now) later others

-- An execution: its events lead from the one state to the other, each by the rules of the code c, and they satisfy `P`.
pub record Execution (c : Code) (P : List Event → Type 0) (before after : State) : Type 0 where
  pub history : List Event
  pub linked : Linked before history after
  pub obeys : Every (λ e. Obeys c e.call e.answer e.before e.after) history
  pub satisfies : P history

-- what is printed in the end: a reply, or a fault as a refusal
abbrev pub reply_of : Result Reply ScriptFault → Reply
reply_of (Ok r) = r
reply_of (Err f) = Refused f

-- All the lines were answered by a store with the code c, from the state `first` to the state `last`. It replied with its
-- number of records, and then to each line.
pub record Answered (c : Code) (first : State) (lines : List (List ℕ × ℕ)) (out : List Reply) (last : State) : Type 0 where
  pub others : List Reply
  pub replies : out ≡ Made (records c first.cells) ∷ others
  pub execution : Execution c (λ h. ExecutesLines lines first h others) first last
