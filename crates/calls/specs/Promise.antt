-- The promise of a store over every list of calls. Assumes nothing.
use Rattle.std.specs.Prelude.{◌≡◌, ℕ, ◌+◌, ◌*◌, ◌<◌, ◌≤◌, true, false, ◌&&◌, ◌↔◌, List, ◌∷◌, ◌++◌, map, Ok, Err}
use Rattle.calls.specs.declared.ledger.Ledger.{Ledger}
use Rattle.calls.specs.declared.call.Call.{Call}
use Rattle.calls.specs.declared.call.Call.TheVariants.{Get, Put, Renew}
use Rattle.group.specs.Group.{Lawful, figure, step}
use Rattle.cells.specs.Cells.{Cells, Cell}
use Rattle.cells.specs.Rows.{Served, rows_before}
use Rattle.coset.specs.Code.{Code, LabelledInTurn, Unreachable}
use Rattle.calls.specs.Records.{records, free, value}
use Rattle.calls.specs.Calls.{State, Answer, state_of, rows, Serves, Obeys}
use Rattle.calls.specs.Ledger.{ceiling, raised, blank}
use Rattle.calls.specs.History.{Event, Linked, LinkedCells, Every, total, count, RefusedFull, renewed, changed, on_page, renewals, changes, marks, last_accepted}
use Rattle.calls.specs.DataSheet.{DataSheet}

-- a record has at least as many cells as there are elements other than 0; with the labels of the rules each of these is
-- then the label of a cell
abbrev pub EnoughCells : Code → Type 0
EnoughCells c = c.group.order ≤ c.cells + 1

-- Full exactly when nothing fits: a put that no row of its table before 42 refuses answers full if, and only if, the
-- cells that are unset before it have no subset that sums to the step.
abbrev pub FullExactly : Code → Call → Answer → Cells → Type 0
FullExactly c (Get k) a before = Unit {0}
FullExactly c (Renew k x) a before = Unit {0}
FullExactly c (Put k x) a before =
    Served (rows_before 42 (rows c before (Put k x))) →
    RefusedFull a ↔ Unreachable c (free c before k) (step c.group (value c before k) x)

-- Fewest cells, and the first of the fewest: an accepted put sets one such subset and nothing else,
-- and answers its size; none is smaller, and none as small comes before it in dictionary order.
abbrev pub Fewest : Code → Call → Answer → Cells → Cells → Type 0
Fewest c (Get k) a before after = Unit {0}
Fewest c (Renew k x) a before after = Unit {0}
Fewest c (Put k x) (Err f) before after = Unit {0}
Fewest c (Put k x) (Ok r) before after = Serves c (Put k x) r before after

-- Set cells last: only an accepted renewal of its page unsets a cell.
abbrev pub Lasts : Code → Event → Type 0
Lasts c e =
    (p i : ℕ) → Cell e.before.cells p i → e.before.cells.set p i ≡ true → e.after.cells.set p i ≡ false →
    (renewed e && on_page c p e) ≡ true

-- a get that is accepted answers what x has for its record
abbrev pub Gets : Call → Answer → (ℕ → ℕ) → Type 0
Gets (Get k) (Ok r) x = r ≡ x k
Gets (Get k) (Err f) x = Unit {0}
Gets (Put k y) a x = Unit {0}
Gets (Renew k y) a x = Unit {0}

-- A store with the code c was in the state `first`; these calls had these answers, and left it in the state `last`.
-- Then there is a history of them, of which all of this holds.
pub record Promise (c : Code) (first : State) (calls : List Call) (answers : List Answer) (last : State) : Type 0 where
  pub history : List Event
  -- it has these calls, with these answers, in order, and leads from the one state to the other
  pub its_calls : map (λ (e : Event). e.call) history ≡ calls
  pub its_answers : map (λ (e : Event). e.answer) history ≡ answers
  pub linked : Linked first history last
  -- each call is refused exactly as its rows say, and otherwise served
  pub obeys : Every (λ e. Obeys c e.call e.answer e.before e.after) history
  pub full_exactly : Every (λ e. FullExactly c e.call e.answer e.before.cells) history
  pub fewest : Every (λ e. Fewest c e.call e.answer e.before.cells e.after.cells) history
  -- changes per erase, for each page, however many records share it
  pub changes_per_erase :
      EnoughCells c → (p : ℕ) → p < first.cells.pages →
      figure c.group * renewals c p history ≤ changes c p history + figure c.group
  -- when a put of the page can be full, and when the page can be worn out
  pub data_sheet : EnoughCells c → DataSheet c first.cells history
  -- the wear of a page has grown by its accepted renewals
  pub erases :
      (p : ℕ) → p < first.cells.pages → last.cells.wear p ≡ first.cells.wear p + renewals c p history
  -- a set cell is unset only by an accepted renewal of its page
  pub lasts : Every (Lasts c) history
  -- an accepted get answers the value last accepted for its record, or the one that the record had at first
  pub gets :
      (earlier : List Event) (e : Event) (later : List Event) → history ≡ earlier ++ (e ∷ later) →
      Gets e.call e.answer (λ k. last_accepted k earlier (value c first.cells k))
  -- and that is what the record holds in the end
  pub values :
      (k : ℕ) → k < records c first.cells →
      value c last.cells k ≡ last_accepted k history (value c first.cells k)
  -- the ledger has grown by what the history counts, up to the ceiling
  pub ledger_changes : last.ledger.changes ≡ raised (count (changed c) history) first.ledger.changes
  pub ledger_renewals : last.ledger.renewals ≡ raised (count renewed history) first.ledger.renewals
  pub ledger_marked : last.ledger.marked ≡ raised (total (λ e. marks e.call e.answer) history) first.ledger.marked

-- no count of a ledger is above the ceiling
pub record WithinCeiling (l : Ledger) : Type 0 where
  pub changes : l.changes ≤ ceiling
  pub renewals : l.renewals ≤ ceiling
  pub marked : l.marked ≤ ceiling

-- The theorem: with a lawful group and the labels of the rules, from a ledger within the ceiling, a linked history that
-- obeys the rules at each of its calls keeps the whole promise.
abbrev pub RulesSuffice : Type 0
RulesSuffice =
    (c : Code) → Lawful c.group → LabelledInTurn c → (first : State) (history : List Event) (last : State) →
    WithinCeiling first.ledger → Linked first history last → Every (λ e. Obeys c e.call e.answer e.before e.after) history →
    Promise c first (map (λ (e : Event). e.call) history) (map (λ (e : Event). e.answer) history) last

-- The same of calls that were made singly, each on a store of its own with a ledger of its own, over the same cells:
-- they keep the promise together, with what one ledger would have counted. Its history has the cells before and after
-- each of these calls.
abbrev pub SingleCallsSuffice : Type 0
SingleCallsSuffice =
    (c : Code) → Lawful c.group → LabelledInTurn c → (first : Cells) (made : List Event) (last : Cells) →
    LinkedCells first made last → Every (λ e. Obeys c e.call e.answer e.before e.after) made →
    (counts : Ledger)
    × (p :
    Promise c (state_of first blank) (map (λ (e : Event). e.call) made) (map (λ (e : Event). e.answer) made)
    (state_of last counts))
    × (map (λ (e : Event). e.before.cells) p.history ≡ map (λ (e : Event). e.before.cells) made)
    × (map (λ (e : Event). e.after.cells) p.history ≡ map (λ (e : Event). e.after.cells) made)
