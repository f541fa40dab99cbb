-- The rules of one call: when a get, a put or a renewal is refused, and what it answers and alters otherwise.
-- Assumes nothing.
use Rattle.std.specs.Prelude.{◌≡◌, ℕ, zero, suc, ◌+◌, ◌*◌, ◌<◌, ◌≤◌, false, cond, ◌||◌, List, [], ◌∷◌, None, Ok, Err, Result, ◌==◌, ◌≢◌}
use Rattle.calls.specs.declared.call.Call.{Call}
use Rattle.calls.specs.declared.call.Call.TheVariants.{Get, Put, Renew}
use Rattle.calls.specs.declared.fault.StoreFault.{StoreFault}
use Rattle.group.specs.Group.{step}
use Rattle.cells.specs.Cells.{Cells, Shaped, Cell}
use Rattle.cells.specs.Rows.{Row, row, Refused, Served}
use Rattle.cells.specs.Sets.{Cellset, size_below}
use Rattle.coset.specs.Code.{Code, every, size_of, Reachable, Unreachable, Plan}
use Rattle.calls.specs.Records.{records, per_page, page_of, Within, held, free, value}
use Rattle.calls.specs.declared.fault.StoreFault.TheVariants.{NoRecord, NoValue, Full, Fits, Unreached, Device}
use Rattle.calls.specs.declared.ledger.Ledger.{Ledger}
use Rattle.calls.specs.Faults.{number}
use Rattle.cells.specs.Device.{Names}
use Rattle.calls.specs.Ledger.{noted}

-- which record a call is about
abbrev pub record_of : Call → ℕ
record_of (Get k) = k
record_of (Put k x) = k
record_of (Renew k x) = k

-- What refuses a call that finds the cells as in m, in the order of the checks.
abbrev pub rows : Code → Cells → Call → List Row
rows c m (Get k) = row 40 (records c m ≤ k) ∷ []
rows c m (Put k x) =
    row 40 (records c m ≤ k) ∷
    (row 41 (c.group.order ≤ x) ∷
    (row 42 (Unreachable c (free c m k) (step c.group (value c m k) x)) ∷ []))
rows c m (Renew k x) =
    row 40 (records c m ≤ k) ∷
    (row 41 (c.group.order ≤ x) ∷
    (row 43 (Reachable c (free c m k) (step c.group (value c m k) x)) ∷
    (row 44 (Unreachable c every x) ∷
    (row 22 (m.limit ≤ m.wear (page_of c m k)) ∷ []))))

-- In record k the cells of s are now set too. No other cell has changed, and no wear count.
pub record Sets (c : Code) (k : ℕ) (s : Cellset) (before after : Cells) : Type 0 where
  pub shape : Shaped before after
  pub here : (i : ℕ) → i < c.cells → held c after k i ≡ (held c before k i || s i)
  pub others : (p j : ℕ) → Cell before p j → (Within c before k p j → ⊥) → after.set p j ≡ before.set p j
  pub wear : (p : ℕ) → p < before.pages → after.wear p ≡ before.wear p

-- the sizes of the first b sets of n cells, added up
unfoldable pub sizes : ℕ → (ℕ → Cellset) → ℕ → ℕ
sizes n sets zero = 0
sizes n sets (suc b) = size_below (sets b) n + sizes n sets b

-- the value of record k after a renewal that gives the record `named` the value x: the others keep theirs
abbrev pub renewed_value : Code → Cells → ℕ → ℕ → ℕ → ℕ
renewed_value c before named x k = cond (k == named) x (value c before k)

-- A renewal of record k to x: its page was erased, and each record of the page was written into
-- unset cells by the plan for its value. `marked` counts the cells that were set.
pub record Renewed (c : Code) (k x : ℕ) (before after : Cells) (marked : ℕ) : Type 0 where
  pub shape : Shaped before after
  -- the plan of the record at place r of the page
  pub plans : ℕ → Cellset
  pub planned : (r : ℕ) → r < per_page c before → Plan c every (renewed_value c before k x (page_of c before k * per_page c before + r)) (plans r)
  pub written : (r i : ℕ) → r < per_page c before → i < c.cells → after.set (page_of c before k) (r * c.cells + i) ≡ plans r i
  pub beyond : (j : ℕ) → per_page c before * c.cells ≤ j → j < before.width → after.set (page_of c before k) j ≡ false
  pub others : (p j : ℕ) → Cell before p j → (p ≢ page_of c before k) → after.set p j ≡ before.set p j
  pub worn : after.wear (page_of c before k) ≡ before.wear (page_of c before k) + 1
  pub unworn : (p : ℕ) → p < before.pages → (p ≢ page_of c before k) → after.wear p ≡ before.wear p
  pub counted : marked ≡ sizes c.cells plans (per_page c before)

-- The answer r of a call that nothing refuses, and the cells before and after it.
abbrev pub Serves : Code → Call → ℕ → Cells → Cells → Type 0
Serves c (Get k) r before after = (r ≡ value c before k) × (after ≡ before)
Serves c (Put k x) r before after =
    (s : Cellset) × Plan c (free c before k) (step c.group (value c before k) x) s × Sets c k s before after × (r ≡ size_of c s)
Serves c (Renew k x) r before after = Renewed c k x before after r

-- What calls can alter.
pub record State : Type 0 where
  pub cells : Cells
  pub ledger : Ledger

-- the state of a store, by its cells and its ledger
abbrev pub state_of : Cells → Ledger → State
state_of m l = record { cells = m; ledger = l }

abbrev pub Answer : Type 0
Answer = Result ℕ StoreFault

-- the fault carries the record k of the call, and a device's fault in it the page p
abbrev pub Places : StoreFault → ℕ → ℕ → Type 0
Places (NoRecord j) k p = j ≡ k
Places (NoValue j) k p = j ≡ k
Places (Full j) k p = j ≡ k
Places (Fits j) k p = j ≡ k
Places (Unreached j) k p = j ≡ k
Places (Device j f) k p = (j ≡ k) × Names f p None

-- The rules: the first row that holds refuses the call, which then alters nothing. Where no row holds the call is
-- served, and the ledger notes it.
abbrev pub Obeys : Code → Call → Answer → State → State → Type 0
Obeys c call (Ok r) before after =
    Served (rows c before.cells call) × Serves c call r before.cells after.cells
    × (after.ledger ≡ noted call (value c before.cells (record_of call)) r before.ledger)
Obeys c call (Err f) before after =
    Refused (rows c before.cells call) (number f) × Places f (record_of call) (page_of c before.cells (record_of call)) × (after ≡ before)
