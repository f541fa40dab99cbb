-- That the statements are about something: lawful groups, and a history that obeys the rules. Assumes nothing.
use Rattle.std.specs.Prelude.{◌≡◌, ℕ, ◌≤◌, List, [], ◌∷◌, Ok, Err}
use Rattle.cells.specs.declared.fault.DeviceFault.TheVariants.{Worn}
use Rattle.group.specs.Group.{Lawful, figure}
use Rattle.group.specs.Integers.{integers}
use Rattle.group.specs.Vectors.{vectors}
use Rattle.calls.specs.declared.call.Call.{Call}
use Rattle.calls.specs.declared.call.Call.TheVariants.{Get, Put, Renew}
use Rattle.calls.specs.declared.fault.StoreFault.TheVariants.{NoRecord, NoValue, Full, Fits, Unreached, Device}
use Rattle.coset.specs.Code.{code, LabelledInTurn}
use Rattle.calls.specs.Calls.{State, Answer, Obeys}
use Rattle.calls.specs.History.{Event, Linked, Every}
use Rattle.calls.specs.DataSheet.{Unset}
use Rattle.calls.specs.Promise.{EnoughCells}
use Rattle.calls.specs.Examples.{labelled}

-- the integers modulo v are a lawful group of order v
abbrev pub IntegersLawful : Type 0
IntegersLawful = (v : ℕ) → 2 ≤ v → v ≤ 64 → Lawful (integers v) × ((integers v).order ≡ v)

-- One page of one record, which lasts one erase: the record's cells, the labels of those that are set, the page's wear,
-- and the ledger.
abbrev pub one_page : ℕ → List ℕ → ℕ → ℕ → ℕ → ℕ → State
one_page n labels w changes renewals marked =
    record {
      cells = record { pages = 1; width = n; set = λ p i. labelled labels i; wear = λ p. w; limit = 1 };
      ledger = record { changes = changes; renewals = renewals; marked = marked };
    }

abbrev pub event : Call → Answer → State → State → Event
event call answer before after = record { call = call; answer = answer; before = before; after = after }

-- the states that a record of one cell over the integers modulo 3 goes through
abbrev pub not_written : State
not_written = one_page 1 [] 0 0 0 0

abbrev pub written_once : State
written_once = one_page 1 (1 ∷ []) 0 1 0 1

abbrev pub renewed_once : State
renewed_once = one_page 1 [] 1 1 1 1

abbrev pub written_again : State
written_again = one_page 1 (1 ∷ []) 1 2 1 2

-- each kind of call, served and refused
abbrev pub sample : List Event
sample =
    event (Get 0) (Ok 0) not_written not_written ∷
    (event (Get 1) (Err (NoRecord 1)) not_written not_written ∷
    (event (Put 0 3) (Err (NoValue 0)) not_written not_written ∷
    (event (Put 0 2) (Err (Full 0)) not_written not_written ∷
    (event (Renew 0 1) (Err (Fits 0)) not_written not_written ∷
    (event (Renew 0 2) (Err (Unreached 0)) not_written not_written ∷
    (event (Put 0 1) (Ok 1) not_written written_once ∷
    (event (Get 0) (Ok 1) written_once written_once ∷
    (event (Put 0 1) (Ok 0) written_once written_once ∷
    (event (Put 0 0) (Err (Full 0)) written_once written_once ∷
    (event (Renew 0 0) (Ok 0) written_once renewed_once ∷
    (event (Put 0 1) (Ok 1) renewed_once written_again ∷
    (event (Renew 0 0) (Err (Device 0 (Worn 0))) written_again written_again ∷ []))))))))))))

-- The sample leads from the record with no cell set to its last state, and obeys the rules at each call.
abbrev pub SampleObeys : Type 0
SampleObeys =
    Linked not_written sample written_again
    × Every (λ e. Obeys (code (integers 3) 1) e.call e.answer e.before e.after) sample

-- A second sample, for the figure: a record of three cells over the vectors of two bits, for which h is 1.
-- The states that the record goes through:
abbrev pub none_set : State
none_set = one_page 3 [] 0 0 0 0

abbrev pub one_set : State
one_set = one_page 3 (3 ∷ []) 0 1 0 1

abbrev pub two_set : State
two_set = one_page 3 (2 ∷ (3 ∷ [])) 0 2 0 2

abbrev pub all_set : State
all_set = one_page 3 (1 ∷ (2 ∷ (3 ∷ []))) 0 3 0 3

abbrev pub one_set_again : State
one_set_again = one_page 3 (1 ∷ []) 1 3 1 4

abbrev pub all_set_again : State
all_set_again = one_page 3 (1 ∷ (2 ∷ (3 ∷ []))) 1 4 1 6

-- three changes, a put that is refused as full, a renewal, one change, which is h, and the page is full again and worn
-- out
abbrev pub page_life : List Event
page_life =
    event (Put 0 3) (Ok 1) none_set one_set ∷
    (event (Put 0 1) (Ok 1) one_set two_set ∷
    (event (Put 0 0) (Ok 1) two_set all_set ∷
    (event (Put 0 1) (Err (Full 0)) all_set all_set ∷
    (event (Renew 0 1) (Ok 1) all_set one_set_again ∷
    (event (Put 0 0) (Ok 2) one_set_again all_set_again ∷
    (event (Put 0 1) (Err (Full 0)) all_set_again all_set_again ∷
    (event (Renew 0 1) (Err (Device 0 (Worn 0))) all_set_again all_set_again ∷ [])))))))

-- It obeys the rules, from a page with no cell set, and the laws of the figure speak of it: its cells are enough, and h
-- is 1.
pub record PageLifeObeys : Type 0 where
  pub figure_is : figure (vectors 2) ≡ 1
  pub enough : EnoughCells (code (vectors 2) 3)
  pub labelled : LabelledInTurn (code (vectors 2) 3)
  pub starts : Unset none_set.cells 0
  pub linked : Linked none_set page_life all_set_again
  pub obeys : Every (λ e. Obeys (code (vectors 2) 3) e.call e.answer e.before e.after) page_life
