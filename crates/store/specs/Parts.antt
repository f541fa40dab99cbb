-- What the parts of a call do: finding a record, reading it, and setting cells in it. Assumes nothing.
use Rattle.std.specs.Prelude.{◌≡◌, ℕ, ◌+◌, ◌*◌, ◌%◌, ◌<◌, ◌≤◌, false, cond, ◌||◌, ◌⊎◌, List, Ok, Err, Result, ◌==◌, ◌≢◌, slice_index_or, length}
use Rattle.cells.specs.Cells.{Cells, Shaped, Cell}
use Rattle.cells.specs.Sets.{Cellset}
use Rattle.calls.specs.declared.fault.StoreFault.{StoreFault}
use Rattle.calls.specs.declared.fault.StoreFault.TheVariants.{NoRecord, NoValue}
use Rattle.store.specs.declared.place.Place.{Place}
use Rattle.store.specs.declared.place.Found.{Found}
use Rattle.coset.specs.Code.{Code, every, sum_of, Plan}
use Rattle.coset.specs.CellSets.{members_of}
use Rattle.coset.specs.declared.cellset.CellSet.{CellSet}
use Rattle.calls.specs.Calls.{sizes}
use Rattle.calls.specs.Records.{records, per_page, page_of, first_of, held, value}

-- where record k lies, or that there is no such record
abbrev pub LiesAt : Code → Cells → ℕ → Result Place StoreFault → Type 0
LiesAt c m k (Ok at) = (k < records c m) × (at.page ≡ page_of c m k) × (at.first ≡ first_of c m k)
LiesAt c m k (Err f) = (records c m ≤ k) × (f ≡ NoRecord k)

-- record k was found, with its set cells and its value
pub record FoundRecord (c : Code) (m : Cells) (k : ℕ) (found : Found) : Type 0 where
  pub place : LiesAt c m k (Ok found.place)
  pub held : (i : ℕ) → i < c.cells → members_of found.held i ≡ held c m k i
  pub value : found.value ≡ value c m k

-- what is found of record k, or that there is no such record
abbrev pub Finds : Code → Cells → ℕ → Result Found StoreFault → Type 0
Finds c m k (Ok found) = FoundRecord c m k found
Finds c m k (Err f) = LiesAt c m k (Err f)

-- what is found of record k that is to hold x, or that there is no such record, or else no such value
abbrev pub FindsFor : Code → Cells → ℕ → ℕ → Result Found StoreFault → Type 0
FindsFor c m k x (Ok found) = FoundRecord c m k found × (x < c.group.order)
FindsFor c m k x (Err f) =
    ((records c m ≤ k) × (f ≡ NoRecord k)) ⊎ ((k < records c m) × (c.group.order ≤ x) × (f ≡ NoValue k))

-- n cells from a place on are cells of the array, and n is at most 63
pub record Inside (m : Cells) (n : ℕ) (at : Place) : Type 0 where
  pub page : at.page < m.pages
  pub cells : at.first + n ≤ m.width
  pub few : n ≤ 63

-- which cells are set, counted from a place on
abbrev pub set_from : Cells → Place → Cellset
set_from m at i = m.set at.page (at.first + i)

-- Of the n cells from a place on those of s are now set too; all else is as it was.
pub record SetsCells (n : ℕ) (at : Place) (s : Cellset) (before after : Cells) : Type 0 where
  pub shape : Shaped before after
  pub here : (i : ℕ) → i < n → set_from after at i ≡ (set_from before at i || s i)
  pub others :
      (p j : ℕ) → Cell before p j → ((p ≡ at.page) × (at.first ≤ j) × (j < at.first + n) → ⊥) →
      after.set p j ≡ before.set p j
  pub wear : (p : ℕ) → p < before.pages → after.wear p ≡ before.wear p

-- the place of the record r of a page
abbrev pub nth_place : Code → ℕ → ℕ → Place
nth_place c page r = record { page = page; first = r * c.cells }

-- what the record at place r of a page is to hold, where the one at place `named` is to hold x
abbrev pub target : Code → Cells → ℕ → ℕ → ℕ → ℕ → ℕ
target c m page named x r = cond (r == named) x (sum_of c (set_from m (nth_place c page r)))

-- the plan from empty of each of the first b records of a page
pub record PlansOfPage (c : Code) (m : Cells) (page named x b : ℕ) (plans : List CellSet) : Type 0 where
  pub all : length plans ≡ b
  pub each : (r : ℕ) (d : CellSet) → r < b → Plan c every (target c m page named x r) (members_of (slice_index_or plans r d))

-- those for a renewal of record k to x: of every record of its page
abbrev pub PlansForRenewal : Code → Cells → ℕ → ℕ → List CellSet → Type 0
PlansForRenewal c m k x plans = PlansOfPage c m (page_of c m k) (k % per_page c m) x (per_page c m) plans

-- The first b records of the page have the cells of their plans set, and no other cell of it is; all else is as it was.
pub record PageWritten (n page b : ℕ) (plans : List CellSet) (before after : Cells) (marked : ℕ) : Type 0 where
  pub shape : Shaped before after
  pub written : (r i : ℕ) (d : CellSet) → r < b → i < n → after.set page (r * n + i) ≡ members_of (slice_index_or plans r d) i
  pub beyond : (j : ℕ) → b * n ≤ j → j < before.width → after.set page j ≡ false
  pub others : (p j : ℕ) → Cell before p j → (p ≢ page) → after.set p j ≡ before.set p j
  pub wear : (p : ℕ) → p < before.pages → after.wear p ≡ before.wear p
  pub counted : (d : CellSet) → marked ≡ sizes n (λ r. members_of (slice_index_or plans r d)) b
