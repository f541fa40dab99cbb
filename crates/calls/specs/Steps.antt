-- The steps that an array takes for calls, and for no others. Assumes nothing.
use Rattle.std.specs.Prelude.{ℕ, zero, suc, ◌+◌, cond, not, ◌&&◌, List, [], ◌∷◌, ◌++◌, Ok, Err}
use Rattle.std.specs.List.{flat_map}
use Rattle.cells.specs.Cells.{Cells}
use Rattle.cells.specs.Sets.{Cellset}
use Rattle.cells.specs.Steps.{Step}
use Rattle.cells.specs.Steps.Step.{Mark, Erase, EraseRefused}
use Rattle.coset.specs.Code.{Code}
use Rattle.calls.specs.declared.call.Call.{Call}
use Rattle.calls.specs.declared.call.Call.TheVariants.{Get, Put, Renew}
use Rattle.calls.specs.declared.fault.StoreFault.{StoreFault}
use Rattle.calls.specs.declared.fault.StoreFault.TheVariants.{NoRecord, NoValue, Full, Fits, Unreached, Device}
use Rattle.calls.specs.Records.{page_of, first_of, held}
use Rattle.calls.specs.Calls.{Answer}
use Rattle.calls.specs.History.{Event}

-- a mark of each cell of s, rising, of the n cells of page p from the cell `first` on
unfoldable pub marks_of : ℕ → ℕ → Cellset → ℕ → List Step
marks_of p first s zero = []
marks_of p first s (suc i) = marks_of p first s i ++ cond (s i) (Mark p (first + i) ∷ []) []

-- the cells of record k that are unset before and set afterwards
abbrev pub newly_set : Code → Cells → Cells → ℕ → Cellset
newly_set c before after k i = after.set (page_of c before k) (first_of c before k + i) && not (held c before k i)

-- the steps of a refused renewal: the erase that was refused, where it was the device that refused, and else none
abbrev pub refused_steps : ℕ → StoreFault → List Step
refused_steps p (NoRecord k) = []
refused_steps p (NoValue k) = []
refused_steps p (Full k) = []
refused_steps p (Fits k) = []
refused_steps p (Unreached k) = []
refused_steps p (Device k f) = EraseRefused p ∷ []

-- The steps of a call with this answer, by the cells before and after it. An accepted put marks the cells that it sets,
-- rising. An accepted renewal erases its page, and then marks the cells that are set there afterwards, rising. Gets and
-- refusals take none, but for the renewal that the device refuses.
abbrev pub steps_of : Code → Call → Answer → Cells → Cells → List Step
steps_of c (Get k) a before after = []
steps_of c (Put k x) (Ok r) before after =
    marks_of (page_of c before k) (first_of c before k) (newly_set c before after k) c.cells
steps_of c (Put k x) (Err f) before after = []
steps_of c (Renew k x) (Ok r) before after =
    Erase (page_of c before k) ∷ marks_of (page_of c before k) 0 (after.set (page_of c before k)) before.width
steps_of c (Renew k x) (Err f) before after = refused_steps (page_of c before k) f

-- those of a whole history
abbrev pub all_steps : Code → List Event → List Step
all_steps c = flat_map (λ e. steps_of c e.call e.answer e.before.cells e.after.cells)
