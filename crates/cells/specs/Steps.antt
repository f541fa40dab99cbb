-- What is done to a cell array, a step at a time, and what each step does to the meaning. Assumes nothing.
use Rattle.std.specs.Prelude.{◌≡◌, ℕ, ◌+◌, ◌*◌, List, [], ◌∷◌, Ok, Err, Result}
use Rattle.cells.specs.declared.fault.DeviceFault.{DeviceFault}
use Rattle.cells.specs.Cells.{Cells}
use Rattle.cells.specs.Rows.{Refused, Served}
use Rattle.cells.specs.Device.{cell_rows, erase_rows, Marked, Erased}

-- A mark of a cell of a page, or an erase of a page: served, or refused by the array.
pub data Step : Type 0 where
  Mark : ℕ → ℕ → Step
  Erase : ℕ → Step
  MarkRefused : ℕ → ℕ → Step
  EraseRefused : ℕ → Step

-- which step a mark of cell i of page p was, and which an erase of page p, by the answer
abbrev pub mark_step : ℕ → ℕ → {A : Type 0} → Result A DeviceFault → Step
mark_step p i (Ok u) = Mark p i
mark_step p i (Err f) = MarkRefused p i

abbrev pub erase_step : ℕ → {A : Type 0} → Result A DeviceFault → Step
erase_step p (Ok u) = Erase p
erase_step p (Err f) = EraseRefused p

-- What a step does to the meaning. It is served where no row of its table holds, and a refused one alters nothing.
abbrev pub Stepped : Step → Cells → Cells → Type 0
Stepped (Mark p i) before after = Served (cell_rows before p i) × Marked p i before after
Stepped (Erase p) before after = Served (erase_rows before p) × Erased p before after
Stepped (MarkRefused p i) before after = ((k : ℕ) × Refused (cell_rows before p i) k) × (after ≡ before)
Stepped (EraseRefused p) before after = ((k : ℕ) × Refused (erase_rows before p) k) × (after ≡ before)

-- What a step on a paired part is on the array below. A mark that the paired part refuses does not reach it.
abbrev pub steps_below : Step → List Step
steps_below (Mark p i) = Mark p (2 * i) ∷ (Mark p (2 * i + 1) ∷ [])
steps_below (Erase p) = Erase p ∷ []
steps_below (MarkRefused p i) = []
steps_below (EraseRefused p) = EraseRefused p ∷ []
