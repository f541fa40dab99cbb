-- What look, mark, wear and erase refuse, and what they do where they serve. Assumes nothing.
use Rattle.std.specs.Prelude.{◌≡◌, ℕ, ◌+◌, ◌<◌, ◌≤◌, Bool, true, false, List, [], ◌∷◌, Some, None, Ok, Err, Option, Result, ◌≢◌}
use Rattle.std.specs.Borrow.{GName}
use Rattle.cells.specs.declared.fault.DeviceFault.{DeviceFault}
use Rattle.cells.specs.declared.fault.DeviceFault.TheVariants.{NoPage, NoCell, Worn}
use Rattle.cells.specs.Cells.{Cells, Shaped, Cell}
use Rattle.cells.specs.Rows.{Row, row, Refused, Served}
use Rattle.cells.specs.Faults.{device_number}

-- the checks of a look or a mark of cell i of page p, in their order
abbrev pub cell_rows : Cells → ℕ → ℕ → List Row
cell_rows m p i = row 20 (m.pages ≤ p) ∷ (row 21 (m.width ≤ i) ∷ [])

-- those of a question for the wear of page p
abbrev pub page_rows : Cells → ℕ → List Row
page_rows m p = row 20 (m.pages ≤ p) ∷ []

-- those of an erase of page p
abbrev pub erase_rows : Cells → ℕ → List Row
erase_rows m p = row 20 (m.pages ≤ p) ∷ (row 22 (m.limit ≤ m.wear p) ∷ [])

-- the fault names the page p, and the cell that the call named, if it named one
abbrev pub Names : DeviceFault → ℕ → Option ℕ → Type 0
Names (NoPage q j) p i = (q ≡ p) × (j ≡ i)
Names (NoCell q j) p i = (q ≡ p) × (Some j ≡ i)
Names (Worn q) p i = (q ≡ p) × (None ≡ i)

-- the cell i of the page p is set, and no other cell and no count is altered
pub record Marked (p i : ℕ) (before after : Cells) : Type 0 where
  pub shape : Shaped before after
  pub here : after.set p i ≡ true
  pub others : (q j : ℕ) → Cell before q j → ((q ≡ p) × (j ≡ i) → ⊥) → after.set q j ≡ before.set q j
  pub wear : (q : ℕ) → q < before.pages → after.wear q ≡ before.wear q

-- every cell of the page p is unset and its wear is one more; no other page is altered
pub record Erased (p : ℕ) (before after : Cells) : Type 0 where
  pub shape : Shaped before after
  pub here : (i : ℕ) → i < before.width → after.set p i ≡ false
  pub others : (q j : ℕ) → Cell before q j → (q ≢ p) → after.set q j ≡ before.set q j
  pub worn : after.wear p ≡ before.wear p + 1
  pub unworn : (q : ℕ) → q < before.pages → (q ≢ p) → after.wear q ≡ before.wear q

-- The check that there is a page p.
abbrev pub ChecksPage : Cells → ℕ → {A : Type 0} → Result A DeviceFault → Type 0
ChecksPage m p (Ok u) = Served (page_rows m p)
ChecksPage m p (Err f) = Refused (page_rows m p) (device_number f) × Names f p None

-- The check that it has a cell i.
abbrev pub ChecksCell : Cells → ℕ → ℕ → {A : Type 0} → Result A DeviceFault → Type 0
ChecksCell m p i (Ok u) = Served (cell_rows m p i)
ChecksCell m p i (Err f) = Refused (cell_rows m p i) (device_number f) × Names f p (Some i)

-- A look answers whether the cell is set.
abbrev pub Looks : Cells → ℕ → ℕ → Result Bool DeviceFault → Type 0
Looks m p i (Ok b) = Served (cell_rows m p i) × (b ≡ m.set p i)
Looks m p i (Err f) = Refused (cell_rows m p i) (device_number f) × Names f p (Some i)

-- A mark sets the cell.
abbrev pub Marks : ℕ → ℕ → Cells → Cells → {A : Type 0} → Result A DeviceFault → Type 0
Marks p i before after (Ok u) = Served (cell_rows before p i) × Marked p i before after
Marks p i before after (Err f) = Refused (cell_rows before p i) (device_number f) × Names f p (Some i) × (after ≡ before)

-- The wear of a page is answered with the limit, which is at least 1.
abbrev pub Wears : Cells → ℕ → Result (ℕ × ℕ) DeviceFault → Type 0
Wears m p (Ok w) = Served (page_rows m p) × (w.0 ≡ m.wear p) × (w.1 ≡ m.limit) × (1 ≤ m.limit)
Wears m p (Err f) = Refused (page_rows m p) (device_number f) × Names f p None

-- The check that the page p can be erased once more answers its wear.
abbrev pub ChecksErase : Cells → ℕ → Result ℕ DeviceFault → Type 0
ChecksErase m p (Ok w) = Served (erase_rows m p) × (w ≡ m.wear p)
ChecksErase m p (Err f) = Refused (erase_rows m p) (device_number f) × Names f p None

-- An erase unsets the page.
abbrev pub Erases : ℕ → Cells → Cells → {A : Type 0} → Result A DeviceFault → Type 0
Erases p before after (Ok u) = Served (erase_rows before p) × Erased p before after
Erases p before after (Err f) = Refused (erase_rows before p) (device_number f) × Names f p None × (after ≡ before)

-- What every call keeps of an array: the names of what it borrows, and its memory intact where it was so.
abbrev pub Kept : {A : Type 0} → (A → List GName) → (A → Type 0) → A → A → Type 0
Kept held intact before after = (held after ≡ held before) × (intact before → intact after)
