-- Which bytes of an image a step of a part writes, and that it writes no other. Assumes nothing.
use Rattle.std.specs.Prelude.{◌≡◌, ℕ, ◌+◌, ◌*◌, ◌/◌, ◌%◌, ◌<◌, ◌≤◌, List, length, Some, Ok, Err, Result, ◌≢◌, slice_index}
use Rattle.cells.specs.declared.fault.DeviceFault.{DeviceFault}
use Rattle.images.specs.declared.format.Format.{Format}
use Rattle.images.specs.declared.format.Format.TheVariants.{Flash}
use Rattle.images.specs.declared.layout.Layout.{Layout}
use Rattle.cells.specs.Rows.{Refused, Served}
use Rattle.cells.specs.Faults.{device_number}
use Rattle.cells.specs.Device.{cell_rows, Names}
use Rattle.cells.specs.Steps.{Step}
use Rattle.cells.specs.Steps.Step.{Mark, Erase, MarkRefused, EraseRefused}
use Rattle.images.specs.Image.{SetsBit, page_bytes, page_at, size, count_of, part_cells}

-- Bit k of the byte `at` is made to read as set; every other bit and byte is as it was.
pub record BitMarked (f : Format) (at k : ℕ) (xs ys : List ℕ) : Type 0 where
  pub length : length ys ≡ length xs
  pub bit : SetsBit f k (slice_index xs at) (slice_index ys at)
  pub others : (j : ℕ) → (j ≢ at) → slice_index ys j ≡ slice_index xs j

-- In a flash image of P pages of c cells, the bytes of page p are all ones and its wear count is one more; every other
-- byte is as it was.
pub record PageErased (P c p : ℕ) (xs ys : List ℕ) : Type 0 where
  pub length : length ys ≡ length xs
  pub page : (j : ℕ) → j < page_bytes c → slice_index ys (page_at Flash P c p + j) ≡ 255
  pub count : count_of ys p ≡ count_of xs p + 1
  pub others :
      (j : ℕ) → ((page_at Flash P c p ≤ j) × (j < page_at Flash P c p + page_bytes c) → ⊥) →
      ((1 + 4 * p ≤ j) × (j < 5 + 4 * p) → ⊥) → slice_index ys j ≡ slice_index xs j

-- What a step on a part does to its bytes. A mark makes one bit read as set, and an erase, which flash parts alone
-- have, writes its page and the wear count of it. A step that the part refuses leaves every byte as it was.
abbrev pub StepsBytes : Format → Layout → Step → List ℕ → List ℕ → Type 0
StepsBytes f l (Mark p i) xs ys = BitMarked f (page_at f l.pages l.width p + i / 8) (i % 8) xs ys
StepsBytes f l (Erase p) xs ys = (f ≡ Flash) × PageErased l.pages l.width p xs ys
StepsBytes f l (MarkRefused p i) xs ys = ys ≡ xs
StepsBytes f l (EraseRefused p) xs ys = ys ≡ xs

-- The byte that holds cell i of page p, which lies within the image, or why there is no such cell.
abbrev pub Finds : Format → Layout → List ℕ → ℕ → ℕ → Result ℕ DeviceFault → Type 0
Finds f l xs p i (Ok at) =
    Served (cell_rows (part_cells f l xs) p i) × (at ≡ page_at f l.pages l.width p + i / 8)
    × (size f l.pages l.width ≤ length xs) × (at < length xs)
Finds f l xs p i (Err e) = Refused (cell_rows (part_cells f l xs) p i) (device_number e) × Names e p (Some i)
