-- A fresh flash image: no cell is set, and no page was ever erased. Assumes nothing.
use Rattle.std.specs.Prelude.{◌≡◌, ℕ, false, List, ◌++◌, take, drop, Ok, Err, Result}
use Rattle.images.specs.declared.fault.ImageFault.{ImageFault}
use Rattle.images.specs.declared.format.Format.TheVariants.{Flash}
use Rattle.cells.specs.Cells.{Cells, Alike}
use Rattle.cells.specs.Rows.{Row, Refused, Served}
use Rattle.images.specs.Faults.{image_number}
use Rattle.images.specs.Image.{limit_of, size, decoded}
use Rattle.images.specs.Check.{page_bound_rows, width_bound_rows, image_rows}
use Rattle.images.specs.Written.{written}

-- P pages of c cells, none of them set, and no wear
abbrev pub blank : ℕ → ℕ → Cells
blank P c = record { pages = P; width = c; set = λ p i. false; wear = λ p. 0; limit = limit_of Flash }

-- the checks of the two counts, by the rows that they have in an image
abbrev pub fresh_rows : ℕ → ℕ → List Row
fresh_rows P c = page_bound_rows P ++ width_bound_rows c

-- xs is the fresh flash image of P pages of c cells: it is so written, the check accepts it, and it means that
pub record FreshImage (P c : ℕ) (xs : List ℕ) : Type 0 where
  pub bytes : xs ≡ written Flash (blank P c)
  pub accepted : Served (image_rows Flash xs)
  pub means : Alike (blank P c) (decoded Flash xs)

-- The first n of some bytes have become the image of P pages of c cells with none set and no wear; the bytes after it
-- are as they were.
pub record WritesBlank (P c : ℕ) (before after : List ℕ) (n : ℕ) : Type 0 where
  pub size : n ≡ size Flash P c
  pub image : take n after ≡ written Flash (blank P c)
  pub others : drop n after ≡ drop n before

-- what the call that writes a fresh image into some bytes answers: how many of them it has
abbrev pub WritesFresh : ℕ → ℕ → List ℕ → List ℕ → Result ℕ ImageFault → Type 0
WritesFresh P c before after (Ok n) =
    Served (fresh_rows P c) × FreshImage P c (take n after) × WritesBlank P c before after n
WritesFresh P c before after (Err e) = Refused (fresh_rows P c) (image_number e) × (after ≡ before)
