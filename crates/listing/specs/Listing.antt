-- What a listing of an image says. Assumes nothing.
use Rattle.std.specs.Prelude.{◌≡◌, ℕ, List, ◌++◌, map, drop, Ok, Err, Result}
use Rattle.std.specs.List.{range_with_len}
use Rattle.images.specs.declared.fault.ImageFault.{ImageFault}
use Rattle.images.specs.declared.format.Format.TheVariants.{Flash}
use Rattle.images.specs.declared.layout.Layout.{Layout}
use Rattle.listing.specs.declared.report.PageReport.{PageReport}
use Rattle.cells.specs.Cells.{Cells}
use Rattle.cells.specs.Sets.{size_below}
use Rattle.cells.specs.Rows.{Refused, Served}
use Rattle.images.specs.Faults.{image_number}
use Rattle.images.specs.Image.{decoded}
use Rattle.images.specs.Check.{image_rows}

-- the wear of page p, and how many of its cells are set
abbrev pub page_report : Cells → ℕ → PageReport
page_report m p = record { wear = m.wear p; set = size_below (m.set p) m.width }

-- one for each page, in order
abbrev pub page_reports : Cells → List PageReport
page_reports m = map (page_report m) (range_with_len 0 m.pages)

-- The flash image xs is good and has the layout l. The first places hold the reports of its pages, and those after them
-- are as they were.
pub record Listed (xs : List ℕ) (before after : List PageReport) (l : Layout) : Type 0 where
  pub accepted : Served (image_rows Flash xs)
  pub pages : l.pages ≡ (decoded Flash xs).pages
  pub width : l.width ≡ (decoded Flash xs).width
  pub reports : after ≡ page_reports (decoded Flash xs) ++ drop l.pages before

-- The image is listed, or the first row that holds refuses it, and then every place is as it was.
abbrev pub Lists : List ℕ → List PageReport → List PageReport → Result Layout ImageFault → Type 0
Lists xs before after (Ok l) = Listed xs before after l
Lists xs before after (Err e) = Refused (image_rows Flash xs) (image_number e) × (after ≡ before)
