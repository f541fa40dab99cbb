use Rattle.std.proofs.Common.{◌≡◌, map, take}
use Rattle.std.specs.List.{range_with_len}
use Rattle.listing.specs.Listing.{page_report}
use Rattle.listing.proofs.listing.report_pages.Given as goal

abbrev pub invariant-loop-page : goal.invariant-loop-page
invariant-loop-page g l =
    take l.page l.reports ≡ map (page_report (g.A.CellArray.cells l.array)) (range_with_len 0 l.page)
