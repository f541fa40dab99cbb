-- The bench part: two pages of 64 cells in memory of its own, which last three erases. Assumes nothing.
use Rattle.std.specs.Prelude.{ℕ, ◌+◌, min, true, false, List, [], replicate, slice_index_or, slice_set}
use Rattle.std.proofs.Common.{arith}
use Rattle.cells.specs.declared.bench.Page.{Page}
use Rattle.cells.specs.Cells.{Cells, Bounded}
use Rattle.cells.specs.Steps.{Step}
use Rattle.cells.specs.Steps.Step.{Mark, Erase, MarkRefused, EraseRefused}

-- page p, or where there is no such page one of no cells
abbrev pub bench_page : List Page → ℕ → Page
bench_page pages p = slice_index_or pages p (record { set = []; worn = 0 })

-- each page has a flag for each cell, and its wear, held to the limit
abbrev pub bench_cells : List Page → Cells
bench_cells pages =
    record {
      pages = 2;
      width = 64;
      set = λ p i. slice_index_or (bench_page pages p).set i false;
      wear = λ p. min 3 (bench_page pages p).worn;
      limit = 3;
    }

pub bench_bounded : (pages : List Page) → Bounded (bench_cells pages)
bench_bounded pages = record { pages = omega arith; width = omega arith; wear = λ p h. omega arith }

-- The memory after a step: one flag is raised, or a page is made anew with one erase more, or nothing is altered.
abbrev pub bench_after : List Page → Step → List Page
bench_after pages (Mark p i) =
    slice_set pages p (record (bench_page pages p) { set = slice_set (bench_page pages p).set i true })
bench_after pages (Erase p) =
    slice_set pages p (record { set = replicate 64 false; worn = (bench_page pages p).worn + 1 })
bench_after pages (MarkRefused p i) = pages
bench_after pages (EraseRefused p) = pages
