use Rattle.cells.specs.Rows.{Served}
use Rattle.images.specs.Check.{wear_counts_below}
use Rattle.images.proofs.check.check_counts.Given as goal

abbrev pub invariant-loop-page : goal.invariant-loop-page
invariant-loop-page l = Served (wear_counts_below l.image l.page)
