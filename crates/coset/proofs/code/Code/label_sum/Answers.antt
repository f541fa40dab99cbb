use Rattle.std.proofs.Common.{◌≡◌, ◌+◌, arith, sym, ap, ◌∙◌}
use Rattle.coset.specs.CellSets.{members_of}
use Rattle.coset.specs.Code.{code, sum_below}
use Rattle.coset.proofs.Beyond.{sum_beyond, sum_empty}
use Rattle.coset.proofs.Sums.{sum_next}
use Rattle.coset.proofs.code.Code.label_sum.Goals as goal

pub loop-cell-init : goal.loop-cell-init
loop-cell-init g c =
    let first = c.first_in-cell.ensures in
    (sym (sum_empty _ (members_of c.args.set.now) c.first_in-cell.result first.before), first.high, first.hit)

pub loop-cell-preserved : goal.loop-cell-preserved
loop-cell-preserved g c =
    let co = code (g.G.Group.meaning c.args.self.now.group) c.args.self.now.cells in
    let s = members_of c.args.set.now in
    let cell = c.loop-cell.cell in
    let next = c.first_in-cell-in-loop-cell.ensures in
    let inv = c.loop-cell.invariant in (
      c.sum-sum.ensures ∙ ap (co.group.sum c.loop-cell.sum) c.label.ensures ∙ ap (λ sum. co.group.sum sum (co.label cell)) inv.0
          ∙ sym (sum_beyond co s (cell + 1) c.first_in-cell-in-loop-cell.result next.low next.before ∙ sum_next co s cell (inv.2 c.loop-cell-test.true)),
      next.high,
      next.hit,
    )

pub returns : goal.returns
returns g c =
    let co = code (g.G.Group.meaning c.args.self.now.group) c.args.self.now.cells in
    let inv = c.loop-cell.invariant in
    let all : c.loop-cell.cell ≡ c.args.self.now.cells = let inside = inv.1 in omega arith in
    inv.0 ∙ ap (sum_below co (members_of c.args.set.now)) all
