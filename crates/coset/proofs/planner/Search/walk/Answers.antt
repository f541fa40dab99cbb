use Rattle.std.proofs.Common.{ℕ, ◌+◌, sym, ap, ◌∙◌, arith}
use Rattle.std.proofs.lemmas.Bool.{both_ways}
use Rattle.group.specs.Group.{Group, Lawful, Usable, step}
use Rattle.coset.specs.CellSets.{members_of}
use Rattle.coset.specs.Plans.{fewest_at}
use Rattle.coset.proofs.Walks.{walk_starts, walk_takes, walk_leaves, walk_ends, walk_stops}
use Rattle.coset.proofs.planner.Search.walk.Goals as goal
use Rattle.coset.proofs.planner.Search.walk.Goals.{then-contains+then-taken-get, then-contains+else-taken-get, else-contains}

pub loop-cell-init : goal.loop-cell-init
loop-cell-init g c =
    let laws = g.met.G.Group.lawful c.args.self.now.code.now.group in
    walk_starts _ laws c.args.self.now.usable c.args.self.now.cells _ c.args.table.now c.requires.filled c.args.step
    _ c.empty-chosen.ensures c.requires.element c.requires.reached

pub loop-cell-preserved : goal.loop-cell-preserved
loop-cell-preserved g c =
    elim c.if-contains.branch [
      | then-contains+then-taken-get w ↦
          let after = w.step-after.ensures ∙ ap (λ label. step group label c.loop-cell.rest) w.label.ensures in
          walk_takes group laws usable c.args.self.now.cells _ c.args.table.now c.requires.filled c.args.step
          cell c.loop-cell-test.true _ c.loop-cell.rest c.loop-cell.invariant
          _ (λ j. ap (λ s. members_of s j) w.chosen-is ∙ w.insert.ensures.taken (omega arith) j)
          _ (w.rest-is ∙ after) (sym c.contains.ensures ∙ w.if-contains.true)
          (omega (arith, ap next w.rest-is))
      | then-contains+else-taken-get w ↦
          let after = w.step-after.ensures ∙ ap (λ label. step group label c.loop-cell.rest) w.label.ensures in
          rw (w.chosen-is, w.rest-is)
          (walk_leaves group laws usable c.args.self.now.cells _ c.args.table.now c.requires.filled c.args.step
          cell c.loop-cell-test.true _ c.loop-cell.rest c.loop-cell.invariant
          (λ _ best. w.if-taken-get.false (omega (arith, ap next after))))
      | else-contains w ↦
          rw (w.chosen-is, w.rest-is)
          (walk_leaves group laws usable c.args.self.now.cells _ c.args.table.now c.requires.filled c.args.step
          cell c.loop-cell-test.true _ c.loop-cell.rest c.loop-cell.invariant
          (λ is_free _. both_ways _ w.if-contains.false (c.contains.ensures ∙ is_free)))
    ]
  where
    group : Group
    group = g.G.Group.meaning c.args.self.now.code.now.group

    laws : Lawful group
    laws = g.met.G.Group.lawful c.args.self.now.code.now.group

    usable : Usable group
    usable = c.args.self.now.usable

    cell : ℕ
    cell = c.loop-cell.cell

    next : ℕ → ℕ
    next = fewest_at c.args.table.now (cell + 1)

pub returns-after-loop-cell-clause-plan : goal.returns-after-loop-cell-clause-plan
returns-after-loop-cell-clause-plan g c =
    let laws = g.met.G.Group.lawful c.args.self.now.code.now.group in
    walk_ends _ laws c.args.self.now.usable c.args.self.now.cells _ c.args.table.now c.requires.filled c.args.step
    c.loop-cell.cell (omega arith) _ _ c.loop-cell.invariant

pub returns-then-rest-eq0-clause-plan : goal.returns-then-rest-eq0-clause-plan
returns-then-rest-eq0-clause-plan g c =
    let laws = g.met.G.Group.lawful c.args.self.now.code.now.group in
    walk_stops _ laws c.args.self.now.usable c.args.self.now.cells _ c.args.table.now c.requires.filled c.args.step
    c.loop-cell.cell c.loop-cell-test.true _ _ c.if-rest-eq0.true c.loop-cell.invariant
