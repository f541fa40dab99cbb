use Rattle.std.proofs.Common.{◌≡◌, ℕ, ◌+◌, ◌-◌, ◌<◌, Bool, min, get_or, sym, ap, ◌∙◌, ap₂, arith}
use Rattle.group.specs.Group.{In, step}
use Rattle.coset.specs.CellSets.{members_of}
use Rattle.coset.specs.Plans.{fewest_at, entry_from_next}
use Rattle.coset.specs.Code.{label_of}
use Rattle.coset.proofs.Groups.{step_in}
use Rattle.coset.proofs.Sums.{label_in}
use Rattle.coset.proofs.Rows.{none_reached, row_put, filled_more}
use Rattle.coset.proofs.planner.Search.fill.Goals as goal
use Rattle.coset.proofs.planner.Search.fill.Goals.{then-contains, else-contains}

pub loop-cell-init : goal.loop-cell-init
loop-cell-init g c =
    let most = (g.met.G.Group.lawful c.args.self.now.code.now.group).most in
    let usable = c.args.self.now.usable in
    record {
      last = λ s h. c.put_row.ensures.placed s (omega arith) ∙ none_reached s (omega arith);
      entries = λ i s from below h. absurd (omega arith);
    }

pub loop-cell-preserved : goal.loop-cell-preserved
loop-cell-preserved g c =
    let group = g.G.Group.meaning c.args.self.now.code.now.group in
    let laws = g.met.G.Group.lawful c.args.self.now.code.now.group in
    let most = laws.most in
    let self = c.args.self.now in
    let usable = self.usable in
    let free = members_of self.free.now in
    let before = c.loop-cell.table in
    let i = c.loop-cell.cell - 1 in
    let same : c.loop-cell.cell ≡ i + 1 = omega arith in
    let small : (s : ℕ) → In group s → s < 64 = λ s h. omega arith in
    let next : (s : ℕ) → In group s → get_or c.row-next.result.now s 0 ≡ fewest_at before (i + 1) s = λ s h. c.row-next.ensures s (small s h) in
    let label = label_of group i in
    let by : Bool → ℕ → ℕ = λ b s. entry_from_next group label b (fewest_at before (i + 1)) s in
    let entries : (s : ℕ) → In group s → get_or c.if-contains.row s 0 ≡ by (free i) s =
    elim c.if-contains.branch [
      | then-contains w ↦ λ s h.
          ap (λ r. get_or r s 0) w.row-is
          ∙ w.best-row.ensures s (small s h)
          ∙ ap₂ (λ out taken. min out (min (taken + 1) 255)) (next s h)
          (w.moved.ensures s h ∙ next (step group label s) (step_in group laws usable label s (label_in group laws self.cells i) h))
          ∙ ap (λ b. by b s) (sym w.if-contains.true ∙ c.contains.ensures)
      | else-contains w ↦ λ s h.
          ap (λ r. get_or r s 0) w.row-is ∙ next s h ∙ ap (λ b. by b s) (sym w.if-contains.false ∙ c.contains.ensures)
    ] in
    filled_more group laws usable self.cells free before _ i (omega arith) (rw same at c.loop-cell.invariant)
    (row_put group free i before _ c.if-contains.row (omega arith) c.put_row-in-loop-cell.ensures entries)
