use Rattle.std.proofs.Common.{[], ◌∷◌, ◌+◌, sym, refl, ap, ◌∙◌, subst, arith}
use Rattle.cells.specs.Steps.Step.{Mark}
use Rattle.cells.specs.Chain.{TakesOne, Takes}
use Rattle.cells.proofs.Sizes.{size_none, size_with, size_without, size_le}
use Rattle.cells.proofs.Chains.{chain_both, chain_one}
use Rattle.coset.specs.CellSets.{members_of}
use Rattle.calls.specs.Steps.{marks_of}
use Rattle.calls.proofs.Marks.{marks_none, marks_with, marks_without}
use Rattle.store.specs.Parts.{SetsCells}
use Rattle.store.proofs.Setting.{first_of_set, sets_none, sets_with, sets_without}
use Rattle.store.proofs.record.write.Goals as goal
use Rattle.store.proofs.record.write.Goals.{then-contains+in_ok-mark, else-contains}

pub loop-cell-init : goal.loop-cell-init
loop-cell-init g c = record {
  kept = (refl, (λ whole. whole));
  takes = rw (marks_none _ _ _) refl;
  sets = sets_none _ _ _ _;
  counted = sym (size_none _);
}

pub overflow_add-count : goal.overflow_add-count
overflow_add-count g c =
    let few = size_le (members_of c.args.set.now) c.loop-cell.cell in
    let counted = c.loop-cell.invariant.counted in
    let inside = c.requires.few in
    omega arith

pub loop-cell-preserved : goal.loop-cell-preserved
loop-cell-preserved g c =
    let s = members_of c.args.set.now in
    let k = c.loop-cell.cell in
    let inv = c.loop-cell.invariant in
    let at = c.args.at in
    let array = g.A.CellArray in
    let first = c.args.array.now in
    let m = array.cells first in
    let m' = array.cells c.loop-cell.array in
    elim c.if-contains.branch [
      | then-contains+in_ok-mark w ↦
          let member = sym c.contains.ensures ∙ w.if-contains.true in
          let marked = w.in_ok-mark.ensures in
          let a = w.mark.new.self in record {
            kept = rw w.array-is (marked.kept.0 ∙ inv.kept.0, λ whole. marked.kept.1 (inv.kept.1 whole));
            takes =
                subst (λ b. Takes array (marks_of at.page at.first s (k + 1)) first b) (sym w.array-is)
                (subst (λ ss. Takes array ss first a) (sym (marks_with at.page at.first s k member))
                (chain_both (TakesOne array) (marks_of at.page at.first s k) (Mark at.page (at.first + k) ∷ []) first c.loop-cell.array a inv.takes
                (chain_one (TakesOne array) (Mark at.page (at.first + k)) c.loop-cell.array a (marked.marks, marked.step))));
            sets =
                subst (λ b. SetsCells c.args.n at (first_of_set s (k + 1)) m (array.cells b)) (sym w.array-is)
                (sets_with c.args.n at s k m m' _ c.requires c.loop-cell-test.true member inv.sets marked.marks.1);
            counted = w.count-is ∙ ap (λ n. n + 1) inv.counted ∙ sym (size_with s k member);
          }
      | else-contains w ↦
          let out = sym c.contains.ensures ∙ w.if-contains.false in record {
            kept = rw w.array-is inv.kept;
            takes =
                subst (λ b. Takes array (marks_of at.page at.first s (k + 1)) first b) (sym w.array-is)
                (subst (λ ss. Takes array ss first c.loop-cell.array) (sym (marks_without at.page at.first s k out)) inv.takes);
            sets =
                subst (λ b. SetsCells c.args.n at (first_of_set s (k + 1)) m (array.cells b)) (sym w.array-is)
                (sets_without c.args.n at s k m m' out inv.sets);
            counted = w.count-is ∙ inv.counted ∙ sym (size_without s k out);
          }
    ]
