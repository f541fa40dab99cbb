use Rattle.std.proofs.Common.{◌≡◌, ℕ, length, get_or, Ok, Result, sym, refl, ◌∙◌, arith}
use Rattle.std.proofs.lemmas.List.{get_or_default}
use Rattle.cells.specs.declared.fault.DeviceFault.{DeviceFault}
use Rattle.cells.specs.Sets.{size_below}
use Rattle.cells.proofs.Sizes.{size_le}
use Rattle.coset.specs.CellSets.{members_of}
use Rattle.coset.specs.declared.cellset.CellSet.{CellSet}
use Rattle.store.proofs.Taking.{page_takes_none, page_takes_more}
use Rattle.store.proofs.Paging.{sizes_few, next_within, page_none, page_step}
use Rattle.store.proofs.page.write_page.Goals as goal

pub loop-r-init : goal.loop-r-init
loop-r-init g c = record {
  kept = (refl, (λ whole. whole));
  takes = page_takes_none g.A.CellArray c.args.n c.args.page (g.A.CellArray.cells c.args.array.now) c.args.array.now;
  written = page_none c.args.n c.args.page c.args.plans.now (g.A.CellArray.cells c.args.array.now) c.requires.unset;
}

-- the count that was answered
answered : (k n : ℕ) → ◌≡◌ {A = Result ℕ DeviceFault} (Ok k) (Ok n) → k ≡ n
answered k n e = cc

pub overflow_add-marked : goal.overflow_add-marked
overflow_add-marked g c =
    let plans = c.args.plans.now in
    let d : CellSet = record { bits = 0; few = omega arith } in
    let so_far = c.loop-r.invariant.written.counted d in
    let earlier = sizes_few c.args.n (λ r. members_of (get_or plans r d)) c.loop-r.r c.requires.few in
    let this = answered c.in_ok-marked.field-0 (size_below (members_of c.index-plans-r.result) c.args.n) c.in_ok-marked.ensures.count in
    let one = size_le (members_of c.index-plans-r.result) c.args.n in
    let few = c.requires.few in
    let shared = c.requires.shared in
    omega arith

pub loop-r-preserved : goal.loop-r-preserved
loop-r-preserved g c =
    let plans = c.args.plans.now in
    let inv = c.loop-r.invariant in
    let wrote = c.in_ok-marked.ensures in
    let s = members_of c.index-plans-r.result in
    let m = g.A.CellArray.cells c.args.array.now in
    let m' = g.A.CellArray.cells c.loop-r.array in
    let m'' = g.A.CellArray.cells c.write.new.array in
    let fits = next_within c.args.n c.loop-r.r (length plans) m.width c.loop-r-test.true c.requires.fits in record {
      kept = (wrote.kept.0 ∙ inv.kept.0, (λ whole. wrote.kept.1 (inv.kept.1 whole)));
      takes =
          page_takes_more g.A.CellArray c.args.n c.args.page c.loop-r.r plans c.loop-r.marked m m' m'' s c.args.array.now c.loop-r.array c.write.new.array
          fits c.requires.page inv.written wrote.sets inv.takes wrote.takes;
      written =
          page_step c.args.n c.args.page plans m c.loop-r.r c.loop-r.marked c.in_ok-marked.field-0 _ m' m'' (omega arith)
          (λ e. get_or_default plans c.loop-r.r e c.index-plans-r.result (omega arith) ∙ sym c.index-plans-r.is)
          fits c.requires.page inv.written wrote.sets (answered c.in_ok-marked.field-0 (size_below s c.args.n) wrote.count);
    }
