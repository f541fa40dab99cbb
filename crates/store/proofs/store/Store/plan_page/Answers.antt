use Rattle.std.proofs.Common.{◌≡◌, ◌/◌, ◌%◌, not, sym, refl, ap, ◌∙◌, subst, arith}
use Rattle.std.proofs.lemmas.Bool.{cond-true, cond-false, eq-eqb, ne_eqb}
use Rattle.coset.specs.Code.{code, every, Plan}
use Rattle.coset.specs.CellSets.{members_of}
use Rattle.coset.proofs.OnePlan.{plan_move}
use Rattle.calls.proofs.Geometry.{there}
use Rattle.store.specs.Parts.{target, PlansOfPage}
use Rattle.store.proofs.Paging.{page_more, page_fits, rows_within}
use Rattle.store.proofs.Renewing.{records_to_page}
use Rattle.store.proofs.Located.{located_is}
use Rattle.store.proofs.store.Store.plan_page.Goals as goal
use Rattle.store.proofs.store.Store.plan_page.Goals.{then-r-record, else-r-record+in_ok-target}

pub value_at-requires : goal.value_at-requires
value_at-requires g c =
    let co = code (g.G.Group.meaning c.args.self.now.code.group) c.args.self.now.code.cells in
    let m = g.A.CellArray.cells c.args.self.now.array in
    let t = there co m c.args.«record» c.requires in
    let few = t.few in
    let shared = c.per_page-records.ensures ∙ records_to_page co m c.args.«record» c.requires in
    record {
      page = rw shared t.page;
      cells = rows_within c.args.self.now.code.cells c.loop-r.r c.per_page-records.result m.width c.loop-r-test.true (page_fits c.args.self.now.code.cells m.width c.per_page-records.result (omega (arith, shared)));
      few = omega arith;
    }

pub loop-r-preserved : goal.loop-r-preserved
loop-r-preserved g c =
    let co = code (g.G.Group.meaning c.args.self.now.code.group) c.args.self.now.code.cells in
    let m = g.A.CellArray.cells c.args.self.now.array in
    let t = there co m c.args.«record» c.requires in
    let few = t.few in
    let shared = c.per_page-records.ensures ∙ records_to_page co m c.args.«record» c.requires in
    let page = c.args.«record» / c.per_page-records.result in
    let named = c.args.«record» % c.per_page-records.result in
    let plan = c.in-Some.plan in
    let lt = c.loop-r-test.true in
    let is : c.if-r-record.target ≡ target co m page named c.args.value c.loop-r.r =
    elim c.if-r-record.branch [
      | then-r-record w ↦ w.target-is ∙ sym (cond-true _ _ _ (eq-eqb c.loop-r.r named w.if-r-record.true))
      | else-r-record+in_ok-target w ↦ w.target-is
          ∙ located_is c.args.«record» w.value_at.result w.in_ok-target.target _ (sym w.located_at.ensures ∙ w.in_ok-target.was) w.value_at.ensures ∙ sym (cond-false _ _ _ (ne_eqb c.loop-r.r named w.if-r-record.false))
    ] in
    rw c.push.ensures.items
    (page_more co m page named c.args.value c.loop-r.r c.loop-r.plans.items plan c.loop-r.invariant
    (subst (λ d. Plan co every d (members_of plan)) is
    (plan_move co (members_of c.complement-all.result) every c.if-r-record.target c.if-r-record.target (members_of plan)
    (λ i h. c.complement-all.ensures i (omega arith) ∙ ap not (c.empty.ensures i)) refl c.in-Some.ensures.0)))

pub returns : goal.returns
returns g c =
    let co = code (g.G.Group.meaning c.args.self.now.code.group) c.args.self.now.code.cells in
    let m = g.A.CellArray.cells c.args.self.now.array in
    let all : c.loop-r.r ≡ c.per_page-records.result = omega arith in
    let shared = c.per_page-records.ensures ∙ records_to_page co m c.args.«record» c.requires in
    subst (λ k. PlansOfPage co m (c.args.«record» / k) (c.args.«record» % k) c.args.value k c.loop-r.plans.items) shared
    (subst (λ r. PlansOfPage co m (c.args.«record» / c.per_page-records.result) (c.args.«record» % c.per_page-records.result) c.args.value r c.loop-r.plans.items) all c.loop-r.invariant)
