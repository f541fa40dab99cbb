use Rattle.std.proofs.Common.{rules, ◌≡◌, arith}
use Rattle.std.proofs.lemmas.Bool.{both_ways}
use Rattle.coset.specs.CellSets.{members_of}
use Rattle.coset.specs.Plans.{fewest_at}
use Rattle.coset.proofs.Beyond.{plan_nothing, no_element, more_unreachable, more_plan}
use Rattle.coset.proofs.Entries.{entry_unreachable}
use Rattle.coset.proofs.Flags.{none_beyond}
use Rattle.coset.proofs.code.Code.plan.Goals as goal

pub returns-then-step-eq0 : goal.returns-then-step-eq0
returns-then-step-eq0 g c =
    rw c.if-step-eq0.true (plan_nothing _ _ _ c.empty.ensures, (λ i member. absurd (both_ways (members_of c.empty.result i) (c.empty.ensures i) member)))

pub returns-then-not-has : goal.returns-then-not-has
returns-then-not-has g c =
    let laws = g.met.G.Group.lawful c.args.self.now.group in
    no_element _ laws c.args.self.now.cells _ c.args.step c.if-step-eq0.false (search rules)

pub returns-then-get : goal.returns-then-get
returns-then-get g c =
    let laws = g.met.G.Group.lawful c.args.self.now.group in
    let full : fewest_at c.fill.new.table 0 c.args.step ≡ 255 = omega arith in
    more_unreachable _ c.min.result c.args.self.now.cells (omega arith) _ (λ j l h. none_beyond c.args.free.now j (omega arith)) c.args.step
    (entry_unreachable _ laws (search rules) c.min.result _ c.fill.new.table c.fill.ensures (omega arith) c.args.step full)

pub returns : goal.returns
returns g c = (
  more_plan _ c.min.result c.args.self.now.cells (omega arith) _ (λ j l h. none_beyond c.args.free.now j (omega arith)) c.args.step
      _ (λ j l h. none_beyond c.walk.result j (omega arith)) c.walk.ensures.plan,
  (λ i member. let early = c.walk.ensures.within i member in omega arith),
)
