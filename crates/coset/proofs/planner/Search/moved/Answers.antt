use Rattle.std.proofs.Common.{◌≡◌, ℕ, ◌<◌, List, length, set, get_or, below_more, ap, ◌∙◌, arith}
use Rattle.std.proofs.lemmas.List.{get_or-set_same, get_or-set_other, length-set}
use Rattle.group.specs.Group.{Group, step}
use Rattle.coset.specs.Code.{label_of}
use Rattle.coset.proofs.planner.Search.moved.Goals as goal

pub loop-s-preserved : goal.loop-s-preserved
loop-s-preserved g c = (
  length-set moved s entry ∙ c.loop-s.invariant.0,
  below_more (λ t. get_or (set moved s entry) t 0 ≡ next (step group label t)) s
      (λ t h. get_or-set_other moved s t entry 0 (λ e. omega arith) ∙ c.loop-s.invariant.1 t h)
      (get_or-set_same moved s entry 0 room ∙ ap next rest),
)
  where
    group : Group
    group = g.G.Group.meaning c.args.self.now.code.now.group

    label : ℕ
    label = label_of group c.args.cell

    next : ℕ → ℕ
    next r = get_or c.args.next.now r 0

    moved : List ℕ
    moved = c.loop-s.moved

    s : ℕ
    s = c.loop-s.s

    entry : ℕ
    entry = next c.sum-rest.result

    room : s < length moved
    room =
        let most = (g.met.G.Group.lawful c.args.self.now.code.now.group).most in
        let usable = c.args.self.now.usable in
        let long = c.loop-s.invariant.0 in
        omega arith

    rest : c.sum-rest.result ≡ step group label s
    rest = c.sum-rest.ensures ∙ ap (group.sum s) (c.opposite-opposite.ensures ∙ ap group.opposite c.label.ensures)
