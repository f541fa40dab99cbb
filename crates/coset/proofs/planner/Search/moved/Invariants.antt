use Rattle.std.proofs.Common.{◌≡◌, ℕ, ◌<◌, length, get_or}
use Rattle.group.specs.Group.{step}
use Rattle.coset.specs.Code.{label_of}
use Rattle.coset.proofs.planner.Search.moved.Given as goal

abbrev pub invariant-loop-s : goal.invariant-loop-s
invariant-loop-s g l =
    (length l.moved ≡ 64)
    × ((t : ℕ) → t < l.s → get_or l.moved t 0 ≡ get_or l.next (step (g.G.Group.meaning l.self.code.now.group) (label_of (g.G.Group.meaning l.self.code.now.group) l.cell) t) 0)
