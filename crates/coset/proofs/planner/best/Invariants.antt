use Rattle.std.proofs.Common.{◌≡◌, ℕ, ◌+◌, ◌<◌, min, length, get_or}
use Rattle.coset.proofs.planner.best.Given as goal

abbrev pub invariant-loop-s : goal.invariant-loop-s
invariant-loop-s l =
    (length l.best ≡ 64)
    × ((t : ℕ) → t < l.s → get_or l.best t 0 ≡ min (get_or l.left_out t 0) (min (get_or l.taken t 0 + 1) 255))
