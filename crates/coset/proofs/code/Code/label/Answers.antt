use Rattle.std.proofs.Common.{◌≡◌, ◌+◌, ◌-◌, ◌%◌, mod-eq_of_lt, sym, ap, ◌∙◌}
use Rattle.coset.proofs.code.Code.label.Goals as goal
use Rattle.coset.proofs.code.Code.label.Goals.{then-cell-nonzero, else-cell-nonzero}

pub returns : goal.returns
returns g c =
    let is : c.if-cell-nonzero.turn ≡ c.args.cell % (c.order.result - 1) = elim c.if-cell-nonzero.branch [
      | then-cell-nonzero w ↦ w.turn-is ∙ sym (mod-eq_of_lt w.if-cell-nonzero.true)
      | else-cell-nonzero w ↦ w.turn-is
    ] in
    ap (λ turn. 1 + turn) is ∙ ap (λ order. 1 + c.args.cell % (order - 1)) c.order.ensures
