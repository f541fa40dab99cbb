use Rattle.std.proofs.Common.{◌-◌, ap, ◌∙◌, arith, rules}
use Rattle.std.specs.Option.{unwrap_or}
use Rattle.std.specs.Ordering.{max_by_ordering, nat_cmp}
use Rattle.std.specs.List.{range_with_len}
use Rattle.std.proofs.lemmas.Iterator.{YieldsList-from_range, YieldsList-from_map}
use Rattle.std.proofs.lemmas.Iterator.Consumers.{reduce_from_yields_List}
use Rattle.std.proofs.lemmas.List.Folds.{max_of_map}
use Rattle.group.specs.Group.{halves}
use Rattle.data_sheet.proofs.Counts.{most_folded}
use Rattle.data_sheet.proofs.figures.most_halves.Goals as goal

pub returns : goal.returns
returns g c =
    let group = g.G.Group.meaning c.args.group.now in
    let n = group.order - 1 in
    let most =
    reduce_from_yields_List (λ p z. max_by_ordering (nat_cmp p z) p z) c.map.result c.max.result c.max.ensures.ran
    (YieldsList-from_map _ (λ d. halves group d group.order) (YieldsList-from_range 1 c.order.result n c.map.ensures.source (omega (arith, c.order.ensures)))
    c.map.ensures.closure (λ x r q k. search rules)) in
    c.unwrap_or.ensures ∙ ap (λ o. unwrap_or o 0) most ∙ max_of_map (λ d. halves group d group.order) (range_with_len 1 n)
    ∙ most_folded group n
