use Rattle.std.proofs.Common.{◌∙◌, arith, rules, tests}
use Rattle.std.proofs.lemmas.Iterator.{YieldsList-from_range}
use Rattle.std.proofs.lemmas.Iterator.Consumers.{count_from_yields_List, YieldsList-from_filter}
use Rattle.data_sheet.proofs.Counts.{doubles, halves_counted}
use Rattle.data_sheet.proofs.figures.halves.Goals as goal

pub returns : goal.returns
returns g c =
    let group = g.G.Group.meaning c.args.group.now in
    let d = c.args.d in
    count_from_yields_List c.filter.result c.count.result c.count.ensures.ran
    (YieldsList-from_filter _ (doubles group d) (YieldsList-from_range 0 c.order.result group.order c.filter.ensures.source (omega (arith, c.order.ensures)))
    c.filter.ensures.closure (λ x b q k. search (rules, tests)))
    ∙ halves_counted group d group.order
