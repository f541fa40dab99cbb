use Rattle.std.proofs.Common.{◌≡◌, length, ap, zero-add, arith, rules, tests}
use Rattle.std.specs.List.{filter, range_with_len}
use Rattle.std.proofs.lemmas.Iterator.{YieldsList-from_range}
use Rattle.std.proofs.lemmas.Iterator.Consumers.{count_from_yields_List, YieldsList-from_filter}
use Rattle.cells.specs.Cells.{is_set}
use Rattle.cells.specs.Sets.{size_below}
use Rattle.cells.proofs.Looks.{set_there}
use Rattle.cells.proofs.Sizes.{size_none, size_counted}
use Rattle.listing.proofs.listing.count_set.Goals as goal

pub returns : goal.returns
returns g c =
    let m = g.A.CellArray.cells c.args.array.now in
    let page = c.args.page in
    let wide : c.width.result ≡ m.width = c.width.ensures in
    let counted : c.count.result ≡ length (filter (is_set m page) (range_with_len 0 m.width)) =
    count_from_yields_List c.filter.result c.count.result c.count.ensures.ran
    (YieldsList-from_filter _ (is_set m page) (YieldsList-from_range 0 c.width.result m.width c.filter.ensures.source (omega arith))
    c.filter.ensures.closure (λ x b q k. search (rules, tests))) in
    let none = size_none (m.set page) in
    let all = size_counted (m.set page) (is_set m page) 0 m.width (λ i lo hi. set_there m page i c.requires (omega arith)) in
    let end = ap (λ n. size_below (m.set page) n) (zero-add m.width) in
    omega arith
