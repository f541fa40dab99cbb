use Rattle.std.proofs.Common.{◌≡◌, ◌-◌, arith, rules, tests}
use Rattle.group.specs.Group.{most_halves, figure}
use Rattle.data_sheet.proofs.Counts.{most_halves_le}
use Rattle.data_sheet.proofs.figures.Figures.of.Goals as goal

pub overflow_sub-result : goal.overflow_sub-result
overflow_sub-result g c =
    let group = g.G.Group.meaning c.args.group.now in
    omega (arith, c.order-order.ensures, c.most_halves-most_halves.ensures, most_halves_le group (group.order - 1))

pub returns : goal.returns
unfolding figure
returns g c =
    let group = g.G.Group.meaning c.args.group.now in
    let order : c.order-order.result ≡ group.order = c.order-order.ensures in
    let most : c.most_halves-most_halves.result ≡ most_halves group (group.order - 1) = c.most_halves-most_halves.ensures in (
      search (rules, tests),
      record {
        order = order;
        most_halves = most;
        changes = cc;
        enough = omega arith;
        fewest = λ n long. omega arith;
      },
    )
