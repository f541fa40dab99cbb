use Rattle.std.proofs.Common.{◌≡◌, length, arith, rules}
use Rattle.cells.proofs.BenchPart.{bench_erased}
use Rattle.cells.proofs.bench.BenchErasable.erase.Goals as goal

pub returns-clause-erases : goal.returns-clause-erases
returns-clause-erases c =
    let pages = c.args.self.now.pages in
    let two : length c.args.self.now.pages ≡ 2 = search rules in
    let asked = c.in_ok-worn.ensures in (
      search rules,
      bench_erased c.unset.result c.unset.ensures.set pages c.args.page c.in_ok-worn.worn (omega (arith, asked.0.0)) two asked.1
          (omega (arith, asked.0.1)) c.unset.ensures.worn,
    )
