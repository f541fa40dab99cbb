use Rattle.cells.proofs.BenchPart.{bench_fresh}
use Rattle.cells.proofs.bench.Bench.new.Goals as goal

pub returns : goal.returns
returns c = bench_fresh c.unset.result c.unset.ensures.set c.unset.ensures.worn
