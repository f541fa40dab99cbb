use Rattle.std.proofs.Common.{◌≡◌, [], ◌++◌, refl, rules}
use Rattle.std.proofs.lemmas.Result.{err_from_is_err_and}
use Rattle.script.specs.Writing.{WritesBeginning}
use Rattle.script.proofs.Handing.{collects_all, fails_first, collects_second}
use Rattle.script.proofs.printer.Printer.collect.Goals as goal

pub returns-in_err-write_out : goal.returns-in_err-write_out
returns-in_err-write_out g c =
    let t = g.W.Write.contents in
    let items : c.as_slice.result.now ≡ c.args.self.now.pending.items = search rules in
    let first : WritesBeginning (t c.args.self.now.writer) (t c.write_out.new.writer) c.args.self.now.pending.items c.write_out.result = rw (← items) c.write_out.ensures in
    let p = err_from_is_err_and c.from_residual.result c.from_residual.ensures.1 in
    rw p.1 (fails_first t c.args.self.now _ c.args.text.now refl c.write_out.result _ first)

pub returns-in_err-write_out-2 : goal.returns-in_err-write_out-2
returns-in_err-write_out-2 g c =
    let t = g.W.Write.contents in
    let items : c.as_slice.result.now ≡ c.args.self.now.pending.items = search rules in
    let first : WritesBeginning (t c.args.self.now.writer) (t c.write_out.new.writer) c.args.self.now.pending.items c.write_out.result = rw (← items) c.write_out.ensures in
    let all : first.unwritten ≡ [] = search rules in
    let empty : c.clear.new.self.items ≡ [] = search rules in
    let p = err_from_is_err_and c.from_residual-in_err-write_out-2.result c.from_residual-in_err-write_out-2.ensures.1 in
    rw (p.1, p.2, ← c.in_err-write_out-2.was)
    (collects_second t c.args.self.now _ c.args.text.now refl c.write_out.new.writer c.write_out.result c.write_out-then-is_err.result first all
    c.write_out-then-is_err.ensures empty)

pub returns-in_ok-write_out-2 : goal.returns-in_ok-write_out-2
returns-in_ok-write_out-2 g c =
    let t = g.W.Write.contents in
    let items : c.as_slice.result.now ≡ c.args.self.now.pending.items = search rules in
    let first : WritesBeginning (t c.args.self.now.writer) (t c.write_out.new.writer) c.args.self.now.pending.items c.write_out.result = rw (← items) c.write_out.ensures in
    let all : first.unwritten ≡ [] = search rules in
    let empty : c.clear.new.self.items ≡ [] = search rules in
    rw (← c.in_ok-write_out-2.was)
    (collects_second t c.args.self.now _ c.args.text.now refl c.write_out.new.writer c.write_out.result c.write_out-then-is_err.result first all
    c.write_out-then-is_err.ensures empty)

pub returns-else-is_err : goal.returns-else-is_err
returns-else-is_err g c =
    let appended : c.try_extend_from_slice.new.self.items ≡ c.args.self.now.pending.items ++ c.args.text.now = search rules in
    collects_all g.W.Write.contents c.args.self.now _ c.args.text.now refl tt refl appended
