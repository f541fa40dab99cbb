use Rattle.std.proofs.Common.{ℕ, List, ◌∙◌, subst}
use Rattle.std.specs.Prelude.{codes, decimal}
use Rattle.script.specs.Faults.{cause_number, cause_letter}
use Rattle.script.proofs.fault.ScriptFault.print.Goals as goal

pub returns : goal.returns
returns g c =
    let join = g.O.Output.joins in
    let takes = g.O.Output.takes in
    let f = c.args.self.now in
    let end = c.number-4.new.out in
    let five = join c.number-3.new.out c.text-4.new.self end (codes " ") (decimal f.column) c.text-4.ensures c.number-4.ensures in
    let four = join c.text-3.new.self c.number-3.new.out end (decimal f.line) _ c.number-3.ensures five in
    let three = join c.text-2.new.self c.text-3.new.self end (codes " ") _ c.text-3.ensures four in
    let letter = subst (λ (x : List ℕ). takes c.text.new.self x c.text-2.new.self) (c.as_bytes.ensures.value ∙ c.letter.ensures) c.text-2.ensures in
    let two = join c.text.new.self c.text-2.new.self end (cause_letter f.cause) _ letter three in
    let one = join c.number-2.new.out c.text.new.self end (codes " ") _ c.text.ensures two in
    let number = subst (λ (x : ℕ). takes c.args.out.now (decimal x) c.number-2.new.out) c.number.ensures c.number-2.ensures in
    join c.args.out.now c.number-2.new.out end (decimal (cause_number f.cause)) _ number one
