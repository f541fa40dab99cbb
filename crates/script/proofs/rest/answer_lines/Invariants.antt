use Rattle.coset.specs.Codes.{code_of}
use Rattle.calls.specs.Records.{records}
use Rattle.store.specs.Keeps.{Keeps, state}
use Rattle.script.specs.declared.reply.Reply.TheVariants.{Made}
use Rattle.script.specs.Lines.{lines_left}
use Rattle.script.specs.Printing.{Replied}
use Rattle.script.proofs.Progress.{Progress}
use Rattle.script.proofs.rest.answer_lines.Given as goal

abbrev pub invariant-loop-line : goal.invariant-loop-line
invariant-loop-line g l =
    let c = code_of g.G.Group l.initial.store.code in
    Keeps g.A.CellArray l.initial.store l.store
    × Replied g.O.Output l.fn.out l.out
    (Progress c (state g.A.CellArray l.initial.store) (lines_left l.initial.line-iterator) (lines_left l.line-iterator)
    (state g.A.CellArray l.store) (Made (records c (g.A.CellArray.cells l.initial.store.array))))
