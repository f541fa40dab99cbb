-- The numbers of the refusals of a line and of a whole script, by cases. Assumes nothing.
use Rattle.std.specs.Prelude.{ℕ}
use Rattle.commands.specs.declared.fault.LineFault.{LineFault}
use Rattle.commands.specs.declared.fault.LineFault.TheVariants.{Command, Word, Count, Long, Size}

abbrev pub line_number : LineFault → ℕ
line_number Command = 50
line_number Word = 51
line_number Count = 52
line_number Long = 53
line_number Size = 54
