-- The faults of a script: of the script as a whole, of a line, and of its head, with their columns. Assumes nothing.
use Rattle.std.specs.Prelude.{ℕ}
use Rattle.images.specs.declared.fault.ImageFault.{ImageFault}
use Rattle.images.specs.declared.fault.ImageFault.TheVariants.{Short, Pages, Width, Trailing, Stray, Wear}
use Rattle.store.specs.declared.making.MakingFault.{MakingFault}
use Rattle.store.specs.declared.making.MakingFault.TheVariants.{Unusable, Cells, Narrow}
use Rattle.commands.specs.declared.fault.LineFault.{LineFault}
use Rattle.commands.specs.declared.fault.Refusal.{Refusal}
use Rattle.commands.specs.declared.head.Head.{Head}
use Rattle.commands.specs.declared.group_word.GroupWord.{GroupWord}
use Rattle.commands.specs.declared.word.Number.{Number}
use Rattle.script.specs.declared.fault.Cause.TheVariants.{Line, Image, Making}
use Rattle.script.specs.declared.fault.ScriptFault.{ScriptFault}

-- the column of a refused count: that of its word, and 1 for the faults that no heading has
abbrev pub image_column : Head GroupWord Number → ImageFault → ℕ
image_column h Short = 1
image_column h Pages = h.pages.column
image_column h Width = h.width.column
image_column h Trailing = 1
image_column h Stray = 1
image_column h Wear = 1

-- the column of a refused making: that of the group, or of the cells to a record
abbrev pub making_column : Head GroupWord Number → MakingFault → ℕ
making_column h Unusable = 3
making_column h Cells = h.n.column
making_column h Narrow = h.n.column

-- a refusal of the script as a whole, and of line k by its own table
abbrev pub at_the_start : LineFault → ScriptFault
at_the_start f = record { cause = Line f; line = 1; column = 1 }

abbrev pub line_refused : ℕ → Refusal → ScriptFault
line_refused k e = record { cause = Line e.fault; line = k; column = e.column }

-- the fault of a heading at line k for its counts, and for its making
abbrev pub image_refused : ℕ → Head GroupWord Number → ImageFault → ScriptFault
image_refused k h f = record { cause = Image f; line = k; column = image_column h f }

abbrev pub making_refused : ℕ → Head GroupWord Number → MakingFault → ScriptFault
making_refused k h f = record { cause = Making f; line = k; column = making_column h f }
