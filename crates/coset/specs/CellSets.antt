-- Sets of the cells of one record, as a CellSet holds them. Assumes nothing.
use Rattle.std.specs.Prelude.{◌==◌}
use Rattle.std.specs.Int.{bit_at}
use Rattle.cells.specs.Sets.{Cellset}
use Rattle.coset.specs.declared.cellset.CellSet.{CellSet}

-- the cells that a CellSet has: those whose bit is set, of which none is from 63 on
abbrev pub members_of : CellSet → Cellset
members_of s i = bit_at s.bits i == 1
