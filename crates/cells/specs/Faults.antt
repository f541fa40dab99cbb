-- The numbers of the refusals of cell arrays, by cases of the fault. Assumes nothing.
use Rattle.std.specs.Prelude.{ℕ}
use Rattle.cells.specs.declared.fault.DeviceFault.{DeviceFault}
use Rattle.cells.specs.declared.fault.DeviceFault.TheVariants.{NoPage, NoCell, Worn}

abbrev pub device_number : DeviceFault → ℕ
device_number (NoPage p i) = 20
device_number (NoCell p i) = 21
device_number (Worn p) = 22
