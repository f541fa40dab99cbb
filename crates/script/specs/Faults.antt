-- The numbers of the refusals that a script prints, and the letters of their places, by cases. Assumes nothing.
use Rattle.std.specs.Prelude.{ℕ, List, codes}
use Rattle.calls.specs.declared.fault.StoreFault.{StoreFault}
use Rattle.calls.specs.declared.fault.StoreFault.TheVariants.{NoRecord, NoValue, Full, Fits, Unreached, Device}
use Rattle.calls.specs.Faults.{number}
use Rattle.images.specs.Faults.{image_number}
use Rattle.store.specs.Making.{making_number}
use Rattle.commands.specs.Faults.{line_number}
use Rattle.script.specs.declared.fault.Cause.{Cause}
use Rattle.script.specs.declared.fault.Cause.TheVariants.{Line, Image, Making, Store}

abbrev pub cause_number : Cause → ℕ
cause_number (Line f) = line_number f
cause_number (Image f) = image_number f
cause_number (Making f) = making_number f
cause_number (Store f) = number f

-- D where the store passes on a device's refusal, else S
abbrev pub store_letter : StoreFault → List ℕ
store_letter (NoRecord k) = codes "S"
store_letter (NoValue k) = codes "S"
store_letter (Full k) = codes "S"
store_letter (Fits k) = codes "S"
store_letter (Unreached k) = codes "S"
store_letter (Device k f) = codes "D"

-- T, I, M, or that of the store's fault
abbrev pub cause_letter : Cause → List ℕ
cause_letter (Line f) = codes "T"
cause_letter (Image f) = codes "I"
cause_letter (Making f) = codes "M"
cause_letter (Store f) = store_letter f
