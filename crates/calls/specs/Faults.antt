-- The numbers of the refusals of a store, by cases of the fault, and the place that a fault gains.
-- Assumes nothing.
use Rattle.std.specs.Prelude.{ℕ, Ok, Err, Result}
use Rattle.cells.specs.Faults.{device_number}
use Rattle.calls.specs.declared.fault.StoreFault.{StoreFault}
use Rattle.calls.specs.declared.fault.StoreFault.TheVariants.{NoRecord, NoValue, Full, Fits, Unreached, Device}

abbrev pub number : StoreFault → ℕ
number (NoRecord k) = 40
number (NoValue k) = 41
number (Full k) = 42
number (Fits k) = 43
number (Unreached k) = 44
number (Device k f) = device_number f

-- an answer, with a place beside a refusal
abbrev pub located : {A F P : Type 0} → P → Result A F → Result A (P × F)
located p (Ok x) = Ok x
located p (Err f) = Err (p, f)
