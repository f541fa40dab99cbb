-- The numbers of the refusals of a call on an image, by where they come from. Assumes nothing.
use Rattle.std.specs.Prelude.{ℕ}
use Rattle.c_entry.specs.declared.fault.EntryFault.{EntryFault}
use Rattle.c_entry.specs.declared.fault.EntryFault.TheVariants.{Image, Making, Store}
use Rattle.images.specs.Faults.{image_number}
use Rattle.store.specs.Making.{making_number}
use Rattle.calls.specs.Faults.{number}

abbrev pub entry_number : EntryFault → ℕ
entry_number (Image e) = image_number e
entry_number (Making f) = making_number f
entry_number (Store f) = number f
