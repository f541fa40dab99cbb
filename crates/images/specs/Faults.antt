-- The numbers of the refusals of images, by cases of the fault. Assumes nothing.
use Rattle.std.specs.Prelude.{ℕ}
use Rattle.images.specs.declared.fault.ImageFault.{ImageFault}
use Rattle.images.specs.declared.fault.ImageFault.TheVariants.{Short, Pages, Wear, Width, Stray, Trailing}

abbrev pub image_number : ImageFault → ℕ
image_number Short = 10
image_number Pages = 11
image_number Width = 12
image_number Trailing = 13
image_number Stray = 14
image_number Wear = 15
