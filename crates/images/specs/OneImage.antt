-- Arrays that agree, in cells and wear counts, have the same image, byte for byte. Assumes nothing.
use Rattle.std.specs.Prelude.{◌≡◌, ℕ, ◌<◌, List, All}
use Rattle.images.specs.declared.format.Format.{Format}
use Rattle.cells.specs.Cells.{Cells, Alike}
use Rattle.cells.specs.Rows.{Served}
use Rattle.images.specs.Image.{decoded}
use Rattle.images.specs.Check.{image_rows}
use Rattle.images.specs.Written.{written}

-- Arrays that agree are written out as the same bytes.
abbrev pub WrittenAlike : Type 0
WrittenAlike = (f : Format) (m n : Cells) → Alike m n → written f n ≡ written f m

-- Two images that the check accepts, and that are read as arrays that agree, are the same bytes.
-- Each number in them is to be a byte, which the check does not ask: the two numbers 0 and 1024
-- show the same width as the bytes 4 and 0.
abbrev pub ImagesAgree : Type 0
ImagesAgree =
    (f : Format) (xs ys : List ℕ) → All (λ x. x < 256) xs → All (λ y. y < 256) ys →
    Served (image_rows f xs) → Served (image_rows f ys) →
    Alike (decoded f xs) (decoded f ys) → ys ≡ xs
