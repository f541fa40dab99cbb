-- Writing a meaning out as the bytes of an image, whatever a check may make of them. Assumes nothing.
use Rattle.std.specs.Prelude.{◌≡◌, ℕ, ◌+◌, ◌-◌, ◌*◌, ◌/◌, ◌%◌, ◌^◌, ◌<◌, ◌≤◌, Bool, cond, ◌&&◌, List, ◌∷◌, ◌++◌, map, Ok, Err, Result, ◌≢◌, nat_lt}
use Rattle.std.specs.List.{range_with_len}
use Rattle.images.specs.declared.format.Format.{Format}
use Rattle.cells.specs.Cells.{Cells, Alike}
use Rattle.cells.specs.Rows.{Served}
use Rattle.images.specs.Check.{image_rows}
use Rattle.images.specs.Image.{count_bytes, limit_of, set_cell_bit, page_bytes, decoded}

-- the meanings that an image can hold
pub record Writable (f : Format) (m : Cells) : Type 0 where
  pub pages_least : 1 ≤ m.pages
  pub pages_most : m.pages ≤ 64
  pub width_least : 1 ≤ m.width
  pub width_most : m.width ≤ 1024
  pub limit : m.limit ≡ limit_of f
  pub wear : (p : ℕ) → p < m.pages → m.wear p ≤ limit_of f

-- byte j, of four with the highest first, of the number w
abbrev pub big_endian_byte : ℕ → ℕ → ℕ
big_endian_byte w j = w / 256 ^ (3 - j) % 256

-- the byte of eight bits, bit 0 being the lowest
abbrev pub byte_of : (ℕ → ℕ) → ℕ
byte_of b = b 0 + 2 * b 1 + 4 * b 2 + 8 * b 3 + 16 * b 4 + 32 * b 5 + 64 * b 6 + 128 * b 7

-- the bit of a cell
abbrev pub bit_for : Format → Bool → ℕ
bit_for f s = cond s (set_cell_bit f) (1 - set_cell_bit f)

-- byte j of page p: eight cells, of which those past the width are written as unset
unfoldable pub page_byte : Format → Cells → ℕ → ℕ → ℕ
page_byte f m p j = byte_of (λ k. bit_for f (nat_lt (8 * j + k) m.width && m.set p (8 * j + k)))

-- the wear counts, one page after the other, where the format has them
abbrev pub count_section : Format → Cells → List ℕ
count_section f m = map (λ k. big_endian_byte (m.wear (k / 4)) (k % 4)) (range_with_len 0 (count_bytes f * m.pages))

-- the pages, one after the other
abbrev pub page_section : Format → Cells → List ℕ
page_section f m =
    map (λ k. page_byte f m (k / page_bytes m.width) (k % page_bytes m.width)) (range_with_len 0 (m.pages * page_bytes m.width))

-- The image of a meaning: the count of pages, the wear counts, the width as two bytes, and the pages.
unfoldable pub written : Format → Cells → List ℕ
written f m = (m.pages ∷ count_section f m) ++ ((m.width / 256) ∷ ((m.width % 256) ∷ page_section f m))

-- the bytes are the writing-out of the meaning that they are read as, and an image can hold it
abbrev pub RoundTrips : Format → List ℕ → Type 0
RoundTrips f xs = Writable f (decoded f xs) × (xs ≡ written f (decoded f xs))

-- An accepted image is the writing-out of the meaning that it is read as; a refused one is that of no writable meaning.
abbrev pub Exact : Format → List ℕ → {A B : Type 0} → Result A B → Type 0
Exact f xs (Ok l) = RoundTrips f xs
Exact f xs (Err e) = (m : Cells) → Writable f m → xs ≢ written f m

-- Bytes that are the writing-out of a writable meaning are read back as one that agrees with it.
abbrev pub ReadBack : Format → List ℕ → Type 0
ReadBack f xs = (m : Cells) → Writable f m → xs ≡ written f m → Alike m (decoded f xs)

-- The bytes of a good image are the writing-out of its cells.
abbrev pub WrittenOut : Format → List ℕ → Type 0
WrittenOut f xs = Served (image_rows f xs) → RoundTrips f xs
