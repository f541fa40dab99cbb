-- Images of a fuse bank and of a flash part: where each count, page and cell lies. Assumes nothing.
use Rattle.std.specs.Prelude.{◌≡◌, ℕ, ◌+◌, ◌*◌, ◌/◌, ◌%◌, ◌^◌, ◌<◌, ◌≤◌, min, Bool, true, false, cond, List, length, ◌==◌, ◌≢◌, nat_le, slice_index}
use Rattle.std.proofs.Common.{arith}
use Rattle.images.specs.declared.format.Format.{Format}
use Rattle.images.specs.declared.format.Format.TheVariants.{Fuse, Flash}
use Rattle.images.specs.declared.layout.Layout.{Layout}
use Rattle.cells.specs.Cells.{Cells, Bounded}

-- the bytes of a page's wear count
abbrev pub count_bytes : Format → ℕ
count_bytes Fuse = 0
count_bytes Flash = 4

-- the largest wear count
abbrev pub limit_of : Format → ℕ
limit_of Fuse = 0
limit_of Flash = 10000

-- the bit that stands for a set cell
abbrev pub set_cell_bit : Format → ℕ
set_cell_bit Fuse = 1
set_cell_bit Flash = 0

-- Bit k of a byte, bit 0 being the lowest.
abbrev pub bit : ℕ → ℕ → ℕ
bit x k = x / 2 ^ k % 2

-- whether it reads as a set cell
abbrev pub reads : Format → ℕ → ℕ → Bool
reads f x k = bit x k == set_cell_bit f

-- y is the byte x with bit k made to read as set
pub record SetsBit (f : Format) (k x y : ℕ) : Type 0 where
  pub here : reads f y k ≡ true
  pub others : (b : ℕ) → b < 8 → (b ≢ k) → bit y b ≡ bit x b

-- The order of an image of P pages of c cells: the byte P, the wear counts, two bytes of c, and the pages.
-- Where c begins:
abbrev pub width_at : Format → ℕ → ℕ
width_at f P = 1 + count_bytes f * P

-- where the pages begin
abbrev pub pages_at : Format → ℕ → ℕ
pages_at f P = 3 + count_bytes f * P

-- the bytes of a page
abbrev pub page_bytes : ℕ → ℕ
page_bytes c = (c + 7) / 8

-- where page p begins
abbrev pub page_at : Format → ℕ → ℕ → ℕ → ℕ
page_at f P c p = pages_at f P + p * page_bytes c

-- the bytes of the whole image
abbrev pub size : Format → ℕ → ℕ → ℕ
size f P c = pages_at f P + P * page_bytes c

-- The counts that the bytes xs show: the pages, the width, and the wear of page p, high bytes first.
abbrev pub pages_of : List ℕ → ℕ
pages_of xs = slice_index xs 0

abbrev pub width_of : Format → List ℕ → ℕ
width_of f xs = slice_index xs (width_at f (pages_of xs)) * 256 + slice_index xs (width_at f (pages_of xs) + 1)

abbrev pub count_of : List ℕ → ℕ → ℕ
count_of xs p =
    slice_index xs (1 + 4 * p) * 16777216 + slice_index xs (2 + 4 * p) * 65536 + slice_index xs (3 + 4 * p) * 256 + slice_index xs (4 + 4 * p)

-- the wear of page p, held to the limit; a fuse bank has none
abbrev pub wear_of : Format → List ℕ → ℕ → ℕ
wear_of Fuse xs p = 0
wear_of Flash xs p = min 10000 (count_of xs p)

-- The meaning of the bytes xs as P pages of c cells: cell i of a page is bit (i mod 8) of its byte (i div 8).
abbrev pub cells_read : Format → ℕ → ℕ → List ℕ → Cells
cells_read f P c xs =
    record {
      pages = P;
      width = c;
      set = λ p i. reads f (slice_index xs (page_at f P c p + i / 8)) (i % 8);
      wear = wear_of f xs;
      limit = limit_of f;
    }

-- the image of such a layout fits into the bytes xs
abbrev pub fits : Format → Layout → List ℕ → Bool
fits f l xs = nat_le (size f l.pages l.width) (length xs)

-- What a part of a layout over the bytes xs means: nothing at all unless they suffice.
abbrev pub part_cells : Format → Layout → List ℕ → Cells
part_cells f l xs = cells_read f (cond (fits f l xs) l.pages 0) (cond (fits f l xs) l.width 0) xs

-- What the bytes of an image mean, by the counts that it shows.
abbrev pub decoded : Format → List ℕ → Cells
decoded f xs = cells_read f (pages_of xs) (width_of f xs) xs

held_below : (b : Bool) (x n : ℕ) → x ≤ n → cond b x 0 ≤ n
held_below true x n h = h
held_below false x n h = omega arith

wear_below : (f : Format) (xs : List ℕ) (p : ℕ) → wear_of f xs p ≤ limit_of f
wear_below Fuse xs p = omega arith
wear_below Flash xs p = omega arith

-- a part is within the bounds of every array, whatever its bytes
pub part_bounded : (f : Format) (l : Layout) (xs : List ℕ) → Bounded (part_cells f l xs)
part_bounded f l xs =
    record {
      pages = held_below (fits f l xs) l.pages 64 l.few;
      width = held_below (fits f l xs) l.width 1024 l.narrow;
      wear = λ p h. wear_below f xs p;
    }
