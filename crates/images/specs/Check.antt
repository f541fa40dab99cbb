-- The check of an image: a table of refusals in reading order. Each count's bytes are there, then its row; then the
-- bytes of the pages; last the unused bits, and bytes that follow. Assumes nothing.
use Rattle.std.specs.Prelude.{◌≡◌, ℕ, zero, suc, ◌+◌, ◌*◌, ◌<◌, ◌≤◌, true, ◌⊎◌, List, [], ◌∷◌, ◌++◌, length, Ok, Err, Result}
use Rattle.images.specs.declared.fault.ImageFault.{ImageFault}
use Rattle.images.specs.declared.format.Format.{Format}
use Rattle.images.specs.declared.format.Format.TheVariants.{Fuse, Flash}
use Rattle.images.specs.declared.layout.Layout.{Layout}
use Rattle.cells.specs.Rows.{Row, row, Refused, Served}
use Rattle.images.specs.Faults.{image_number}
use Rattle.images.specs.Image.{page_bytes, width_at, size, pages_of, width_of, count_of, cells_read, part_cells, decoded}

-- the checks of a count of pages, and of a width, by themselves
abbrev pub page_bound_rows : ℕ → List Row
page_bound_rows P = row 11 ((P ≡ 0) ⊎ (64 < P)) ∷ []

abbrev pub width_bound_rows : ℕ → List Row
width_bound_rows c = row 12 ((c ≡ 0) ⊎ (1024 < c)) ∷ []

-- the byte P
abbrev pub page_count_rows : List ℕ → List Row
page_count_rows xs = row 10 (length xs < 1) ∷ page_bound_rows (pages_of xs)

-- wear count k, whose four bytes end before the place 5 + 4 k
abbrev pub wear_count_rows : List ℕ → ℕ → List Row
wear_count_rows xs k = row 10 (length xs < 5 + 4 * k) ∷ (row 15 (10000 < count_of xs k) ∷ [])

-- the wear counts below n, one after the other
unfoldable pub wear_counts_below : List ℕ → ℕ → List Row
wear_counts_below xs zero = []
wear_counts_below xs (suc k) = wear_counts_below xs k ++ wear_count_rows xs k

-- all of them, where the format has any
abbrev pub wear_rows : Format → List ℕ → List Row
wear_rows Fuse xs = []
wear_rows Flash xs = wear_counts_below xs (pages_of xs)

-- the two bytes c
abbrev pub width_rows : Format → List ℕ → List Row
width_rows f xs =
    row 10 (length xs < width_at f (pages_of xs) + 2) ∷ width_bound_rows (width_of f xs)

-- Page p has an unused bit, past its c cells, that reads as set.
pub record Stray (f : Format) (P c : ℕ) (xs : List ℕ) (p : ℕ) : Type 0 where
  pub place : ℕ
  pub unused : c ≤ place
  pub inside : place < 8 * page_bytes c
  pub reads : (cells_read f P c xs).set p place ≡ true

-- the pages of c cells, and what follows them
abbrev pub body_rows : Format → ℕ → ℕ → List ℕ → List Row
body_rows f P c xs =
    row 10 (length xs < size f P c) ∷
    (row 14 ((p : ℕ) × (p < P) × Stray f P c xs p) ∷
    (row 13 (size f P c < length xs) ∷ []))

-- The whole table.
abbrev pub image_rows : Format → List ℕ → List Row
image_rows f xs =
    page_count_rows xs ++ (wear_rows f xs ++ (width_rows f xs ++ body_rows f (pages_of xs) (width_of f xs) xs))

-- The image xs is accepted, and l is its layout.
abbrev pub Accepted : Format → Layout → List ℕ → Type 0
Accepted f l xs = Served (image_rows f xs) × (l.pages ≡ pages_of xs) × (l.width ≡ width_of f xs)

-- The check answers the layout that the counts show, or the first row that holds.
abbrev pub Checks : Format → List ℕ → Result Layout ImageFault → Type 0
Checks f xs (Ok l) = Accepted f l xs
Checks f xs (Err e) = Refused (image_rows f xs) (image_number e)

-- The meaning of a part over the bytes xs with the layout l: that of a good image; over a refused one it has no pages
-- and no width.
pub record ReadsAs (f : Format) (xs : List ℕ) (l : Layout) : Type 0 where
  pub layout : Served (image_rows f xs) → Accepted f l xs
  pub accepted : Served (image_rows f xs) → part_cells f l xs ≡ decoded f xs
  pub refused : (Served (image_rows f xs) → ⊥) → part_cells f l xs ≡ cells_read f 0 0 xs

-- a step of the check: its answer satisfies Q, or the first of its rows that holds refuses the image
abbrev pub ChecksStep : List Row → {A : Type 0} → (A → Type 0) → Result A ImageFault → Type 0
ChecksStep rs Q (Ok x) = Served rs × Q x
ChecksStep rs Q (Err e) = Refused rs (image_number e)
