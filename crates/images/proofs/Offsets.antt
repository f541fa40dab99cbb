-- Places in an image: which lie within it, and which are apart. Assumes nothing.
use Rattle.std.proofs.Common.{◌≡◌, ℕ, ◌+◌, ◌*◌, ◌/◌, ◌%◌, ◌<◌, ◌≤◌, Bool, true, false, cond, List, length, Ok, sym, refl, ap, ◌∙◌, mul-le-mul_right, suc-mul, arith}
use Rattle.std.proofs.lemmas.Nat.{mul-add-lt, div-mul-add, mod-mul-add}
use Rattle.std.proofs.lemmas.Bool.{leb-true}
use Rattle.images.specs.declared.format.Format.{Format}
use Rattle.images.specs.declared.layout.Layout.{Layout}
use Rattle.cells.specs.Rows.{Served}
use Rattle.cells.specs.Device.{cell_rows}
use Rattle.images.specs.Image.{page_bytes, page_at, size, cells_read, fits, part_cells}
use Rattle.images.specs.Bytes.{Finds}

-- places in blocks of w are the same only where block and place are
pub same_block : (p q w i j : ℕ) → i < w → j < w → q * w + j ≡ p * w + i → q ≡ p
same_block p q w i j a b e = sym (div-mul-add q w j b) ∙ ap (λ n. n / w) e ∙ div-mul-add p w i a

pub same_place : (p q w i j : ℕ) → i < w → j < w → q * w + j ≡ p * w + i → j ≡ i
same_place p q w i j a b e = sym (mod-mul-add q w j b) ∙ ap (λ n. n % w) e ∙ mod-mul-add p w i a

-- a cell's byte is one of its page's
pub byte_within : (c i : ℕ) → i < c → i / 8 < page_bytes c
byte_within c i h = omega arith

-- a page's bytes lie before the end of the pages
pub page_within : (c p P : ℕ) → p < P → p * page_bytes c + page_bytes c ≤ P * page_bytes c
page_within c p P h = omega (arith, mul-le-mul_right (page_bytes c) h, suc-mul p (page_bytes c))

-- a part that shows a page has the bytes for it
pub shown : (b : Bool) (x p : ℕ) → p < cond b x 0 → (b ≡ true) × (p < x)
shown true x p h = (refl, h)
shown false x p h = absurd (omega arith)

module _ (f : Format) (l : Layout) (xs : List ℕ) where
  pub part_is : fits f l xs ≡ true → part_cells f l xs ≡ cells_read f l.pages l.width xs
  part_is e = ap (λ b. cells_read f (cond b l.pages 0) (cond b l.width 0) xs) e

  pub suffices : fits f l xs ≡ true → size f l.pages l.width ≤ length xs
  suffices e = leb-true _ _ e

  pub found :
      (p i at : ℕ) → Served (cell_rows (part_cells f l xs) p i) → at ≡ page_at f l.pages l.width p + i / 8 →
      Finds f l xs p i (Ok at)
  found p i at there e =
      let s = shown (fits f l xs) l.pages p (omega (arith, there.0)) in
      let t = shown (fits f l xs) l.width i (omega (arith, there.1.0)) in
      let room = suffices s.0 in
      let inside = mul-add-lt p (page_bytes l.width) (i / 8) l.pages s.1 (byte_within l.width i t.1) in
      (there, e, room, omega arith)
