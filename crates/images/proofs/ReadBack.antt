-- What is written is read back, and is accepted by the check. Assumes nothing.
use Rattle.std.proofs.Common.{◌≡◌, ℕ, ◌+◌, ◌*◌, ◌/◌, ◌%◌, ◌<◌, ◌≤◌, ◌&&◌, eqb, ltb, List, get_or, sym, refl, ap, ◌∙◌, ap₂, add_assoc, arith}
use Rattle.std.proofs.lemmas.Nat.{mul-add-lt, div-mul-add, mod-mul-add}
use Rattle.std.proofs.lemmas.Bool.{lt-ltb, le-ltb, and_left, both_ways}
use Rattle.images.specs.declared.format.Format.{Format}
use Rattle.images.specs.declared.format.Format.TheVariants.{Fuse, Flash}
use Rattle.cells.specs.Cells.{Cells, Alike}
use Rattle.cells.specs.Rows.{Served}
use Rattle.images.specs.Image.{count_bytes, limit_of, bit, set_cell_bit, width_at, pages_at, page_bytes, page_at, width_of, count_of, wear_of, cells_read, decoded}
use Rattle.images.specs.Check.{image_rows, Stray}
use Rattle.images.specs.Written.{Writable, big_endian_byte, bit_for, page_byte, written}
use Rattle.images.proofs.ByteBits.{bit_of_byte, bit_for_small, bit_for_reads, four_digits}
use Rattle.images.proofs.Writing.{written_length, written_pages, written_count, written_width_high, written_width_low, written_page}
use Rattle.images.proofs.Good.{good_served}

-- one bit of a page's byte
page_bit : (f : Format) (m : Cells) (p j k : ℕ) → k < 8 → bit (page_byte f m p j) k ≡ bit_for f (ltb (8 * j + k) m.width && m.set p (8 * j + k))
unfolding page_byte
page_bit f m p j k h =
    bit_of_byte (λ b. bit_for f (ltb (8 * j + b) m.width && m.set p (8 * j + b)))
    (λ b. bit_for_small f (ltb (8 * j + b) m.width && m.set p (8 * j + b))) k h

module _ (f : Format) (m : Cells) (ok : Writable f m) where
  abbrev xs : List ℕ
  xs = written f m

  width_back : width_of f xs ≡ m.width
  width_back =
      let high = written_width_high f m in
      let low = written_width_low f m in
      let joined : get_or xs (width_at f m.pages) 0 * 256 + get_or xs (width_at f m.pages + 1) 0 ≡ m.width = omega arith in
      ap (λ P. get_or xs (width_at f P) 0 * 256 + get_or xs (width_at f P + 1) 0) (written_pages f m) ∙ joined

  count_back : f ≡ Flash → (p : ℕ) → p < m.pages → (count_of xs p ≡ m.wear p) × (m.wear p ≤ 10000)
  count_back e p h =
      let below : m.wear p ≤ 10000 = rw (ap limit_of e) at (ok.wear p h) in
      let d₀ = byte 0 (1 + 4 * p) (omega arith) (omega arith) in
      let d₁ = byte 1 (2 + 4 * p) (omega arith) (omega arith) in
      let d₂ = byte 2 (3 + 4 * p) (omega arith) (omega arith) in
      let d₃ = byte 3 (4 + 4 * p) (omega arith) (omega arith) in
      let whole = four_digits (m.wear p) (omega arith) in
      (omega arith, below)
    where
      byte : (j n : ℕ) → j < 4 → n ≡ 1 + (4 * p + j) → get_or xs n 0 ≡ big_endian_byte (m.wear p) j
      byte j n lt at =
          let four : count_bytes f * m.pages ≡ 4 * m.pages = ap (λ g. count_bytes g * m.pages) e in
          let quotient : (4 * p + j) / 4 ≡ p = omega arith in
          let remainder : (4 * p + j) % 4 ≡ j = omega arith in
          ap (λ i. get_or xs i 0) at ∙ written_count f m (4 * p + j) (omega arith) ∙ ap₂ (λ q i. big_endian_byte (m.wear q) i) quotient remainder

  -- a bit of a page is that of its cell, and of no cell where it is past the width
  bit_back :
      (p i : ℕ) → p < m.pages → i < 8 * page_bytes m.width →
      (cells_read f m.pages m.width xs).set p i ≡ (ltb i m.width && m.set p i)
  bit_back p i h lt =
      let w = page_bytes m.width in
      let j : i / 8 < page_bytes m.width = omega arith in
      let place : p * page_bytes m.width + i / 8 < m.pages * page_bytes m.width =
      omega (arith, mul-add-lt p (page_bytes m.width) (i / 8) m.pages h j) in
      let byte : get_or xs (page_at f m.pages m.width p + i / 8) 0 ≡ page_byte f m p (i / 8) =
      ap (λ n. get_or xs n 0) (add_assoc (pages_at f m.pages) (p * w) (i / 8))
      ∙ written_page f m (p * w + i / 8) place
      ∙ ap₂ (page_byte f m) (div-mul-add p w (i / 8) j) (mod-mul-add p w (i / 8) j) in
      let whole : 8 * (i / 8) + i % 8 ≡ i = omega arith in
      ap (λ x. eqb (bit x (i % 8)) (set_cell_bit f)) byte
      ∙ ap (λ z. eqb z (set_cell_bit f)) (page_bit f m p (i / 8) (i % 8) (omega arith))
      ∙ bit_for_reads f _
      ∙ ap (λ n. ltb n m.width && m.set p n) whole

  -- the meaning by the counts that are read is the meaning by the counts that were written
  decoded_is : decoded f xs ≡ cells_read f m.pages m.width xs
  decoded_is = ap₂ (λ P c. cells_read f P c xs) (written_pages f m) width_back

  same_cells : Alike m (cells_read f m.pages m.width xs)
  same_cells =
      record {
        shape = record { pages = refl; width = refl; limit = sym ok.limit };
        set = λ p i cell.
            let lt = cell.cell in
            bit_back p i cell.page (omega arith) ∙ ap (λ b. b && m.set p i) (lt-ltb i m.width lt);
        wear = wear_back f refl;
      }
    where
      wear_back : (g : Format) → f ≡ g → (p : ℕ) → p < m.pages → wear_of g xs p ≡ m.wear p
      wear_back Fuse e p h = let none : m.wear p ≤ 0 = rw (ap limit_of e) at (ok.wear p h) in omega arith
      wear_back Flash e p h = let back = count_back e p h in omega arith

  pub read_back : Alike m (decoded f xs)
  read_back = rw decoded_is same_cells

  no_stray : (p : ℕ) → p < m.pages → Stray f m.pages m.width xs p → ⊥
  no_stray p h s =
      let i = s.place in
      both_ways _
      (bit_back p i h s.inside ∙ and_left (ltb i m.width) (m.set p i) (le-ltb i m.width s.unused))
      s.reads

  pub written_served : Served (image_rows f xs)
  written_served =
      good_served f m.pages m.width xs
      (record {
        pages = sym (written_pages f m);
        width = sym width_back;
        pages_least = ok.pages_least;
        pages_most = ok.pages_most;
        width_least = ok.width_least;
        width_most = ok.width_most;
        long = written_length f m;
        worn = λ e p h. let back = count_back e p h in omega arith;
        clean = no_stray;
      })
