-- What writing a bit, or erasing a page, in the bytes of an image does to the cells. Assumes nothing.
use Rattle.std.proofs.Common.{◌≡◌, ℕ, ◌+◌, ◌-◌, ◌*◌, ◌/◌, ◌%◌, ◌<◌, ◌≤◌, min, true, false, not, eqb, leb, ◌⊎◌, List, [], ◌∷◌, length, get_or, set, replicate, sym, refl, ap, ◌∙◌, subst, inl, inr, arith}
use borrow.Rule.Slice.PartMut.{put_mid}
use Rattle.std.proofs.lemmas.List.{length-set, get_or-set_same, get_or-set_other, length-replicate, get_or-replicate}
use Rattle.std.proofs.lemmas.Bool.{cases_eq, cases_lt, not-true}
use Rattle.images.specs.declared.format.Format.{Format}
use Rattle.images.specs.declared.format.Format.TheVariants.{Fuse, Flash}
use Rattle.images.specs.declared.layout.Layout.{Layout}
use Rattle.cells.specs.Device.{Marked, Erased}
use Rattle.images.specs.Image.{count_bytes, reads, set_cell_bit, SetsBit, page_bytes, page_at, size, count_of, wear_of, cells_read, fits, part_cells}
use Rattle.images.specs.Bytes.{BitMarked, PageErased}
use Rattle.images.proofs.Offsets.{same_block, same_place, byte_within, page_within, part_is}
use Rattle.images.proofs.ByteBits.{four_digits}
use Rattle.cells.proofs.Finite.{passes}
use Rattle.images.proofs.Mids.{mid_length, mid_below, mid_above, mid_inside}

-- a wear count is that of other bytes which agree on its four
pub count_same : (xs ys : List ℕ) (q : ℕ) → ((j : ℕ) → 1 + 4 * q ≤ j → j < 5 + 4 * q → get_or ys j 0 ≡ get_or xs j 0) → count_of ys q ≡ count_of xs q
count_same xs ys q same =
    let a = same (1 + 4 * q) (omega arith) (omega arith) in
    let b = same (2 + 4 * q) (omega arith) (omega arith) in
    let c = same (3 + 4 * q) (omega arith) (omega arith) in
    let d = same (4 + 4 * q) (omega arith) (omega arith) in
    omega arith

-- one byte set
pub bit_written : (f : Format) (xs : List ℕ) (at k y : ℕ) → at < length xs → SetsBit f k (get_or xs at 0) y → BitMarked f at k xs (set xs at y)
bit_written f xs at k y h s =
    record {
      length = length-set xs at y;
      bit = subst (SetsBit f k (get_or xs at 0)) (sym (get_or-set_same xs at y 0 h)) s;
      others = λ j apart. get_or-set_other xs at j y 0 apart;
    }

module _ (f : Format) (P c p i : ℕ) (xs ys : List ℕ) (a : p < P) (b : i < c)
    (w : BitMarked f (page_at f P c p + i / 8) (i % 8) xs ys) where
  wear_kept : (g : Format) → f ≡ g → (q : ℕ) → q < P → wear_of g ys q ≡ wear_of g xs q
  wear_kept Fuse e q h = refl
  wear_kept Flash e q h = ap (min 10000) (count_same xs ys q (λ j lo hi. w.others j (λ at. let four : count_bytes f * P ≡ 4 * P = ap (λ g. count_bytes g * P) e in omega arith)))

  -- every other bit of a page, unused ones too
  pub bit_kept : (q j : ℕ) → q < P → j / 8 < page_bytes c → ((q ≡ p) × (j ≡ i) → ⊥) → (cells_read f P c ys).set q j ≡ (cells_read f P c xs).set q j
  bit_kept q j h k apart = go (cases_eq (page_at f P c q + j / 8) (page_at f P c p + i / 8))
    where
      go : ((page_at f P c q + j / 8 ≡ page_at f P c p + i / 8) ⊎ (page_at f P c q + j / 8 ≡ page_at f P c p + i / 8 → ⊥)) →
          (cells_read f P c ys).set q j ≡ (cells_read f P c xs).set q j
      go (inl e) =
          let n = page_bytes c in
          let block = same_block p q n (i / 8) (j / 8) (byte_within c i b) k (omega arith) in
          let place = same_place p q n (i / 8) (j / 8) (byte_within c i b) k (omega arith) in
          let other : j % 8 ≡ i % 8 → ⊥ = λ same. apart (block, omega arith) in
          subst (λ m. reads f (get_or ys m 0) (j % 8) ≡ reads f (get_or xs m 0) (j % 8)) (sym e)
          (ap (λ z. eqb z (set_cell_bit f)) (w.bit.others (j % 8) (omega arith) other))
      go (inr ne) = ap (λ x. reads f x (j % 8)) (w.others (page_at f P c q + j / 8) ne)

  pub cell_marked : Marked p i (cells_read f P c xs) (cells_read f P c ys)
  cell_marked =
      record {
        shape = record { pages = refl; width = refl; limit = refl };
        here = w.bit.here;
        others = λ q j cell apart. bit_kept q j cell.page (byte_within c j cell.cell) apart;
        wear = λ q h. wear_kept f refl q h;
      }

-- the same of a part, whose bytes suffice
module _ (f : Format) (l : Layout) (p i : ℕ) (xs ys : List ℕ) (e : fits f l xs ≡ true) (a : p < l.pages) (b : i < l.width)
    (w : BitMarked f (page_at f l.pages l.width p + i / 8) (i % 8) xs ys) where
  pub part_marked : Marked p i (part_cells f l xs) (part_cells f l ys)
  part_marked =
      let same : fits f l ys ≡ true = ap (leb (size f l.pages l.width)) w.length ∙ e in
      rw (part_is f l xs e, part_is f l ys same) (cell_marked f l.pages l.width p i xs ys a b w)

-- The bytes after a page was filled with ones and its wear count, w, written as four bytes.
module _ (P c p at n k w : ℕ) (xs page count : List ℕ) (a : p < P) (room : size Flash P c ≤ length xs)
    (here : at ≡ page_at Flash P c p) (all : n ≡ page_bytes c) (ones : page ≡ replicate n 255) (four : k ≡ 4) (fit : w < 4294967296)
    (digits : count ≡ (w / 16777216 % 256) ∷ ((w / 65536 % 256) ∷ ((w / 256 % 256) ∷ ((w % 256) ∷ []))))
    (more : w ≡ count_of xs p + 1) where
  abbrev zs : List ℕ
  zs = put_mid at n xs page

  abbrev ys : List ℕ
  ys = put_mid (1 + 4 * p) k zs count

  inner_room : at + n ≤ length xs
  inner_room = let inside = page_within c p P a in omega arith

  inner_same : length page ≡ n
  inner_same = ap length ones ∙ length-replicate n 255

  outer_room : 1 + 4 * p + k ≤ length zs
  outer_room = let e = mid_length 0 at n xs page inner_room inner_same in omega arith

  outer_same : length count ≡ k
  outer_same = ap length digits ∙ sym four

  big_endian_byte : (j : ℕ) → j < k → get_or ys (1 + 4 * p + j) 0 ≡ get_or ((w / 16777216 % 256) ∷ ((w / 65536 % 256) ∷ ((w / 256 % 256) ∷ ((w % 256) ∷ [])))) j 0
  big_endian_byte j h = mid_inside 0 (1 + 4 * p) k zs count outer_room outer_same j h ∙ ap (λ l. get_or l j 0) digits

  digit_at : (j m : ℕ) → j < k → m ≡ 1 + 4 * p + j → get_or ys m 0 ≡ get_or ((w / 16777216 % 256) ∷ ((w / 65536 % 256) ∷ ((w / 256 % 256) ∷ ((w % 256) ∷ [])))) j 0
  digit_at j m h e = ap (λ i. get_or ys i 0) e ∙ big_endian_byte j h

  outside : (j : ℕ) → ((1 + 4 * p ≤ j) × (j < 5 + 4 * p) → ⊥) → get_or ys j 0 ≡ get_or zs j 0
  outside j apart = go (cases_lt j (1 + 4 * p))
    where
      go : ((j < 1 + 4 * p) ⊎ (1 + 4 * p ≤ j)) → get_or ys j 0 ≡ get_or zs j 0
      go (inl h) = mid_below 0 (1 + 4 * p) k zs count outer_room outer_same j h
      go (inr h) =
          let no_less : j < 5 + 4 * p → ⊥ = λ lt. apart (h, lt) in
          mid_above 0 (1 + 4 * p) k zs count outer_room outer_same j (omega arith)

  outside_page : (j : ℕ) → ((page_at Flash P c p ≤ j) × (j < page_at Flash P c p + page_bytes c) → ⊥) → get_or zs j 0 ≡ get_or xs j 0
  outside_page j apart = go (cases_lt j at)
    where
      go : ((j < at) ⊎ (at ≤ j)) → get_or zs j 0 ≡ get_or xs j 0
      go (inl h) = mid_below 0 at n xs page inner_room inner_same j h
      go (inr h) =
          let no_less : j < page_at Flash P c p + page_bytes c → ⊥ = λ lt. apart (omega arith, lt) in
          mid_above 0 at n xs page inner_room inner_same j (omega arith)

  pub page_written : PageErased P c p xs ys
  page_written =
      record {
        length = mid_length 0 (1 + 4 * p) k zs count outer_room outer_same ∙ mid_length 0 at n xs page inner_room inner_same;
        page = λ j h.
            outside (page_at Flash P c p + j) (λ o. let lt = o.1 in omega arith)
            ∙ ap (λ m. get_or zs (m + j) 0) (sym here)
            ∙ mid_inside 0 at n xs page inner_room inner_same j (omega arith)
            ∙ ap (λ l. get_or l j 0) ones
            ∙ get_or-replicate n j 255 0 (omega arith);
        count =
            let d₀ = digit_at 0 (1 + 4 * p) (omega arith) (omega arith) in
            let d₁ = digit_at 1 (2 + 4 * p) (omega arith) (omega arith) in
            let d₂ = digit_at 2 (3 + 4 * p) (omega arith) (omega arith) in
            let d₃ = digit_at 3 (4 + 4 * p) (omega arith) (omega arith) in
            let whole = four_digits w fit in
            omega arith;
        others = λ j page count. outside j count ∙ outside_page j page;
      }

-- no bit of a byte of ones reads as set in flash
pub ones_unset : (k : ℕ) → k < 8 → reads Flash 255 k ≡ false
ones_unset k h = not-true _ (passes (λ b. not (reads Flash 255 b)) 8 refl k h)

-- The cells after an erase of page p.
module _ (P c p : ℕ) (xs ys : List ℕ) (a : p < P) (w : PageErased P c p xs ys) where
  -- no bit of the page reads as set, unused ones neither
  pub bit_erased : (i : ℕ) → i / 8 < page_bytes c → (cells_read Flash P c ys).set p i ≡ false
  bit_erased i h = ap (λ x. reads Flash x (i % 8)) (w.page (i / 8) h) ∙ ones_unset (i % 8) (omega arith)

  -- and every bit of another page is as it was
  pub bit_spared : (q j : ℕ) → j / 8 < page_bytes c → (q ≡ p → ⊥) → (cells_read Flash P c ys).set q j ≡ (cells_read Flash P c xs).set q j
  bit_spared q j h apart =
      ap (λ x. reads Flash x (j % 8))
      (w.others (page_at Flash P c q + j / 8)
      (λ o.
      let lo = o.0 in
      let hi = o.1 in
      apart (same_block p q (page_bytes c) (page_at Flash P c q + j / 8 - page_at Flash P c p) (j / 8) (omega arith) h (omega arith)))
      (λ o. let lt = o.1 in omega arith))

  pub count_spared : (q : ℕ) → q < P → (q ≡ p → ⊥) → count_of ys q ≡ count_of xs q
  count_spared q h apart =
      count_same xs ys q
      (λ j lo hi.
      w.others j (λ o. let ge = o.0 in omega arith)
      (λ o. let ge = o.0 in let lt = o.1 in apart (omega arith)))

  pub page_erased : count_of xs p < 10000 → Erased p (cells_read Flash P c xs) (cells_read Flash P c ys)
  page_erased fresh =
      record {
        shape = record { pages = refl; width = refl; limit = refl };
        here = λ i h. bit_erased i (byte_within c i h);
        others = λ q j cell apart. bit_spared q j (byte_within c j cell.cell) apart;
        worn = let e = w.count in omega arith;
        unworn = λ q h apart. ap (min 10000) (count_spared q h apart);
      }

module _ (l : Layout) (p : ℕ) (xs ys : List ℕ) (e : fits Flash l xs ≡ true) (a : p < l.pages) (fresh : count_of xs p < 10000)
    (w : PageErased l.pages l.width p xs ys) where
  pub part_erased : Erased p (part_cells Flash l xs) (part_cells Flash l ys)
  part_erased =
      let same : fits Flash l ys ≡ true = ap (leb (size Flash l.pages l.width)) w.length ∙ e in
      rw (part_is Flash l xs e, part_is Flash l ys same) (page_erased l.pages l.width p xs ys a w fresh)
