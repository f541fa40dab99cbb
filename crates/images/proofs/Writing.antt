-- The bytes of a written image, place by place. Assumes nothing.
use Rattle.std.proofs.Common.{◌≡◌, ℕ, ◌+◌, ◌*◌, ◌/◌, ◌%◌, ◌<◌, List, [], ◌∷◌, ◌++◌, length, get_or, sym, refl, ap, ◌∙◌, arith}
use Rattle.std.proofs.lemmas.List.{length-append, get_or_append_left, get_or-append-add}
use Rattle.std.proofs.lemmas.List.FromFn.{length-map-range_with_len, get_or-map-range_with_len}
use Rattle.images.specs.declared.format.Format.{Format}
use Rattle.cells.specs.Cells.{Cells}
use Rattle.images.specs.Image.{count_bytes, width_at, pages_at, page_bytes, size}
use Rattle.images.specs.Written.{big_endian_byte, page_byte, count_section, page_section, written}

module _ (f : Format) (m : Cells) where
  abbrev head : List ℕ
  head = m.pages ∷ count_section f m

  abbrev tail : List ℕ
  tail = (m.width / 256) ∷ ((m.width % 256) ∷ page_section f m)

  head_length : length head ≡ width_at f m.pages
  head_length = let e = length-map-range_with_len (λ k. big_endian_byte (m.wear (k / 4)) (k % 4)) 0 (count_bytes f * m.pages) in omega arith

  tail_length : length tail ≡ 2 + m.pages * page_bytes m.width
  tail_length =
      let e =
      length-map-range_with_len (λ k. page_byte f m (k / page_bytes m.width) (k % page_bytes m.width)) 0
      (m.pages * page_bytes m.width) in
      omega arith

  pub written_length : length (written f m) ≡ size f m.pages m.width
  unfolding written
  written_length =
      let both = length-append head tail in
      let a = head_length in
      let b = tail_length in
      omega arith

  pub written_pages : get_or (written f m) 0 0 ≡ m.pages
  unfolding written
  written_pages = refl

  pub written_count : (k : ℕ) → k < count_bytes f * m.pages → get_or (written f m) (1 + k) 0 ≡ big_endian_byte (m.wear (k / 4)) (k % 4)
  unfolding written
  written_count k h =
      let a = head_length in
      get_or_append_left head tail 0 (1 + k) (omega arith) ∙ get_or-append-add (m.pages ∷ []) (count_section f m) k 0
      ∙ get_or-map-range_with_len (λ i. big_endian_byte (m.wear (i / 4)) (i % 4)) 0 (count_bytes f * m.pages) k k 0 h (omega arith)

  -- a place of the last section
  in_tail : (k n : ℕ) → n ≡ width_at f m.pages + k → get_or (written f m) n 0 ≡ get_or tail k 0
  unfolding written
  in_tail k n e = ap (λ i. get_or (head ++ tail) i 0) (e ∙ ap (λ i. i + k) (sym head_length)) ∙ get_or-append-add head tail k 0

  pub written_width_high : get_or (written f m) (width_at f m.pages) 0 ≡ m.width / 256
  written_width_high = in_tail 0 (width_at f m.pages) (omega arith)

  pub written_width_low : get_or (written f m) (width_at f m.pages + 1) 0 ≡ m.width % 256
  written_width_low = in_tail 1 (width_at f m.pages + 1) (omega arith)

  pub written_page :
      (k : ℕ) → k < m.pages * page_bytes m.width →
      get_or (written f m) (pages_at f m.pages + k) 0 ≡ page_byte f m (k / page_bytes m.width) (k % page_bytes m.width)
  written_page k h =
      in_tail (2 + k) (pages_at f m.pages + k) (omega arith)
      ∙ get_or-append-add ((m.width / 256) ∷ ((m.width % 256) ∷ [])) (page_section f m) k 0
      ∙ get_or-map-range_with_len (λ i. page_byte f m (i / page_bytes m.width) (i % page_bytes m.width)) 0 (m.pages * page_bytes m.width) k k 0 h
      (omega arith)
