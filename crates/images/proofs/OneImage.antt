-- Cells that agree have the same image, byte for byte. Assumes nothing.
use Rattle.std.proofs.Common.{◌≡◌, ℕ, zero, suc, ◌+◌, ◌*◌, ◌/◌, ◌%◌, ◌<◌, ◌≤◌, Bool, true, false, ◌&&◌, ltb, ◌⊎◌, List, ◌∷◌, ◌++◌, length, map, get_or, All, sym, refl, ap, ◌∙◌, ap₂, inl, inr, arith}
use Rattle.std.specs.List.{range_with_len}
use Rattle.std.proofs.lemmas.List.{get_or_past}
use Rattle.std.proofs.lemmas.List.Elements.{All-get_or}
use Rattle.std.proofs.lemmas.List.FromFn.{length-map-range_with_len, get_or-map-range_with_len, fill_by_all}
use Rattle.std.proofs.lemmas.Nat.{div_below}
use Rattle.std.proofs.lemmas.Bool.{cases_lt, ltb-true}
use Rattle.images.specs.declared.format.Format.{Format}
use Rattle.images.specs.declared.format.Format.TheVariants.{Fuse, Flash}
use Rattle.cells.specs.Cells.{Cells, Alike}
use Rattle.images.specs.Image.{count_bytes, page_bytes, decoded}
use Rattle.images.specs.Written.{big_endian_byte, bit_for, page_byte, count_section, page_section, written}
use Rattle.images.specs.OneImage.{ImagesAgree}
use Rattle.images.proofs.ByteBits.{byte_same}
use Rattle.images.proofs.Accepted.{accepted}

-- two functions that agree below n make one list of the numbers below n
map_same :
    (f g : ℕ → ℕ) (n : ℕ) → ((k : ℕ) → k < n → f k ≡ g k) →
    map f (range_with_len 0 n) ≡ map g (range_with_len 0 n)
map_same f g n same =
    fill_by_all g (map f (range_with_len 0 n)) n 0 (length-map-range_with_len f 0 n)
    (λ k h. get_or-map-range_with_len f 0 n k k 0 h (omega arith) ∙ same k h)

module _ (f : Format) (m n : Cells) (alike : Alike m n) where
  -- a place of a page holds the same cell in both, or past the width no cell in either
  place_same : (p i : ℕ) → p < m.pages → (ltb i n.width && n.set p i) ≡ (ltb i m.width && m.set p i)
  place_same p i h = ap (λ w. ltb i w && n.set p i) alike.shape.width ∙ go (ltb i m.width) refl
    where
      go : (b : Bool) → ltb i m.width ≡ b → (b && n.set p i) ≡ (b && m.set p i)
      go true e = alike.set p i (record { page = h; cell = ltb-true i m.width e })
      go false e = refl

  page_byte_same : (p j : ℕ) → p < m.pages → page_byte f n p j ≡ page_byte f m p j
  unfolding page_byte
  page_byte_same p j h = byte_same _ _ (λ k lt. ap (bit_for f) (place_same p (8 * j + k) h))

  counts_same : count_section f n ≡ count_section f m
  counts_same =
      ap (λ P. map (λ k. big_endian_byte (n.wear (k / 4)) (k % 4)) (range_with_len 0 (count_bytes f * P)))
      alike.shape.pages
      ∙ map_same _ _ (count_bytes f * m.pages)
      (λ k h. ap (λ w. big_endian_byte w (k % 4)) (alike.wear (k / 4) (page_of_count f k h)))
    where
      page_of_count : (g : Format) (k : ℕ) → k < count_bytes g * m.pages → k / 4 < m.pages
      page_of_count Fuse k h = absurd (omega arith)
      page_of_count Flash k h = omega arith

  pages_same : page_section f n ≡ page_section f m
  pages_same =
      ap₂
      (λ P c. map (λ k. page_byte f n (k / page_bytes c) (k % page_bytes c)) (range_with_len 0 (P * page_bytes c)))
      alike.shape.pages alike.shape.width
      ∙ map_same _ _ (m.pages * page_bytes m.width)
      (λ k h.
      page_byte_same (k / page_bytes m.width) (k % page_bytes m.width)
      (page_of_byte k (page_bytes m.width) h))
    where
      page_of_byte : (k b : ℕ) → k < m.pages * b → k / b < m.pages
      page_of_byte k zero h = absurd (omega arith)
      page_of_byte k (suc b) h = div_below k (suc b) m.pages (omega arith) h

  pub written_same : written f n ≡ written f m
  unfolding written
  written_same =
      ap₂ ◌++◌ (ap₂ ◌∷◌ alike.shape.pages counts_same)
      (ap₂ (λ c ys. (c / 256) ∷ ((c % 256) ∷ ys)) alike.shape.width pages_same)

-- a byte, or the 0 that is read past the end
small : (xs : List ℕ) → All (λ x. x < 256) xs → (i : ℕ) → get_or xs i 0 < 256
small xs bytes i = go (cases_lt i (length xs))
  where
    go : ((i < length xs) ⊎ (length xs ≤ i)) → get_or xs i 0 < 256
    go (inl h) = All-get_or (λ x. x < 256) xs i 0 h bytes
    go (inr h) = let past = get_or_past xs i 0 h in omega arith

-- each of the two is what its cells are written out as
pub images_agree : ImagesAgree
images_agree f xs ys bytes bytes' served served' alike =
    accepted f ys (small ys bytes') served' ∙ written_same f (decoded f xs) (decoded f ys) alike
    ∙ sym (accepted f xs (small xs bytes) served)
