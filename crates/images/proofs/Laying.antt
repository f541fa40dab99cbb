-- A fresh flash image that is laid into given bytes, piece by piece. Assumes nothing.
use Rattle.std.proofs.Common.{◌≡◌, ℕ, ◌+◌, ◌*◌, ◌/◌, ◌%◌, ◌≤◌, List, [], ◌∷◌, ◌++◌, length, set, take, replicate, sym, ap, ◌∙◌, ap₂, arith}
use borrow.Rule.Slice.PartMut.{put_mid}
use Rattle.std.proofs.lemmas.List.{append_assoc, take_more_set, drop-set-lt, length-set, length-replicate}
use Rattle.std.proofs.lemmas.Slice.{take-put_mid, drop-put_mid}
use Rattle.images.specs.declared.format.Format.TheVariants.{Flash}
use Rattle.images.specs.Image.{page_bytes, size}
use Rattle.images.specs.Fresh.{WritesBlank}
use Rattle.images.proofs.Mids.{mid_length}
use Rattle.images.proofs.Blank.{blank_bytes}

-- the first byte, the wear counts, the width and the pages, of which each is put where the one before it ends
module _ (P c n k₁ k₂ k₃ : ℕ) (xs zs ws fs : List ℕ) (few : P ≤ 64) (narrow : c ≤ 1024) (whole : n ≡ size Flash P c) (room : length xs ≡ 8451)
    (counts : zs ≡ replicate k₁ 0) (width : ws ≡ (c / 256) ∷ ((c % 256) ∷ [])) (pages : fs ≡ replicate k₃ 255)
    (one : k₁ ≡ 4 * P) (two : k₂ ≡ 2) (three : k₃ ≡ P * page_bytes c) (within : n ≤ 8451) where
  abbrev first : List ℕ
  first = set xs 0 P

  abbrev counted : List ℕ
  counted = put_mid 1 k₁ first zs

  abbrev wide : List ℕ
  wide = put_mid (1 + 4 * P) k₂ counted ws

  pub blank_laid : WritesBlank P c xs (put_mid (1 + 4 * P + 2) k₃ wide fs) n
  blank_laid =
      let zeros : length zs ≡ k₁ = ap length counts ∙ length-replicate k₁ 0 in
      let ones : length fs ≡ k₃ = ap length pages ∙ length-replicate k₃ 255 in
      let pair : length ws ≡ 2 = ap length width in
      let long₀ : length first ≡ length xs = length-set xs 0 P in
      let long₁ : length counted ≡ length first = mid_length 0 1 k₁ first zs (omega arith) zeros in
      let long₂ : length wide ≡ length counted = mid_length 0 (1 + 4 * P) k₂ counted ws (omega arith) (omega arith) in
      let e₀ : take 1 first ≡ P ∷ [] = take_more_set xs 0 P (omega arith) in
      let e₁ : take (1 + 4 * P) counted ≡ take 1 first ++ zs = take-put_mid 1 k₁ first zs (1 + 4 * P) (omega arith) (omega arith) in
      let e₂ : take (1 + 4 * P + 2) wide ≡ take (1 + 4 * P) counted ++ ws = take-put_mid (1 + 4 * P) k₂ counted ws (1 + 4 * P + 2) (omega arith) (omega arith) in
      record {
        size = whole;
        image =
            take-put_mid (1 + 4 * P + 2) k₃ wide fs n (omega arith) (omega arith)
            ∙ ap (λ l. l ++ fs) (e₂ ∙ ap₂ ◌++◌ (e₁ ∙ ap₂ ◌++◌ e₀ (counts ∙ ap (λ k. replicate k 0) one)) width)
            ∙ append_assoc (P ∷ replicate (4 * P) 0) ((c / 256) ∷ ((c % 256) ∷ [])) fs
            ∙ ap (λ l. (P ∷ replicate (4 * P) 0) ++ ((c / 256) ∷ ((c % 256) ∷ l))) (pages ∙ ap (λ k. replicate k 255) three)
            ∙ sym (blank_bytes P c);
        others =
            drop-put_mid (1 + 4 * P + 2) k₃ wide fs n (omega arith) (omega arith) ones
            ∙ drop-put_mid (1 + 4 * P) k₂ counted ws n (omega arith) (omega arith) (omega arith)
            ∙ drop-put_mid 1 k₁ first zs n (omega arith) (omega arith) zeros
            ∙ drop-set-lt n xs 0 P (omega arith);
      }
