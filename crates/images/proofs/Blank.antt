-- The bytes of a fresh flash image. Assumes nothing.
use Rattle.std.proofs.Common.{◌≡◌, ℕ, ◌+◌, ◌-◌, ◌*◌, ◌/◌, ◌%◌, ◌^◌, ◌<◌, ◌≤◌, false, ◌&&◌, ltb, List, [], ◌∷◌, ◌++◌, map, replicate, sym, refl, ap, ◌∙◌, ap₂, inl, inr, arith}
use native.Mathlib.Nat.{zero-div}
use Rattle.std.specs.List.{range_with_len}
use Rattle.std.proofs.lemmas.List.{ext_get_or, length-replicate, get_or-replicate}
use Rattle.std.proofs.lemmas.List.FromFn.{length-map-range_with_len, get_or-map-range_with_len}
use Rattle.std.proofs.lemmas.Bool.{and_right}
use Rattle.images.specs.declared.format.Format.TheVariants.{Flash}
use Rattle.cells.specs.Rows.{Served}
use Rattle.images.specs.Image.{page_bytes}
use Rattle.images.specs.Written.{Writable, big_endian_byte, bit_for, page_byte, written}
use Rattle.images.specs.Fresh.{blank, fresh_rows, FreshImage}
use Rattle.images.proofs.ByteBits.{byte_same}
use Rattle.images.proofs.ReadBack.{read_back, written_served}

-- a list of one number, by its places
constant : (f : ℕ → ℕ) (n y : ℕ) → ((k : ℕ) → f k ≡ y) → map f (range_with_len 0 n) ≡ replicate n y
constant f n y same =
    ext_get_or 0 (map f (range_with_len 0 n)) (replicate n y) (length-map-range_with_len f 0 n ∙ sym (length-replicate n y))
    (λ i h.
    let lt : i < n = rw (length-map-range_with_len f 0 n) at h in
    get_or-map-range_with_len f 0 n i i 0 lt (omega arith) ∙ same i ∙ sym (get_or-replicate n i y 0 lt))

no_wear : (k : ℕ) → big_endian_byte 0 (k % 4) ≡ 0
no_wear k = ap (λ x. x % 256) (zero-div (256 ^ (3 - k % 4)))

no_cell : (P c p j : ℕ) → page_byte Flash (blank P c) p j ≡ 255
unfolding page_byte
no_cell P c p j =
    byte_same (λ k. bit_for Flash (ltb (8 * j + k) c && false)) (λ k. 1)
    (λ k h. ap (bit_for Flash) (and_right (ltb (8 * j + k) c) false refl))

module _ (P c : ℕ) where
  pub blank_bytes :
      written Flash (blank P c) ≡ (P ∷ replicate (4 * P) 0) ++ ((c / 256) ∷ ((c % 256) ∷ replicate (P * page_bytes c) 255))
  unfolding written
  blank_bytes =
      ap₂ (λ counts pages. (P ∷ counts) ++ ((c / 256) ∷ ((c % 256) ∷ pages)))
      (constant (λ k. big_endian_byte 0 (k % 4)) (4 * P) 0 no_wear)
      (constant (λ k. page_byte Flash (blank P c) (k / page_bytes c) (k % page_bytes c)) (P * page_bytes c) 255 (λ k. no_cell P c _ _))

  pub fresh_image : Served (fresh_rows P c) → (xs : List ℕ) → xs ≡ written Flash (blank P c) → FreshImage P c xs
  fresh_image served xs e =
      let a : P ≡ 0 → ⊥ = λ z. served.0 (inl z) in
      let b : 64 < P → ⊥ = λ h. served.0 (inr h) in
      let d : c ≡ 0 → ⊥ = λ z. served.1.0 (inl z) in
      let f : 1024 < c → ⊥ = λ h. served.1.0 (inr h) in
      let ok : Writable Flash (blank P c) =
      record {
        pages_least = omega arith;
        pages_most = omega arith;
        width_least = omega arith;
        width_most = omega arith;
        limit = refl;
        wear = λ p h. omega arith;
      } in
      record { bytes = e; accepted = rw e (written_served Flash (blank P c) ok); means = rw e (read_back Flash (blank P c) ok) }

-- a width as its two bytes
pub two_bytes : (c : ℕ) (ws : List ℕ) → c ≤ 1024 → ws ≡ (c / 256 % 256) ∷ ((c % 256) ∷ []) → ws ≡ (c / 256) ∷ ((c % 256) ∷ [])
two_bytes c ws h e = let high : c / 256 % 256 ≡ c / 256 = omega arith in e ∙ ap (λ b. b ∷ ((c % 256) ∷ [])) high
