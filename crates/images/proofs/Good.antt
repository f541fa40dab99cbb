-- An accepted image by what holds of it, in place of the table of what must not. Assumes nothing.
use Rattle.std.proofs.Common.{◌≡◌, ℕ, ◌*◌, ◌<◌, ◌≤◌, ◌⊎◌, List, ◌++◌, length, refl, ap, subst, inl, inr, arith}
use Rattle.images.specs.declared.format.Format.{Format}
use Rattle.images.specs.declared.format.Format.TheVariants.{Fuse, Flash}
use Rattle.cells.specs.Rows.{Served}
use Rattle.images.specs.Image.{count_bytes, width_at, size, pages_of, width_of, count_of}
use Rattle.images.specs.Check.{page_count_rows, wear_counts_below, wear_rows, width_rows, body_rows, image_rows, Stray}
use Rattle.images.proofs.Tables.{served_first, served_rest}
use Rattle.images.proofs.Checks.{counts_each, counts_all, at_end}

-- xs is a good image of P pages of c cells
pub record Good (f : Format) (P c : ℕ) (xs : List ℕ) : Type 0 where
  pub pages : P ≡ pages_of xs
  pub width : c ≡ width_of f xs
  pub pages_least : 1 ≤ P
  pub pages_most : P ≤ 64
  pub width_least : 1 ≤ c
  pub width_most : c ≤ 1024
  pub long : length xs ≡ size f P c
  pub worn : f ≡ Flash → (p : ℕ) → p < P → count_of xs p ≤ 10000
  pub clean : (p : ℕ) → p < P → Stray f P c xs p → ⊥

module _ (f : Format) (xs : List ℕ) (served : Served (image_rows f xs)) where
  abbrev P : ℕ
  P = pages_of xs

  abbrev c : ℕ
  c = width_of f xs

  first : Served (page_count_rows xs)
  first = served_first (page_count_rows xs) _ served

  after_first : Served (wear_rows f xs ++ (width_rows f xs ++ body_rows f P c xs))
  after_first = served_rest (page_count_rows xs) _ served

  after_wear : Served (width_rows f xs ++ body_rows f P c xs)
  after_wear = served_rest (wear_rows f xs) _ after_first

  width_part : Served (width_rows f xs)
  width_part = served_first (width_rows f xs) (body_rows f P c xs) after_wear

  body_part : Served (body_rows f P c xs)
  body_part = served_rest (width_rows f xs) (body_rows f P c xs) after_wear

  worn_part : f ≡ Flash → (p : ℕ) → p < P → count_of xs p ≤ 10000
  worn_part e p h =
      let rows : Served (wear_counts_below xs P) =
      subst (λ g. Served (wear_rows g xs)) e (served_first (wear_rows f xs) (width_rows f xs ++ body_rows f P c xs) after_first) in
      omega (arith, (counts_each xs P rows p h).1.0)

  pub served_good : Good f P c xs
  served_good =
      let a : P ≡ 0 → ⊥ = λ e. first.1.0 (inl e) in
      let b : 64 < P → ⊥ = λ h. first.1.0 (inr h) in
      let d : c ≡ 0 → ⊥ = λ e. width_part.1.0 (inl e) in
      let e : 1024 < c → ⊥ = λ h. width_part.1.0 (inr h) in
      record {
        pages = refl;
        width = refl;
        pages_least = omega arith;
        pages_most = omega arith;
        width_least = omega arith;
        width_most = omega arith;
        long = omega (arith, body_part.0, body_part.1.1.0);
        worn = worn_part;
        clean = λ p h s. body_part.1.0 (p, h, s);
      }

module _ (f : Format) (P c : ℕ) (xs : List ℕ) (good : Good f P c xs) where
  first_served : Served (page_count_rows xs)
  first_served = let e = good.pages in let n = good.long in (λ h. omega arith, (no_row, tt))
    where
      no_row : ((pages_of xs ≡ 0) ⊎ (64 < pages_of xs)) → ⊥
      no_row (inl h) = let e = good.pages in omega (arith, good.pages_least)
      no_row (inr h) = let e = good.pages in omega (arith, good.pages_most)

  wear_served : (g : Format) → f ≡ g → Served (wear_rows g xs)
  wear_served Fuse e = tt
  wear_served Flash e =
      counts_all xs (pages_of xs)
      (λ k h.
      let n = good.long in
      let same = good.pages in
      let four : count_bytes f * P ≡ 4 * P = ap (λ g. count_bytes g * P) e in
      let kept = good.worn e k (omega arith) in
      (λ short. omega arith, (λ over. omega arith, tt)))

  width_served : Served (width_rows f xs)
  width_served =
      let n = good.long in
      let at = ap (λ q. width_at f q) good.pages in
      (λ h. omega arith, (no_row, tt))
    where
      no_row : ((width_of f xs ≡ 0) ⊎ (1024 < width_of f xs)) → ⊥
      no_row (inl h) = let e = good.width in omega (arith, good.width_least)
      no_row (inr h) = let e = good.width in omega (arith, good.width_most)

  pub good_served : Served (image_rows f xs)
  good_served =
      let n = good.long in
      at_end f xs first_served (wear_served f refl) width_served P c good.pages good.width
      (λ h. omega arith, (λ s. good.clean s.0 s.1 s.2, (λ h. omega arith, tt)))
