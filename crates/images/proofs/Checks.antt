-- The steps of the check: the wear counts one by one, and the unused bits of a page. Assumes nothing.
use Rattle.std.proofs.Common.{◌≡◌, ℕ, zero, suc, ◌+◌, ◌-◌, ◌*◌, ◌<◌, ◌≤◌, Bool, true, ◌⊎◌, List, ◌++◌, Decides, sym, subst, subst₂, inl, inr, add-one, arith}
use Rattle.std.proofs.lemmas.Bool.Decides.{Decides-like}
use Rattle.std.proofs.lemmas.Bool.{cases_eq}
use Rattle.images.specs.declared.format.Format.{Format}
use Rattle.cells.specs.Rows.{Row, Refused, Served}
use Rattle.images.specs.Image.{page_bytes, pages_of, width_of, cells_read}
use Rattle.images.specs.Check.{page_count_rows, wear_count_rows, wear_counts_below, wear_rows, width_rows, body_rows, image_rows, Stray}
use Rattle.images.proofs.Tables.{served_both, served_first, served_rest, refused_first, refused_rest}

module _ (xs : List ℕ) where
  pub counts_none : Served (wear_counts_below xs 0)
  unfolding wear_counts_below
  counts_none = tt

  pub counts_more : (k : ℕ) → Served (wear_counts_below xs k) → Served (wear_count_rows xs k) → Served (wear_counts_below xs (k + 1))
  unfolding wear_counts_below
  counts_more k a b = rw add-one (served_both (wear_counts_below xs k) (wear_count_rows xs k) a b)

  -- the first count that is refused refuses them all
  pub counts_refused : (k n r : ℕ) → k < n → Served (wear_counts_below xs k) → Refused (wear_count_rows xs k) r → Refused (wear_counts_below xs n) r
  unfolding wear_counts_below
  counts_refused k zero r h a b = absurd (omega arith)
  counts_refused k (suc n) r h a b = go (λ lt. counts_refused k n r lt a b) (cases_eq k n)
    where
      go : (k < n → Refused (wear_counts_below xs n) r) → ((k ≡ n) ⊎ (k ≡ n → ⊥)) → Refused (wear_counts_below xs n ++ wear_count_rows xs n) r
      go earlier (inl e) = refused_rest (wear_counts_below xs n) (wear_count_rows xs n) r (subst (λ m. Served (wear_counts_below xs m)) e a) (subst (λ m. Refused (wear_count_rows xs m) r) e b)
      go earlier (inr ne) = refused_first (wear_counts_below xs n) (wear_count_rows xs n) r (earlier (omega arith))

  -- each count within the table passes its own rows
  pub counts_each : (n : ℕ) → Served (wear_counts_below xs n) → (k : ℕ) → k < n → Served (wear_count_rows xs k)
  unfolding wear_counts_below
  counts_each zero a k h = absurd (omega arith)
  counts_each (suc n) a k h = go (counts_each n (served_first (wear_counts_below xs n) (wear_count_rows xs n) a) k) (cases_eq k n)
    where
      go : (k < n → Served (wear_count_rows xs k)) → ((k ≡ n) ⊎ (k ≡ n → ⊥)) → Served (wear_count_rows xs k)
      go earlier (inl e) = subst (λ m. Served (wear_count_rows xs m)) (sym e) (served_rest (wear_counts_below xs n) (wear_count_rows xs n) a)
      go earlier (inr ne) = earlier (omega arith)

  pub counts_all : (n : ℕ) → ((k : ℕ) → k < n → Served (wear_count_rows xs k)) → Served (wear_counts_below xs n)
  unfolding wear_counts_below
  counts_all zero each = tt
  counts_all (suc n) each = served_both (wear_counts_below xs n) (wear_count_rows xs n) (counts_all n (λ k h. each k (omega arith))) (each n (omega arith))

-- The steps of the check, in their order, make up the whole of it.
module _ (f : Format) (xs : List ℕ) (first : Served (page_count_rows xs)) where
  abbrev body : List Row
  body = body_rows f (pages_of xs) (width_of f xs) xs

  pub at_wear : (r : ℕ) → Refused (wear_rows f xs) r → Refused (image_rows f xs) r
  at_wear r b = refused_rest (page_count_rows xs) _ r first (refused_first (wear_rows f xs) _ r b)

  module _ (wear : Served (wear_rows f xs)) where
    pub at_width : (r : ℕ) → Refused (width_rows f xs) r → Refused (image_rows f xs) r
    at_width r b =
        refused_rest (page_count_rows xs) _ r first (refused_rest (wear_rows f xs) _ r wear (refused_first (width_rows f xs) body r b))

    module _ (width : Served (width_rows f xs)) (P c : ℕ) (p : P ≡ pages_of xs) (w : c ≡ width_of f xs) where
      pub at_body : (r : ℕ) → Refused (body_rows f P c xs) r → Refused (image_rows f xs) r
      at_body r b =
          refused_rest (page_count_rows xs) _ r first
          (refused_rest (wear_rows f xs) _ r wear
          (refused_rest (width_rows f xs) body r width (subst₂ (λ P' c'. Refused (body_rows f P' c' xs) r) p w b)))

      pub at_end : Served (body_rows f P c xs) → Served (image_rows f xs)
      at_end b =
          served_both (page_count_rows xs) _ first
          (served_both (wear_rows f xs) _ wear
          (served_both (width_rows f xs) body width (subst₂ (λ P' c'. Served (body_rows f P' c' xs)) p w b)))

-- A page has an unused bit that reads as set where some bit between its cells and its end does.
module _ (f : Format) (P c : ℕ) (xs : List ℕ) (p : ℕ) where
  pub stray_decided :
      (end : ℕ) → end ≡ 8 * page_bytes c → (r : Bool) →
      Decides r ((i : ℕ) × (c ≤ i) × (i < c + (end - c)) × ((cells_read f P c xs).set p i ≡ true)) → Decides r (Stray f P c xs p)
  stray_decided end whole r d =
      Decides-like r (λ s. let lt = s.2 in record { place = s.0; unused = s.1; inside = omega arith; reads = s.3 })
      (λ s. let lt = s.inside in let le = s.unused in (s.place, s.unused, omega arith, s.reads)) d
