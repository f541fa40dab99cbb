-- What the check accepts is the writing-out of what it is read as. Assumes nothing.
use Rattle.std.proofs.Common.{◌≡◌, ℕ, zero, suc, ◌+◌, ◌-◌, ◌*◌, ◌/◌, ◌%◌, ◌<◌, ◌≤◌, min, true, false, ◌&&◌, ltb, ◌⊎◌, List, length, get_or, Ok, Err, Result, sym, refl, ap, ◌∙◌, subst, ap₂, inl, inr, add_assoc, arith}
use Rattle.std.proofs.lemmas.List.{ext_get_or}
use Rattle.std.proofs.lemmas.Nat.{div-add-mod', div_below, mod_below}
use Rattle.std.proofs.lemmas.Bool.{cases_lt, cases_eq, cases_Bool, lt-ltb, le-ltb, and_left}
use Rattle.images.specs.declared.fault.ImageFault.{ImageFault}
use Rattle.images.specs.declared.layout.Layout.{Layout}
use Rattle.images.specs.Faults.{image_number}
use Rattle.images.specs.declared.format.Format.{Format}
use Rattle.images.specs.declared.format.Format.TheVariants.{Fuse, Flash}
use Rattle.cells.specs.Cells.{Cells, Alike}
use Rattle.cells.specs.Rows.{Served}
use Rattle.images.specs.Image.{count_bytes, limit_of, bit, reads, width_at, pages_at, page_bytes, page_at, pages_of, width_of, count_of, wear_of, decoded}
use Rattle.images.specs.Check.{image_rows, Checks}
use Rattle.images.specs.Written.{Writable, big_endian_byte, bit_for, page_byte, written, Exact, ReadBack, WrittenOut}
use Rattle.cells.proofs.SameRows.{served_not_refused}
use Rattle.images.proofs.ByteBits.{byte_of_bits, byte_same, bit_for_read, digits_of}
use Rattle.images.proofs.Writing.{written_length, written_pages, written_count, written_width_high, written_width_low, written_page}
use Rattle.images.proofs.Good.{Good, served_good}
use Rattle.images.proofs.ReadBack.{read_back, written_served}

-- the digits of a wear count are its bytes
module _ (xs : List ℕ) (small : (i : ℕ) → get_or xs i 0 < 256) where
  count_digit : (p j : ℕ) → j < 4 → big_endian_byte (count_of xs p) j ≡ get_or xs (1 + (4 * p + j)) 0
  count_digit p j h = go j h
    where
      all : (big_endian_byte (count_of xs p) 0 ≡ get_or xs (1 + 4 * p) 0) × (big_endian_byte (count_of xs p) 1 ≡ get_or xs (2 + 4 * p) 0) × (big_endian_byte (count_of xs p) 2 ≡ get_or xs (3 + 4 * p) 0) × (big_endian_byte (count_of xs p) 3 ≡ get_or xs (4 + 4 * p) 0)
      all =
          digits_of (get_or xs (1 + 4 * p) 0) (get_or xs (2 + 4 * p) 0) (get_or xs (3 + 4 * p) 0) (get_or xs (4 + 4 * p) 0) (small (1 + 4 * p))
          (small (2 + 4 * p)) (small (3 + 4 * p)) (small (4 + 4 * p))

      go : (i : ℕ) → i < 4 → big_endian_byte (count_of xs p) i ≡ get_or xs (1 + (4 * p + i)) 0
      go zero lt = all.0 ∙ ap (λ n. get_or xs n 0) (omega arith)
      go (suc zero) lt = all.1 ∙ ap (λ n. get_or xs n 0) (omega arith)
      go (suc (suc zero)) lt = all.2 ∙ ap (λ n. get_or xs n 0) (omega arith)
      go (suc (suc (suc zero))) lt = all.3 ∙ ap (λ n. get_or xs n 0) (omega arith)
      go (suc (suc (suc (suc i)))) lt = absurd (omega arith)

module _ (f : Format) (xs : List ℕ) (small : (i : ℕ) → get_or xs i 0 < 256) (served : Served (image_rows f xs)) where
  abbrev P : ℕ
  P = pages_of xs

  abbrev c : ℕ
  c = width_of f xs

  abbrev m : Cells
  m = decoded f xs

  good : Good f P c xs
  good = served_good f xs served

  pub writable : Writable f m
  writable =
      record {
        pages_least = good.pages_least;
        pages_most = good.pages_most;
        width_least = good.width_least;
        width_most = good.width_most;
        limit = refl;
        wear = λ p h. below f p;
      }
    where
      below : (g : Format) (p : ℕ) → wear_of g xs p ≤ limit_of g
      below Fuse p = omega arith
      below Flash p = omega arith

  -- a byte of the wear counts
  same_count : (g : Format) → f ≡ g → (k : ℕ) → k < count_bytes g * P → big_endian_byte (wear_of g xs (k / 4)) (k % 4) ≡ get_or xs (1 + k) 0
  same_count Fuse e k h = absurd (omega arith)
  same_count Flash e k h =
      let kept = good.worn e (k / 4) (omega arith) in
      let held : min 10000 (count_of xs (k / 4)) ≡ count_of xs (k / 4) = omega arith in
      let whole : 1 + (4 * (k / 4) + k % 4) ≡ 1 + k = omega arith in
      ap (λ w. big_endian_byte w (k % 4)) held ∙ count_digit xs small (k / 4) (k % 4) (omega arith) ∙ ap (λ n. get_or xs n 0) whole

  -- an unused bit does not read as set
  no_stray : (p i : ℕ) → p < P → i < 8 * page_bytes c → (ltb i c && m.set p i) ≡ m.set p i
  no_stray p i h lt = go (cases_lt i c) (cases_Bool (m.set p i))
    where
      go : ((i < c) ⊎ (c ≤ i)) → ((m.set p i ≡ true) ⊎ (m.set p i ≡ false)) → (ltb i c && m.set p i) ≡ m.set p i
      go (inl used) s = ap (λ b. b && m.set p i) (lt-ltb i c used)
      go (inr unused) (inl s) = absurd (good.clean p h (record { place = i; unused = unused; inside = lt; reads = s }))
      go (inr unused) (inr s) = and_left (ltb i c) (m.set p i) (le-ltb i c unused) ∙ sym s

  -- a byte of a page
  same_byte : (p j : ℕ) → p < P → j < page_bytes c → page_byte f m p j ≡ get_or xs (page_at f P c p + j) 0
  unfolding page_byte
  same_byte p j h lt =
      byte_same (λ k. bit_for f (ltb (8 * j + k) c && m.set p (8 * j + k))) (bit x) each ∙ byte_of_bits x (small (page_at f P c p + j))
    where
      x : ℕ
      x = get_or xs (page_at f P c p + j) 0

      each : (k : ℕ) → k < 8 → bit_for f (ltb (8 * j + k) c && m.set p (8 * j + k)) ≡ bit x k
      each k k8 =
          let quotient : (8 * j + k) / 8 ≡ j = omega arith in
          let remainder : (8 * j + k) % 8 ≡ k = omega arith in
          ap (bit_for f)
          (no_stray p (8 * j + k) h (omega arith) ∙ ap₂ (λ q r. reads f (get_or xs (page_at f P c p + q) 0) r) quotient remainder)
          ∙ bit_for_read f x k

  same_page : (k : ℕ) → k < P * page_bytes c → page_byte f m (k / page_bytes c) (k % page_bytes c) ≡ get_or xs (pages_at f P + k) 0
  same_page k h =
      let w = page_bytes c in
      let some : 0 < page_bytes c = omega (arith, good.width_least) in
      same_byte (k / w) (k % w) (div_below k w P some h) (mod_below k w some)
      ∙ ap (λ n. get_or xs n 0) (add_assoc (pages_at f P) (k / w * w) (k % w) ∙ ap (λ n. pages_at f P + n) (div-add-mod' k w))

  abbrev Same : ℕ → Type 0
  Same i = get_or xs i 0 ≡ get_or (written f m) i 0

  same_width : (i : ℕ) → width_at f P ≤ i → i < width_at f P + 2 → Same i
  same_width i lo hi = go (cases_eq i (width_at f P))
    where
      go : ((i ≡ width_at f P) ⊎ (i ≡ width_at f P → ⊥)) → Same i
      go (inl e) = subst Same (sym e) (let lt = small (width_at f P + 1) in let w = written_width_high f m in omega arith)
      go (inr ne) =
          let next : i ≡ width_at f P + 1 = omega arith in
          subst Same (sym next) (let lt = small (width_at f P + 1) in let w = written_width_low f m in omega arith)

  same_places : (i : ℕ) → i < length xs → Same i
  same_places i h = by_first (cases_lt i 1)
    where
      by_width : ((i < width_at f P + 2) ⊎ (width_at f P + 2 ≤ i)) → width_at f P ≤ i → Same i
      by_width (inl lt) ge = same_width i ge lt
      by_width (inr past) ge =
          let k : pages_at f P + (i - pages_at f P) ≡ i = omega arith in
          let room : i - pages_at f P < P * page_bytes c = omega (arith, good.long) in
          subst Same k (sym (same_page (i - pages_at f P) room) ∙ sym (written_page f m (i - pages_at f P) room))

      by_count : ((i < width_at f P) ⊎ (width_at f P ≤ i)) → 1 ≤ i → Same i
      by_count (inl lt) ge =
          let k : 1 + (i - 1) ≡ i = omega arith in
          let room : i - 1 < count_bytes f * P = omega arith in
          subst Same k (sym (same_count f refl (i - 1) room) ∙ sym (written_count f m (i - 1) room))
      by_count (inr past) ge = by_width (cases_lt i (width_at f P + 2)) past

      by_first : ((i < 1) ⊎ (1 ≤ i)) → Same i
      by_first (inl lt) = let zero_th : i ≡ 0 = omega arith in subst Same (sym zero_th) (sym (written_pages f m))
      by_first (inr ge) = by_count (cases_lt i (width_at f P)) ge

  pub accepted : xs ≡ written f m
  accepted = ext_get_or 0 xs (written f m) (good.long ∙ sym (written_length f m)) same_places

-- The laws of the check, by what it answers.
pub exact : (f : Format) (xs : List ℕ) → ((i : ℕ) → get_or xs i 0 < 256) → (r : Result Layout ImageFault) → Checks f xs r → Exact f xs r
exact f xs small (Ok l) checks = (writable f xs small checks.0, accepted f xs small checks.0)
exact f xs small (Err e) refused = λ m ok same.
    served_not_refused (image_rows f xs) (image_number e) (subst (λ ys. Served (image_rows f ys)) (sym same) (written_served f m ok)) refused

pub written_out : (f : Format) (xs : List ℕ) (r : Result Layout ImageFault) → Checks f xs r → Exact f xs r → WrittenOut f xs
written_out f xs (Ok l) checks is = λ _. is
written_out f xs (Err e) checks is = λ served. absurd (served_not_refused (image_rows f xs) (image_number e) served checks)

pub reads_back : (f : Format) (xs : List ℕ) → ReadBack f xs
reads_back f xs m ok same = subst (λ ys. Alike m (decoded f ys)) (sym same) (read_back f m ok)
