-- An accepted image stays accepted by marks and erases. Assumes nothing.
use Rattle.std.proofs.Common.{◌≡◌, ℕ, ◌+◌, ◌*◌, ◌/◌, ◌%◌, ◌<◌, ◌≤◌, Bool, true, false, cond, ◌⊎◌, List, length, get_or, set, Ok, Err, Result, sym, refl, ap, ◌∙◌, subst, ap₂, inl, inr, arith}
use Rattle.std.specs.Result.{result_unwrap_or}
use Rattle.std.proofs.lemmas.Bool.{both_ways, cases_eq, le-leb}
use Rattle.images.specs.declared.fault.ImageFault.{ImageFault}
use Rattle.images.specs.Faults.{image_number}
use Rattle.images.specs.declared.format.Format.{Format}
use Rattle.images.specs.declared.format.Format.TheVariants.{Flash}
use Rattle.images.specs.declared.layout.Layout.{Layout}
use Rattle.cells.specs.Rows.{Refused}
use Rattle.cells.specs.Device.{Marked}
use Rattle.images.specs.Image.{count_bytes, width_at, page_at, width_of, count_of, cells_read, fits, part_cells, SetsBit}
use Rattle.images.specs.Check.{image_rows, Stray, Accepted, Checks, ReadsAs}
use Rattle.images.specs.Bytes.{BitMarked, PageErased, Finds}
use Rattle.images.proofs.Offsets.{shown, part_is}
use Rattle.cells.proofs.SameRows.{served_not_refused}
use Rattle.images.proofs.Good.{Good, served_good, good_served}
use Rattle.images.proofs.Writes.{bit_written, bit_kept, part_marked, count_same, bit_erased, bit_spared, count_spared}

-- the good image that a layout is the layout of
layout_good : (f : Format) (l : Layout) (xs : List ℕ) → Accepted f l xs → Good f l.pages l.width xs
layout_good f l xs was = rw (was.1, was.2) (served_good f xs was.0)

-- Bytes that have the length and the counts of a good image, wear within the limit, and no unused bit that reads as set.
module _ (f : Format) (l : Layout) (xs ys : List ℕ) (was : Good f l.pages l.width xs) (same_length : length ys ≡ length xs)
    (same_pages : get_or ys 0 0 ≡ get_or xs 0 0)
    (same_width_lem : (j : ℕ) → width_at f l.pages ≤ j → j < width_at f l.pages + 2 → get_or ys j 0 ≡ get_or xs j 0)
    (worn : f ≡ Flash → (p : ℕ) → p < l.pages → count_of ys p ≤ 10000)
    (clean : (p : ℕ) → p < l.pages → Stray f l.pages l.width ys p → ⊥) where
  width_kept : l.width ≡ width_of f ys
  width_kept =
      let at = width_at f l.pages in
      let high = same_width_lem (width_at f l.pages) (omega arith) (omega arith) in
      let low = same_width_lem (width_at f l.pages + 1) (omega arith) (omega arith) in
      let shown : l.width ≡ get_or xs (width_at f l.pages) 0 * 256 + get_or xs (width_at f l.pages + 1) 0 =
      was.width ∙ ap (λ P. get_or xs (width_at f P) 0 * 256 + get_or xs (width_at f P + 1) 0) (sym was.pages) in
      let now : l.width ≡ get_or ys (width_at f l.pages) 0 * 256 + get_or ys (width_at f l.pages + 1) 0 = omega arith in
      now ∙ ap (λ P. get_or ys (width_at f P) 0 * 256 + get_or ys (width_at f P + 1) 0) (was.pages ∙ sym same_pages)

  pub still_accepted : Accepted f l ys
  still_accepted = (
    good_served f l.pages l.width ys
        (record {
          pages = was.pages ∙ sym same_pages;
          width = width_kept;
          pages_least = was.pages_least;
          pages_most = was.pages_most;
          width_least = was.width_least;
          width_most = was.width_most;
          long = same_length ∙ was.long;
          worn = worn;
          clean = clean;
        }),
    was.pages ∙ sym same_pages,
    width_kept,
  )

-- a mark
module _ (f : Format) (l : Layout) (p i : ℕ) (xs ys : List ℕ) (a : p < l.pages) (b : i < l.width)
    (w : BitMarked f (page_at f l.pages l.width p + i / 8) (i % 8) xs ys) where
  pub mark_intact : Accepted f l xs → Accepted f l ys
  mark_intact was =
      let good = layout_good f l xs was in
      still_accepted f l xs ys good w.length (w.others 0 (λ at. omega arith)) (λ j lo hi. w.others j (λ at. omega arith))
      (λ e q h.
      let four : count_bytes f * l.pages ≡ 4 * l.pages = ap (λ g. count_bytes g * l.pages) e in
      let kept = good.worn e q h in
      let same = count_same xs ys q (λ j lo hi. w.others j (λ at. omega arith)) in
      omega arith)
      (λ q h s.
      let unused = s.unused in
      let inside = s.inside in
      good.clean q h
      (record {
        place = s.place;
        unused = s.unused;
        inside = s.inside;
        reads =
            sym (bit_kept f l.pages l.width p i xs ys a b w q s.place h (omega arith) (λ here. let same = here.1 in omega arith))
            ∙ s.reads;
      }))

-- an erase
module _ (l : Layout) (p : ℕ) (xs ys : List ℕ) (a : p < l.pages) (fresh : count_of xs p < 10000)
    (w : PageErased l.pages l.width p xs ys) where
  pub erase_intact : Accepted Flash l xs → Accepted Flash l ys
  erase_intact was =
      let good = layout_good Flash l xs was in
      still_accepted Flash l xs ys good w.length
      (w.others 0 (λ o. let lo = o.0 in omega arith) (λ o. let lo = o.0 in omega arith))
      (λ j lo hi. w.others j (λ o. let ge = o.0 in omega arith) (λ o. let lt = o.1 in omega arith))
      (λ e q h. worn good q h (cases_eq q p))
      (λ q h s. clean good q h s (cases_eq q p))
    where
      worn : Good Flash l.pages l.width xs → (q : ℕ) → q < l.pages → ((q ≡ p) ⊎ (q ≡ p → ⊥)) → count_of ys q ≤ 10000
      worn good q h (inl here) = let more = w.count in let same = ap (count_of ys) here in omega arith
      worn good q h (inr other) =
          let kept = good.worn refl q h in
          let same = count_spared l.pages l.width p xs ys a w q h other in
          omega arith

      clean :
          Good Flash l.pages l.width xs → (q : ℕ) → q < l.pages → Stray Flash l.pages l.width ys q → ((q ≡ p) ⊎ (q ≡ p → ⊥)) → ⊥
      clean good q h s (inl here) =
          let inside = s.inside in
          both_ways _ (bit_erased l.pages l.width p xs ys a w s.place (omega arith))
          (subst (λ k. (cells_read Flash l.pages l.width ys).set k s.place ≡ true) here s.reads)
      clean good q h s (inr other) =
          let inside = s.inside in
          good.clean q h
          (record {
            place = s.place;
            unused = s.unused;
            inside = s.inside;
            reads = sym (bit_spared l.pages l.width p xs ys a w q s.place (omega arith) other) ∙ s.reads;
          })

-- What a mark leaves, once the byte of its cell was found and written.
module _ (f : Format) (l : Layout) (xs : List ℕ) (p i at y : ℕ) (found : Finds f l xs p i (Ok at)) (s : SetsBit f (i % 8) (get_or xs at 0) y) where
  pub mark_done :
      Marked p i (part_cells f l xs) (part_cells f l (set xs at y))
      × BitMarked f (page_at f l.pages l.width p + i / 8) (i % 8) xs (set xs at y)
      × (Accepted f l xs → Accepted f l (set xs at y))
  mark_done =
      let one = shown (fits f l xs) l.pages p (omega (arith, found.0.0)) in
      let two = shown (fits f l xs) l.width i (omega (arith, found.0.1.0)) in
      let here = subst (λ a. BitMarked f a (i % 8) xs (set xs at y)) found.1 (bit_written f xs at (i % 8) y found.3 s) in
      (part_marked f l p i xs (set xs at y) one.0 one.1 two.1 here, here, mark_intact f l p i xs (set xs at y) one.1 two.1 here)

-- What a part reads an image as, accepted or refused.
module _ (f : Format) (xs : List ℕ) (l : Layout) where
  pub reads_accepted : Accepted f l xs → ReadsAs f xs l
  reads_accepted was =
      let good = layout_good f l xs was in
      record {
        layout = λ _. was;
        accepted = λ _. part_is f l xs (le-leb _ _ (let n = good.long in omega arith)) ∙ ap₂ (λ P c. cells_read f P c xs) was.1 was.2;
        refused = λ bad. absurd (bad was.0);
      }

  reads_refused : (r : ℕ) → Refused (image_rows f xs) r → l.pages ≡ 0 → l.width ≡ 0 → ReadsAs f xs l
  reads_refused r bad a b =
      record {
        layout = λ good. absurd (served_not_refused (image_rows f xs) r good bad);
        accepted = λ good. absurd (served_not_refused (image_rows f xs) r good bad);
        refused = λ _. ap₂ (λ P c. cells_read f P c xs) (none (fits f l xs) l.pages a) (none (fits f l xs) l.width b);
      }
    where
      none : (t : Bool) (n : ℕ) → n ≡ 0 → cond t n 0 ≡ 0
      none true n e = e
      none false n e = refl

-- by what the check answers
pub reads :
    (f : Format) (xs : List ℕ) (r : Result Layout ImageFault) (none l : Layout) → Checks f xs r → none.pages ≡ 0 → none.width ≡ 0 →
    l ≡ result_unwrap_or r none → ReadsAs f xs l
reads f xs (Ok m) none l was a b is = rw is (reads_accepted f xs m was)
reads f xs (Err e) none l bad a b is = rw is (reads_refused f xs none (image_number e) bad a b)
