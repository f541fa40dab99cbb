-- From the checks of a call on an image to what it answers. Assumes nothing.
use Rattle.std.proofs.Common.{◌≡◌, ℕ, ◌<◌, List, [], ◌∷◌, get_or, IsErr, Ok, Err, Result, inl, inr, refl, sym, ap, ◌∙◌, subst}
use Rattle.group.specs.Group.{Lawful}
use Rattle.cells.specs.Cells.{Cells}
use Rattle.cells.specs.Rows.{Row, Refused, Served}
use Rattle.images.specs.declared.format.Format.TheVariants.{Flash}
use Rattle.images.specs.declared.layout.Layout.{Layout}
use Rattle.images.specs.Image.{part_cells, decoded}
use Rattle.images.specs.declared.fault.ImageFault.{ImageFault}
use Rattle.images.specs.Check.{Accepted, ReadsAs, Checks, image_rows}
use Rattle.images.specs.Written.{Writable, written}
use Rattle.images.proofs.Accepted.{accepted}
use Rattle.images.proofs.Intact.{reads_accepted}
use Rattle.images.proofs.Tables.{served_both, refused_first, refused_rest}
use Rattle.coset.specs.Code.{Code, LabelledInTurn}
use Rattle.calls.specs.declared.call.Call.{Call}
use Rattle.calls.specs.declared.call.Call.TheVariants.{Get}
use Rattle.calls.specs.declared.fault.StoreFault.{StoreFault}
use Rattle.calls.specs.declared.ledger.Ledger.{Ledger}
use Rattle.calls.specs.Ledger.{blank}
use Rattle.calls.specs.Faults.{number}
use Rattle.calls.specs.Records.{making_rows}
use Rattle.calls.specs.Calls.{State, state_of, rows, Obeys}
use Rattle.c_entry.specs.Entry.{opening_rows, entry_rows, ServedOn, RefusedOn, Answers, answer_number, CallsOnImage}
use Rattle.c_entry.specs.Faults.{entry_number}
use Rattle.c_entry.specs.declared.fault.EntryFault.{EntryFault}
use Rattle.c_entry.proofs.Sizes.{small_answer}

-- that no row holds, if that cannot be otherwise
served_stable : (rs : List Row) → ((Served rs → ⊥) → ⊥) → Served rs
served_stable [] twice = tt
served_stable (r ∷ rs) twice = ((λ holds. twice (λ served. served.0 holds)), served_stable rs (λ none. twice (λ served. none served.1)))

-- a part has no pages exactly where its image is refused
module _ (l : Layout) (xs : List ℕ) (reads : ReadsAs Flash xs l) where
  pub part_good : ((part_cells Flash l xs).pages ≡ 0 → ⊥) → Served (image_rows Flash xs)
  part_good some = served_stable (image_rows Flash xs) (λ bad. some (ap (λ (m : Cells). m.pages) (reads.refused bad)))

  pub part_bad : (part_cells Flash l xs).pages ≡ 0 → Served (image_rows Flash xs) → ⊥
  part_bad none good = good.1.0 (inl (sym (ap (λ (m : Cells). m.pages) (reads.accepted good)) ∙ none))

-- and so is refused by its check
pub check_refuses : (xs : List ℕ) (r : Result Layout ImageFault) → Checks Flash xs r → (Served (image_rows Flash xs) → ⊥) → IsErr r
check_refuses xs (Ok l) checks bad = absurd (bad checks.0)
check_refuses xs (Err e) checks bad = refl

module _ (c : Code) (call : Call) (xs : List ℕ) where
  abbrev making : List Row
  making = making_rows c (decoded Flash xs)

  abbrev own : List Row
  own = rows c (decoded Flash xs) call

  -- an image that is refused
  pub image_refused : (k : ℕ) → Refused (image_rows Flash xs) k → Refused (entry_rows c call xs) k
  image_refused k refused = refused_first (opening_rows c xs) own k (refused_first (image_rows Flash xs) making k refused)

  module _ (good : Served (image_rows Flash xs)) where
    -- a making that is refused
    pub making_refused : (k : ℕ) → Refused (making_rows c (decoded Flash xs)) k → Refused (entry_rows c call xs) k
    making_refused k refused = refused_first (opening_rows c xs) own k (refused_rest (image_rows Flash xs) making k good refused)

    -- What a store answers over the part of the image, whose meaning before and afterwards is m and m'.
    module _
        (laws : Lawful c.group) (labels : LabelledInTurn c) (exact : Writable Flash (decoded Flash xs) × (xs ≡ written Flash (decoded Flash xs)))
        (makes : Served (making_rows c (decoded Flash xs))) (l' : Layout) (ys : List ℕ) (still : Accepted Flash l' ys)
        (bytes : (i : ℕ) → get_or ys i 0 < 256) (counts : Ledger) where
      after : part_cells Flash l' ys ≡ decoded Flash ys
      after = (reads_accepted Flash ys l' still).accepted still.0

      after_bytes : ys ≡ written Flash (decoded Flash ys)
      after_bytes = accepted Flash ys bytes still.0

      opened : Served (opening_rows c xs)
      opened = served_both (image_rows Flash xs) making good makes

      pub call_served :
          (a : ℕ) → Obeys c call (Ok a) (state_of (decoded Flash xs) blank) (state_of (part_cells Flash l' ys) counts) →
          ServedOn c call xs ys a
      call_served a obeys =
          let obeyed : Obeys c call (Ok a) (state_of (decoded Flash xs) blank) (state_of (decoded Flash ys) counts) =
          subst (λ m. Obeys c call (Ok a) (state_of (decoded Flash xs) blank) (state_of m counts)) after obeys in
          record {
            served = served_both (opening_rows c xs) own opened obeyed.0;
            counts = counts;
            obeys = obeyed;
            good = still.0;
            written_before = exact.1;
            written_after = after_bytes;
            small = small_answer c laws labels (decoded Flash xs) exact.0.width_most makes call a (decoded Flash ys) obeyed.1;
          }

      pub call_refused :
          (f : StoreFault) → Obeys c call (Err f) (state_of (decoded Flash xs) blank) (state_of (part_cells Flash l' ys) counts) →
          RefusedOn c call xs ys (number f)
      call_refused f obeys =
          let same : part_cells Flash l' ys ≡ decoded Flash xs = ap (λ (s : State). s.cells) obeys.2 in
          record {
            refused = refused_rest (opening_rows c xs) own (number f) opened obeys.0;
            unchanged = after_bytes ∙ ap (written Flash) (sym after ∙ same) ∙ sym exact.1;
          }

-- the number that stands for an answer
pub calls_on_image : (c : Code) (call : Call) (xs ys : List ℕ) (r : Result ℕ EntryFault) → Answers c call xs ys r → CallsOnImage c call xs ys (answer_number r)
calls_on_image c call xs ys (Ok a) served = inl served
calls_on_image c call xs ys (Err f) refused = inr (entry_number f, refused, refl)

-- a get alters no byte: the image is the writing-out of its cells, and these are as they were
pub get_alters_nothing : (c : Code) (k : ℕ) (xs ys : List ℕ) (a : ℕ) → CallsOnImage c (Get k) xs ys a → ys ≡ xs
get_alters_nothing c k xs ys a (inl served) = served.written_after ∙ ap (written Flash) served.obeys.1.1 ∙ sym served.written_before
get_alters_nothing c k xs ys a (inr refused) = refused.1.unchanged
