-- From the head of a script to what the script prints and leaves. Assumes nothing.
use Rattle.std.proofs.Common.{◌≡◌, ℕ, ◌<◌, ◌≤◌, ◌⊎◌, List, [], ◌∷◌, ◌++◌, map, length, drop, Some, Ok, Err, Result, sym, refl, ap, ◌∙◌, subst, inl, inr, arith}
use Rattle.std.proofs.lemmas.List.{take_at, drop_at}
use Rattle.cells.specs.Cells.{Cells as Meaning, Alike}
use Rattle.cells.specs.Rows.{Refused, Served}
use Rattle.images.specs.declared.fault.ImageFault.{ImageFault}
use Rattle.images.specs.declared.fault.ImageFault.TheVariants.{Short, Pages, Width, Trailing, Stray, Wear}
use Rattle.images.specs.declared.format.Format.TheVariants.{Flash}
use Rattle.images.specs.Faults.{image_number}
use Rattle.images.specs.Image.{size, decoded}
use Rattle.images.specs.Check.{image_rows, ChecksStep}
use Rattle.images.specs.Written.{written}
use Rattle.images.specs.Fresh.{blank as fresh_cells, fresh_rows}
use Rattle.store.specs.declared.making.MakingFault.{MakingFault}
use Rattle.store.specs.declared.making.MakingFault.TheVariants.{Unusable, Cells, Narrow}
use Rattle.store.specs.Making.{making_number, MakesAt}
use Rattle.calls.specs.Faults.{located}
use Rattle.calls.specs.Records.{making_rows}
use Rattle.calls.specs.Ledger.{blank}
use Rattle.calls.specs.Calls.{State, state_of}
use Rattle.calls.specs.History.{Event}
use Rattle.calls.proofs.Promised.{promised}
use Rattle.commands.specs.declared.fault.LineFault.{LineFault}
use Rattle.commands.specs.declared.head.Head.{Head}
use Rattle.commands.specs.declared.group_word.GroupWord.{GroupWord}
use Rattle.commands.specs.declared.word.Number.{Number}
use Rattle.commands.specs.Faults.{line_number}
use Rattle.commands.specs.Groups.{word_group}
use Rattle.group.specs.Group.{unusable}
use Rattle.commands.specs.PlacedRows.{placed_row, RefusedAt, NotRefused}
use Rattle.commands.specs.Lawful.{word_lawful}
use Rattle.scan.specs.Pieces.{cut}
use Rattle.commands.specs.Orders.{head_rows, IsHeading}
use Rattle.script.specs.declared.output.Output.{Ghosts}
use Rattle.script.specs.declared.fault.Cause.TheVariants.{Line}
use Rattle.script.specs.declared.fault.HeadPlace.{HeadPlace}
use Rattle.script.specs.declared.fault.ScriptFault.{ScriptFault}
use Rattle.script.specs.declared.reply.Reply.{Reply}
use Rattle.script.specs.declared.reply.Reply.TheVariants.{Refused as RefusedLine}
use Rattle.script.specs.Refusals.{image_column, making_column, image_refused, making_refused as making_fault}
use Rattle.script.specs.Lines.{numbered}
use Rattle.script.specs.Execution.{refusal, ExecutesLines, Answered}
use Rattle.script.specs.Script.{Lent, lent, NoImage, LeavesImage, code_of_heading, heading_rows, MadeStore, Starts, Runs}
use Rattle.script.specs.Starting.{OpensStore, StartsScript}
use Rattle.script.proofs.Located.{refused_at}

module _ (h : Head GroupWord Number) where
  at_pages : (e : ImageFault) → image_number e ≡ 11 → image_column h e ≡ h.pages.column
  at_pages Short n = absurd (omega arith)
  at_pages Pages n = refl
  at_pages Width n = absurd (omega arith)
  at_pages Trailing n = absurd (omega arith)
  at_pages Stray n = absurd (omega arith)
  at_pages Wear n = absurd (omega arith)

  at_width : (e : ImageFault) → image_number e ≡ 12 → image_column h e ≡ h.width.column
  at_width Short n = absurd (omega arith)
  at_width Pages n = absurd (omega arith)
  at_width Width n = refl
  at_width Trailing n = absurd (omega arith)
  at_width Stray n = absurd (omega arith)
  at_width Wear n = absurd (omega arith)

  -- a count that no image can have
  pub counts_row : (e : ImageFault) → Refused (fresh_rows h.pages.value h.width.value) (image_number e) → RefusedAt (heading_rows h) (image_number e) (image_column h e)
  counts_row e (inl (holds, number)) = inl (holds, number, at_pages e number)
  counts_row e (inr (no11, inl (holds, number))) = inr (no11, inl (holds, number, at_width e number))
  counts_row e (inr (no11, inr (no12, never))) = absurd never

  at_group : (f : MakingFault) → making_number f ≡ 30 → making_column h f ≡ 3
  at_group Unusable n = refl
  at_group Cells n = absurd (omega arith)
  at_group Narrow n = absurd (omega arith)

  at_cells : (f : MakingFault) → making_number f ≡ 31 → making_column h f ≡ h.n.column
  at_cells Unusable n = absurd (omega arith)
  at_cells Cells n = refl
  at_cells Narrow n = absurd (omega arith)

  at_narrow : (f : MakingFault) → making_number f ≡ 32 → making_column h f ≡ h.n.column
  at_narrow Unusable n = absurd (omega arith)
  at_narrow Cells n = absurd (omega arith)
  at_narrow Narrow n = refl

  module _ (m : Meaning) (width : m.width ≡ h.width.value) (counts : Served (fresh_rows h.pages.value h.width.value)) where
    -- a making that is refused
    pub making_row : (f : MakingFault) → Refused (making_rows (code_of_heading h) m) (making_number f) → RefusedAt (heading_rows h) (making_number f) (making_column h f)
    making_row f refused = inr (counts.0, inr (counts.1.0, go refused))
      where
        go :
            Refused (making_rows (code_of_heading h) m) (making_number f) →
            RefusedAt
            (placed_row 30 3 ((word_group h.group).order ≡ unusable) ∷
            (placed_row 31 h.n.column ((h.n.value ≡ 0) ⊎ (63 < h.n.value)) ∷ (placed_row 32 h.n.column (h.width.value < h.n.value) ∷ []))) (making_number f) (making_column h f)
        go (inl (holds, number)) = inl (holds, number, at_group f number)
        go (inr (no30, inl (holds, number))) = inr (no30, inl (holds, number, at_cells f number))
        go (inr (no30, inr (no31, inl (holds, number)))) = inr (no30, inr (no31, inl (subst (λ w. w < h.n.value) width holds, number, at_narrow f number)))
        go (inr (no30, inr (no31, inr (no32, never)))) = absurd never

    -- one that is accepted
    making_accepted : Served (making_rows (code_of_heading h) m) → NotRefused (heading_rows h)
    making_accepted served =
        (counts.0, (counts.1.0, (served.0, (served.1.0, ((λ narrow. served.1.1.0 (subst (λ w. w < h.n.value) (sym width) narrow)), tt)))))

    -- the store that was made, the lines that it answered, and the image that is left
    pub store_made :
        (lines : List (List ℕ × ℕ)) (out : List Reply) (last : State) (l : Lent) → Alike (fresh_cells h.pages.value h.width.value) m →
        Served (making_rows (code_of_heading h) m) → Answered (code_of_heading h) (state_of m blank) lines out last →
        LeavesImage (size Flash h.pages.value h.width.value) last.cells l → MadeStore h lines out l
    store_made lines out last l fresh served answered leaves =
        let execution = answered.execution in
        let p =
        promised (code_of_heading h) (word_lawful h.group) (λ i. refl) (state_of m blank) execution.history last
        (record { changes = omega arith; renewals = omega arith; marked = omega arith }) execution.linked execution.obeys in
        record {
          accepted = making_accepted served;
          first = state_of m blank;
          last = last;
          fresh = fresh;
          nothing_counted = refl;
          calls = map (λ (e : Event). e.call) execution.history;
          answers = map (λ (e : Event). e.answer) execution.history;
          promise = p.0;
          others = answered.others;
          prints = answered.replies;
          executes = subst (λ z. ExecutesLines lines (state_of m blank) z answered.others) (sym p.1) execution.satisfies;
          leaves = leaves;
        }

-- the image that is left in the first of the bytes
pub image_left :
    (n : ℕ) (xs zs ys : List ℕ) (m : Meaning) → length ys ≡ n → ys ≡ written Flash m → decoded Flash ys ≡ m → Served (image_rows Flash ys) → drop n zs ≡ drop n xs →
    LeavesImage n m (lent xs (ys ++ drop n zs) (Some n))
image_left n xs zs ys m long image reads good others =
    record {
      size = refl;
      image = take_at ys (drop n zs) n long ∙ image;
      long = ap length (sym image) ∙ long;
      good = subst (λ bytes. Served (image_rows Flash bytes)) image good;
      reads = ap (decoded Flash) (sym image) ∙ reads;
      others = drop_at ys (drop n zs) n long ∙ others;
    }

-- a heading that is refused for its counts or for its making, before a byte is altered
module _ {O : Type 0} (output : Ghosts O) (k : ℕ) (h : Head GroupWord Number) (lines : List (List ℕ × ℕ)) (xs : List ℕ) (o : O) where
  pub counts_refused :
      {A : Type 0} (Q : A → Type 0) (r : Result A ImageFault) (e : HeadPlace × ImageFault) → located (record { line = k; heading = h }) r ≡ Err e →
      ChecksStep (fresh_rows h.pages.value h.width.value) Q r → OpensStore output k h lines xs xs o o (Err (image_refused e.0.line e.0.heading e.1))
  counts_refused Q r e is checks =
      let p : HeadPlace = record { line = k; heading = h } in
      let at = refused_at (ChecksStep (fresh_rows h.pages.value h.width.value) Q) p r e is checks in
      subst (λ (q : HeadPlace). OpensStore output k h lines xs xs o o (Err (image_refused q.line q.heading e.1))) (sym at.0)
      (counts_row h e.1 at.1, refl, refl, refl)

  pub making_refused :
      {A : Type 0} (r : Result A MakingFault) (e : HeadPlace × MakingFault) → located (record { line = k; heading = h }) r ≡ Err e →
      Served (fresh_rows h.pages.value h.width.value) → MakesAt (code_of_heading h) h.width.value r →
      OpensStore output k h lines xs xs o o (Err (making_fault e.0.line e.0.heading e.1))
  making_refused r e is counts makes =
      let p : HeadPlace = record { line = k; heading = h } in
      let at = refused_at (MakesAt (code_of_heading h) h.width.value) p r e is makes in
      subst (λ (q : HeadPlace). OpensStore output k h lines xs xs o o (Err (making_fault q.line q.heading e.1))) (sym at.0)
      (making_row h (fresh_cells h.pages.value h.width.value) refl counts e.1 (at.1 (fresh_cells h.pages.value h.width.value) refl), refl, refl, refl)

-- the head is the first line
module _ (script : List ℕ) (head : List ℕ × ℕ) (rest : List (List ℕ × ℕ)) (short : length script ≤ 65535) (lines : numbered 1 (cut 10 script) ≡ head ∷ rest) where
  started : (out : List Reply) (l : Lent) → Starts (head ∷ rest) out l → Runs script out l
  started out l starts = inr (short, subst (λ ls. Starts ls out l) (sym lines) starts)

  -- a head that is not well written
  pub head_malformed :
      (f : LineFault) (k column : ℕ) (l : Lent) → k ≡ head.1 → RefusedAt (head_rows head.0) (line_number f) column → NoImage l →
      Runs script (RefusedLine (record { cause = Line f; line = k; column = column }) ∷ []) l
  head_malformed f k column l at refused none =
      started _ l
      (inl (record { fault = f; column = column; refused = refused; prints = ap (λ j. refusal (Line f) j column ∷ []) at }, none))

  -- a head that is well written
  pub head_read :
      {O : Type 0} (output : Ghosts O) (h : Head GroupWord Number) (xs ys : List ℕ) (before after : O) (r : Result ℕ ScriptFault) → NotRefused (head_rows head.0) × IsHeading head.0 h →
      OpensStore output head.1 h rest xs ys before after r → StartsScript output script xs ys before after r
  head_read output h xs ys before after (Ok n) read opens =
      record {
        replies = opens.replies;
        satisfies = started opens.replies _ (inr (record { heading = h; accepted = read.0; is = read.1; outcome = inr opens.satisfies }));
        takes = opens.takes;
      }
  head_read output h xs ys before after (Err f) read opens = (
    started (RefusedLine f ∷ []) _
        (inr
        (record {
          heading = h;
          accepted = read.0;
          is = read.1;
          outcome =
              inl (
                record { cause = f.cause; column = f.column; refused = opens.0; prints = ap (λ k. refusal f.cause k f.column ∷ []) opens.1 },
                record { none = refl; bytes = opens.3 },
              );
        })),
    opens.2,
  )
