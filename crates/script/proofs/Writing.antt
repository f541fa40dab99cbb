-- From what a printer took to what its writer holds in the end. Assumes nothing.
use Rattle.std.proofs.Common.{◌≡◌, ℕ, List, [], ◌++◌, Option, Some, None, Result, sym, refl, ap, ◌∙◌, subst, append_assoc}
use Rattle.std.specs.Result.{OnOk}
use Rattle.std.specs.Io.KnownBytes.{Appends}
use Rattle.std.specs.declared.io.Error.{Error}
use Rattle.script.specs.declared.printer.Printer.{Printer}
use Rattle.script.specs.Writing.{WritesBeginning}
use Rattle.script.specs.Printers.{IsNew, Hands, TakesText, Finishes}
use Rattle.script.specs.Growing.{appends_both}

module _ {W T : Type 0} (contents : W → Option (List ℕ)) (writer last : W) (before after : Printer W) (text : List ℕ) (r : Result T Error)
    (new : IsNew writer before) (prints : TakesText contents before text after) (finishes : Finishes contents after last r) where
  abbrev hands : Hands contents before text after
  hands = prints.hands

  whole : text ≡ hands.written ++ hands.unwritten
  whole = ap (λ l. l ++ text) (sym new.nothing) ∙ hands.whole

  begun : Appends (contents writer) (contents after.writer) hands.written
  begun = subst (λ w. Appends (contents w) (contents after.writer) hands.written) new.over hands.appends

  pub printer_wrote : WritesBeginning (contents writer) (contents last) text r
  printer_wrote = go after.fault refl
    where
      go : (f : Option Error) → after.fault ≡ f → WritesBeginning (contents writer) (contents last) text r
      go None going =
          let w = finishes.0 in
          record {
            written = hands.written ++ w.written;
            unwritten = w.unwritten;
            whole =
                whole ∙ ap (λ l. hands.written ++ l) ((prints.going going).1 ∙ w.whole) ∙ sym (append_assoc hands.written w.written w.unwritten);
            appends = appends_both (contents writer) (contents after.writer) (contents last) hands.written w.written begun w.appends;
            all = w.all;
          }
      go (Some e) fails =
          let stopped = finishes.1 e fails in
          record {
            written = hands.written;
            unwritten = hands.unwritten;
            whole = whole;
            appends = subst (λ w. Appends (contents writer) (contents w) hands.written) (sym stopped.0) begun;
            all = subst (λ q. OnOk q (hands.unwritten ≡ [])) (sym stopped.1) tt;
          }
