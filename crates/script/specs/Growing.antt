-- Bytes that a writer gets one after another. A proof of the law that a printer owes as an output, which its implementation
-- names. Assumes nothing.
use Rattle.std.specs.Prelude.{◌≡◌, ℕ, List, [], ◌++◌, Option, None, Some}
use Rattle.std.proofs.Common.{refl, sym, ap, ◌∙◌, subst, append_assoc, arith}
use Rattle.std.proofs.lemmas.List.{append-nil}
use Rattle.std.specs.Io.KnownBytes.{Keeps, Appends}
use Rattle.std.specs.declared.io.Error.{Error}
use Rattle.script.specs.declared.printer.Printer.{Printer}
use Rattle.script.specs.Printers.{Hands, TakesText}

pub appends_both : (a b c : Option (List ℕ)) (xs ys : List ℕ) → Appends a b xs → Appends b c ys → Appends a c (xs ++ ys)
appends_both None b c xs ys first second = tt
appends_both (Some as₀) None c xs ys first second = absurd first
appends_both (Some as₀) (Some bs) None xs ys first second = absurd second
appends_both (Some as₀) (Some bs) (Some cs) xs ys first second = second ∙ ap (λ l. l ++ ys) first ∙ append_assoc as₀ xs ys

pub appends_nothing : (a b : Option (List ℕ)) → Keeps a b → Appends a b []
appends_nothing None b keeps = tt
appends_nothing (Some xs) None keeps = keeps
appends_nothing (Some xs) (Some ys) keeps = keeps ∙ sym (append-nil xs)

pub appends_same : (a : Option (List ℕ)) → Appends a a []
appends_same None = tt
appends_same (Some xs) = sym (append-nil xs)

module _ {W : Type 0} (contents : W → Option (List ℕ)) where
  hands_both :
      (a b c : Printer W) (xs ys : List ℕ) (first : Hands contents a xs b) (second : Hands contents b ys c) → first.unwritten ≡ b.pending.items →
      Hands contents a (xs ++ ys) c
  hands_both a b c xs ys first second rest =
      record {
        written = first.written ++ second.written;
        unwritten = second.unwritten;
        whole =
            sym (append_assoc a.pending.items xs ys) ∙ ap (λ l. l ++ ys) (first.whole ∙ ap (λ l. first.written ++ l) rest)
            ∙ append_assoc first.written b.pending.items ys ∙ ap (λ l. first.written ++ l) second.whole
            ∙ sym (append_assoc first.written second.written second.unwritten);
        appends = appends_both (contents a.writer) (contents b.writer) (contents c.writer) first.written second.written first.appends second.appends;
      }

  -- a text after a fault is not written at all
  hands_none :
      (a b c : Printer W) (xs ys : List ℕ) (first : Hands contents a xs b) → c ≡ b → Hands contents a (xs ++ ys) c
  hands_none a b c xs ys first same =
      record {
        written = first.written;
        unwritten = first.unwritten ++ ys;
        whole =
            sym (append_assoc a.pending.items xs ys) ∙ ap (λ l. l ++ ys) first.whole ∙ append_assoc first.written first.unwritten ys;
        appends = subst (λ (p : Printer W). Appends (contents a.writer) (contents p.writer) first.written) (sym same) first.appends;
      }

  pub texts_joined :
      (a b c : Printer W) (xs ys : List ℕ) → TakesText contents a xs b → TakesText contents b ys c → TakesText contents a (xs ++ ys) c
  unfolding hands_both hands_none
  texts_joined a b c xs ys first second = go b.fault refl
    where
      go : (f : Option Error) → b.fault ≡ f → TakesText contents a (xs ++ ys) c
      go None going =
          let before = first.going going in
          record {
            hands = hands_both a b c xs ys first.hands second.hands before.1;
            going = λ none. (before.0, (second.going none).1);
            failed = λ bad. absurd (bad before.0);
          }
      go (Some e) fails =
          let stopped : b.fault ≡ None → ⊥ = λ none. (let z : ◌≡◌ {A = ℕ} 0 1 = cc in omega arith) in
          let same = second.failed stopped in
          record {
            hands = hands_none a b c xs ys first.hands same;
            going = λ none. absurd (stopped (sym (ap (λ (p : Printer W). p.fault) same) ∙ none));
            failed = λ bad. same ∙ first.failed bad;
          }
