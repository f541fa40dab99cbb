-- What a printer hands to its writer: what it had collected, and then a text. Assumes nothing.
use Rattle.std.proofs.Common.{◌≡◌, ℕ, List, [], ◌++◌, Option, Some, None, Result, Ok, Err, false, sym, refl, ap, ap₂, ◌∙◌, append_assoc, arith}
use Rattle.std.specs.Result.{OnOk, result_err}
use Rattle.std.specs.Option.{is_some}
use Rattle.std.proofs.lemmas.List.{append-nil}
use Rattle.script.specs.declared.printer.Printer.{Printer}
use Rattle.script.specs.Writing.{WritesBeginning}
use Rattle.script.specs.Printers.{Collects}
use Rattle.script.specs.Growing.{appends_both, appends_same}

module _ {W : Type 0} (contents : W → Option (List ℕ)) (before after : Printer W) (text : List ℕ) (fault : after.fault ≡ before.fault) where
  -- there was room for the text
  pub collects_all :
      {T E : Type 0} (u : T) → contents after.writer ≡ contents before.writer → after.pending.items ≡ before.pending.items ++ text →
      Collects contents before text after {E = E} (Ok u)
  collects_all u same appended =
      record {
        hands = record {
          written = [];
          unwritten = before.pending.items ++ text;
          whole = refl;
          appends = rw same (appends_same (contents before.writer));
        };
        collected = sym appended;
        fault = fault;
      }

  -- the writer failed at what was collected
  pub fails_first :
      {S T E F : Type 0} (r : Result S F) (e : E) → WritesBeginning (contents before.writer) (contents after.writer) before.pending.items r →
      Collects contents before text after {T = T} (Err e)
  fails_first r e w =
      record {
        hands = record {
          written = w.written;
          unwritten = w.unwritten ++ text;
          whole = ap (λ l. l ++ text) w.whole ∙ append_assoc w.written w.unwritten text;
          appends = w.appends;
        };
        collected = tt;
        fault = fault;
      }

  -- it got all of that, and of the text a beginning
  module _ {S T F : Type 0} (between : W) (r : Result S F) (q : Result T F) (first : WritesBeginning (contents before.writer) (contents between) before.pending.items r)
      (all : first.unwritten ≡ []) (second : WritesBeginning (contents between) (contents after.writer) text q) where
    pub collects_second : after.pending.items ≡ [] → Collects contents before text after q
    collects_second empty =
        record {
          hands = record {
            written = first.written ++ second.written;
            unwritten = second.unwritten;
            whole =
                ap₂ (λ a b. a ++ b) (first.whole ∙ ap (λ l. first.written ++ l) all ∙ append-nil first.written) second.whole
                ∙ sym (append_assoc first.written second.written second.unwritten);
            appends =
                appends_both (contents before.writer) (contents between) (contents after.writer) first.written second.written first.appends second.appends;
          };
          collected = on_ok q (λ none. none ∙ sym empty) second.all;
          fault = fault;
        }
      where
        on_ok : {P Q : Type 0} (q : Result T F) → (P → Q) → OnOk q P → OnOk q Q
        on_ok (Ok u) f holds = f holds
        on_ok (Err e) f holds = tt

pub no_fault : {E : Type 0} (f : Option E) → is_some f ≡ false → f ≡ None
no_fault None none = refl
no_fault (Some e) none = absurd (let z : ◌≡◌ {A = ℕ} 0 1 = cc in omega arith)

-- what holds of an answer that is no fault
pub answered_none : {T E : Type 0} (r : Result T E) (P : Type 0) → OnOk r P → result_err r ≡ None → P
answered_none (Ok u) P holds none = holds
answered_none (Err e) P holds none = absurd (let z : ◌≡◌ {A = ℕ} 0 1 = cc in omega arith)
