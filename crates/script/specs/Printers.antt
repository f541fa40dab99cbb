-- What a printer makes of the texts that it takes: its writer gets them one after the other, or a beginning of them.
-- Assumes nothing.
use Rattle.std.specs.Prelude.{◌≡◌, ℕ, List, [], ◌++◌, Option, None, Some, OnOk, Err, Result}
use Rattle.std.specs.Io.KnownBytes.{Appends}
use Rattle.std.specs.declared.io.Error.{Error}
use Rattle.script.specs.declared.printer.Printer.{Printer}
use Rattle.script.specs.Writing.{WritesBeginning}

-- A printer over this writer has taken nothing yet.
pub record IsNew {W : Type 0} (writer : W) (p : Printer W) : Type 0 where
  pub over : p.writer ≡ writer
  pub nothing : p.pending.items ≡ []
  pub going : p.fault ≡ None

-- Of what a printer had collected and a text after it, its writer got a beginning.
pub record Hands {W : Type 0} (contents : W → Option (List ℕ)) (before : Printer W) (text : List ℕ) (after : Printer W) : Type 0 where
  pub written : List ℕ
  pub unwritten : List ℕ
  pub whole : before.pending.items ++ text ≡ written ++ unwritten
  pub appends : Appends (contents before.writer) (contents after.writer) written

-- A printer took a text. As long as no write has failed, it has collected what is not written; once one has failed,
-- nothing more is written.
pub record TakesText {W : Type 0} (contents : W → Option (List ℕ)) (before : Printer W) (text : List ℕ) (after : Printer W) : Type 0 where
  pub hands : Hands contents before text after
  pub going : after.fault ≡ None → (before.fault ≡ None) × (hands.unwritten ≡ after.pending.items)
  pub failed : (before.fault ≡ None → ⊥) → after ≡ before

-- A text is collected, or the writer fails.
pub record Collects {W : Type 0} (contents : W → Option (List ℕ)) (before : Printer W) (text : List ℕ) (after : Printer W) {T E : Type 0} (r : Result T E) : Type 0 where
  pub hands : Hands contents before text after
  pub collected : OnOk r (hands.unwritten ≡ after.pending.items)
  pub fault : after.fault ≡ before.fault

-- What is collected is written at the end, or a beginning of it; after a fault nothing is, and that fault is answered.
abbrev pub Finishes : {W T : Type 0} → (W → Option (List ℕ)) → Printer W → W → Result T Error → Type 0
Finishes contents p writer r =
    WritesBeginning (contents p.writer) (contents writer) p.pending.items r
    × ((e : Error) → p.fault ≡ Some e → (writer ≡ p.writer) × (r ≡ Err e))
