-- That a script is determined: it prints one text and leaves one image, byte for byte. Assumes
-- nothing.
use Rattle.std.specs.Prelude.{◌≡◌, ℕ, List, take, Option, Some, Result}
use Rattle.std.specs.declared.io.Error.{Error}
use Rattle.script.specs.declared.output.Output.{Ghosts}
use Rattle.script.specs.declared.reply.Reply.{Reply}
use Rattle.script.specs.Printing.{Replied, RepliesWritten}
use Rattle.script.specs.Replies.{printed}
use Rattle.script.specs.Script.{Lent, Runs}
use Rattle.script.specs.Writing.{WritesBeginning}

-- Two runs left one image: as many bytes, and the same, or none. Where the same bytes were lent,
-- all of them are the same afterwards.
pub record SameImage (l l' : Lent) : Type 0 where
  pub size : l'.left ≡ l.left
  pub bytes : (n : ℕ) → l.left ≡ Some n → take n l'.after ≡ take n l.after
  pub all : l'.before ≡ l.before → l'.after ≡ l.after

-- One script has the same replies whenever it is run, and leaves one image, whatever bytes are lent
-- to it.
abbrev pub ScriptsAgree : Type 0
ScriptsAgree =
    (script : List ℕ) (replies replies' : List Reply) (l l' : Lent) →
    Runs script replies l → Runs script replies' l' → (replies' ≡ replies) × SameImage l l'

-- So two outputs, of any two kinds, take one text: that of the replies of the script.
pub record SameTextTaken {O P : Type 0} (output : Ghosts O) (other : Ghosts P)
    (script : List ℕ) (before after : O)
    (before' after' : P) (l l' : Lent) : Type 0 where
  pub replies : List Reply
  pub runs : Runs script replies l
  pub takes : output.takes before (printed replies) after
  pub takes' : other.takes before' (printed replies) after'
  pub image : SameImage l l'

abbrev pub OutputsAgree : {O P : Type 0} → Ghosts O → Ghosts P → Type 0
OutputsAgree {O} {P} output other =
    (script : List ℕ) (before after : O) (before' after' : P) (l l' : Lent) →
    Replied output before after (λ replies. Runs script replies l) →
    Replied other before' after' (λ replies. Runs script replies l') →
    SameTextTaken output other script before after before' after' l l'

-- And two writers get this text, or a beginning of it where a fault is answered, as far as they say
-- what they hold.
pub record SameTextWritten (script : List ℕ) (before after before' after' : Option (List ℕ))
    (r r' : Result (Unit {0}) Error) (l l' : Lent) : Type 0 where
  pub replies : List Reply
  pub runs : Runs script replies l
  pub writes : WritesBeginning before after (printed replies) r
  pub writes' : WritesBeginning before' after' (printed replies) r'
  pub image : SameImage l l'

abbrev pub WritersAgree : Type 0
WritersAgree =
    (script : List ℕ) (before after before' after' : Option (List ℕ))
    (r r' : Result (Unit {0}) Error) (l l' : Lent) →
    RepliesWritten before after r (λ replies. Runs script replies l) →
    RepliesWritten before' after' r' (λ replies. Runs script replies l') →
    SameTextWritten script before after before' after' r r' l l'
