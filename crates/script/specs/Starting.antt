-- What the parts of a script's start come to: the lines are answered, or the head is refused. Assumes nothing.
use Rattle.std.specs.Prelude.{◌≡◌, ℕ, List, [], ◌∷◌, Ok, Err, Result, None, Some}
use Rattle.cells.specs.Rows.{Served}
use Rattle.images.specs.declared.format.Format.TheVariants.{Flash}
use Rattle.images.specs.Image.{decoded}
use Rattle.images.specs.Check.{image_rows}
use Rattle.images.specs.Written.{written}
use Rattle.coset.specs.Code.{Code}
use Rattle.calls.specs.Ledger.{blank}
use Rattle.calls.specs.Calls.{State, state_of}
use Rattle.commands.specs.declared.head.Head.{Head}
use Rattle.commands.specs.declared.group_word.GroupWord.{GroupWord}
use Rattle.commands.specs.declared.word.Number.{Number}
use Rattle.commands.specs.PlacedRows.{RefusedAt}
use Rattle.script.specs.declared.output.Output.{Ghosts}
use Rattle.script.specs.declared.fault.ScriptFault.{ScriptFault}
use Rattle.script.specs.declared.reply.Reply.{Reply}
use Rattle.script.specs.declared.reply.Reply.TheVariants.{Refused}
use Rattle.script.specs.Execution.{Answered}
use Rattle.script.specs.Faults.{cause_number}
use Rattle.script.specs.Printing.{Replied}
use Rattle.script.specs.Script.{lent, heading_rows, MadeStore, Runs}

-- The lines were answered by a store with the code c over a good image, which is good afterwards, and is then the
-- writing-out of the cells that the last of the calls left.
pub record AnsweredOver (c : Code) (lines : List (List ℕ × ℕ)) (before after : List ℕ) (out : List Reply) : Type 0 where
  pub last : State
  pub answered : Answered c (state_of (decoded Flash before) blank) lines out last
  pub image : after ≡ written Flash last.cells
  pub reads : decoded Flash after ≡ last.cells
  pub good : Served (image_rows Flash after)

-- A heading at line k makes a store, which answers the lines after it; or it is refused, and then nothing is printed and
-- no byte is altered.
abbrev pub OpensStore : {O : Type 0} → Ghosts O → ℕ → Head GroupWord Number → List (List ℕ × ℕ) → List ℕ → List ℕ → O → O → Result ℕ ScriptFault → Type 0
OpensStore output k h lines xs ys before after (Ok n) =
    Replied output before after (λ out. MadeStore h lines out (lent xs ys (Some n)))
OpensStore output k h lines xs ys before after (Err f) =
    RefusedAt (heading_rows h) (cause_number f.cause) f.column × (f.line ≡ k) × (after ≡ before) × (ys ≡ xs)

-- A whole script runs to its end and prints its replies; or all that it has to print is one refusal, and nothing is
-- printed yet.
abbrev pub StartsScript : {O : Type 0} → Ghosts O → List ℕ → List ℕ → List ℕ → O → O → Result ℕ ScriptFault → Type 0
StartsScript output script xs ys before after (Ok n) =
    Replied output before after (λ out. Runs script out (lent xs ys (Some n)))
StartsScript output script xs ys before after (Err f) =
    Runs script (Refused f ∷ []) (lent xs ys None) × (after ≡ before)
