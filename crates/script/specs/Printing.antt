-- What an output, or a writer, is given: the text of some replies. Assumes nothing.
use Rattle.std.specs.Prelude.{ℕ, List, Option, Result}
use Rattle.script.specs.declared.output.Output.{Ghosts}
use Rattle.script.specs.declared.reply.Reply.{Reply}
use Rattle.script.specs.Replies.{printed}
use Rattle.script.specs.Writing.{WritesBeginning}

-- There are replies that satisfy P, and an output took their text and nothing else.
pub record Replied {O : Type 0} (output : Ghosts O) (before after : O) (P : List Reply → Type 0) : Type 0 where
  pub replies : List Reply
  pub satisfies : P replies
  pub takes : output.takes before (printed replies) after

-- There are replies that satisfy P, and a writer got their text, or a beginning of it where a fault is answered, as far as
-- it says what it holds.
pub record RepliesWritten (before after : Option (List ℕ)) {T E : Type 0} (r : Result T E) (P : List Reply → Type 0) : Type 0 where
  pub replies : List Reply
  pub satisfies : P replies
  pub writes : WritesBeginning before after (printed replies) r
