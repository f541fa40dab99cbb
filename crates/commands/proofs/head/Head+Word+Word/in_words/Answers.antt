use Rattle.std.proofs.Common.{refl}
use Rattle.std.proofs.lemmas.Result.{err_from_is_err_and}
use Rattle.commands.specs.Words.{head_words_of}
use Rattle.commands.specs.Orders.{head_word_count}
use Rattle.commands.proofs.Forms.{line_read}
use Rattle.commands.proofs.head.Head+Word+Word.in_words.Goals as goal

pub returns-in_err-letter : goal.returns-in_err-letter
returns-in_err-letter c =
    let p = err_from_is_err_and c.from_residual.result c.from_residual.ensures.1 in
    rw (p.1, p.2) (c.in_err-letter.ensures head_word_count)

pub returns : goal.returns
returns c =
    line_read head_word_count c.args.line.now c.in_ok-letter.field-0 c.in_ok-letter.ensures 4 72 refl c.in-H.is head_words_of (λ h. refl) c.four.result c.four.ensures
