use Rattle.std.proofs.Common.{[], ◌∷◌, refl, rules}
use Rattle.std.proofs.lemmas.Result.{err_from_is_err_and}
use Rattle.commands.specs.declared.command.Command.TheVariants.{Put, Renew, Save, Get, Ledger}
use Rattle.commands.specs.Words.{word_of}
use Rattle.commands.specs.Orders.{command_word_count, HasCommand}
use Rattle.commands.proofs.Forms.{line_made}
use Rattle.commands.proofs.command.Command+Word.in_words.Goals as goal

pub returns-in_err-letter : goal.returns-in_err-letter
returns-in_err-letter c =
    let p = err_from_is_err_and c.from_residual.result c.from_residual.ensures.1 in
    rw (p.1, p.2) (c.in_err-letter.ensures command_word_count)

pub returns-in-P : goal.returns-in-P
returns-in-P c =
    line_made command_word_count c.args.line.now c.in_ok-letter.field-0 c.in_ok-letter.ensures 2 80 refl c.in-P.is (λ ws. word_of ws.0 ∷ (word_of ws.1 ∷ [])) (λ ws. refl)
    (λ ws. Put ws.0 ws.1) (HasCommand c.args.line.now) (λ ws has. has) c.two.result c.map.result c.two.ensures (search rules)

pub returns-in-R : goal.returns-in-R
returns-in-R c =
    line_made command_word_count c.args.line.now c.in_ok-letter.field-0 c.in_ok-letter.ensures 2 82 refl c.in-R.is (λ ws. word_of ws.0 ∷ (word_of ws.1 ∷ [])) (λ ws. refl)
    (λ ws. Renew ws.0 ws.1) (HasCommand c.args.line.now) (λ ws has. has) c.two-in-R.result c.map-in-R.result c.two-in-R.ensures (search rules)

pub returns-in-S : goal.returns-in-S
returns-in-S c =
    line_made command_word_count c.args.line.now c.in_ok-letter.field-0 c.in_ok-letter.ensures 2 83 refl c.in-S.is (λ ws. word_of ws.0 ∷ (word_of ws.1 ∷ [])) (λ ws. refl)
    (λ ws. Save ws.0 ws.1) (HasCommand c.args.line.now) (λ ws has. has) c.two-in-S.result c.map-in-S.result c.two-in-S.ensures (search rules)

pub returns-in-G : goal.returns-in-G
returns-in-G c =
    line_made command_word_count c.args.line.now c.in_ok-letter.field-0 c.in_ok-letter.ensures 1 71 refl c.in-G.is (λ w. word_of w ∷ []) (λ ws. refl)
    (λ w. Get w) (HasCommand c.args.line.now) (λ ws has. has) c.one.result c.map-in-G.result c.one.ensures (search rules)

pub returns-in-L : goal.returns-in-L
returns-in-L c =
    line_made command_word_count c.args.line.now c.in_ok-letter.field-0 c.in_ok-letter.ensures 0 76 refl c.in-L.is (λ _. []) (λ ws. refl)
    (λ _. Ledger) (HasCommand c.args.line.now) (λ ws has. has) c.none.result c.map-in-L.result c.none.ensures (search rules)
