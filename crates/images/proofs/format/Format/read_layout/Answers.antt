use Rattle.std.proofs.Common.{◌∙◌}
use Rattle.std.proofs.lemmas.Result.{err_from_is_err_and}
use Rattle.images.proofs.Checks.{at_wear, at_width, at_body, at_end}
use Rattle.images.proofs.format.Format.read_layout.Goals as goal

pub returns-in_err-check_wear : goal.returns-in_err-check_wear
returns-in_err-check_wear c =
    let p = err_from_is_err_and c.from_residual-in_err-check_wear.result c.from_residual-in_err-check_wear.ensures.1 in
    let first = c.in_ok-pages.ensures in
    rw (p.1, p.2) (at_wear c.args.self c.args.image.now first.0 _ c.in_err-check_wear.ensures)

pub returns-in_err-width : goal.returns-in_err-width
returns-in_err-width c =
    let p = err_from_is_err_and c.from_residual-in_err-width.result c.from_residual-in_err-width.ensures.1 in
    let first = c.in_ok-pages.ensures in
    let wear = c.in_ok-check_wear.ensures in
    rw (p.1, p.2) (at_width c.args.self c.args.image.now first.0 wear.0 _ c.in_err-width.ensures)

pub returns-in_err-check_body : goal.returns-in_err-check_body
returns-in_err-check_body c =
    let p = err_from_is_err_and c.from_residual-in_err-check_body.result c.from_residual-in_err-check_body.ensures.1 in
    let first = c.in_ok-pages.ensures in
    let wear = c.in_ok-check_wear.ensures in
    let width = c.in_ok-width.ensures in
    rw (p.1, p.2)
    (at_body c.args.self c.args.image.now first.0 wear.0 width.0 _ _ (c.from.ensures ∙ first.1.0) width.1.0 _
    c.in_err-check_body.ensures)

pub returns : goal.returns
returns c =
    let first = c.in_ok-pages.ensures in
    let wear = c.in_ok-check_wear.ensures in
    let width = c.in_ok-width.ensures in
    let body = c.in_ok-check_body.ensures in
    (at_end c.args.self c.args.image.now first.0 wear.0 width.0 _ _ (c.from.ensures ∙ first.1.0) width.1.0 body.0, c.from.ensures ∙ first.1.0, width.1.0)
