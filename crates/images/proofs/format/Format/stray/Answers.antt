use Rattle.std.proofs.Common.{◌≡◌, ◌-◌, ◌*◌, ℕ, true, refl, arith, rules, tests}
use Rattle.std.proofs.lemmas.Iterator.{cases_from_any, YieldsList-from_range}
use Rattle.images.specs.Image.{cells_read}
use Rattle.images.proofs.Ranges.{any_in_range}
use Rattle.images.proofs.Checks.{stray_decided}
use Rattle.images.proofs.format.Format.stray.Goals as goal

pub returns : goal.returns
returns c =
    let l = c.args.layout in
    let set = λ (i : ℕ). (cells_read c.args.self l.pages l.width c.args.image.now).set c.args.page i ≡ true in
    stray_decided c.args.self l.pages l.width c.args.image.now c.args.page (8 * c.page_bytes.result) (omega arith) c.any.result
    (any_in_range set l.width (8 * c.page_bytes.result - l.width) c.any.result
    (cases_from_any _ _ c.any.result set (λ p. set p → ⊥) c.any.ensures.ran (YieldsList-from_range l.width (8 * c.page_bytes.result) _ refl refl)
    (λ x q k. search (rules, tests)) (λ x q k. search (rules, tests))))
