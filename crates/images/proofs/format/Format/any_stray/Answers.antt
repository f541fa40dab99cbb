use Rattle.std.proofs.Common.{◌≡◌, ℕ, ◌*◌, refl, arith, rules, tests}
use Rattle.std.proofs.lemmas.Iterator.{cases_from_any, YieldsList-from_range}
use Rattle.std.proofs.lemmas.Bool.Decides.{Decides-like}
use Rattle.std.proofs.lemmas.Bool.{false≢true}
use Rattle.images.specs.Image.{page_bytes}
use Rattle.images.specs.Check.{Stray}
use Rattle.images.proofs.Ranges.{any_in_range}
use Rattle.images.proofs.format.Format.any_stray.Goals as goal

pub returns-then-layout-ne0 : goal.returns-then-layout-ne0
returns-then-layout-ne0 c =
    let l = c.args.layout in
    let strays = λ (p : ℕ). Stray c.args.self l.pages l.width c.args.image.now p in
    Decides-like c.any.result (λ s. (s.0, omega (arith, s.2), s.3)) (λ s. (s.0, omega arith, omega (arith, s.1), s.2))
    (any_in_range strays 0 l.pages c.any.result
    (cases_from_any _ _ c.any.result strays (λ p. strays p → ⊥) c.any.ensures.ran (YieldsList-from_range 0 l.pages l.pages refl (omega arith))
    (λ x q k. search (rules, tests)) (λ x q k. search (rules, tests))))

pub returns-else-layout-ne0 : goal.returns-else-layout-ne0
returns-else-layout-ne0 c =
    let whole : 8 * page_bytes c.args.layout.width ≡ c.args.layout.width = let even = c.if-layout-ne0.false in omega arith in (
      rw c.if-layout-ne0.false (λ same. absurd (false≢true same)),
      (λ s. let unused = s.2.unused in let inside = s.2.inside in absurd (omega arith)),
    )
