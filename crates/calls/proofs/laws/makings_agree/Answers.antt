use Rattle.std.proofs.Common.{◌≡◌, ℕ, ◌<◌, ◌⊎◌, not, eqb, leb, ltb, inl, inr, arith}
use Rattle.std.proofs.lemmas.Bool.{and_parts}
use Rattle.std.proofs.lemmas.Bool.Decides.{nat_tests}
use Rattle.group.specs.Group.{unusable}
use Rattle.calls.proofs.laws.makings_agree.Goals as goal

-- no number of cells that a record can have meets the row on it
size_fits : (n : ℕ) → 0 < n → n < 64 → (n ≡ 0) ⊎ (63 < n) → ⊥
size_fits n some few (inl none) = omega arith
size_fits n some few (inr many) = omega arith

pub returns : goal.returns
returns c = λ code m. let n = code.cells in let g = code.group in (
  λ made.
      let usable = and_parts (not (eqb g.order unusable)) _ made in
      let some = and_parts (ltb 0 n) _ usable.1 in
      let few = and_parts (ltb n 64) (leb n m.width) some.1 in
      ((λ e. grind (arith, nat_tests)), (size_fits n (grind (arith, nat_tests)) (grind (arith, nat_tests)), ((λ narrow. grind (arith, nat_tests)), tt))),
  λ served. let no_size = served.1.0 in let none = (λ (e : n ≡ 0). no_size (inl e)) in let many = (λ (h : 63 < n). no_size (inr h)) in grind (arith, nat_tests),
)
