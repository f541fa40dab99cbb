-- Proof that the integers modulo v are an abelian group, which `Integers` names. Assumes nothing.
use Rattle.std.specs.Prelude.{◌≡◌, ℕ, ◌+◌, ◌-◌, ◌%◌, ◌<◌, ◌≤◌, true}
use Rattle.std.proofs.Common.{◌∙◌, sym, ap, mod-lt, mod-eq_of_lt, add_comm, add_assoc, zero-add, arith}
use Rattle.std.proofs.Math.Nat.{mod-add-mod, add-mod-mod, mod_self}
use Rattle.std.proofs.lemmas.Bool.Decides.{nat_tests}
use Rattle.group.specs.Group.{Lawful}
use Rattle.group.specs.Integers.{integers, integers_usable}
use Rattle.group.specs.ZeroOutsideLemmas.{Abelian, zero_outside_lawful}

pub modular : (v : ℕ) → 0 < v → Abelian v (λ a b. (a + b) % v) (λ a. (v - a) % v)
modular v pos = record {
  closed = λ a b i j. mod-lt (a + b) pos;
  commutes = λ a b i j. ap (λ n. n % v) (add_comm a b);
  associates = λ a b c i j k. mod-add-mod (a + b) v c ∙ ap (λ n. n % v) (add_assoc a b c) ∙ sym (add-mod-mod a (b + c) v);
  neutral = λ a i. ap (λ n. n % v) (zero-add a) ∙ mod-eq_of_lt i;
  opposed = λ a i.
      let whole : a + (v - a) ≡ v = omega arith in
      (mod-lt (v - a) pos, add-mod-mod a (v - a) v ∙ ap (λ n. n % v) whole ∙ mod_self v);
}

pub integers_lawful : (v : ℕ) → Lawful (integers v)
integers_lawful v = zero_outside_lawful v _ _ (integers_usable v) given
  where
    given : integers_usable v ≡ true → (2 ≤ v) × (v ≤ 64) × Abelian v (λ a b. (a + b) % v) (λ a. (v - a) % v)
    given u = (grind (arith, nat_tests), grind (arith, nat_tests), modular v (grind (arith, nat_tests)))
