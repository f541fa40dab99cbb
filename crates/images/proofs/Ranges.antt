-- What `any` answers over a range of numbers. Assumes nothing.
use Rattle.std.proofs.Common.{◌≡◌, ℕ, ◌+◌, ◌-◌, ◌<◌, ◌≤◌, Bool, true, false, length, Decides, sym, refl, subst, arith}
use Rattle.std.specs.Bool.{MatchBool}
use Rattle.std.specs.List.{range_with_len, HoldsAt, AllWithin}
use Rattle.std.proofs.lemmas.Bool.{false≢true}
use Rattle.std.proofs.lemmas.List.FromFn.{length-range_with_len, get_or-range_with_len}

module _ (Q : ℕ → Type 0) (a n : ℕ) where
  pub any_in_range :
      (r : Bool) →
      MatchBool r ((k : ℕ) × (k < length (range_with_len a n)) × HoldsAt Q (range_with_len a n) k)
      (AllWithin (λ x. Q x → ⊥) (range_with_len a n) 0 (length (range_with_len a n))) →
      Decides r ((x : ℕ) × (a ≤ x) × (x < a + n) × Q x)
  any_in_range true found =
      let n_is = length-range_with_len a n in
      let lt = found.1 in
      let inside : found.0 < n = omega arith in
      (λ _. (a + found.0, omega arith, omega arith, subst Q (get_or-range_with_len a n found.0 0 inside) (found.2 0)), λ _. refl)
  any_in_range false none =
      let n_is = length-range_with_len a n in (
        λ e. absurd (false≢true e),
        λ s.
            let lo = s.1 in
            let hi = s.2 in
            let place : a + (s.0 - a) ≡ s.0 = omega arith in
            let inside : s.0 - a < n = omega arith in
            absurd (none (s.0 - a) 0 (omega arith) (omega arith) (subst Q (sym (get_or-range_with_len a n (s.0 - a) 0 inside)) (subst Q (sym place) s.3))),
      )
