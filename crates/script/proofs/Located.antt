-- What is known of an answer that is handed on with a place beside its refusal. Assumes nothing.
use Rattle.std.proofs.Common.{◌≡◌, ℕ, Ok, Err, Result, sym, ap, subst, arith}
use Rattle.calls.specs.Faults.{located}

module _ {A F P : Type 0} (Q : Result A F → Type 0) (p : P) where
  pub refused_at : (r : Result A F) (e : P × F) → located p r ≡ Err e → Q r → (e.0 ≡ p) × Q (Err e.1)
  refused_at (Ok x) e is holds = absurd (let z : ◌≡◌ {A = ℕ} 0 1 = cc in omega arith)
  refused_at (Err f) e is holds =
      let pair : (p, f) ≡ e = cc in (sym (ap (λ d. d.0) pair), subst (λ g. Q (Err g)) (ap (λ d. d.1) pair) holds)

  pub accepted_at : (r : Result A F) (x : A) → located p r ≡ Ok x → Q r → Q (Ok x)
  accepted_at (Ok y) x is holds = let same : y ≡ x = cc in subst (λ z. Q (Ok z)) same holds
  accepted_at (Err f) x is holds = absurd (let z : ◌≡◌ {A = ℕ} 0 1 = cc in omega arith)
