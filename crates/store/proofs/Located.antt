-- Answers of the array that gained a record, where none of them is a refusal. Assumes nothing.
use Rattle.std.proofs.Common.{◌≡◌, ℕ, Ok, Err, Result, IsOkAnd, sym, ap, ◌∙◌, subst}
use Rattle.cells.specs.declared.fault.DeviceFault.{DeviceFault}
use Rattle.calls.specs.Faults.{located}

module _ {A : Type 0} (k : ℕ) where
  pub located_ok : (r : Result A DeviceFault) (x : A) (P : A → Type 0) → located k r ≡ Ok x → IsOkAnd r P → P x
  located_ok (Ok y) x P e holds = let same : y ≡ x = cc in subst P same holds
  located_ok (Err f) x P e none = absurd none

  pub located_is : (r : Result A DeviceFault) (x y : A) → located k r ≡ Ok x → r ≡ Ok y → x ≡ y
  located_is r x y e is = let same : ◌≡◌ {A = Result A (ℕ × DeviceFault)} (Ok x) (Ok y) = sym e ∙ ap (located k) is in cc
