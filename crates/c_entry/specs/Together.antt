-- Calls from C, one after the other on the bytes of one image: what they keep together. Assumes nothing.
use Rattle.std.specs.Prelude.{◌≡◌, ℕ, ◌+◌, List, [], ◌∷◌, map, All, Ok, Err}
use Rattle.cells.specs.Rows.{Refused, Served}
use Rattle.images.specs.declared.format.Format.TheVariants.{Flash}
use Rattle.images.specs.Image.{decoded}
use Rattle.coset.specs.Code.{Code}
use Rattle.calls.specs.declared.call.Call.{Call}
use Rattle.calls.specs.declared.ledger.Ledger.{Ledger}
use Rattle.calls.specs.Ledger.{blank}
use Rattle.calls.specs.Faults.{number}
use Rattle.calls.specs.Calls.{Answer, state_of}
use Rattle.calls.specs.History.{Event}
use Rattle.calls.specs.Promise.{Promise}
use Rattle.c_entry.specs.Entry.{code_named, opening_rows, CallsOnImage}

-- A call from C: what was asked, the bytes of the image before it and after it, and the answer.
pub record ImageCall : Type 0 where
  pub call : Call
  pub before : List ℕ
  pub after : List ℕ
  pub answer : ℕ

-- each call finds the bytes that the one before it left, the first the bytes xs; the last leaves the bytes ys
abbrev pub LinkedBytes : List ℕ → List ImageCall → List ℕ → Type 0
LinkedBytes xs [] ys = ys ≡ xs
LinkedBytes xs (e ∷ es) ys = (e.before ≡ xs) × LinkedBytes e.after es ys

-- the number that C gets for the answer of a store
abbrev pub number_for_c : Answer → ℕ
number_for_c (Ok r) = r
number_for_c (Err f) = 10000 + number f

-- The calls are those of one store, over the cells of the image: they have its answers, by their numbers, and the whole
-- promise holds of them, from the cells of the bytes xs to those of the bytes ys. The history of the promise goes over
-- the bytes before and after each call.
pub record PromiseOnImage (c : Code) (xs : List ℕ) (made : List ImageCall) (ys : List ℕ) : Type 0 where
  pub answers : List Answer
  pub counts : Ledger
  pub numbers : map (λ (e : ImageCall). e.answer) made ≡ map number_for_c answers
  pub promise :
      Promise c (state_of (decoded Flash xs) blank) (map (λ (e : ImageCall). e.call) made) answers
      (state_of (decoded Flash ys) counts)
  pub found :
      map (λ (e : Event). e.before.cells) promise.history ≡ map (λ (e : ImageCall). decoded Flash e.before) made
  pub left : map (λ (e : Event). e.after.cells) promise.history ≡ map (λ (e : ImageCall). decoded Flash e.after) made

-- What the calls keep together. Over a bad image, or with a code of which no store can be made, each is refused by the
-- same number, and no byte is ever altered. Otherwise the whole promise holds of them.
pub record KeepTogether (c : Code) (xs : List ℕ) (made : List ImageCall) (ys : List ℕ) : Type 0 where
  pub refused :
      (k : ℕ) → Refused (opening_rows c xs) k → All (λ (e : ImageCall). e.answer ≡ 10000 + k) made × (ys ≡ xs)
  pub kept : Served (opening_rows c xs) → PromiseOnImage c xs made ys

-- The theorem: calls from C with one kind, parameter and number of cells keep the promise together.
abbrev pub ImageCallsSuffice : Type 0
ImageCallsSuffice =
    (kind parameter n : ℕ) (xs : List ℕ) (made : List ImageCall) (ys : List ℕ) → LinkedBytes xs made ys →
    All (λ (e : ImageCall). CallsOnImage (code_named kind parameter n) e.call e.before e.after e.answer) made →
    KeepTogether (code_named kind parameter n) xs made ys
