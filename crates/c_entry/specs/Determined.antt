-- That calls from C are determined by what they ask and the bytes that they find. Assumes nothing.
use Rattle.std.specs.Prelude.{◌≡◌, ℕ, List, map, All}
use Rattle.coset.specs.Code.{Code}
use Rattle.calls.specs.declared.call.Call.{Call}
use Rattle.c_entry.specs.Entry.{CallsOnImage}
use Rattle.c_entry.specs.Together.{ImageCall, LinkedBytes}

-- One call on the same bytes has one answer, and leaves one image, byte for byte.
abbrev pub OneImageCall : Type 0
OneImageCall =
    (c : Code) (call : Call) (xs ys ys' : List ℕ) (a a' : ℕ) →
    CallsOnImage c call xs ys a → CallsOnImage c call xs ys' a' → (a' ≡ a) × (ys' ≡ ys)

-- A call from C with the code that its kind, parameter and number of cells name, which each call
-- may choose anew.
pub record CodedCall : Type 0 where
  pub code : Code
  pub made : ImageCall

-- a call that is by the rules of its code
abbrev pub ByRules : CodedCall → Type 0
ByRules e = CallsOnImage e.code e.made.call e.made.before e.made.after e.made.answer

-- The calls are by the rules, each with its code, one after the other from the bytes xs to the
-- bytes ys.
pub record CallsInTurn (xs : List ℕ) (es : List CodedCall) (ys : List ℕ) : Type 0 where
  pub linked : LinkedBytes xs (map (λ (e : CodedCall). e.made) es) ys
  pub rules : All ByRules es

-- The same calls with the same codes, one after the other on the same bytes, have the same answers,
-- find and leave the same bytes each, and leave one image in the end.
abbrev pub ImageCallsAgree : Type 0
ImageCallsAgree =
    (xs ys ys' : List ℕ) (es es' : List CodedCall) →
    map (λ (e : CodedCall). e.code) es' ≡ map (λ (e : CodedCall). e.code) es →
    map (λ (e : CodedCall). e.made.call) es' ≡ map (λ (e : CodedCall). e.made.call) es →
    CallsInTurn xs es ys → CallsInTurn xs es' ys' → (es' ≡ es) × (ys' ≡ ys)
