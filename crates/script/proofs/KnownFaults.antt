-- Refusals of lines and headings are known by their numbers, and a table refuses once. Assumes nothing.
use Rattle.std.proofs.Common.{◌≡◌, ℕ, Bool, true, false, cond, ◌||◌, eqb, List, [], ◌∷◌, sym, refl, ap, ◌∙◌, inl, inr}
use Rattle.std.proofs.lemmas.Bool.{both_ways}
use Rattle.cells.specs.declared.fault.DeviceFault.TheVariants.{NoPage, NoCell, Worn}
use Rattle.images.specs.declared.fault.ImageFault.TheVariants.{Short, Pages, Width, Trailing, Stray, Wear}
use Rattle.store.specs.declared.making.MakingFault.TheVariants.{Unusable, Cells, Narrow}
use Rattle.calls.specs.declared.fault.StoreFault.TheVariants.{NoRecord, NoValue, Full, Fits, Unreached, Device}
use Rattle.commands.specs.declared.fault.LineFault.{LineFault}
use Rattle.commands.specs.declared.fault.LineFault.TheVariants.{Command, Word, Count, Long, Size}
use Rattle.commands.specs.declared.head.Head.{Head}
use Rattle.commands.specs.declared.group_word.GroupWord.{GroupWord}
use Rattle.commands.specs.declared.word.Number.{Number}
use Rattle.commands.specs.Faults.{line_number}
use Rattle.commands.specs.PlacedRows.{PlacedRow, RefusedAt, NotRefused}
use Rattle.script.specs.declared.fault.Cause.{Cause}
use Rattle.script.specs.declared.fault.Cause.TheVariants.{Line, Image, Making, Store}
use Rattle.script.specs.Faults.{cause_number}
use Rattle.script.specs.Script.{heading_rows}

-- a table refuses or passes, and refuses by one number at one column
pub never_both : (rs : List PlacedRow) (k j : ℕ) → NotRefused rs → RefusedAt rs k j → ⊥
never_both [] k j a b = b
never_both (r ∷ rs) k j a (inl b) = a.0 b.0
never_both (r ∷ rs) k j a (inr b) = never_both rs k j a.1 b.1

pub refused_once : (rs : List PlacedRow) (k j k' j' : ℕ) → RefusedAt rs k j → RefusedAt rs k' j' → (k' ≡ k) × (j' ≡ j)
refused_once [] k j k' j' a b = absurd a
refused_once (r ∷ rs) k j k' j' (inl a) (inl b) = (b.1 ∙ sym a.1, b.2 ∙ sym a.2)
refused_once (r ∷ rs) k j k' j' (inl a) (inr b) = absurd (b.0 a.0)
refused_once (r ∷ rs) k j k' j' (inr a) (inl b) = absurd (a.0 b.0)
refused_once (r ∷ rs) k j k' j' (inr a) (inr b) = refused_once rs k j k' j' a.1 b.1

-- the fault of a line with a number
line_fault : ℕ → LineFault
line_fault k = cond (eqb k 50) Command (cond (eqb k 51) Word (cond (eqb k 52) Count (cond (eqb k 53) Long Size)))

line_fault_is : (f : LineFault) → f ≡ line_fault (line_number f)
unfolding line_fault
line_fault_is Command = refl
line_fault_is Word = refl
line_fault_is Count = refl
line_fault_is Long = refl
line_fault_is Size = refl

pub line_fault_same : (f f' : LineFault) → line_number f' ≡ line_number f → f' ≡ f
line_fault_same f f' e = line_fault_is f' ∙ ap line_fault e ∙ sym (line_fault_is f)

-- a number by which a heading can be refused, and the cause that it stands for
refuses_heading : ℕ → Bool
refuses_heading k = eqb k 11 || (eqb k 12 || (eqb k 30 || (eqb k 31 || eqb k 32)))

heading_cause : ℕ → Cause
heading_cause k =
    cond (eqb k 11) (Image Pages)
    (cond (eqb k 12) (Image Width) (cond (eqb k 30) (Making Unusable) (cond (eqb k 31) (Making Cells) (Making Narrow))))

heading_has : (h : Head GroupWord Number) (k j : ℕ) → RefusedAt (heading_rows h) k j → refuses_heading k ≡ true
unfolding refuses_heading
heading_has h k j (inl a) = ap refuses_heading a.1
heading_has h k j (inr (n₁, inl a)) = ap refuses_heading a.1
heading_has h k j (inr (n₁, inr (n₂, inl a))) = ap refuses_heading a.1
heading_has h k j (inr (n₁, inr (n₂, inr (n₃, inl a)))) = ap refuses_heading a.1
heading_has h k j (inr (n₁, inr (n₂, inr (n₃, inr (n₄, inl a))))) = ap refuses_heading a.1
heading_has h k j (inr (n₁, inr (n₂, inr (n₃, inr (n₄, inr (n₅, never)))))) = absurd never

cause_is : (c : Cause) → refuses_heading (cause_number c) ≡ true → c ≡ heading_cause (cause_number c)
unfolding refuses_heading heading_cause
cause_is (Image Pages) e = refl
cause_is (Image Width) e = refl
cause_is (Making Unusable) e = refl
cause_is (Making Cells) e = refl
cause_is (Making Narrow) e = refl
cause_is (Image Short) e = absurd (both_ways false refl e)
cause_is (Image Trailing) e = absurd (both_ways false refl e)
cause_is (Image Stray) e = absurd (both_ways false refl e)
cause_is (Image Wear) e = absurd (both_ways false refl e)
cause_is (Line Command) e = absurd (both_ways false refl e)
cause_is (Line Word) e = absurd (both_ways false refl e)
cause_is (Line Count) e = absurd (both_ways false refl e)
cause_is (Line Long) e = absurd (both_ways false refl e)
cause_is (Line Size) e = absurd (both_ways false refl e)
cause_is (Store (NoRecord k)) e = absurd (both_ways false refl e)
cause_is (Store (NoValue k)) e = absurd (both_ways false refl e)
cause_is (Store (Full k)) e = absurd (both_ways false refl e)
cause_is (Store (Fits k)) e = absurd (both_ways false refl e)
cause_is (Store (Unreached k)) e = absurd (both_ways false refl e)
cause_is (Store (Device k (NoPage p i))) e = absurd (both_ways false refl e)
cause_is (Store (Device k (NoCell p i))) e = absurd (both_ways false refl e)
cause_is (Store (Device k (Worn p))) e = absurd (both_ways false refl e)

pub heading_cause_same :
    (h : Head GroupWord Number) (f f' : Cause) (j j' : ℕ) → RefusedAt (heading_rows h) (cause_number f) j →
    RefusedAt (heading_rows h) (cause_number f') j' → f' ≡ f
heading_cause_same h f f' j j' a b =
    cause_is f' (heading_has h _ _ b) ∙ ap heading_cause (refused_once (heading_rows h) _ _ _ _ a b).0
    ∙ sym (cause_is f (heading_has h _ _ a))
