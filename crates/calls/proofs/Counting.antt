-- The marks of accepted puts and renewals are as many as these answer. Assumes nothing.
use Rattle.std.proofs.Common.{◌≡◌, ℕ, zero, suc, ◌+◌, ◌-◌, ◌*◌, ◌/◌, ◌<◌, ◌≤◌, min, Bool, true, false, cond, not, ◌&&◌, ◌||◌, List, [], ◌∷◌, ◌++◌, Ok, Err, sym, refl, ap, ◌∙◌, ap₂, suc-mul, mul-le-mul_right, arith}
use Rattle.std.proofs.lemmas.Nat.{div-add-mod'}
use Rattle.std.proofs.lemmas.List.Sums.{sum_by-append, sum_by-cons}
use Rattle.std.specs.Prelude.{count_by}
use Rattle.cells.specs.Cells.{Cells}
use Rattle.cells.specs.Sets.{Cellset, size_below}
use Rattle.cells.specs.Steps.{Step}
use Rattle.cells.specs.Steps.Step.{Erase}
use Rattle.cells.specs.Chain.{is_mark}
use Rattle.coset.specs.Code.{Code}
use Rattle.calls.specs.declared.call.Call.{Call}
use Rattle.calls.specs.declared.call.Call.TheVariants.{Get, Put, Renew}
use Rattle.calls.specs.declared.fault.StoreFault.{StoreFault}
use Rattle.calls.specs.declared.fault.StoreFault.TheVariants.{NoRecord, NoValue, Full, Fits, Unreached, Device}
use Rattle.calls.specs.Records.{per_page, page_of, first_of, held, free}
use Rattle.calls.specs.Calls.{State, Answer, Sets, sizes, Obeys}
use Rattle.calls.specs.History.{Event, Every, total, marks}
use Rattle.calls.specs.Steps.{marks_of, newly_set, refused_steps, steps_of, all_steps}
use Rattle.calls.proofs.Geometry.{page_same, place_same}
use Rattle.calls.proofs.Marks.{marks_none, marks_agree, marks_both, marks_beyond, count_marks}
use Rattle.calls.proofs.Parts.{Rules}

-- what is set now and was not before is what was added, if none of it was set before
pub added : (before s : Bool) → (s ≡ true → not before ≡ true) → ((before || s) && not before) ≡ s
added true true apart = apart refl
added true false apart = refl
added false true apart = refl
added false false apart = refl

-- an accepted put sets the cells of its plan
pub put_sets :
    (c : Code) (k : ℕ) (s : Cellset) (before after : Cells) → ((i : ℕ) → i < c.cells → s i ≡ true → free c before k i ≡ true) →
    Sets c k s before after → (i : ℕ) → i < c.cells → newly_set c before after k i ≡ s i
put_sets c k s before after within sets i h =
    ap (λ b. b && not (held c before k i))
    (ap₂ (λ p r. after.set p (r * c.cells + i)) (sym (page_same c before after sets.shape k)) (sym (place_same c before after sets.shape k)) ∙ sets.here i h)
    ∙ added (held c before k i) (s i) (within i h)

size_agree : (s t : Cellset) (n : ℕ) → ((i : ℕ) → i < n → s i ≡ t i) → size_below s n ≡ size_below t n
size_agree s t n same = sym (count_marks 0 0 s n) ∙ ap (count_by is_mark) (marks_agree 0 0 s t n same) ∙ count_marks 0 0 t n

count_both : (xs ys : List Step) → count_by is_mark (xs ++ ys) ≡ count_by is_mark xs + count_by is_mark ys
count_both xs ys = sum_by-append (λ t. cond (is_mark t) 1 0) xs ys

-- the marks of the records of a page, each of which has the cells of its plan set
count_page :
    (p n : ℕ) (set : Cellset) (plans : ℕ → Cellset) (b : ℕ) → ((r i : ℕ) → r < b → i < n → set (r * n + i) ≡ plans r i) →
    count_by is_mark (marks_of p 0 set (b * n)) ≡ sizes n plans b
unfolding sizes
count_page p n set plans zero written =
    let none : 0 * n ≡ 0 = omega arith in ap (λ k. count_by is_mark (marks_of p 0 set k)) none ∙ ap (count_by is_mark) (marks_none p 0 set)
count_page p n set plans (suc b) written =
    let last = λ (i : ℕ). set (b * n + i) in
    let split = ap (λ k. count_by is_mark (marks_of p 0 set k)) (suc-mul b n) ∙ ap (count_by is_mark) (marks_both p 0 set (b * n) n)
    ∙ count_both (marks_of p 0 set (b * n)) (marks_of p (0 + b * n) last n) in
    let earlier = count_page p n set plans b (λ r i h lt. written r i (omega arith) lt) in
    let here = count_marks p (0 + b * n) last n ∙ size_agree last (plans b) n (λ i h. written b i (omega arith) h) in
    omega arith

page_within : (n w : ℕ) → min 64 (w / n) * n ≤ w
page_within n w =
    let most = mul-le-mul_right n (least 64 (w / n)) in
    let whole = div-add-mod' w n in
    omega arith
  where
    least : (a b : ℕ) → min a b ≤ b
    least a b = omega arith

refused_none : (p : ℕ) (f : StoreFault) → count_by is_mark (refused_steps p f) ≡ 0
refused_none p (NoRecord k) = refl
refused_none p (NoValue k) = refl
refused_none p (Full k) = refl
refused_none p (Fits k) = refl
refused_none p (Unreached k) = refl
refused_none p (Device k f) = refl

module _ (c : Code) where
  count_call :
      (call : Call) (answer : Answer) (before after : State) → Obeys c call answer before after →
      count_by is_mark (steps_of c call answer before.cells after.cells) ≡ marks call answer
  count_call (Get k) answer before after obeys = refl
  count_call (Put k x) (Err f) before after obeys = refl
  count_call (Renew k x) (Err f) before after obeys = refused_none (page_of c before.cells k) f
  count_call (Put k x) (Ok r) before after obeys =
      let s = obeys.1.0 in
      count_marks (page_of c before.cells k) (first_of c before.cells k) (newly_set c before.cells after.cells k) c.cells
      ∙ size_agree (newly_set c before.cells after.cells k) s c.cells (put_sets c k s before.cells after.cells obeys.1.1.reaches.within obeys.1.2)
      ∙ sym obeys.1.3
  count_call (Renew k x) (Ok r) before after obeys =
      let p = page_of c before.cells k in
      let b = per_page c before.cells in
      let n = c.cells in
      let w = before.cells.width in
      let fits = page_within n w in
      let whole : b * n + (w - b * n) ≡ w = omega arith in
      let set = after.cells.set p in
      sum_by-cons (λ t. cond (is_mark t) 1 0) (Erase p) (marks_of p 0 set w)
      ∙ (let one : count_by is_mark (marks_of p 0 set w) ≡ r =
      ap (λ k. count_by is_mark (marks_of p 0 set k)) (sym whole)
      ∙ ap (count_by is_mark) (marks_beyond p 0 set (b * n) (w - b * n) (λ j lo hi. obeys.1.beyond j lo (omega arith)))
      ∙ count_page p n set obeys.1.plans b obeys.1.written ∙ sym obeys.1.counted in
      omega arith)

  -- over a history
  pub count_all : (history : List Event) → Every (Rules c) history → count_by is_mark (all_steps c history) ≡ total (λ e. marks e.call e.answer) history
  unfolding total
  count_all [] all = refl
  count_all (e ∷ es) all =
      count_both (steps_of c e.call e.answer e.before.cells e.after.cells) (all_steps c es)
      ∙ ap₂ ◌+◌ (count_call e.call e.answer e.before e.after all.0) (count_all es all.1)
