-- That no answer of a call is above 1,024. Assumes nothing.
use Rattle.std.proofs.Common.{ℕ, zero, suc, ◌*◌, ◌<◌, ◌≤◌, inr, sym, subst, suc-mul, arith}
use Rattle.group.specs.Group.{Lawful, In}
use Rattle.cells.specs.Cells.{Cells}
use Rattle.cells.specs.Rows.{Served}
use Rattle.cells.specs.Sets.{Cellset}
use Rattle.cells.proofs.Sizes.{size_le}
use Rattle.coset.specs.Code.{Code, LabelledInTurn}
use Rattle.coset.proofs.Sums.{sum_in, label_in}
use Rattle.calls.specs.declared.call.Call.{Call}
use Rattle.calls.specs.declared.call.Call.TheVariants.{Get, Put, Renew}
use Rattle.calls.specs.Records.{making_rows, per_page, held}
use Rattle.calls.specs.Calls.{sizes, Serves}
use Rattle.store.proofs.Paging.{page_fits}

-- b sets of at most n cells
sizes_le : (n : ℕ) (sets : ℕ → Cellset) (b : ℕ) → sizes n sets b ≤ b * n
unfolding sizes
sizes_le n sets zero = omega arith
sizes_le n sets (suc b) =
    let one = size_le (sets b) n in
    let rest = sizes_le n sets b in
    let product = suc-mul b n in
    omega arith

module _ (c : Code) (laws : Lawful c.group) (labels : LabelledInTurn c) (m : Cells) (narrow : m.width ≤ 1024) (makes : Served (making_rows c m)) where
  few : c.cells ≤ 63
  few = let more : 63 < c.cells → ⊥ = λ h. makes.1.0 (inr h) in omega arith

  -- each label is that of the rules, so an element
  label_below : (i : ℕ) → In c.group (c.label i)
  label_below i = subst (In c.group) (sym (labels i)) (label_in c.group laws c.cells i)

  pub small_answer : (call : Call) (a : ℕ) (after : Cells) → Serves c call a m after → a ≤ 1024
  small_answer (Get k) a after serves =
      let inside = sum_in c laws makes.0 label_below (held c m k) c.cells in
      let most = laws.most in
      omega (arith, serves.0)
  small_answer (Put k x) a after serves =
      let most = size_le serves.0 c.cells in
      omega (arith, serves.3, few)
  small_answer (Renew k x) a after serves =
      let most = sizes_le c.cells serves.plans (per_page c m) in
      let fits = page_fits c.cells m.width (per_page c m) (omega arith) in
      omega (arith, serves.counted)
