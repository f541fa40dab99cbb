-- What cells that agree have in common for the calls: records, values, what is in reach, and the tables of refusals.
-- Assumes nothing.
use Rattle.std.proofs.Common.{◌≡◌, ℕ, ◌+◌, ◌*◌, ◌%◌, ◌≤◌, not, ◌↔◌, sym, refl, ap, ◌∙◌, ap₂, arith}
use Rattle.group.specs.Group.{step}
use Rattle.cells.specs.Cells.{Cells, Shaped, Alike}
use Rattle.cells.specs.Sets.{Cellset}
use Rattle.cells.proofs.Alikes.{shaped_join, shaped_then}
use Rattle.coset.specs.Code.{Code, Reaches}
use Rattle.coset.specs.OnePlan.{SameCells}
use Rattle.coset.proofs.Sums.{sum_agree}
use Rattle.coset.proofs.OnePlan.{reaches_move}
use Rattle.calls.specs.declared.call.Call.{Call}
use Rattle.calls.specs.declared.call.Call.TheVariants.{Get, Put, Renew}
use Rattle.calls.specs.Records.{records, per_page, page_of, first_of, held, free, value}
use Rattle.calls.specs.Calls.{rows}
use Rattle.calls.proofs.Geometry.{There, there, place_within, page_same, place_same, records_same}
use Rattle.cells.proofs.SameRows.{SameRows}

-- what keeps the shape of cells that agree
pub shape_left : {m m' n n' : Cells} → Alike m m' → Shaped m n → Shaped m' n' → Shaped n n'
shape_left alike s s' = shaped_join s (shaped_then alike.shape s')

module _ (c : Code) (m m' : Cells) (alike : Alike m m') where
  pub page_too : (k : ℕ) → page_of c m' k ≡ page_of c m k
  page_too k = page_same c m m' alike.shape k

  pub first_too : (k : ℕ) → first_of c m' k ≡ first_of c m k
  first_too k = ap (λ q. q * c.cells) (place_same c m m' alike.shape k)

  pub held_same : (k : ℕ) → There c m k → SameCells c (held c m k) (held c m' k)
  held_same k at i lt =
      ap₂ (λ p j. m'.set p (j + i)) (page_too k) (first_too k)
      ∙ alike.set (page_of c m k) (first_of c m k + i)
      (record { page = at.page; cell = place_within c m (k % per_page c m) i at.some at.place lt })

  pub free_same : (k : ℕ) → There c m k → SameCells c (free c m k) (free c m' k)
  free_same k at i lt = ap not (held_same k at i lt)

  pub value_same : (k : ℕ) → There c m k → value c m' k ≡ value c m k
  value_same k at = sum_agree c (held c m' k) (held c m k) c.cells (held_same k at)

  pub step_same : (k x : ℕ) → There c m k → step c.group (value c m' k) x ≡ step c.group (value c m k) x
  step_same k x at = ap (λ v. step c.group v x) (value_same k at)

  -- a set of unset cells that takes the record to x
  abbrev ReachesIn : Cells → ℕ → ℕ → Cellset → Type 0
  ReachesIn m k x s = Reaches c (free c m k) (step c.group (value c m k) x) s

  reaches_there : (k x : ℕ) → There c m k → (s : Cellset) → ReachesIn m k x s → ReachesIn m' k x s
  reaches_there k x at s r =
      reaches_move c (free c m k) (free c m' k) _ _ s (λ i lt. sym (free_same k at i lt)) (sym (step_same k x at)) r

  reaches_back : (k x : ℕ) → There c m k → (s : Cellset) → ReachesIn m' k x s → ReachesIn m k x s
  reaches_back k x at s r = reaches_move c (free c m' k) (free c m k) _ _ s (free_same k at) (step_same k x at) r

  no_record : (k : ℕ) → (records c m ≤ k) ↔ (records c m' ≤ k)
  no_record k = let same = records_same c m m' alike.shape in (λ h. omega arith, λ h. omega arith)

  pub rows_same : (call : Call) → SameRows (rows c m call) (rows c m' call)
  rows_same (Get k) = (refl, no_record k, λ some. tt)
  rows_same (Put k x) = (
    refl,
    no_record k,
    λ some.
        let at = there c m k (omega arith) in (
          refl,
          ((λ h. h), (λ h. h)),
          λ _. (refl, ((λ none s r. none s (reaches_back k x at s r)), (λ none s r. none s (reaches_there k x at s r))), λ _. tt),
        ),
  )
  rows_same (Renew k x) = (
    refl,
    no_record k,
    λ some.
        let at = there c m k (omega arith) in (
          refl,
          ((λ h. h), (λ h. h)),
          λ _. (
            refl,
            ((λ fits. (fits.0, reaches_there k x at fits.0 fits.1)), (λ fits. (fits.0, reaches_back k x at fits.0 fits.1))),
            λ _. (
              refl,
              ((λ h. h), (λ h. h)),
              λ _.
                  let limit = alike.shape.limit in
                  let wear = ap m'.wear (page_too k) ∙ alike.wear (page_of c m k) at.page in
                  (refl, ((λ h. omega arith), (λ h. omega arith)), λ _. tt),
            ),
          ),
        ),
  )
