-- The sample history obeys the rules. Assumes nothing.
use Rattle.std.proofs.Common.{◌≡◌, ℕ, zero, suc, ◌+◌, ◌*◌, ◌<◌, ◌||◌, List, [], ◌∷◌, refl, inl, inr, arith}
use Rattle.std.proofs.lemmas.Bool.Decides.{nat_tests}
use Rattle.cells.specs.Cells.{Cells, Cell}
use Rattle.cells.specs.Sets.{Cellset, size_below}
use Rattle.group.specs.Integers.{integers}
use Rattle.group.specs.Modulo.{integers_lawful}
use Rattle.coset.specs.Code.{Code, code, every, sum_below, Unreachable, Plan}
use Rattle.calls.specs.Records.{free, Within}
use Rattle.calls.specs.Calls.{Sets, Renewed, renewed_value, sizes}
use Rattle.calls.specs.Examples.{labelled}
use Rattle.calls.specs.Sample.{IntegersLawful, one_page, written_once, renewed_once, SampleObeys}
use Rattle.calls.proofs.Subsets.{none_reaches, plan_by}

abbrev c : Code
c = code (integers 3) 1

pub integers_lawful_all : IntegersLawful
integers_lawful_all v lo hi = (integers_lawful v, order)
  where
    order : (integers v).order ≡ v
    order = grind (arith, nat_tests)

-- a page of one cell, set or not by its label
abbrev page : List ℕ → ℕ → Cells
page ls w = (one_page 1 ls w 0 0 0).cells

-- which cells of its record are free
abbrev open_cells : List ℕ → ℕ → Cellset
open_cells ls w = free c (page ls w) 0

-- a put that sets the one cell, and one that sets none
module _ (w : ℕ) where
  set_one : Sets c 0 (labelled (1 ∷ [])) (page [] w) (page (1 ∷ []) w)
  set_one =
      record {
        shape = record { pages = refl; width = refl; limit = refl };
        here = here;
        others = other;
        wear = λ p h. refl;
      }
    where
      here : (i : ℕ) → i < 1 → labelled (1 ∷ []) (0 + i) ≡ (labelled [] (0 + i) || labelled (1 ∷ []) i)
      here zero h = refl
      here (suc i) h = absurd (omega arith)

      other : (p j : ℕ) → Cell (page [] w) p j → (Within c (page [] w) 0 p j → ⊥) → labelled (1 ∷ []) j ≡ labelled [] j
      other p j cell outside = absurd (let at = cell.page in let lt = cell.cell in outside (record { page = omega arith; from = omega arith; below = omega arith }))

  set_none : Sets c 0 (labelled []) (page (1 ∷ []) w) (page (1 ∷ []) w)
  set_none =
      record { shape = record { pages = refl; width = refl; limit = refl }; here = here; others = λ p j cell outside. refl; wear = λ p h. refl }
    where
      here : (i : ℕ) → i < 1 → labelled (1 ∷ []) (0 + i) ≡ (labelled (1 ∷ []) (0 + i) || labelled [] i)
      here zero h = refl
      here (suc i) h = absurd (omega arith)

renews : Renewed c 0 0 written_once.cells renewed_once.cells 0
unfolding sum_below size_below sizes
renews =
    record {
      shape = record { pages = refl; width = refl; limit = refl };
      plans = λ r. labelled [];
      planned = planned;
      written = λ r i h k. refl;
      beyond = λ j lo hi. refl;
      others = λ p j cell apart. absurd (only_page p cell.page apart);
      worn = refl;
      unworn = λ p h apart. absurd (only_page p h apart);
      counted = refl;
    }
  where
    only_page : (p : ℕ) → p < 1 → (p ≡ 0 → ⊥) → ⊥
    only_page p h apart = apart (omega arith)

    planned : (r : ℕ) → r < 1 → Plan c every (renewed_value c written_once.cells 0 0 (0 * 1 + r)) (labelled [])
    planned zero h = plan_by c every 0 (labelled []) refl
    planned (suc r) h = absurd (omega arith)

-- what is in reach, and what is not
full_empty : Unreachable c (open_cells [] 0) 2
unfolding sum_below size_below
full_empty = none_reaches c (open_cells [] 0) 2 refl

full_set : (w : ℕ) → Unreachable c (open_cells (1 ∷ []) w) 2
unfolding sum_below size_below
full_set w = none_reaches c (open_cells (1 ∷ []) w) 2 refl

plan_one : (w : ℕ) → Plan c (open_cells [] w) 1 (labelled (1 ∷ []))
unfolding sum_below size_below
plan_one w = plan_by c (open_cells [] w) 1 (labelled (1 ∷ [])) refl

plan_none : Plan c (open_cells (1 ∷ []) 0) 0 (labelled [])
unfolding sum_below size_below
plan_none = plan_by c (open_cells (1 ∷ []) 0) 0 (labelled []) refl

far : Unreachable c every 2
unfolding sum_below size_below
far = none_reaches c every 2 refl

near : Plan c every 0 (labelled [])
unfolding sum_below size_below
near = plan_by c every 0 (labelled []) refl

pub sample_obeys : SampleObeys
unfolding sum_below size_below sizes
sample_obeys = (
  (refl, (refl, (refl, (refl, (refl, (refl, (refl, (refl, (refl, (refl, (refl, (refl, (refl, refl))))))))))))),
  (
    (((λ h. omega arith), tt), (refl, refl), refl),
    (
      (inl (omega arith, refl), refl, refl),
      (
        (inr (λ h. omega arith, inl (omega arith, refl)), refl, refl),
        (
          (inr (λ h. omega arith, inr (λ h. omega arith, inl (full_empty, refl))), refl, refl),
          (
            (inr (λ h. omega arith, inr (λ h. omega arith, inl ((labelled (1 ∷ []), (plan_one 0).reaches), refl))), refl, refl),
            (
              (inr (λ h. omega arith, inr (λ h. omega arith, inr ((λ r. full_empty r.0 r.1), inl (far, refl)))), refl, refl),
              (
                ((λ h. omega arith, (λ h. omega arith, ((λ f. f (labelled (1 ∷ [])) (plan_one 0).reaches), tt))), (labelled (1 ∷ []), plan_one 0, set_one 0, refl), refl),
                (
                  (((λ h. omega arith), tt), (refl, refl), refl),
                  (
                    ((λ h. omega arith, (λ h. omega arith, ((λ f. f (labelled []) plan_none.reaches), tt))), (labelled [], plan_none, set_none 0, refl), refl),
                    (
                      (inr (λ h. omega arith, inr (λ h. omega arith, inl (full_set 0, refl))), refl, refl),
                      (
                        ((λ h. omega arith, (λ h. omega arith, ((λ r. full_set 0 r.0 r.1), ((λ f. f (labelled []) near.reaches), (λ h. omega arith, tt))))), renews, refl),
                        (
                          ((λ h. omega arith, (λ h. omega arith, ((λ f. f (labelled (1 ∷ [])) (plan_one 1).reaches), tt))), (labelled (1 ∷ []), plan_one 1, set_one 1, refl), refl),
                          (
                            (inr (λ h. omega arith, inr (λ h. omega arith, inr ((λ r. full_set 1 r.0 r.1), inr ((λ f. f (labelled []) near.reaches), inl (omega arith, refl))))), (refl, (refl, refl)), refl),
                            tt,
                          ),
                        ),
                      ),
                    ),
                  ),
                ),
              ),
            ),
          ),
        ),
      ),
    ),
  ),
)
