-- The life of a page obeys the rules. Assumes nothing.
use Rattle.std.proofs.Common.{◌≡◌, ℕ, zero, suc, ◌+◌, ◌*◌, ◌<◌, ◌||◌, List, [], ◌∷◌, sym, refl, ap, ◌∙◌, zero-add, inl, inr, arith}
use Rattle.group.specs.Group.{halves, most_halves, figure}
use Rattle.group.specs.Vectors.{vectors}
use Rattle.cells.specs.Cells.{Cells, Cell}
use Rattle.cells.specs.Sets.{size_below}
use Rattle.coset.specs.Code.{Code, code, every, sum_below, Unreachable, Plan}
use Rattle.calls.specs.Records.{free, Within}
use Rattle.calls.specs.Calls.{Sets, Renewed, renewed_value, sizes}
use Rattle.calls.specs.Examples.{labelled}
use Rattle.calls.specs.Sample.{one_page, all_set, one_set_again, PageLifeObeys}
use Rattle.calls.proofs.Subsets.{none_reaches, plan_by}

abbrev c : Code
c = code (vectors 2) 3

abbrev page : List ℕ → ℕ → Cells
page ls w = (one_page 3 ls w 0 0 0).cells

-- a put that sets cells: each of the three is set if it was or is one of them
puts : (ls more now : List ℕ) (w : ℕ) → ((i : ℕ) → i < 3 → labelled now i ≡ (labelled ls i || labelled more i)) → Sets c 0 (labelled more) (page ls w) (page now w)
puts ls more now w here =
    record { shape = record { pages = refl; width = refl; limit = refl }; here = set; others = other; wear = λ p h. refl }
  where
    set : (i : ℕ) → i < 3 → labelled now (0 + i) ≡ (labelled ls (0 + i) || labelled more i)
    set i lt = ap (labelled now) (zero-add i) ∙ here i lt ∙ sym (ap (λ k. labelled ls k || labelled more i) (zero-add i))

    other : (p j : ℕ) → Cell (page ls w) p j → (Within c (page ls w) 0 p j → ⊥) → labelled now j ≡ labelled ls j
    other p j cell outside = absurd (let at = cell.page in let lt = cell.cell in outside (record { page = omega arith; from = omega arith; below = omega arith }))

-- what holds of cells 0, 1 and 2 holds of each
three : (P : ℕ → Type 0) → P 0 → P 1 → P 2 → (i : ℕ) → i < 3 → P i
three P a b d zero h = a
three P a b d (suc zero) h = b
three P a b d (suc (suc zero)) h = d
three P a b d (suc (suc (suc i))) h = absurd (omega arith)

put_3 : Plan c (free c (page [] 0) 0) 3 (labelled (3 ∷ []))
unfolding sum_below size_below
put_3 = plan_by c (free c (page [] 0) 0) 3 (labelled (3 ∷ [])) refl

put_1 : Plan c (free c (page (3 ∷ []) 0) 0) 2 (labelled (2 ∷ []))
unfolding sum_below size_below
put_1 = plan_by c (free c (page (3 ∷ []) 0) 0) 2 (labelled (2 ∷ [])) refl

put_0 : Plan c (free c (page (2 ∷ (3 ∷ [])) 0) 0) 1 (labelled (1 ∷ []))
unfolding sum_below size_below
put_0 = plan_by c (free c (page (2 ∷ (3 ∷ [])) 0) 0) 1 (labelled (1 ∷ [])) refl

put_again : Plan c (free c (page (1 ∷ []) 1) 0) 1 (labelled (2 ∷ (3 ∷ [])))
unfolding sum_below size_below
put_again = plan_by c (free c (page (1 ∷ []) 1) 0) 1 (labelled (2 ∷ (3 ∷ []))) refl

no_cell_left : (w : ℕ) → Unreachable c (free c (page (1 ∷ (2 ∷ (3 ∷ []))) w) 0) 1
unfolding sum_below size_below
no_cell_left w = none_reaches c (free c (page (1 ∷ (2 ∷ (3 ∷ []))) w) 0) 1 refl

from_empty : Plan c every 1 (labelled (1 ∷ []))
unfolding sum_below size_below
from_empty = plan_by c every 1 (labelled (1 ∷ [])) refl

renews : Renewed c 0 1 all_set.cells one_set_again.cells 1
unfolding sum_below size_below sizes
renews =
    record {
      shape = record { pages = refl; width = refl; limit = refl };
      plans = λ r. labelled (1 ∷ []);
      planned = planned;
      written = written;
      beyond = λ j lo hi. absurd (omega arith);
      others = λ p j cell apart. absurd (let at = cell.page in apart (omega arith));
      worn = refl;
      unworn = λ p h apart. absurd (apart (omega arith));
      counted = refl;
    }
  where
    planned : (r : ℕ) → r < 1 → Plan c every (renewed_value c all_set.cells 0 1 (0 * 1 + r)) (labelled (1 ∷ []))
    planned zero h = from_empty
    planned (suc r) h = absurd (omega arith)

    written : (r i : ℕ) → r < 1 → i < 3 → labelled (1 ∷ []) (r * 3 + i) ≡ labelled (1 ∷ []) i
    written zero i h lt = let at : 0 * 3 + i ≡ i = omega arith in ap (labelled (1 ∷ [])) at
    written (suc r) i h lt = absurd (omega arith)

pub page_life_obeys : PageLifeObeys
unfolding sum_below size_below sizes halves most_halves figure
page_life_obeys = record {
  figure_is = refl;
  enough = omega arith;
  labelled = λ i. refl;
  starts = λ i h. refl;
  linked = (refl, (refl, (refl, (refl, (refl, (refl, (refl, (refl, refl))))))));
  obeys = (
    ((λ h. omega arith, (λ h. omega arith, ((λ f. f (labelled (3 ∷ [])) put_3.reaches), tt))), (labelled (3 ∷ []), put_3, puts [] (3 ∷ []) (3 ∷ []) 0 (three _ refl refl refl), refl), refl),
    (
      ((λ h. omega arith, (λ h. omega arith, ((λ f. f (labelled (2 ∷ [])) put_1.reaches), tt))), (labelled (2 ∷ []), put_1, puts (3 ∷ []) (2 ∷ []) (2 ∷ (3 ∷ [])) 0 (three _ refl refl refl), refl), refl),
      (
        ((λ h. omega arith, (λ h. omega arith, ((λ f. f (labelled (1 ∷ [])) put_0.reaches), tt))), (labelled (1 ∷ []), put_0, puts (2 ∷ (3 ∷ [])) (1 ∷ []) (1 ∷ (2 ∷ (3 ∷ []))) 0 (three _ refl refl refl), refl), refl),
        (
          (inr (λ h. omega arith, inr (λ h. omega arith, inl (no_cell_left 0, refl))), refl, refl),
          (
            ((λ h. omega arith, (λ h. omega arith, ((λ r. no_cell_left 0 r.0 r.1), ((λ f. f (labelled (1 ∷ [])) from_empty.reaches), (λ h. omega arith, tt))))), renews, refl),
            (
              ((λ h. omega arith, (λ h. omega arith, ((λ f. f (labelled (2 ∷ (3 ∷ []))) put_again.reaches), tt))), (labelled (2 ∷ (3 ∷ [])), put_again, puts (1 ∷ []) (2 ∷ (3 ∷ [])) (1 ∷ (2 ∷ (3 ∷ []))) 1 (three _ refl refl refl), refl), refl),
              (
                (inr (λ h. omega arith, inr (λ h. omega arith, inl (no_cell_left 1, refl))), refl, refl),
                (
                  (inr (λ h. omega arith, inr (λ h. omega arith, inr ((λ r. no_cell_left 1 r.0 r.1), inr ((λ f. f (labelled (1 ∷ [])) from_empty.reaches), inl (omega arith, refl))))), (refl, (refl, refl)), refl),
                  tt,
                ),
              ),
            ),
          ),
        ),
      ),
    ),
  );
}
