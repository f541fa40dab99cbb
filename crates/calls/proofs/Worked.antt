-- The worked examples hold. Assumes nothing.
use Rattle.std.proofs.Common.{◌≡◌, ℕ, ◌+◌, ◌*◌, ◌<◌, true, false, ◌||◌, ◌⊎◌, List, [], ◌∷◌, sym, refl, ap, ◌∙◌, subst, ap₂, inl, inr, zero-mul, arith}
use Rattle.std.proofs.Math.Nat.{zero-div, zero-mod}
use Rattle.std.proofs.lemmas.Bool.{both_ways}
use Rattle.cells.specs.Cells.{Cells}
use Rattle.group.specs.Group.{halves, most_halves, figure}
use Rattle.group.specs.Integers.{integers}
use Rattle.group.specs.Vectors.{vectors}
use Rattle.cells.specs.Sets.{Cellset, size_below}
use Rattle.coset.specs.Code.{Code, code, every, sum_below, size_of, cells_of, Plan}
use Rattle.coset.specs.OnePlan.{SameCells}
use Rattle.coset.proofs.Lists.{cells_agree}
use Rattle.coset.proofs.Sums.{size_agree}
use Rattle.calls.specs.declared.call.Call.TheVariants.{Put, Renew}
use Rattle.calls.specs.Records.{records, per_page, page_of, first_of, free}
use Rattle.calls.specs.Calls.{Sets, sizes, Renewed, renewed_value}
use Rattle.calls.specs.Examples.{labelled, one_record, step_to, IsPlan, IsSmallest, ExampleHolds, plans, smallest, leaves, refuses, making_accepted, z7, z3, z4, Worked}
use Rattle.coset.proofs.OnePlan.{plans_agree}
use Rattle.calls.proofs.Subsets.{full_test, none_reaches, smallest_test, smallest_by, plan_test, plan_by, list_test, listed_by}

-- the size of the one plan of a page
one_size : (ps : ℕ → Cellset) (n : ℕ) → sizes n ps 1 ≡ size_below (ps 0) n
unfolding sizes
one_size ps n = omega arith

-- the plan of an example, by a test that antt computes; a plan is one set
module _ (c : Code) (ls : List ℕ) (x : ℕ) where
  abbrev unset : Cellset
  unset = free c (one_record c ls) 0

  one_plan : (p : List ℕ) → plan_test c unset (step_to c ls x) (labelled p) ≡ true → ExampleHolds (plans c ls x p)
  one_plan p passes =
      let plan = plan_by c unset (step_to c ls x) (labelled p) passes in
      (plan, λ s other. plans_agree c unset unset (step_to c ls x) (labelled p) s (λ i h. refl) plan other)

  -- two sets are the smallest
  two_smallest :
      (p q : List ℕ) → smallest_test c unset (step_to c ls x) (labelled p) ≡ true →
      smallest_test c unset (step_to c ls x) (labelled q) ≡ true →
      list_test c unset (step_to c ls x) (labelled p) (p ∷ (q ∷ [])) ≡ true → ExampleHolds (smallest c ls x (p ∷ (q ∷ [])))
  two_smallest p q a b all = (
    (small p a, (small q b, tt)),
    (λ s other. listed_by c unset (step_to c ls x) (labelled p) (p ∷ (q ∷ [])) all s other.leads (other.fewest (labelled p) (small p a).leads)),
  )
    where
      small : (r : List ℕ) → smallest_test c unset (step_to c ls x) (labelled r) ≡ true → IsSmallest c ls x (labelled r)
      small r e = let by = smallest_by c unset (step_to c ls x) (labelled r) e in record { leads = by.0; fewest = by.1 }

  -- the one page with other cells set, and so much worn
  page_with : Cellset → ℕ → Cells
  page_with set wear = record { pages = 1; width = c.cells; set = λ p i. set i; wear = λ p. wear; limit = 1 }

  -- its one record lies at its beginning
  page_is : page_of c (one_record c ls) 0 ≡ 0
  page_is = zero-div (per_page c (one_record c ls))

  first_is : (m : Cells) → first_of c m 0 ≡ 0
  first_is m = ap (λ q. q * c.cells) (zero-mod (per_page c m)) ∙ zero-mul c.cells

  at : (m : Cells) (i : ℕ) → first_of c m 0 + i ≡ i
  at m i = let e = first_is m in omega arith

  -- what a put answers and leaves is known from the plan
  module _ (p : List ℕ) (passes : plan_test c unset (step_to c ls x) (labelled p) ≡ true) where
    put_plan : IsPlan c ls x (labelled p)
    put_plan = plan_by c unset (step_to c ls x) (labelled p) passes

    put_plan_too : (s : Cellset) → IsPlan c ls x s → SameCells c (labelled p) s
    put_plan_too s other = plans_agree c unset unset (step_to c ls x) (labelled p) s (λ i h. refl) put_plan other

    put_sets : Sets c 0 (labelled p) (one_record c ls) (page_with (λ i. labelled ls i || labelled p i) 0)
    unfolding page_with
    put_sets = record {
      shape = record { pages = refl; width = refl; limit = refl };
      here = λ i h. ap (λ j. labelled ls (first_of c (one_record c ls) 0 + i) || labelled p j) (at (one_record c ls) i);
      others = λ q j cell apart.
          let first = first_is (one_record c ls) in
          let page = cell.page in
          let inside = cell.cell in
          absurd (apart (record { page = omega (arith, page_is); from = omega arith; below = omega arith }));
      wear = λ q h. refl;
    }

    put_leaves :
        (after : Cells) (s : Cellset) → SameCells c (labelled p) s → Sets c 0 s (one_record c ls) after → (i : ℕ) →
        i < c.cells → after.set 0 i ≡ (labelled ls i || labelled p i)
    put_leaves after s same sets i h =
        ap₂ after.set (sym (zero-div (per_page c after))) (sym (at after i)) ∙ sets.here i h
        ∙ ap₂ (λ j b. labelled ls j || b) (at (one_record c ls) i) (same i h)

    one_put :
        0 < records c (one_record c ls) → x < c.group.order →
        ExampleHolds (leaves c ls (Put 0 x) (size_of c (labelled p)) (cells_of c (λ i. labelled ls i || labelled p i)))
    one_put there element = record {
      not_refused = (λ none. omega arith, (λ large. omega arith, (λ full. full (labelled p) put_plan.reaches, tt)));
      after = page_with (λ i. labelled ls i || labelled p i) 0;
      served = (labelled p, put_plan, put_sets, refl);
      only = λ r after done. (
        done.3 ∙ size_agree done.0 (labelled p) c.cells (put_plan_too done.0 done.1),
        cells_agree (after.set 0) (λ i. labelled ls i || labelled p i) 0 c.cells
            (λ i lo hi. put_leaves after done.0 (put_plan_too done.0 done.1) done.2 i (omega arith)),
      );
    }

  -- and what a renewal of the one record answers and leaves, from its plan from empty
  module _ (p : List ℕ) (alone : per_page c (one_record c ls) ≡ 1) (passes : plan_test c every x (labelled p) ≡ true) where
    renewal_plan : Plan c every x (labelled p)
    renewal_plan = plan_by c every x (labelled p) passes

    -- the first place of the page is that of record 0
    record_is : (r : ℕ) → r < per_page c (one_record c ls) → page_of c (one_record c ls) 0 * per_page c (one_record c ls) + r ≡ 0
    record_is r h =
        let e = ap (λ q. q * per_page c (one_record c ls)) page_is ∙ zero-mul (per_page c (one_record c ls)) in omega arith

    renewal_plan_too :
        (after : Cells) (r : ℕ) (done : Renewed c 0 x (one_record c ls) after r) → SameCells c (labelled p) (done.plans 0)
    renewal_plan_too after r done =
        plans_agree c every every x (labelled p) (done.plans 0) (λ i h. refl) renewal_plan
        (subst (λ k. Plan c every (renewed_value c (one_record c ls) 0 x k) (done.plans 0)) (record_is 0 (omega arith)) (done.planned 0 (omega arith)))

    renewal_leaves :
        (after : Cells) (r : ℕ) (done : Renewed c 0 x (one_record c ls) after r) (i : ℕ) → i < c.cells →
        after.set 0 i ≡ labelled p i
    renewal_leaves after r done i h =
        ap₂ after.set (sym page_is) (let e = zero-mul c.cells in omega arith) ∙ done.written 0 i (omega arith) h
        ∙ renewal_plan_too after r done i h

    renewal_writes : Renewed c 0 x (one_record c ls) (page_with (labelled p) 1) (size_of c (labelled p))
    unfolding page_with
    renewal_writes = record {
      shape = record { pages = refl; width = refl; limit = refl };
      plans = λ r. labelled p;
      planned = λ r h.
          subst (λ k. Plan c every (renewed_value c (one_record c ls) 0 x k) (labelled p)) (sym (record_is r h)) renewal_plan;
      written = λ r i h lt.
          let place : r ≡ 0 = omega arith in
          ap (λ k. labelled p (k * c.cells + i)) place ∙ ap (labelled p) (let e = zero-mul c.cells in omega arith);
      beyond = λ j from below. let all = ap (λ b. b * c.cells) alone in absurd (omega arith);
      others = λ q j cell apart. let page = cell.page in absurd (apart (omega (arith, page_is)));
      worn = refl;
      unworn = λ q h apart. absurd (apart (omega (arith, page_is)));
      counted = sym (ap (sizes c.cells (λ r. labelled p)) alone ∙ one_size (λ r. labelled p) c.cells);
    }

    one_renewal :
        0 < records c (one_record c ls) → x < c.group.order → full_test c unset (step_to c ls x) ≡ true →
        ExampleHolds (leaves c ls (Renew 0 x) (size_of c (labelled p)) (cells_of c (labelled p)))
    one_renewal there element none = record {
      not_refused = (
        λ no. omega arith,
        (
          λ large. omega arith,
          (
            λ fits. none_reaches c unset (step_to c ls x) none fits.0 fits.1,
            (λ unreached. unreached (labelled p) renewal_plan.reaches, (λ worn. omega arith, tt)),
          ),
        ),
      );
      after = page_with (labelled p) 1;
      served = renewal_writes;
      only = λ r after done. (
        done.counted ∙ ap (sizes c.cells done.plans) alone ∙ one_size done.plans c.cells
            ∙ size_agree (done.plans 0) (labelled p) c.cells (renewal_plan_too after r done),
        cells_agree (after.set 0) (labelled p) 0 c.cells (λ i lo hi. renewal_leaves after r done i (omega arith)),
      );
    }

  -- a put of a record and a value that there are, where nothing fits
  full : 0 < records c (one_record c ls) → x < c.group.order → full_test c unset (step_to c ls x) ≡ true → ExampleHolds (refuses c ls (Put 0 x) 42)
  full there element e = inr (λ none. omega arith, inr (λ large. omega arith, inl (none_reaches c unset (step_to c ls x) e, refl)))

  -- a renewal to a value that is out of reach from empty too
  unreached :
      0 < records c (one_record c ls) → x < c.group.order → full_test c unset (step_to c ls x) ≡ true → full_test c every x ≡ true →
      ExampleHolds (refuses c ls (Renew 0 x) 44)
  unreached there element e none =
      inr (λ small. omega arith, inr (λ large. omega arith, inr (λ fits. none_reaches c unset (step_to c ls x) e fits.0 fits.1, inl (none_reaches c every x none, refl))))

fits_64 : ExampleHolds (making_accepted (code (integers 64) 63) 64)
fits_64 = (λ e. omega arith, (no_row, (λ h. omega arith, tt)))
  where
    no_row : ((◌≡◌ {A = ℕ} 63 0) ⊎ (63 < 63)) → ⊥
    no_row (inl e) = omega arith
    no_row (inr h) = omega arith

pub worked_examples : Worked
unfolding sum_below size_below halves most_halves figure
worked_examples = (
  refl,
  (
    one_plan z7 [] 3 (3 ∷ []) refl,
    (
      two_smallest z7 (3 ∷ []) 6 (1 ∷ (2 ∷ [])) (4 ∷ (6 ∷ [])) refl refl refl,
      (
        one_plan z7 (3 ∷ []) 6 (1 ∷ (2 ∷ [])) refl,
        (
          one_put z7 (3 ∷ []) 6 (1 ∷ (2 ∷ [])) refl (omega arith) (omega arith),
          (
            refl,
            (
              refl,
              (
                one_plan z7 (4 ∷ (5 ∷ (6 ∷ []))) 0 (1 ∷ (2 ∷ (3 ∷ []))) refl,
                (
                  refl,
                  (
                    full z7 (1 ∷ (2 ∷ (3 ∷ (4 ∷ (5 ∷ (6 ∷ [])))))) 1 (omega arith) (omega arith) refl,
                    (
                      one_plan z7 (1 ∷ (2 ∷ (3 ∷ (4 ∷ (5 ∷ (6 ∷ [])))))) 0 [] refl,
                      (
                        one_plan (code (vectors 2) 3) (1 ∷ []) 0 (2 ∷ (3 ∷ [])) refl,
                        (
                          refl,
                          (
                            full z4 [] 2 (omega arith) (omega arith) refl,
                            (
                              unreached z4 [] 2 (omega arith) (omega arith) refl refl,
                              (
                                one_plan z4 [] 1 (1 ∷ []) refl,
                                (
                                  (refl, refl),
                                  (
                                    (refl, refl),
                                    (
                                      (refl, refl),
                                      (
                                        refl,
                                        (
                                          fits_64,
                                          (
                                            inl (refl, refl),
                                            (
                                              inr (λ e. omega arith, inl (inr (omega arith), refl)),
                                              (
                                                (refl, refl, refl),
                                                (
                                                  (refl, refl, refl),
                                                  (
                                                    (refl, refl, refl),
                                                    (
                                                      one_plan z3 [] 1 (1 ∷ []) refl,
                                                      (
                                                        one_put z3 [] 1 (1 ∷ []) refl (omega arith) (omega arith),
                                                        (
                                                          one_renewal (code (integers 7) 4) (2 ∷ (4 ∷ [])) 5 (1 ∷ (4 ∷ [])) refl refl (omega arith) (omega arith) refl,
                                                          (
                                                            refl,
                                                            (
                                                              (refl, both_ways false refl),
                                                              (
                                                                (refl, both_ways false refl),
                                                                tt,
                                                              ),
                                                            ),
                                                          ),
                                                        ),
                                                      ),
                                                    ),
                                                  ),
                                                ),
                                              ),
                                            ),
                                          ),
                                        ),
                                      ),
                                    ),
                                  ),
                                ),
                              ),
                            ),
                          ),
                        ),
                      ),
                    ),
                  ),
                ),
              ),
            ),
          ),
        ),
      ),
    ),
  ),
)
