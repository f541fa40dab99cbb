-- Examples worked by hand, as statements about the definitions. Assumes nothing.
use Rattle.std.specs.Prelude.{◌≡◌, ℕ, ◌+◌, ◌-◌, ◌<◌, ◌≤◌, false, ◌||◌, ◌⊎◌, List, [], ◌∷◌, ◌==◌}
use Rattle.group.specs.Group.{Group, step, most_halves, figure}
use Rattle.group.specs.Integers.{integers}
use Rattle.group.specs.Vectors.{vectors}
use Rattle.group.specs.Product.{product}
use Rattle.cells.specs.Cells.{Cells}
use Rattle.cells.specs.Sets.{Cellset}
use Rattle.cells.specs.Rows.{Refused, Served}
use Rattle.coset.specs.Code.{Code, code, size_of, cells_of, ComesNoLater, Reaches, Plan}
use Rattle.coset.specs.OnePlan.{SameCells}
use Rattle.calls.specs.declared.call.Call.{Call}
use Rattle.calls.specs.declared.call.Call.TheVariants.{Put, Renew}
use Rattle.calls.specs.Records.{making_rows, records, page_of, first_of, free, value}
use Rattle.calls.specs.Calls.{rows, Serves}
use Rattle.calls.specs.Ledger.{rate}

-- the cells with these labels: cell i has the label i + 1, as in the first cells of a record by the rules
abbrev pub labelled : List ℕ → Cellset
labelled [] i = false
labelled (a ∷ ls) i = i + 1 == a || labelled ls i

-- one page with one record of the code, of which the cells with these labels are set
abbrev pub one_record : Code → List ℕ → Cells
one_record c ls = record { pages = 1; width = c.cells; set = λ p i. labelled ls i; wear = λ p. 0; limit = 1 }

-- an array of so many pages and cells to a page, none of which is set
abbrev pub array_of : ℕ → ℕ → Cells
array_of pages width = record { pages = pages; width = width; set = λ p i. false; wear = λ p. 0; limit = 1 }

-- s has the cells of one of these sets of labels
abbrev pub Listed : Code → Cellset → List (List ℕ) → Type 0
Listed c s [] = ⊥
Listed c s (ls ∷ more) = ((i : ℕ) → i < c.cells → s i ≡ labelled ls i) ⊎ Listed c s more

-- The kinds of examples. Of a record of a code, with the cells of some labels set, it …
pub data Example : Type 0 where
  -- … holds this value
  holds : Code → List ℕ → ℕ → Example
  -- … is this step away from this target
  steps : Code → List ℕ → ℕ → ℕ → Example
  -- … has this plan for this target, and no other
  plans : Code → List ℕ → ℕ → List ℕ → Example
  -- … has for this target just these smallest sets of unset cells that lead to it
  smallest : Code → List ℕ → ℕ → List (List ℕ) → Example
  -- … serves this call, answers this number, and has these cells set afterwards, rising, and no
  -- others
  leaves : Code → List ℕ → Call → ℕ → List ℕ → Example
  -- … has these cells set, rising
  lists : Code → List ℕ → List ℕ → Example
  -- of two lists of cells the first comes before the second in dictionary order
  comes_first : List ℕ → List ℕ → Example
  -- … refuses this call by this number
  refuses : Code → List ℕ → Call → ℕ → Example
  -- two elements and their sum
  sums : Group → ℕ → ℕ → ℕ → Example
  -- e and h
  figures : Group → ℕ → ℕ → Example
  -- changes, renewals and the rate
  rates : ℕ → ℕ → ℕ → Example
  -- a making over pages of this width is accepted, or refused by a number
  making_accepted : Code → ℕ → Example
  making_refused : Code → ℕ → ℕ → Example
  -- an array of so many pages and cells to a page has this many records, and record k lies in this page, from this cell
  -- on
  placed_at : Code → ℕ → ℕ → ℕ → ℕ → ℕ → ℕ → Example

-- the step from its value to x
abbrev pub step_to : Code → List ℕ → ℕ → ℕ
step_to c ls x = step c.group (value c (one_record c ls) 0) x

abbrev pub IsPlan : Code → List ℕ → ℕ → Cellset → Type 0
IsPlan c ls x s = Plan c (free c (one_record c ls) 0) (step_to c ls x) s

abbrev pub Leads : Code → List ℕ → ℕ → Cellset → Type 0
Leads c ls x s = Reaches c (free c (one_record c ls) 0) (step_to c ls x) s

-- s is one of the smallest sets of unset cells that lead to x
pub record IsSmallest (c : Code) (ls : List ℕ) (x : ℕ) (s : Cellset) : Type 0 where
  pub leads : Leads c ls x s
  pub fewest : (t : Cellset) → Leads c ls x t → size_of c s ≤ size_of c t

abbrev pub AllSmallest : Code → List ℕ → ℕ → List (List ℕ) → Type 0
AllSmallest c ls x [] = Unit {0}
AllSmallest c ls x (p ∷ ps) = IsSmallest c ls x (labelled p) × AllSmallest c ls x ps

-- The call is not refused. It can be served with the answer r, and however it is served it has this
-- answer, and page 0 has these cells set afterwards.
pub record Leaves (c : Code) (call : Call) (before : Cells) (r : ℕ) (cells : List ℕ) : Type 0 where
  pub not_refused : Served (rows c before call)
  pub after : Cells
  pub served : Serves c call r before after
  pub only :
      (answer : ℕ) (left : Cells) → Serves c call answer before left →
      (answer ≡ r) × (cells_of c (left.set 0) ≡ cells)

abbrev pub ExampleHolds : Example → Type 0
ExampleHolds (holds c ls x) = value c (one_record c ls) 0 ≡ x
ExampleHolds (steps c ls x d) = step_to c ls x ≡ d
ExampleHolds (plans c ls x p) =
    IsPlan c ls x (labelled p) × ((s : Cellset) → IsPlan c ls x s → SameCells c (labelled p) s)
ExampleHolds (smallest c ls x ps) =
    AllSmallest c ls x ps × ((s : Cellset) → IsSmallest c ls x s → Listed c s ps)
ExampleHolds (leaves c ls call r cells) = Leaves c call (one_record c ls) r cells
ExampleHolds (lists c ls cells) = cells_of c (labelled ls) ≡ cells
ExampleHolds (comes_first xs ys) = ComesNoLater xs ys × (ComesNoLater ys xs → ⊥)
ExampleHolds (refuses c ls call k) = Refused (rows c (one_record c ls) call) k
ExampleHolds (sums g a b x) = g.sum a b ≡ x
ExampleHolds (figures g e h) = (most_halves g (g.order - 1) ≡ e) × (figure g ≡ h)
ExampleHolds (rates a w r) = rate a w ≡ r
ExampleHolds (making_accepted c w) = Served (making_rows c (array_of 1 w))
ExampleHolds (making_refused c w k) = Refused (making_rows c (array_of 1 w)) k
ExampleHolds (placed_at c pages width k count page first) =
    (records c (array_of pages width) ≡ count) × (page_of c (array_of pages width) k ≡ page)
    × (first_of c (array_of pages width) k ≡ first)

abbrev pub AllHold : List Example → Type 0
AllHold [] = Unit {0}
AllHold (e ∷ es) = ExampleHolds e × AllHold es

-- the integers modulo 7 with six cells, modulo 3 with four, and modulo 4 with one
abbrev pub z7 : Code
z7 = code (integers 7) 6

abbrev pub z3 : Code
z3 = code (integers 3) 4

abbrev pub z4 : Code
z4 = code (integers 4) 1

abbrev pub worked : List Example
worked =
    holds z7 (1 ∷ (5 ∷ [])) 6 ∷
    (plans z7 [] 3 (3 ∷ []) ∷
    (smallest z7 (3 ∷ []) 6 ((1 ∷ (2 ∷ [])) ∷ ((4 ∷ (6 ∷ [])) ∷ [])) ∷
    (plans z7 (3 ∷ []) 6 (1 ∷ (2 ∷ [])) ∷
    (leaves z7 (3 ∷ []) (Put 0 6) 2 (0 ∷ (1 ∷ (2 ∷ []))) ∷
    (holds z7 (4 ∷ (5 ∷ (6 ∷ []))) 1 ∷
    (steps z7 (4 ∷ (5 ∷ (6 ∷ []))) 0 6 ∷
    (plans z7 (4 ∷ (5 ∷ (6 ∷ []))) 0 (1 ∷ (2 ∷ (3 ∷ []))) ∷
    (holds z7 (1 ∷ (2 ∷ (3 ∷ (4 ∷ (5 ∷ (6 ∷ [])))))) 0 ∷
    (refuses z7 (1 ∷ (2 ∷ (3 ∷ (4 ∷ (5 ∷ (6 ∷ [])))))) (Put 0 1) 42 ∷
    (plans z7 (1 ∷ (2 ∷ (3 ∷ (4 ∷ (5 ∷ (6 ∷ [])))))) 0 [] ∷
    (plans (code (vectors 2) 3) (1 ∷ []) 0 (2 ∷ (3 ∷ [])) ∷
    (sums (product (integers 2) (integers 3)) 4 5 0 ∷
    (refuses z4 [] (Put 0 2) 42 ∷
    (refuses z4 [] (Renew 0 2) 44 ∷
    (plans z4 [] 1 (1 ∷ []) ∷
    (figures (integers 7) 1 1 ∷
    (figures (vectors 3) 0 2 ∷
    (figures (product (integers 2) (integers 4)) 4 1 ∷
    (rates 5 8 63 ∷
    (making_accepted (code (integers 64) 63) 64 ∷
    (making_refused (code (integers 65) 63) 64 30 ∷
    (making_refused (code (integers 64) 64) 64 31 ∷
    (placed_at z7 2 64 13 20 1 18 ∷
    (placed_at (code (integers 2) 1) 64 1024 4095 4096 63 63 ∷
    (placed_at (code (integers 65) 6) 2 64 0 0 0 0 ∷
    (plans z3 [] 1 (1 ∷ []) ∷
    (leaves z3 [] (Put 0 1) 1 (0 ∷ []) ∷
    (leaves (code (integers 7) 4) (2 ∷ (4 ∷ [])) (Renew 0 5) 2 (0 ∷ (3 ∷ [])) ∷
    (lists z7 (6 ∷ (4 ∷ [])) (3 ∷ (5 ∷ [])) ∷
    (comes_first (0 ∷ (1 ∷ [])) (3 ∷ (5 ∷ [])) ∷
    (comes_first (0 ∷ (9 ∷ [])) (1 ∷ (2 ∷ [])) ∷ [])))))))))))))))))))))))))))))))

-- The examples hold.
abbrev pub Worked : Type 0
Worked = AllHold worked
