-- An array that takes steps, one after the other. Assumes nothing.
use Rattle.std.specs.Prelude.{◌≡◌, ℕ, ◌+◌, ◌<◌, Bool, true, false, not, ◌&&◌, ◌||◌, List, [], ◌∷◌, ◌==◌, count_by}
use Rattle.std.specs.List.{flat_map}
use Rattle.cells.specs.declared.array.CellArray.{Ghosts}
use Rattle.cells.specs.declared.paired.Paired.{Paired}
use Rattle.cells.specs.Cells.{Cells, Shaped, Cell}
use Rattle.cells.specs.Steps.{Step, Stepped, steps_below}
use Rattle.cells.specs.Steps.Step.{Mark, Erase, MarkRefused, EraseRefused}

-- Steps of these kinds in this order, and no others, lead from the one to the other.
abbrev pub Chain : {A : Type 0} → (A → Step → A → Type 0) → List Step → A → A → Type 0
Chain one [] before after = after ≡ before
Chain {A = A} one (s ∷ ss) before after = (next : A) × one before s next × Chain one ss next after

-- One step leads from the one array to the other: in what it means, and in its memory as the array itself says.
abbrev pub TakesOne : {A : Type 0} → Ghosts A → A → Step → A → Type 0
TakesOne array before s after = Stepped s (array.cells before) (array.cells after) × array.steps before s after

-- An array takes these steps, in this order, and no others.
abbrev pub Takes : {A : Type 0} → Ghosts A → List Step → A → A → Type 0
Takes array = Chain (TakesOne array)

-- whether cell i of page p is set after a step, and after steps, where `was` is whether it was set before
abbrev pub set_after_one : Step → ℕ → ℕ → Bool → Bool
set_after_one (Mark q j) p i was = (q == p && j == i) || was
set_after_one (Erase q) p i was = not (q == p) && was
set_after_one (MarkRefused q j) p i was = was
set_after_one (EraseRefused q) p i was = was

unfoldable pub set_after : List Step → ℕ → ℕ → Bool → Bool
set_after [] p i was = was
set_after (s ∷ ss) p i was = set_after ss p i (set_after_one s p i was)

-- how many of the steps are marks, and how many erases of page p
abbrev pub is_mark : Step → Bool
is_mark (Mark q j) = true
is_mark (Erase q) = false
is_mark (MarkRefused q j) = false
is_mark (EraseRefused q) = false

abbrev pub is_erase_of : ℕ → Step → Bool
is_erase_of p (Mark q j) = false
is_erase_of p (Erase q) = q == p
is_erase_of p (MarkRefused q j) = false
is_erase_of p (EraseRefused q) = false

-- Each cell and each wear count is what the steps make of it: a cell is set exactly where it was marked after the last
-- erase of its page, or was set before and its page never erased; the wear has grown by the erases.
pub record CellsAfter (ss : List Step) (before after : Cells) : Type 0 where
  pub shape : Shaped before after
  pub set : (p i : ℕ) → Cell before p i → after.set p i ≡ set_after ss p i (before.set p i)
  pub wear : (p : ℕ) → p < before.pages → after.wear p ≡ before.wear p + count_by (is_erase_of p) ss

-- Whatever steps an array takes, its cells are known afterwards.
abbrev pub StepsTell : {A : Type 0} → Ghosts A → Type 0
StepsTell {A = A} array =
    (ss : List Step) (before after : A) → Takes array ss before after →
    CellsAfter ss (array.cells before) (array.cells after)

-- Whatever steps a paired part takes, the array below takes those that they are there, and no others.
abbrev pub StepsBelow : {A : Type 0} → Ghosts A → Ghosts (Paired A) → Type 0
StepsBelow {A = A} array paired =
    (ss : List Step) (before after : Paired A) → Takes paired ss before after →
    Takes array (flat_map steps_below ss) before.array after.array
