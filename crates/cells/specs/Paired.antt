-- The paired part: each cell stands on two cells of an array below. Assumes nothing.
use Rattle.std.specs.Prelude.{◌≡◌, ℕ, ◌+◌, ◌*◌, ◌/◌, ◌<◌, true, ◌||◌, Ok, Err, Result}
use Rattle.std.proofs.Common.{arith}
use Rattle.cells.specs.declared.fault.DeviceFault.{DeviceFault}
use Rattle.cells.specs.Cells.{Cells, Shaped, Cell, Bounded}

-- cell i is set when cell 2 i or cell 2 i + 1 below is
abbrev pub paired_cells : Cells → Cells
paired_cells m =
    record {
      pages = m.pages;
      width = m.width / 2;
      set = λ p i. m.set p (2 * i) || m.set p (2 * i + 1);
      wear = m.wear;
      limit = m.limit;
    }

pub paired_bounded : (m : Cells) → Bounded m → Bounded (paired_cells m)
paired_bounded m b = let narrow = b.width in record { pages = b.pages; width = omega arith; wear = b.wear }

-- Both cells below cell i of page p are set, and no other cell below and no count is altered.
pub record BothMarked (p i : ℕ) (before after : Cells) : Type 0 where
  pub shape : Shaped before after
  pub first : after.set p (2 * i) ≡ true
  pub second : after.set p (2 * i + 1) ≡ true
  pub others :
      (q j : ℕ) → Cell before q j → ((q ≡ p) × (j ≡ 2 * i) → ⊥) → ((q ≡ p) × (j ≡ 2 * i + 1) → ⊥) →
      after.set q j ≡ before.set q j
  pub wear : (q : ℕ) → q < before.pages → after.wear q ≡ before.wear q

-- what a mark of cell i of page p does to the array below
abbrev pub MarksBoth : ℕ → ℕ → Cells → Cells → {A : Type 0} → Result A DeviceFault → Type 0
MarksBoth p i before after (Ok u) = BothMarked p i before after
MarksBoth p i before after (Err f) = after ≡ before
