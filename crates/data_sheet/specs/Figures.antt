-- The figures of a group, as its line of a data sheet gives them. Assumes nothing.
use Rattle.std.specs.Prelude.{◌≡◌, ℕ, ◌-◌, ◌≤◌, Some, None, Option}
use Rattle.group.specs.Group.{Group, Usable, unusable, most_halves, figure}
use Rattle.coset.specs.Code.{code}
use Rattle.calls.specs.Promise.{EnoughCells}
use Rattle.data_sheet.specs.declared.figures.Figures.{Figures}

-- f holds the figures of g.
pub record FiguresOf (g : Group) (f : Figures) : Type 0 where
  -- v, the number of elements
  pub order : f.order ≡ g.order
  -- e, the most halves of an element other than 0
  pub most_halves : f.most_halves ≡ most_halves g (g.order - 1)
  -- h, the changes per erase that are promised
  pub changes : f.changes ≡ figure g
  -- h is promised for records of so many cells
  pub enough : EnoughCells (code g f.cells)
  -- and for records of no fewer
  pub fewest : (n : ℕ) → EnoughCells (code g n) → f.cells ≤ n

-- An unusable group has no figures; a usable one has its own.
abbrev pub Gives : Group → Option Figures → Type 0
Gives g None = g.order ≡ unusable
Gives g (Some f) = Usable g × FiguresOf g f
