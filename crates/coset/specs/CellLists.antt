-- The list of the cells of a set, and dictionary order, each said in another way than it is
-- defined. Assumes nothing.
use Rattle.std.specs.Prelude.{◌≡◌, ℕ, ◌<◌, ◌↔◌, ◌⊎◌, true, List, length, take, slice_index, Contains}
use Rattle.std.specs.List.Sorted.{IsStrictlyIncreasing}
use Rattle.cells.specs.Sets.{Cellset}
use Rattle.coset.specs.Code.{Code, size_of, cells_of, ComesNoLater}

-- The list has the cells of a record that are in s and no others, each once, lowest first, so as
-- many as there are.
pub record ListsCells (c : Code) (s : Cellset) (cells : List ℕ) : Type 0 where
  pub has : (i : ℕ) → Contains cells i ↔ ((i < c.cells) × (s i ≡ true))
  pub rising : IsStrictlyIncreasing cells
  pub count : length cells ≡ size_of c s

abbrev pub CellsListed : Type 0
CellsListed = (c : Code) (s : Cellset) → ListsCells c s (cells_of c s)

-- xs comes before ys: at the first place where they differ it has the smaller number, or has ended.
pub record ComesBefore (xs ys : List ℕ) : Type 0 where
  pub place : ℕ
  pub inside : place < length ys
  pub same : take place xs ≡ take place ys
  pub decides :
      (length xs ≡ place)
      ⊎ ((place < length xs) × (slice_index xs place < slice_index ys place))

-- A list comes no later than another exactly where they are one or it comes before the other.
abbrev pub FirstPlaceDecides : Type 0
FirstPlaceDecides = (xs ys : List ℕ) → ComesNoLater xs ys ↔ ((xs ≡ ys) ⊎ ComesBefore xs ys)

-- Dictionary order is a total order: of any two lists one comes no later than the other; where each
-- does, they are one; and it is transitive.
pub record TotalOrder : Type 0 where
  pub total : (xs ys : List ℕ) → ComesNoLater xs ys ⊎ ComesNoLater ys xs
  pub antisymmetric : (xs ys : List ℕ) → ComesNoLater xs ys → ComesNoLater ys xs → xs ≡ ys
  pub transitive :
      (xs ys zs : List ℕ) → ComesNoLater xs ys → ComesNoLater ys zs → ComesNoLater xs zs
