-- From the steps of a call to the rules that it obeys. Assumes nothing.
use Rattle.std.proofs.Common.{◌≡◌, ℕ, ◌+◌, ◌-◌, ◌%◌, ◌<◌, not, Ok, refl, ap, ◌∙◌, ap₂, arith}
use Rattle.cells.specs.Cells.{Cells}
use Rattle.cells.specs.Sets.{Cellset}
use Rattle.coset.specs.CellSets.{members_of}
use Rattle.store.specs.declared.place.Place.{Place}
use Rattle.store.specs.declared.place.Found.{Found}
use Rattle.coset.specs.Code.{Code, sum_of, Unreachable, Plan}
use Rattle.calls.specs.Records.{per_page, page_of, first_of, held, free, value}
use Rattle.store.specs.Parts.{FoundRecord, LiesAt, Inside, set_from}
use Rattle.coset.proofs.Sums.{Agree, sum_agree}
use Rattle.coset.proofs.OnePlan.{plan_move}
use Rattle.calls.proofs.Geometry.{There, there, place_within}

-- what is free may be told by any test that agrees on the cells
pub unreachable_free : (c : Code) (f h : Cellset) (d : ℕ) → Agree f h c.cells → Unreachable c f d → Unreachable c h d
unreachable_free c f h d same none s r = none s (record { within = λ i lt m. same i lt ∙ r.within i lt m; sums = r.sums })

module _ (c : Code) (m : Cells) (k : ℕ) (at : Place) (page : at.page ≡ page_of c m k) (first : at.first ≡ first_of c m k) where
  pub inside : There c m k → Inside m c.cells at
  inside t =
      let few = t.few in
      let some = t.some in
      let last = place_within c m (k % per_page c m) (c.cells - 1) t.some t.place (omega arith) in
      record { page = rw page t.page; cells = omega arith; few = omega arith }

  pub cells_are : (i : ℕ) → set_from m at i ≡ held c m k i
  cells_are i = ap₂ (λ p j. m.set p (j + i)) page first

  pub sum_is : (s : Cellset) → ((i : ℕ) → i < c.cells → s i ≡ set_from m at i) → sum_of c s ≡ value c m k
  sum_is s same = sum_agree c s (held c m k) c.cells (λ i h. same i h ∙ cells_are i)

-- What is known once a record was found, and then once it was read.
module _ (c : Code) (m : Cells) (k : ℕ) (at : Place) (found : LiesAt c m k (Ok at)) where
  pub found_inside : Inside m c.cells at
  found_inside = inside c m k at found.1 found.2 (there c m k found.0)

  module _ (read : Cellset) (agrees : (i : ℕ) → i < c.cells → read i ≡ set_from m at i) where
    pub read_value : sum_of c read ≡ value c m k
    read_value = sum_is c m k at found.1 found.2 read agrees

    pub read_held : (i : ℕ) → i < c.cells → read i ≡ held c m k i
    read_held i h = agrees i h ∙ cells_are c m k at found.1 found.2 i

module _ (c : Code) (m : Cells) (k : ℕ) (found : Found) (known : FoundRecord c m k found) where
  pub known_inside : Inside m c.cells found.place
  known_inside = found_inside c m k found.place known.place

  abbrev pub open_cells : Cellset
  open_cells i = not (members_of found.held i)

  pub open_free : Agree open_cells (free c m k) c.cells
  open_free i h = ap not (known.held i h)
