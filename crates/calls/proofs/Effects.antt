-- What an accepted put and an accepted renewal do to the records of every page. Assumes nothing.
use Rattle.std.proofs.Common.{◌≡◌, ℕ, ◌+◌, ◌*◌, ◌%◌, ◌<◌, ap, ◌∙◌}
use Rattle.std.proofs.lemmas.Bool.{not-true, both_ways}
use Rattle.group.specs.Group.{Group, Lawful, Usable, In, step}
use Rattle.cells.specs.Cells.{Cells}
use Rattle.cells.specs.Sets.{Cellset}
use Rattle.coset.specs.Code.{Code, code, Reaches, Plan}
use Rattle.calls.specs.Records.{per_page, page_of, held, free, value}
use Rattle.calls.specs.Calls.{Sets}
use Rattle.coset.proofs.Groups.{step_leads}
use Rattle.coset.proofs.Sums.{either, Apart, Agree, sum_in, sum_agree, sum_either, label_in}
use Rattle.calls.proofs.Geometry.{at_place, There, place_within, not_within}

-- the place of record k, and any other
abbrev Other : Code → Cells → ℕ → ℕ → ℕ → Type 0
Other c m k p r = (p ≡ page_of c m k) × (r ≡ k % per_page c m) → ⊥

-- A put sets the cells of s in record k.
module _ (c : Code) (k : ℕ) (s : Cellset) (m m' : Cells) (at : There c m k) (sets : Sets c k s m m') where
  -- every other record is as it was
  pub put_others : (p r : ℕ) → p < m.pages → r < per_page c m → Other c m k p r → Agree (at_place c m' p r) (at_place c m p r) c.cells
  put_others p r hp hr other i h =
      sets.others p (r * c.cells + i) (record { page = hp; cell = place_within c m r i at.some hr h }) (not_within c m k p r i h other)

-- A set of free cells is apart from the set ones.
pub free_apart : (c : Code) (m : Cells) (k d : ℕ) (s : Cellset) → Reaches c (free c m k) d s → Apart (held c m k) s c.cells
free_apart c m k d s reaches i h p q = both_ways _ (not-true _ (reaches.within i h q)) p

-- the value of a record is an element
module _ (g : Group) (laws : Lawful g) (usable : Usable g) (n : ℕ) where
  pub value_in : (m : Cells) (k : ℕ) → In g (value (code g n) m k)
  value_in m k = sum_in (code g n) laws usable (label_in g laws n) (held (code g n) m k) n

  -- a planned put leaves the target
  pub put_value :
      (m m' : Cells) (k x : ℕ) (s : Cellset) → In g x → Plan (code g n) (free (code g n) m k) (step g (value (code g n) m k) x) s →
      Sets (code g n) k s m m' → value (code g n) m' k ≡ x
  put_value m m' k x s hx plan sets =
      let c = code g n in
      sum_agree c (held c m' k) (either (held c m k) s) n sets.here
      ∙ sum_either c laws usable (label_in g laws n) (held c m k) s n (free_apart c m k _ s plan.reaches)
      ∙ ap (g.sum (value c m k)) plan.reaches.sums
      ∙ step_leads g laws usable (value c m k) x (value_in m k) hx
