-- Filling the planner's table row by row. Assumes nothing.
use Rattle.std.proofs.Common.{◌≡◌, ℕ, ◌+◌, ◌<◌, ◌≤◌, min, Bool, cond, eqb, ◌⊎◌, List, get_or, set, replicate, ◌≢◌, sym, ap, ◌∙◌, ap₂, inl, inr, arith}
use Rattle.std.proofs.lemmas.Bool.{cases_eq, eq-eqb, ne_eqb}
use Rattle.std.proofs.lemmas.List.{get_or-set_other, get_or-replicate}
use Rattle.group.specs.Group.{Group, Lawful, Usable, In, step}
use Rattle.cells.specs.Sets.{Cellset}
use Rattle.coset.specs.Code.{code}
use Rattle.coset.specs.Plans.{Filled, PutsRow, fewest_at, entry_from_next}
use Rattle.coset.specs.Code.{label_of}
use Rattle.coset.specs.declared.planner.Table.{Table}
use Rattle.coset.proofs.Groups.{step_in}
use Rattle.coset.proofs.Sums.{label_in}

-- an entry depends on the next row at elements alone
turn_agree :
    (g : Group) (label : ℕ) (free : Bool) (next more : ℕ → ℕ) (s : ℕ) → next s ≡ more s → next (step g label s) ≡ more (step g label s) →
    entry_from_next g label free next s ≡ entry_from_next g label free more s
turn_agree g label free next more s out taken = ap₂ (λ x y. cond free (min x (min (y + 1) 255)) x) out taken

-- the row past the last cell
abbrev pub first_row : List ℕ
first_row = set (replicate 64 255) 0 0

pub none_reached : (s : ℕ) → s < 64 → get_or first_row s 0 ≡ cond (eqb s 0) 0 255
none_reached s h = go (cases_eq s 0)
  where
    unreached : List ℕ
    unreached = replicate 64 255

    go : (s ≡ 0) ⊎ (s ≡ 0 → ⊥) → get_or first_row s 0 ≡ cond (eqb s 0) 0 255
    go (inl e) = ap (λ k. get_or first_row k 0) e ∙ ap (λ b. cond b 0 255) (sym (eq-eqb s 0 e))
    go (inr ne) = get_or-set_other unreached 0 s 0 0 ne ∙ get_or-replicate 64 s 255 0 h ∙ ap (λ b. cond b 0 255) (sym (ne_eqb s 0 ne))

-- At each element the entry of row i is written from those of the next row, and the entries of the other rows stay.
pub record Fills (g : Group) (free : Cellset) (i : ℕ) (before after : Table) : Type 0 where
  pub row : (s : ℕ) → In g s → fewest_at after i s ≡ entry_from_next g (label_of g i) (free i) (fewest_at before (i + 1)) s
  pub others : (j s : ℕ) → In g s → j ≢ i → fewest_at after j s ≡ fewest_at before j s

-- by a row that is put in its place
pub row_put :
    (g : Group) (free : Cellset) (i : ℕ) (before after : Table) (row : List ℕ) → g.order ≤ 64 → PutsRow before after i row →
    ((s : ℕ) → In g s → get_or row s 0 ≡ entry_from_next g (label_of g i) (free i) (fewest_at before (i + 1)) s) →
    Fills g free i before after
row_put g free i before after row small puts entries = record {
  row = λ s h. puts.placed s (omega arith) ∙ entries s h;
  others = λ j s h. puts.others j s (omega arith);
}

module _ (g : Group) (laws : Lawful g) (usable : Usable g) (n : ℕ) (free : Cellset) where
  pub filled_more :
      (before after : Table) (i : ℕ) → i < n → Filled (code g n) free before (i + 1) → Fills g free i before after → Filled (code g n) free after i
  filled_more before after i below filled fills = record {
    last = λ s h. fills.others n s h (λ e. omega arith) ∙ filled.last s h;
    entries = λ j s from inside h. entries j s from inside h (cases_eq j i);
  }
    where
      kept : (j s : ℕ) → i ≤ j → In g s → entry_from_next g ((code g n).label j) (free j) (fewest_at before (j + 1)) s ≡ entry_from_next g ((code g n).label j) (free j) (fewest_at after (j + 1)) s
      kept j s from h =
          turn_agree g ((code g n).label j) (free j) (fewest_at before (j + 1)) (fewest_at after (j + 1)) s
          (later s h) (later (step g ((code g n).label j) s) (step_in g laws usable ((code g n).label j) s (label_in g laws n j) h))
        where
          later : (t : ℕ) → In g t → fewest_at before (j + 1) t ≡ fewest_at after (j + 1) t
          later t element = sym (fills.others (j + 1) t element (λ e. omega arith))

      entries :
          (j s : ℕ) → i ≤ j → j < n → In g s → (j ≡ i) ⊎ (j ≡ i → ⊥) →
          fewest_at after j s ≡ entry_from_next g ((code g n).label j) (free j) (fewest_at after (j + 1)) s
      entries j s from inside h (inl e) = ap (λ k. fewest_at after k s) e ∙ fills.row s h ∙ ap (λ k. entry_from_next g ((code g n).label k) (free k) (fewest_at before (k + 1)) s) (sym e) ∙ kept j s from h
      entries j s from inside h (inr ne) = fills.others j s h ne ∙ filled.entries j s (omega arith) inside h ∙ kept j s from h
