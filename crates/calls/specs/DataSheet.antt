-- What else is sure of a page with the figure h, where a record has cells enough: when the page can be full, and when
-- it can be worn out. Assumes nothing.
use Rattle.std.specs.Prelude.{◌≡◌, ℕ, ◌+◌, ◌-◌, ◌*◌, ◌<◌, ◌≤◌, true, false, List, ◌∷◌, ◌++◌}
use Rattle.group.specs.Group.{figure}
use Rattle.cells.specs.Cells.{Cells}
use Rattle.coset.specs.Code.{Code}
use Rattle.calls.specs.History.{Event, RefusedFull, RefusedWorn, renewed, on_page, renewals, changes}

-- no cell of page p is set
abbrev pub Unset : Cells → ℕ → Type 0
Unset m p = (i : ℕ) → i < m.width → m.set p i ≡ false

-- A history that began with the cells `first`, for each of their pages p. The counts are of the events `earlier`, or of
-- those `between` an accepted renewal and a later event.
pub record DataSheet (c : Code) (first : Cells) (history : List Event) : Type 0 where
  -- Changes per erase, after any of the events: h × (renewals) ≤ (changes) + h. The + h is for cells that were set at
  -- first. It is not needed for a page that had none set, nor in counting from an accepted renewal of the page.
  pub renewals_at_most :
      (p : ℕ) → p < first.pages → (earlier later : List Event) → history ≡ earlier ++ later →
      figure c.group * renewals c p earlier ≤ changes c p earlier + figure c.group
  pub renewals_from_unset :
      (p : ℕ) → p < first.pages → Unset first p → (earlier later : List Event) → history ≡ earlier ++ later →
      figure c.group * renewals c p earlier ≤ changes c p earlier
  pub renewals_from_renewal :
      (p : ℕ) → p < first.pages → (earlier : List Event) (r : Event) (between later : List Event) →
      history ≡ earlier ++ (r ∷ (between ++ later)) → renewed r ≡ true → on_page c p r ≡ true →
      figure c.group * renewals c p between ≤ changes c p between
  -- When a put is refused as full: h × (renewals + 1) ≤ (changes) + h. Here too the + h is not needed for a page that
  -- had no cell set at first, nor in counting from an accepted renewal of the page.
  pub full :
      (p : ℕ) → p < first.pages → (earlier : List Event) (e : Event) (later : List Event) → history ≡ earlier ++ (e ∷ later) →
      RefusedFull e.answer → on_page c p e ≡ true →
      figure c.group * (renewals c p earlier + 1) ≤ changes c p earlier + figure c.group
  pub full_from_unset :
      (p : ℕ) → p < first.pages → Unset first p → (earlier : List Event) (e : Event) (later : List Event) → history ≡ earlier ++ (e ∷ later) →
      RefusedFull e.answer → on_page c p e ≡ true →
      figure c.group * (renewals c p earlier + 1) ≤ changes c p earlier
  pub full_from_renewal :
      (p : ℕ) → p < first.pages → (earlier : List Event) (r : Event) (between : List Event) (e : Event) (later : List Event) →
      history ≡ earlier ++ (r ∷ (between ++ (e ∷ later))) → renewed r ≡ true → on_page c p r ≡ true →
      RefusedFull e.answer → on_page c p e ≡ true →
      figure c.group * (renewals c p between + 1) ≤ changes c p between
  -- When a renewal is refused as worn out, its page has taken h changes for each erase that it had left at first, and h
  -- more if none of its cells was set then.
  pub worn :
      (p : ℕ) → p < first.pages → (earlier : List Event) (e : Event) (later : List Event) → history ≡ earlier ++ (e ∷ later) →
      RefusedWorn e.answer → on_page c p e ≡ true →
      figure c.group * (first.limit - first.wear p) ≤ changes c p earlier
  pub worn_from_unset :
      (p : ℕ) → p < first.pages → Unset first p → (earlier : List Event) (e : Event) (later : List Event) → history ≡ earlier ++ (e ∷ later) →
      RefusedWorn e.answer → on_page c p e ≡ true →
      figure c.group * (first.limit - first.wear p + 1) ≤ changes c p earlier
