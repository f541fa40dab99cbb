-- Parts of a history: where one ends the next begins. Assumes nothing.
use Rattle.std.proofs.Common.{◌≡◌, ℕ, ◌+◌, ◌<◌, List, [], ◌∷◌, ◌++◌, refl, ap, ◌∙◌, arith}
use Rattle.cells.specs.Cells.{Shaped}
use Rattle.coset.specs.Code.{Code}
use Rattle.calls.specs.Calls.{State, Obeys}
use Rattle.calls.specs.History.{Event, Linked, Every, total, renewals}
use Rattle.calls.proofs.Values.{shape_kept, wear_after}

abbrev pub Rules : Code → Event → Type 0
Rules c e = Obeys c e.call e.answer e.before e.after

-- a history of two parts: the state between them, and what holds of each
pub parted :
    (P : Event → Type 0) (earlier later : List Event) (first last : State) → Linked first (earlier ++ later) last → Every P (earlier ++ later) →
    (s : State) × Linked first earlier s × Linked s later last × Every P earlier × Every P later
parted P [] later first last linked all = (first, refl, linked, tt, all)
parted P (e ∷ es) later first last linked all =
    let more = parted P es later e.after last linked.1 all.1 in
    (more.0, (linked.0, more.1), more.2, (all.0, more.3), more.4)

-- the pages, the width and the limit stay
pub shape_all : (c : Code) (es : List Event) (first last : State) → Linked first es last → Every (Rules c) es → Shaped first.cells last.cells
shape_all c [] first last linked all = rw linked (record { pages = refl; width = refl; limit = refl })
shape_all c (e ∷ es) first last linked all =
    let one = shape_kept c e.call e.answer e.before e.after all.0 in
    let rest = shape_all c es e.after last linked.1 all.1 in
    let start = linked.0 in
    record {
      pages = rest.pages ∙ one.pages ∙ ap (λ z. z.cells.pages) start;
      width = rest.width ∙ one.width ∙ ap (λ z. z.cells.width) start;
      limit = rest.limit ∙ one.limit ∙ ap (λ z. z.cells.limit) start;
    }

-- a page's wear grows by its accepted renewals
pub erases :
    (c : Code) (es : List Event) (first last : State) → Linked first es last → Every (Rules c) es → (p : ℕ) → p < first.cells.pages →
    last.cells.wear p ≡ first.cells.wear p + renewals c p es
unfolding total
erases c [] first last linked all p h = let same = ap (λ z. z.cells.wear p) linked in omega arith
erases c (e ∷ es) first last linked all p h =
    let inside : p < e.before.cells.pages = rw linked.0 h in
    let after : p < e.after.cells.pages = rw (shape_kept c e.call e.answer e.before e.after all.0).pages inside in
    let one = wear_after c e.call e.answer e.before e.after all.0 p inside in
    let rest = erases c es e.after last linked.1 all.1 p after in
    let start = ap (λ z. z.cells.wear p) linked.0 in
    omega arith
