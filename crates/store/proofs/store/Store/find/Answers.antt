use Rattle.std.proofs.Common.{◌≡◌, ℕ, ◌<◌, sym, ◌∙◌}
use Rattle.coset.specs.Code.{code}
use Rattle.coset.specs.CellSets.{members_of}
use Rattle.store.specs.Parts.{set_from}
use Rattle.store.proofs.Located.{located_ok}
use Rattle.store.proofs.Serving.{found_inside, read_value, read_held}
use Rattle.store.proofs.store.Store.find.Goals as goal

pub read-requires : goal.read-requires
read-requires g c =
    found_inside (code (g.G.Group.meaning c.args.self.now.code.group) c.args.self.now.code.cells) (g.A.CellArray.cells c.args.self.now.array) c.args.«record» c.in_ok-place.place c.in_ok-place.ensures

pub returns : goal.returns
returns g c =
    let co = code (g.G.Group.meaning c.args.self.now.code.group) c.args.self.now.code.cells in
    let m = g.A.CellArray.cells c.args.self.now.array in
    let k = c.args.«record» in
    let at = c.in_ok-place.place in
    let found = c.in_ok-place.ensures in
    let read = members_of c.in_ok-held.held in
    let agrees =
    located_ok k c.read.result c.in_ok-held.held (λ set. (i : ℕ) → i < co.cells → members_of set i ≡ set_from m at i)
    (sym c.located_at.ensures ∙ c.in_ok-held.was) c.read.ensures in
    record {
      place = found;
      held = read_held co m k at found read agrees;
      value = c.label_sum-value.ensures ∙ read_value co m k at found read agrees;
    }
