use Rattle.std.proofs.Common.{Ok, ap, ◌∙◌}
use Rattle.coset.specs.Code.{code}
use Rattle.coset.specs.CellSets.{members_of}
use Rattle.coset.proofs.Sums.{sum_agree}
use Rattle.store.specs.Parts.{set_from}
use Rattle.store.proofs.store.Store.value_at.Goals as goal

pub returns : goal.returns
returns g c =
    ap Ok
    (c.label_sum.ensures
    ∙ sum_agree (code (g.G.Group.meaning c.args.self.now.code.group) c.args.self.now.code.cells) (members_of c.in_ok-read.field-0)
    (set_from (g.A.CellArray.cells c.args.self.now.array) c.args.at) c.args.self.now.code.cells c.in_ok-read.ensures)
