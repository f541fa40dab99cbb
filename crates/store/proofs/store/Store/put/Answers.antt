use Rattle.coset.specs.Code.{code}
use Rattle.coset.specs.CellSets.{members_of}
use Rattle.store.proofs.Serving.{known_inside}
use Rattle.store.proofs.Taking.{put_takes}
use Rattle.store.proofs.store.Store.put.Goals as goal

pub write-written-requires : goal.write-written-requires
write-written-requires g c =
    known_inside (code (g.G.Group.meaning c.args.self.now.code.group) c.args.self.now.code.cells) (g.A.CellArray.cells c.args.self.now.array) c.args.«record» c.in_ok-found.found c.in_ok-found.ensures.0

pub returns-clause-takes : goal.returns-clause-takes
returns-clause-takes g c =
    put_takes g.A.CellArray (code (g.G.Group.meaning c.args.self.now.code.group) c.args.self.now.code.cells)
    (g.A.CellArray.cells c.args.self.now.array) (g.A.CellArray.cells c.write-written.new.array) c.args.«record» c.in_ok-found.found _
    (members_of c.in-Some.plan) c.args.self.now.array c.write-written.new.array c.in_ok-found.ensures.0 c.in-Some.ensures.0
    c.write-written.ensures.sets c.write-written.ensures.takes
