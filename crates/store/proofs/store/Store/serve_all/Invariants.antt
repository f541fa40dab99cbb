use Rattle.std.proofs.Common.{◌≡◌, List, map, length, take}
use Rattle.coset.specs.Codes.{code_of}
use Rattle.calls.specs.declared.call.Entry.{Entry}
use Rattle.calls.specs.Calls.{Answer}
use Rattle.calls.proofs.Filling.{filled}
use Rattle.calls.proofs.Running.{Runs}
use Rattle.store.specs.Keeps.{Keeps, state}
use Rattle.store.proofs.store.Store.serve_all.Given as goal

abbrev pub invariant-loop-entry : goal.invariant-loop-entry
invariant-loop-entry g l = record {
  keeps : Keeps g.A.CellArray l.initial.self l.self;
  answers : List Answer;
  as_many : length answers ≡ l.entry-index;
  filled : l.entries ≡ filled answers l.initial.entries;
  runs : Runs g.A.CellArray (code_of g.G.Group l.initial.self.code) (state g.A.CellArray l.initial.self)
      (map (λ (e : Entry g.row.C.Denot). g.C.Request.call e.call) (take l.entry-index l.initial.entries)) answers
      (state g.A.CellArray l.self) l.initial.self.array l.self.array;
}
