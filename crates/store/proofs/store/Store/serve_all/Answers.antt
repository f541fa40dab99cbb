use Rattle.std.proofs.Common.{◌≡◌, [], ◌∷◌, ◌++◌, ◌+◌, map, take, length, get_or, set, Some, sym, refl, ap, ◌∙◌, subst, arith}
use Rattle.std.proofs.lemmas.List.{take_more, take_all, map_push, length-append}
use Rattle.cells.specs.Chain.{Takes}
use Rattle.coset.specs.Codes.{code_of}
use Rattle.calls.specs.declared.call.Entry.{Entry}
use Rattle.calls.specs.Calls.{Obeys}
use Rattle.calls.specs.Steps.{steps_of}
use Rattle.calls.proofs.Filling.{filled, filled_none, filled_next, filled_more, calls_kept, all_answered}
use Rattle.calls.proofs.Running.{Runs, runs_none, runs_more, runs_promise}
use Rattle.store.specs.Keeps.{state}
use Rattle.store.proofs.store.Store.serve_all.Goals as goal

pub loop-entry-init : goal.loop-entry-init
loop-entry-init g c = record {
  keeps = (refl, (refl, λ whole. whole));
  answers = [];
  as_many = refl;
  filled = sym (filled_none _);
  runs = runs_none g.A.CellArray _ _ _;
}

pub loop-entry-preserved : goal.loop-entry-preserved
loop-entry-preserved g c =
    let inv = c.loop-entry.invariant in
    let array = g.A.CellArray in
    let rs = inv.answers in
    let r = c.serve.result in
    let served = c.serve.ensures in
    let es = c.args.entries.now in
    let i = c.loop-entry.entry-index in
    let e = c.entry-item.result in
    let call = λ (x : Entry g.row.C.Denot). g.C.Request.call x.call in
    let first = state array c.args.self.now in
    let before = state array c.loop-entry.self in
    let after = state array c.serve.new.store in
    let co = code_of g.G.Group c.args.self.now.code in
    let from = c.args.self.now.array in
    let to = c.serve.new.store.array in
    let item = get_or c.loop-entry.entries i e in
    let now : item ≡ get_or es i e =
    ap (λ l. get_or l i e) inv.filled ∙ subst (λ k. get_or (filled rs es) k e ≡ get_or es k e) inv.as_many (filled_next rs es e) in
    let answered : Entry g.row.C.Denot → Entry g.row.C.Denot = λ x. record { call = x.call; answer = Some r } in record {
      keeps = (served.keeps.0 ∙ inv.keeps.0, (served.keeps.1.0 ∙ inv.keeps.1.0, (λ whole. served.keeps.1.1 (inv.keeps.1.1 whole))));
      answers = rs ++ (r ∷ []);
      as_many = length-append rs (r ∷ []) ∙ ap (λ k. k + 1) inv.as_many;
      filled =
          ap (λ (x : Entry g.row.C.Denot). set c.loop-entry.entries i (answered x)) now
          ∙ ap (λ l. set l i (answered (get_or es i e))) inv.filled
          ∙ subst (λ k. set (filled rs es) k (answered (get_or es k e)) ≡ filled (rs ++ (r ∷ [])) es) inv.as_many (filled_more rs es r e);
      runs =
          subst (λ calls. Runs array co first calls (rs ++ (r ∷ [])) after from to)
          (sym (ap (map call) (take_more es i e c.loop-entry-test.true ∙ ap (λ x. take i es ++ (x ∷ [])) (sym now)) ∙ map_push call (take i es) item))
          (runs_more array co first (map call (take i es)) rs before after (call item) r from c.loop-entry.self.array to inv.runs
          (subst (λ k. Obeys (code_of g.G.Group k) (call item) r before after) inv.keeps.0 served.obeys)
          (subst (λ k. Takes array (steps_of (code_of g.G.Group k) (call item) r before.cells after.cells) c.loop-entry.self.array to) inv.keeps.0 served.takes));
    }

pub returns-clause-served : goal.returns-clause-served
returns-clause-served g c =
    let inv = c.loop-entry.invariant in
    let array = g.A.CellArray in
    let call = λ (x : Entry g.row.C.Denot). g.C.Request.call x.call in
    let es = c.args.entries.now in
    let rs = inv.answers in
    let co = code_of g.G.Group c.args.self.now.code in
    let long : length rs ≡ length es = let many = inv.as_many in omega arith in record {
      answers = rs;
      calls_kept = ap (map (λ (x : Entry g.row.C.Denot). x.call)) inv.filled ∙ calls_kept rs es long;
      all_answered = ap (map (λ (x : Entry g.row.C.Denot). x.answer)) inv.filled ∙ all_answered rs es long;
      kept =
          runs_promise array co c.args.self.now.array c.args.self.now.ledger (map call es) rs c.loop-entry.self.array c.loop-entry.self.ledger
          (g.met.G.Group.lawful c.args.self.now.code.group) (λ i. refl) c.largest-largest.ensures
          (subst (λ xs. Runs array co (state array c.args.self.now) (map call xs) rs (state array c.loop-entry.self) c.args.self.now.array c.loop-entry.self.array)
          (take_all c.loop-entry.entry-index es c.loop-entry-test.false) inv.runs);
    }
