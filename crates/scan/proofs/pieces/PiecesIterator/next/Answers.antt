use Rattle.std.proofs.Common.{◌≡◌, ◌+◌, ◌≤◌, ◌^◌, ◌∷◌, take, length, refl, ap, ◌∙◌, sym, arith}
use Rattle.std.proofs.lemmas.List.{length-take}
use Rattle.scan.specs.Rest.{reach}
use Rattle.scan.specs.Pieces.{pieces_left, pieces_in}
use Rattle.scan.proofs.Remains.{left_first, reach_kept}
use Rattle.scan.proofs.pieces.PiecesIterator.next.Goals as goal
use Rattle.scan.proofs.pieces.PiecesIterator.next.Goals.{After-end_of-end, After-get-self}

-- the bytes that are left are countable
fits : (c : After-end_of-end) → c.args.self.now.at + length c.in_ok-rest.rest.now + 1 ≤ 2 ^ 63
fits c =
    let bound : reach c.args.self.now.at c.args.self.now.rest ≤ 2 ^ 63 = c.args.self.now.countable in
    let whole = ap (reach c.args.self.now.at) c.in_ok-rest.was in
    omega arith

pub invariant_of-self : goal.invariant_of-self
invariant_of-self c =
    let f = fits (goal.at.invariant_of-self c).After-end_of-end in
    let kept = reach_kept c.args.self.now.at c.end_of-end.result c.in_ok-rest.rest.now c.get-self.result c.end_of-end.ensures.within c.get-self.ensures.lookup in
    record { countable = omega arith }

-- the pieces left were the first one, and those that are left now
first : (c : After-get-self) → pieces_left c.args.self.now ≡ take c.end_of-end.result c.in_ok-rest.rest.now ∷ pieces_in c.args.self.now.separator c.get-self.result
first c =
    ap (pieces_in c.args.self.now.separator) c.in_ok-rest.was
    ∙ left_first c.args.self.now.separator c.in_ok-rest.rest.now c.end_of-end.result c.get-self.result c.end_of-end.ensures.first c.get-self.ensures.lookup

pub returns-clause-steps : goal.returns-clause-steps
returns-clause-steps c =
    let s = c.args.self.now in
    record {
      first = first (goal.at.returns-clause-steps c).After-get-self;
      place = refl;
      next = omega (arith, length-take c.end_of-end.result c.in_ok-rest.rest.now);
      reach = reach_kept s.at c.end_of-end.result c.in_ok-rest.rest.now c.get-self.result c.end_of-end.ensures.within c.get-self.ensures.lookup ∙ sym (ap (reach s.at) c.in_ok-rest.was);
      separator = refl;
    }

pub returns-clause-goes : goal.returns-clause-goes
returns-clause-goes c =
    let fewer = ap length (first (goal.at.returns-clause-goes c).After-get-self) in
    record { on = λ finite. (tt, tt, omega arith); keeps = tt; rests = λ finite. tt }
