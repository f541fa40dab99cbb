use Rattle.std.proofs.Common.{◌≡◌, ◌∷◌, sym, ap, ◌∙◌}
use Rattle.scan.specs.Pieces.{cut, pieces_left}
use Rattle.commands.proofs.Spelling.{spells_one, spells_two, no_first, no_second, no_third}
use Rattle.commands.proofs.group_word.GroupWord.read.Goals as goal
use Rattle.commands.proofs.group_word.GroupWord.read.Goals.{In_ok-next}

-- the bytes are cut into the first piece and those that are left after it
first : (c : In_ok-next) → cut 46 c.args.bytes.now ≡ c.in_ok-next.field-0.bytes.now ∷ pieces_left c.next.new.self
first c = sym c.of-pieces.ensures.left ∙ c.in_ok-next.ensures.steps.first

pub returns-in_err-first : goal.returns-in_err-first
returns-in_err-first c =
    rw c.from_residual-in_err-first.ensures
    (no_first c.args.bytes.now c.in_ok-next.field-0.bytes.now (pieces_left c.next.new.self) (first (goal.at.returns-in_err-first c).In_ok-next)
    c.in_err-first.ensures)

pub returns-in_err-second-in-Some-None : goal.returns-in_err-second-in-Some-None
returns-in_err-second-in-Some-None c =
    rw c.from_residual-in_err-second-in-Some-None.ensures
    (no_second c.args.bytes.now c.in_ok-next.field-0.bytes.now (pieces_left c.next.new.self) (first (goal.at.returns-in_err-second-in-Some-None c).In_ok-next)
    c.in-Some-None.piece.bytes.now (pieces_left c.next-2.new.self) c.in-Some-None.ensures.steps.first c.in_err-second-in-Some-None.ensures)

pub returns-in-None-default : goal.returns-in-None-default
returns-in-None-default c =
    spells_one c.args.bytes.now c.in_ok-next.field-0.bytes.now (pieces_left c.next.new.self) (first (goal.at.returns-in-None-default c).In_ok-next)
    c.in_ok-first.first c.in-None-default.ensures.steps.0 c.in_ok-first.ensures

pub returns-in_ok-second-in-Some-None : goal.returns-in_ok-second-in-Some-None
returns-in_ok-second-in-Some-None c =
    let second = c.in-Some-None.piece.bytes.now in
    spells_two c.args.bytes.now c.in_ok-next.field-0.bytes.now (pieces_left c.next.new.self) (first (goal.at.returns-in_ok-second-in-Some-None c).In_ok-next)
    c.new.result second
    (c.in-Some-None.ensures.steps.first ∙ ap (λ qs. second ∷ qs) c.in-Some-None.ensures'.steps.0) (rw c.new.ensures.holds.0 c.in_ok-first.ensures) (rw c.new.ensures.holds.1 c.in_ok-second-in-Some-None.ensures)

pub returns-in_default : goal.returns-in_default
returns-in_default c =
    let second = c.in_default.field-0-0.bytes.now in
    no_third c.args.bytes.now c.in_ok-next.field-0.bytes.now (pieces_left c.next.new.self) (first (goal.at.returns-in_default c).In_ok-next)
    second c.in_default.field-0-1.bytes.now (pieces_left c.next-3.new.self)
    (c.in_default.ensures.steps.first ∙ ap (λ qs. second ∷ qs) c.in_default.ensures'.steps.first)
