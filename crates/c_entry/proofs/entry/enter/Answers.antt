use Rattle.std.proofs.Common.{◌≡◌, subst, rules, tests}
use Rattle.std.proofs.lemmas.Bool.{ne_eqb}
use Rattle.group.specs.Integers.{integers}
use Rattle.coset.specs.Code.{code}
use Rattle.c_entry.specs.Entry.{CallsOnImage, answer_number}
use Rattle.c_entry.proofs.Entering.{calls_on_image}
use Rattle.c_entry.proofs.entry.enter.Goals as goal
use Rattle.c_entry.proofs.entry.enter.Goals.{in-0, in-1, in_default}

pub returns : goal.returns
returns c =
    elim c.match-kind.branch [
      | in-0 w ↦ rw (c.number_of.ensures, w.in-0.is, w.image-is, w.number_of-is, ← w.new.ensures.holds) (calls_on_image _ _ _ _ _ w.serve.ensures)
      | in-1 w ↦ rw (c.number_of.ensures, w.in-1.is, w.image-is, w.number_of-is, ← w.new-in-1.ensures.holds) (calls_on_image _ _ _ _ _ w.serve-in-1.ensures)
      | in_default w ↦
          let no0 : c.args.kind ≡ 0 → ⊥ = search (rules, tests) in
          let no1 : c.args.kind ≡ 1 → ⊥ = search (rules, tests) in
          let a = ne_eqb c.args.kind 0 no0 in
          let b = ne_eqb c.args.kind 1 no1 in
          rw (c.number_of.ensures, a, b, w.image-is, w.number_of-is)
          (subst (λ m. CallsOnImage (code (integers m) c.args.n) c.args.call c.args.image.now w.serve-in_default.new.image (answer_number w.serve-in_default.result))
          w.new-in_default.ensures.holds (calls_on_image _ _ _ _ _ w.serve-in_default.ensures))
    ]
