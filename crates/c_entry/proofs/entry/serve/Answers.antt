use Rattle.std.proofs.Common.{◌≡◌, ℕ, ◌<◌, get_or, Ok, Err, refl, ap, sym, ◌∙◌, subst}
use Rattle.std.proofs.lemmas.Result.{err_from_is_err_and}
use Rattle.cells.specs.Rows.{Refused, Served}
use Rattle.images.specs.declared.format.Format.TheVariants.{Flash}
use Rattle.images.specs.Image.{part_cells, decoded}
use Rattle.images.specs.Check.{Accepted, ReadsAs, Checks, image_rows}
use Rattle.images.specs.Faults.{image_number}
use Rattle.coset.specs.Code.{code}
use Rattle.calls.specs.Ledger.{blank}
use Rattle.calls.specs.Records.{making_rows}
use Rattle.calls.specs.Calls.{state_of, Obeys}
use Rattle.store.specs.Making.{making_number}
use Rattle.c_entry.proofs.Entering.{part_good, part_bad, check_refuses, image_refused, making_refused, call_served, call_refused}
use Rattle.c_entry.proofs.entry.serve.Goals as goal

pub unwrap_err-fault-requires : goal.unwrap_err-fault-requires
unwrap_err-fault-requires g c =
    let part = c.over-part.result in
    let over = c.over-part.ensures in
    let reads : ReadsAs Flash part.image.now part.layout = subst (λ bytes. ReadsAs Flash bytes part.layout) (sym over.bytes) over.meaning in
    let bad = part_bad part.layout part.image.now reads (sym c.pages.ensures ∙ c.if-pages-eq0.true) in
    check_refuses part.image.now c.check.result c.check.ensures bad

pub returns-then-pages-eq0 : goal.returns-then-pages-eq0
returns-then-pages-eq0 g c =
    let co = code (g.G.Group.meaning c.args.group) c.args.n in
    let part = c.over-part.result in
    let over = c.over-part.ensures in
    let refused : Refused (image_rows Flash part.image.now) (image_number c.unwrap_err-fault.result) =
    subst (λ r. Checks Flash part.image.now r) c.unwrap_err-fault.ensures c.check.ensures in
    record {
      refused =
          image_refused co c.args.call c.args.image.now _
          (subst (λ bytes. Refused (image_rows Flash bytes) (image_number c.unwrap_err-fault.result)) over.bytes refused);
      unchanged = c.image-1.given.1.1 (sym over.lent) ∙ over.bytes;
    }

pub returns-in_err-check_making : goal.returns-in_err-check_making
returns-in_err-check_making g c =
    let co = code (g.G.Group.meaning c.args.group) c.args.n in
    let xs = c.args.image.now in
    let part = c.over-part.result in
    let over = c.over-part.ensures in
    let reads : ReadsAs Flash part.image.now part.layout = subst (λ bytes. ReadsAs Flash bytes part.layout) (sym over.bytes) over.meaning in
    let good : Served (image_rows Flash xs) =
    subst (λ bytes. Served (image_rows Flash bytes)) over.bytes (part_good part.layout part.image.now reads (λ none. c.if-pages-eq0.false (c.pages.ensures ∙ none))) in
    let means : part_cells Flash part.layout part.image.now ≡ decoded Flash xs = ap (part_cells Flash part.layout) over.bytes ∙ over.meaning.accepted good in
    let p = err_from_is_err_and c.from_residual.result c.from_residual.ensures.1 in
    rw (p.1, p.2)
    (record {
      refused =
          making_refused co c.args.call xs good _
          (subst (λ m. Refused (making_rows co m) (making_number c.in_err-check_making.field-0.0)) means c.in_err-check_making.ensures);
      unchanged = c.in_err-check_making.image-in-Break-1-own.given.1.1 (sym over.lent) ∙ over.bytes;
    })

pub returns-in_err-run_call : goal.returns-in_err-run_call
returns-in_err-run_call g c =
    let co = code (g.G.Group.meaning c.args.group) c.args.n in
    let xs = c.args.image.now in
    let part = c.over-part.result in
    let over = c.over-part.ensures in
    let reads : ReadsAs Flash part.image.now part.layout = subst (λ bytes. ReadsAs Flash bytes part.layout) (sym over.bytes) over.meaning in
    let good : Served (image_rows Flash xs) =
    subst (λ bytes. Served (image_rows Flash bytes)) over.bytes (part_good part.layout part.image.now reads (λ none. c.if-pages-eq0.false (c.pages.ensures ∙ none))) in
    let means : part_cells Flash part.layout part.image.now ≡ decoded Flash xs = ap (part_cells Flash part.layout) over.bytes ∙ over.meaning.accepted good in
    let part' = c.run_call.new.array in
    let names = c.run_call.ensures.kept.0 in
    let lent = over.lent in
    let name : c.over-arg-1.given ≡ part'.image.ghost_name = cc in
    let same = c.image-2-1.given.1.1 name in
    let still = c.run_call.ensures.kept.1 (subst (λ ys. Accepted Flash part.layout ys) (sym over.bytes) (over.meaning.layout good)) in
    let bytes = subst (λ ys. (i : ℕ) → get_or ys i 0 < 256) same (λ i. (c.type_inv.image i).fits) in
    let obeys = c.in_err-run_call.ensures.obeys in
    let p = err_from_is_err_and c.from_residual-in_err-run_call.result c.from_residual-in_err-run_call.ensures.1 in
    rw (p.1, p.2, same)
    (call_refused co c.args.call xs good (g.met.G.Group.lawful c.args.group) (λ i. refl) (over.written good)
    (subst (λ m. Served (making_rows co m)) means c.in_ok-check_making.ensures) part'.layout part'.image.now still bytes obeys.0
    c.in_err-run_call.field-0.0
    (subst (λ m. Obeys co c.args.call (Err c.in_err-run_call.field-0.0) (state_of m blank) (state_of (part_cells Flash part'.layout part'.image.now) obeys.0)) means obeys.1))

pub returns : goal.returns
returns g c =
    let co = code (g.G.Group.meaning c.args.group) c.args.n in
    let xs = c.args.image.now in
    let part = c.over-part.result in
    let over = c.over-part.ensures in
    let reads : ReadsAs Flash part.image.now part.layout = subst (λ bytes. ReadsAs Flash bytes part.layout) (sym over.bytes) over.meaning in
    let good : Served (image_rows Flash xs) =
    subst (λ bytes. Served (image_rows Flash bytes)) over.bytes (part_good part.layout part.image.now reads (λ none. c.if-pages-eq0.false (c.pages.ensures ∙ none))) in
    let means : part_cells Flash part.layout part.image.now ≡ decoded Flash xs = ap (part_cells Flash part.layout) over.bytes ∙ over.meaning.accepted good in
    let part' = c.run_call.new.array in
    let names = c.run_call.ensures.kept.0 in
    let lent = over.lent in
    let name : c.over-arg-1.given ≡ part'.image.ghost_name = cc in
    let same = c.image-2-1.given.1.1 name in
    let still = c.run_call.ensures.kept.1 (subst (λ ys. Accepted Flash part.layout ys) (sym over.bytes) (over.meaning.layout good)) in
    let bytes = subst (λ ys. (i : ℕ) → get_or ys i 0 < 256) same (λ i. (c.type_inv.image i).fits) in
    let obeys = c.in_ok-run_call.ensures.obeys in
    rw same
    (call_served co c.args.call xs good (g.met.G.Group.lawful c.args.group) (λ i. refl) (over.written good)
    (subst (λ m. Served (making_rows co m)) means c.in_ok-check_making.ensures) part'.layout part'.image.now still bytes obeys.0
    c.in_ok-run_call.field-0
    (subst (λ m. Obeys co c.args.call (Ok c.in_ok-run_call.field-0) (state_of m blank) (state_of (part_cells Flash part'.layout part'.image.now) obeys.0)) means obeys.1))
