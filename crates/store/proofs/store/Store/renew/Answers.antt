use Rattle.std.proofs.Common.{◌∷◌, ◌*◌, length, ap, subst, sym, ◌∙◌, arith}
use Rattle.std.proofs.lemmas.Result.{err_from_is_err_and}
use Rattle.cells.specs.Rows.{Refused}
use Rattle.cells.specs.Faults.{device_number}
use Rattle.cells.specs.Steps.Step.{Erase}
use Rattle.cells.specs.Chain.{Takes}
use Rattle.coset.specs.Code.{code}
use Rattle.calls.specs.declared.call.Call.TheVariants.{Renew}
use Rattle.calls.specs.Calls.{state_of, rows}
use Rattle.calls.specs.Records.{per_page}
use Rattle.calls.specs.Steps.{marks_of}
use Rattle.calls.proofs.Geometry.{there}
use Rattle.store.proofs.Renewing.{erase_served, erase_refused_at, erase_refused, page_written, renew_worn, renew_served}
use Rattle.store.proofs.Paging.{page_fits}
use Rattle.store.proofs.Taking.{erase_takes, renew_takes}
use Rattle.store.proofs.store.Store.renew.Goals as goal

pub returns-in_err-located_at-clause-obeys : goal.returns-in_err-located_at-clause-obeys
returns-in_err-located_at-clause-obeys g c =
    let co = code (g.G.Group.meaning c.args.self.now.code.group) c.args.self.now.code.cells in
    let m = g.A.CellArray.cells c.args.self.now.array in
    let found = c.in_ok-found.found in
    let known = c.in_ok-found.ensures.0 in
    let t = there co m c.args.«record» known.place.0 in
    let e = c.in_err-located_at.field-0.0 in
    let fault =
    erase_refused_at c.args.«record» found.place.page m (g.A.CellArray.cells c.erase.new.self) c.erase.result e
    (sym c.located_at.ensures ∙ c.in_err-located_at.was) c.erase.ensures.erases in
    let why = erase_refused m found.place.page (device_number e.1) (rw known.place.1 t.page) fault.0 in
    let worn =
    renew_worn co m c.args.«record» found known c.args.value c.in_ok-found.ensures.1 c.in-None.ensures c.in_ok-plans.plans.items c.in_ok-plans.ensures why.0 in
    let p = err_from_is_err_and c.from_residual-in_err-located_at.result c.from_residual-in_err-located_at.ensures.1 in
    rw (p.1, p.2) (
      subst (λ d. Refused (rows co m (Renew c.args.«record» c.args.value)) d) (sym why.1) worn,
      (fault.3, rw (← known.place.1) fault.1),
      ap (λ z. state_of z c.args.self.now.ledger) fault.2,
    )

pub returns-clause-obeys : goal.returns-clause-obeys
returns-clause-obeys g c =
    let co = code (g.G.Group.meaning c.args.self.now.code.group) c.args.self.now.code.cells in
    let m = g.A.CellArray.cells c.args.self.now.array in
    let m' = g.A.CellArray.cells c.erase.new.self in
    let m'' = g.A.CellArray.cells c.write_page-written.new.array in
    let k = c.args.«record» in
    let found = c.in_ok-found.found in
    let page = found.place.page in
    let plans = c.in_ok-plans.plans.items in
    let planned = c.in_ok-plans.ensures in
    let done = erase_served k page m m' c.erase.result tt (sym c.located_at.ensures ∙ c.in_ok-located_at.was) c.erase.ensures.erases in
    let written =
    page_written k co.cells page (per_page co m) c.in_ok-marked.marked c.as_slice.result.now plans m' m'' c.write_page-written.result
    (sym c.located_at-2.ensures ∙ c.in_ok-marked.was) c.write_page-written.ensures.written c.as_slice.ensures.value planned.all in
    let noted = c.note_renewal.ensures in
    renew_served co m k found c.in_ok-found.ensures.0 c.args.value c.in_ok-found.ensures.1 c.in-None.ensures plans planned m' m''
    c.args.self.now.ledger c.note_renewal.new.self c.in_ok-marked.marked done.0.1.0 done.1 written noted.changes noted.renewals noted.marked

pub returns-clause-takes : goal.returns-clause-takes
returns-clause-takes g c =
    let array = g.A.CellArray in
    let co = code (g.G.Group.meaning c.args.self.now.code.group) c.args.self.now.code.cells in
    let a = c.args.self.now.array in
    let m = array.cells a in
    let m' = array.cells c.erase.new.self in
    let m'' = array.cells c.write_page-written.new.array in
    let k = c.args.«record» in
    let n = co.cells in
    let page = c.in_ok-found.found.place.page in
    let known = c.in_ok-found.ensures.0 in
    let plans = c.in_ok-plans.plans.items in
    let planned = c.in_ok-plans.ensures in
    let read = sym c.located_at.ensures ∙ c.in_ok-located_at.was in
    let done = erase_served k page m m' c.erase.result tt read c.erase.ensures.erases in
    let erased = erase_takes array k page a c.erase.new.self c.erase.result tt read c.erase.ensures.erases c.erase.ensures.step in
    let all = ap length c.as_slice.ensures.value ∙ planned.all in
    let written =
    page_written k n page (per_page co m) c.in_ok-marked.marked c.as_slice.result.now plans m' m'' c.write_page-written.result
    (sym c.located_at-2.ensures ∙ c.in_ok-marked.was) c.write_page-written.ensures.written c.as_slice.ensures.value planned.all in
    subst (λ p. Takes array (Erase p ∷ marks_of p 0 (m''.set p) m.width) a c.write_page-written.new.array) known.place.1
    (renew_takes array n page (per_page co m) m.width plans c.in_ok-marked.marked m' m'' a c.erase.new.self c.write_page-written.new.array
    (page_fits n m.width (per_page co m) (omega arith)) (sym done.1.shape.width) written erased
    (subst (λ b. Takes array (marks_of page 0 (m''.set page) (b * n)) c.erase.new.self c.write_page-written.new.array) all c.write_page-written.ensures.takes))
