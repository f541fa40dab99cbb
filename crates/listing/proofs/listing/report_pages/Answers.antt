use Rattle.std.proofs.Common.{◌≡◌, [], ◌∷◌, ◌++◌, map, ap, ◌∙◌, sym, arith}
use Rattle.std.proofs.lemmas.List.{take_all, take_more_set}
use Rattle.std.proofs.lemmas.List.FromFn.{map-range_with_len_more}
use Rattle.std.specs.List.{range_with_len}
use Rattle.listing.specs.Listing.{page_report, page_reports}
use Rattle.listing.proofs.listing.report_pages.Goals as goal

pub loop-page-preserved : goal.loop-page-preserved
loop-page-preserved g c =
    let page = c.loop-page.page in
    let report = page_report (g.A.CellArray.cells c.args.array.now) in
    let done = map report (range_with_len 0 page) in
    take_more_set c.loop-page.reports page c.report.result (omega (arith, c.loop-page-test.true, c.loop-page.auto.reports))
    ∙ ap (λ l. l ++ (c.report.result ∷ [])) c.loop-page.invariant
    ∙ ap (λ r. done ++ (r ∷ [])) c.report.ensures
    ∙ sym (map-range_with_len_more report 0 page page (omega arith))

pub returns : goal.returns
returns g c =
    let m = g.A.CellArray.cells c.args.array.now in
    let all : c.loop-page.page ≡ m.pages = omega (arith, c.requires, c.loop-page.auto.page-end, c.loop-page-test.false) in
    sym (take_all c.loop-page.page c.loop-page.reports (omega (arith, c.loop-page.auto.reports, c.loop-page-test.false)))
    ∙ c.loop-page.invariant
    ∙ ap (λ n. page_reports (record { pages = n; width = m.width; set = m.set; wear = m.wear; limit = m.limit })) all
