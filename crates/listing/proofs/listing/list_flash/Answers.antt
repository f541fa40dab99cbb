use Rattle.std.proofs.Common.{◌≡◌, ◌++◌, drop, ap, ◌∙◌}
use Rattle.images.specs.declared.format.Format.TheVariants.{Flash}
use Rattle.images.specs.Image.{part_cells, decoded}
use Rattle.listing.specs.Listing.{page_reports}
use Rattle.listing.proofs.listing.list_flash.Goals as goal

pub returns-clause-lists : goal.returns-clause-lists
returns-clause-lists c =
    let was = c.in_ok-layout.ensures.checks in
    let part = c.over-part.result in
    let means : part_cells Flash part.layout part.image.now ≡ decoded Flash c.args.image.now =
    ap (part_cells Flash part.layout) c.over-part.ensures.bytes ∙ c.over-part.ensures.meaning.accepted was.0 in record {
      accepted = was.0;
      pages = was.1;
      width = was.2;
      reports =
          ap (λ rs. rs ++ drop c.in_ok-layout.layout.pages c.args.reports.now)
          (c.report_pages.ensures ∙ ap page_reports means);
    }
