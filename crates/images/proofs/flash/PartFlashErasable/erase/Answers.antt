use Rattle.std.proofs.Common.{◌+◌, ◌-◌, ◌*◌, replicate, refl, ap, ◌∙◌, arith, rules}
use Rattle.std.proofs.lemmas.List.Edits.{length-between}
use borrow.Rule.Slice.PartMut.{put_mid}
use Rattle.images.specs.declared.format.Format.TheVariants.{Flash}
use Rattle.images.specs.Image.{fits}
use Rattle.images.specs.Bytes.{PageErased}
use Rattle.images.proofs.Writes.{page_written, part_erased}
use Rattle.images.proofs.Intact.{erase_intact}
use Rattle.images.proofs.Offsets.{page_within, shown, suffices}
use Rattle.images.proofs.flash.PartFlashErasable.erase.Goals as goal

pub slice_bounds-fill-end : goal.slice_bounds-fill-end
slice_bounds-fill-end c =
    let l = c.args.self.now.layout in
    let worn = c.in_ok-worn.ensures in
    let there = shown (fits Flash l c.args.self.now.image.now) l.pages c.args.page (omega (arith, worn.0.0)) in
    let room = suffices Flash l c.args.self.now.image.now there.0 in
    let inside = page_within l.width c.args.page l.pages there.1 in
    search rules

pub returns : goal.returns
returns c =
    let l = c.args.self.now.layout in
    let xs = c.args.self.now.image.now in
    let worn = c.in_ok-worn.ensures in
    let there = shown (fits Flash l xs) l.pages c.args.page (omega (arith, worn.0.0)) in
    let room = suffices Flash l xs there.0 in
    let inside = page_within l.width c.args.page l.pages there.1 in
    let at = c.page_at-at.result in
    let n = at + c.page_bytes.result - at in
    let k = 5 + 4 * c.args.page - (1 + 4 * c.args.page) in
    let ys = put_mid (1 + 4 * c.args.page) k (put_mid at n xs c.fill.new.part) c.copy_from_slice.new.self in
    let bytes : PageErased l.pages l.width c.args.page xs ys =
    page_written l.pages l.width c.args.page at n k (c.in_ok-worn.worn + 1) xs c.fill.new.part c.copy_from_slice.new.self
    there.1 room c.page_at-at.ensures (omega arith)
    (c.fill.ensures ∙ ap (λ m. replicate m 255) (length-between xs _ _ (omega arith))) (omega arith) (omega arith)
    (c.copy_from_slice.ensures.after ∙ c.to_be_bytes.ensures) (omega arith) in
    record {
      kept = (refl, erase_intact l c.args.page xs ys there.1 (omega arith) bytes);
      erases = ((worn.0.0, (λ most. omega arith, tt)), part_erased l c.args.page xs ys there.0 there.1 (omega arith) bytes);
      step = (refl, (refl, bytes));
    }
