use Rattle.std.proofs.Common.{◌≡◌, ◌≤◌, set, ◌+◌, ◌-◌, ◌*◌, length, replicate, mul-le-mul_right, ap, ◌∙◌, arith, rules}
use Rattle.std.proofs.lemmas.List.{length-set, length-replicate}
use Rattle.std.proofs.lemmas.List.Edits.{length-between}
use borrow.Rule.Slice.PartMut.{put_mid}
use Rattle.images.specs.Image.{page_bytes}
use Rattle.images.proofs.Blank.{two_bytes}
use Rattle.images.proofs.Mids.{mid_length}
use Rattle.images.proofs.Laying.{blank_laid}
use Rattle.images.proofs.fresh.write_blank.Goals as goal

pub returns : goal.returns
returns c =
    let l = c.args.layout in
    let few = l.few in
    let narrow = l.narrow in
    let size = c.size-size.ensures in
    let xs = c.args.image.now in
    let first = set xs 0 l.pages in
    let long : length xs ≡ 8451 = search rules in
    let long₀ : length first ≡ length xs = length-set xs 0 l.pages in
    let zeros : length c.fill.new.part ≡ 1 + 4 * l.pages - 1 =
    ap length c.fill.ensures ∙ length-replicate _ 0 ∙ length-between first _ _ (omega (arith, long₀)) in
    let pair : length c.copy_from_slice.new.self ≡ 1 + 4 * l.pages + 2 - (1 + 4 * l.pages) =
    ap length (c.copy_from_slice.ensures.after ∙ c.to_be_bytes.ensures) ∙ omega arith in
    let counted = put_mid 1 (1 + 4 * l.pages - 1) first c.fill.new.part in
    let long₁ = mid_length 0 1 (1 + 4 * l.pages - 1) first c.fill.new.part (omega (arith, long₀)) zeros in
    let long₂ = mid_length 0 (1 + 4 * l.pages) _ counted c.copy_from_slice.new.self (omega (arith, long₀, long₁)) pair ∙ long₁ ∙ long₀ ∙ long in
    let bytes : page_bytes l.width ≤ 128 = omega arith in
    let most = mul-le-mul_right (page_bytes l.width) few in
    let within : c.size-size.result ≤ 8451 = omega arith in
    blank_laid l.pages l.width c.size-size.result (1 + 4 * l.pages - 1) (1 + 4 * l.pages + 2 - (1 + 4 * l.pages)) (c.size-size.result - (1 + 4 * l.pages + 2))
    xs c.fill.new.part c.copy_from_slice.new.self c.fill-2.new.part few narrow size long
    (c.fill.ensures ∙ ap (λ k. replicate k 0) (length-between first _ _ (omega (arith, long₀))))
    (two_bytes l.width c.copy_from_slice.new.self narrow (c.copy_from_slice.ensures.after ∙ c.to_be_bytes.ensures))
    (c.fill-2.ensures ∙ ap (λ k. replicate k 255) (length-between _ _ _ (omega (arith, long₂, within))))
    (omega arith) (omega arith) (omega arith) within
