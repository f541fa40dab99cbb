-- What the laws of a usable group give of sums, opposites and steps. Assumes nothing.
use Rattle.std.proofs.Common.{◌≡◌, ℕ, sym, ap, ◌∙◌, arith}
use Rattle.group.specs.Group.{Group, Lawful, Usable, In, step}

module _ (g : Group) (laws : Lawful g) (usable : Usable g) where
  pub zero_in : In g 0
  zero_in = let least = laws.least in omega arith

  pub sum_zero : (a : ℕ) → In g a → g.sum a 0 ≡ a
  sum_zero a h = laws.commutes usable a 0 h zero_in ∙ laws.neutral usable a h

  -- the last two of three change places
  pub sum_swap : (a b c : ℕ) → In g a → In g b → In g c → g.sum (g.sum a b) c ≡ g.sum (g.sum a c) b
  sum_swap a b c ha hb hc =
      laws.associates usable a b c ha hb hc ∙ ap (g.sum a) (laws.commutes usable b c hb hc)
      ∙ sym (laws.associates usable a c b ha hc hb)

  pub opposite_in : (a : ℕ) → In g a → In g (g.opposite a)
  opposite_in a h = (laws.opposed usable a h).0

  pub step_in : (x y : ℕ) → In g x → In g y → In g (step g x y)
  step_in x y hx hy = laws.closed usable y (g.opposite x) hy (opposite_in x hx)

  -- the step from x leads to y
  pub step_leads : (x y : ℕ) → In g x → In g y → g.sum x (step g x y) ≡ y
  step_leads x y hx hy =
      let o = opposite_in x hx in
      laws.commutes usable x (step g x y) hx (step_in x y hx hy)
      ∙ laws.associates usable y (g.opposite x) x hy o hx
      ∙ ap (g.sum y) (laws.commutes usable (g.opposite x) x o hx ∙ (laws.opposed usable x hx).1)
      ∙ sum_zero y hy

  -- and is the only element that does
  pub step_only : (x d : ℕ) → In g x → In g d → step g x (g.sum x d) ≡ d
  step_only x d hx hd =
      let o = opposite_in x hx in
      ap (λ z. g.sum z (g.opposite x)) (laws.commutes usable x d hx hd)
      ∙ laws.associates usable d x (g.opposite x) hd hx o
      ∙ ap (g.sum d) (laws.opposed usable x hx).1
      ∙ sum_zero d hd

  pub step_same : (x : ℕ) → In g x → step g x x ≡ 0
  step_same x h = (laws.opposed usable x h).1

  pub step_zero : (x y : ℕ) → In g x → In g y → step g x y ≡ 0 → x ≡ y
  step_zero x y hx hy e = sym (sum_zero x hx) ∙ ap (g.sum x) (sym e) ∙ step_leads x y hx hy

  -- taking the step twice is back where it began
  pub step_back : (a d : ℕ) → In g a → In g d → step g (step g a d) d ≡ a
  step_back a d ha hd =
      let b = step_in a d ha hd in
      ap (step g (step g a d)) (sym (step_leads a d ha hd) ∙ laws.commutes usable a (step g a d) ha b)
      ∙ step_only (step g a d) a b ha
