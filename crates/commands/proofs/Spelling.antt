-- Factors and group words: what is spelt, and that nothing else is. Assumes nothing.
use Rattle.std.proofs.Common.{◌≡◌, ℕ, List, [], ◌∷◌, ◌++◌, decimal, sym, ap, ◌∙◌, arith}
use Rattle.commands.specs.declared.factor.Factor.{Factor}
use Rattle.commands.specs.declared.factor.Factor.TheVariants.{Integers, Vectors}
use Rattle.commands.specs.declared.group_word.GroupWord.{GroupWord}
use Rattle.commands.specs.declared.group_word.GroupWord.TheVariants.{One, Two}
use Rattle.group.specs.declared.product.Product.{Product}
use Rattle.scan.specs.Pieces.{cut, joined, Lacks}
use Rattle.scan.proofs.Cutting.{lacks_more, cut_alone, cut_first, joined_cut}
use Rattle.scan.proofs.Spelling.{decimal_lacks}
use Rattle.commands.specs.Groups.{factor_spelt, group_spelt, NineDigitFactor, NineDigitGroup, SpellsFactor, SpellsGroup}

-- the pieces of a group word are the spellings of its factors
abbrev pub factor_pieces : GroupWord → List (List ℕ)
factor_pieces (One f) = factor_spelt f ∷ []
factor_pieces (Two p) = factor_spelt p.left ∷ (factor_spelt p.right ∷ [])

factor_lacks : (f : Factor) → NineDigitFactor f → Lacks 46 (factor_spelt f)
factor_lacks (Integers g) small = lacks_more 46 90 (decimal g.modulus) (λ e. omega arith) (decimal_lacks 46 g.modulus (omega arith) (λ d. omega arith))
factor_lacks (Vectors g) small = lacks_more 46 88 (decimal g.bits) (λ e. omega arith) (decimal_lacks 46 g.bits (omega arith) (λ d. omega arith))

pub group_pieces : (g : GroupWord) → NineDigitGroup g → cut 46 (group_spelt g) ≡ factor_pieces g
group_pieces (One f) small = cut_alone 46 (factor_spelt f) (factor_lacks f small)
group_pieces (Two p) small =
    cut_first 46 (factor_spelt p.left) (factor_spelt p.right) (factor_lacks p.left small.0)
    ∙ ap (λ ps. factor_spelt p.left ∷ ps) (cut_alone 46 (factor_spelt p.right) (factor_lacks p.right small.1))

module _ (w p : List ℕ) (ps : List (List ℕ)) (first : cut 46 w ≡ p ∷ ps) where
  -- one piece, or two, that spell factors
  pub spells_one : (f : Factor) → ps ≡ [] → SpellsFactor p f → SpellsGroup w (One f)
  unfolding joined
  spells_one f none spells =
      (spells.0, sym (joined_cut 46 w) ∙ ap (joined 46) (first ∙ ap (λ qs. p ∷ qs) none) ∙ spells.1)

  pub spells_two : (pair : Product Factor Factor) (q : List ℕ) → ps ≡ q ∷ [] → SpellsFactor p pair.left → SpellsFactor q pair.right → SpellsGroup w (Two pair)
  unfolding joined
  spells_two pair q second left right = (
    (left.0, right.0),
    sym (joined_cut 46 w) ∙ ap (joined 46) (first ∙ ap (λ qs. p ∷ qs) second) ∙ ap (λ xs. xs ++ (46 ∷ q)) left.1
        ∙ ap (λ xs. factor_spelt pair.left ++ (46 ∷ xs)) right.1,
  )

  same_pieces : (g : GroupWord) → SpellsGroup w g → p ∷ ps ≡ factor_pieces g
  same_pieces g spells = sym first ∙ ap (cut 46) spells.1 ∙ group_pieces g spells.0

  -- a first piece that is no factor
  pub no_first : ((f : Factor) → SpellsFactor p f → ⊥) → (g : GroupWord) → SpellsGroup w g → ⊥
  no_first none (One f) spells = let same = same_pieces (One f) spells in none f (spells.0, cc)
  no_first none (Two pair) spells = let same = same_pieces (Two pair) spells in none pair.left (spells.0.0, cc)

  -- a second one that is none
  pub no_second : (q : List ℕ) (qs : List (List ℕ)) → ps ≡ q ∷ qs → ((f : Factor) → SpellsFactor q f → ⊥) → (g : GroupWord) → SpellsGroup w g → ⊥
  no_second q qs second none (One f) spells = let same = same_pieces (One f) spells in let z : ◌≡◌ {A = ℕ} 0 1 = cc in omega arith
  no_second q qs second none (Two pair) spells = let same = same_pieces (Two pair) spells in none pair.right (spells.0.1, cc)

  -- a third one
  pub no_third : (q r : List ℕ) (rs : List (List ℕ)) → ps ≡ q ∷ (r ∷ rs) → (g : GroupWord) → SpellsGroup w g → ⊥
  no_third q r rs more (One f) spells = let same = same_pieces (One f) spells in let z : ◌≡◌ {A = ℕ} 0 1 = cc in omega arith
  no_third q r rs more (Two pair) spells = let same = same_pieces (Two pair) spells in let z : ◌≡◌ {A = ℕ} 0 1 = cc in omega arith
