-- Group words: how a group is spelt, and the group that is meant. Assumes nothing.
use Rattle.std.specs.Prelude.{◌≡◌, ℕ, ◌<◌, List, ◌∷◌, ◌++◌, Some, None, decimal, Option}
use Rattle.group.specs.Group.{Group}
use Rattle.group.specs.Integers.{integers}
use Rattle.group.specs.Vectors.{vectors}
use Rattle.group.specs.Product.{product}
use Rattle.commands.specs.declared.factor.Factor.{Factor}
use Rattle.commands.specs.declared.factor.Factor.TheVariants.{Integers, Vectors}
use Rattle.commands.specs.declared.group_word.GroupWord.{GroupWord}
use Rattle.commands.specs.declared.group_word.GroupWord.TheVariants.{One, Two}

-- the group of a factor, and of a group word
abbrev pub factor_group : Factor → Group
factor_group (Integers g) = integers g.modulus
factor_group (Vectors g) = vectors g.bits

abbrev pub word_group : GroupWord → Group
word_group (One f) = factor_group f
word_group (Two p) = product (factor_group p.left) (factor_group p.right)

-- a factor is spelt Z or X and its parameter, and two are joined by a full stop
abbrev pub factor_spelt : Factor → List ℕ
factor_spelt (Integers g) = 90 ∷ decimal g.modulus
factor_spelt (Vectors g) = 88 ∷ decimal g.bits

abbrev pub group_spelt : GroupWord → List ℕ
group_spelt (One f) = factor_spelt f
group_spelt (Two p) = factor_spelt p.left ++ (46 ∷ factor_spelt p.right)

-- parameters have at most nine digits
abbrev pub NineDigitFactor : Factor → Type 0
NineDigitFactor (Integers g) = g.modulus < 1000000000
NineDigitFactor (Vectors g) = g.bits < 1000000000

abbrev pub NineDigitGroup : GroupWord → Type 0
NineDigitGroup (One f) = NineDigitFactor f
NineDigitGroup (Two p) = NineDigitFactor p.left × NineDigitFactor p.right

-- the bytes w spell a factor, or a group
abbrev pub SpellsFactor : List ℕ → Factor → Type 0
SpellsFactor w f = NineDigitFactor f × (w ≡ factor_spelt f)

abbrev pub SpellsGroup : List ℕ → GroupWord → Type 0
SpellsGroup w g = NineDigitGroup g × (w ≡ group_spelt g)

-- the one that they spell, or none where they spell none
abbrev pub ReadsFactor : List ℕ → Option Factor → Type 0
ReadsFactor w (Some f) = SpellsFactor w f
ReadsFactor w None = (f : Factor) → SpellsFactor w f → ⊥

abbrev pub ReadsGroup : List ℕ → Option GroupWord → Type 0
ReadsGroup w (Some g) = SpellsGroup w g
ReadsGroup w None = (g : GroupWord) → SpellsGroup w g → ⊥
