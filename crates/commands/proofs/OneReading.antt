-- A line is one order at most, and one heading at most: the one that is read here from its bytes. From a line that is
-- neither, something is read too, and nothing is said of it. Assumes nothing.
use Rattle.std.proofs.Common.{◌≡◌, ℕ, ◌+◌, ◌<◌, cond, ◌==◌, List, [], ◌∷◌, ◌++◌, length, get_or, decimal, sym, refl, ap, ◌∙◌, ap₂, arith}
use Rattle.std.specs.Str.Parse.{digits_value}
use Rattle.std.proofs.lemmas.Fmt.{decimal_is_IsNumeral}
use mathlib.Core.Path.{path_j'}
use Rattle.scan.specs.Pieces.{cut}
use Rattle.group.specs.Vectors.{vectors}
use Rattle.commands.specs.declared.factor.Factor.{Factor}
use Rattle.commands.specs.declared.factor.Factor.TheVariants.{Integers, Vectors}
use Rattle.commands.specs.declared.group_word.GroupWord.{GroupWord}
use Rattle.commands.specs.declared.group_word.GroupWord.TheVariants.{One, Two}
use Rattle.commands.specs.declared.command.Command.{Command}
use Rattle.commands.specs.declared.command.Command.TheVariants.{Put, Renew, Save, Get, Ledger}
use Rattle.commands.specs.declared.word.Number.{Number}
use Rattle.commands.specs.declared.head.Head.{Head}
use Rattle.commands.specs.Groups.{factor_spelt, group_spelt, NineDigitFactor, NineDigitGroup}
use Rattle.commands.specs.Words.{placed, words_after, line_words}
use Rattle.commands.specs.Orders.{ColumnsTwo, IsOrder, IsHeading, OneOrder, OneHeading}
use Rattle.commands.proofs.Spelling.{group_pieces}
use Rattle.commands.proofs.ReadBack.{one_word, two_words, four_words}

-- digits are read as the number that they write
value_read : (n : ℕ) → n < 1000000000 → digits_value 10 (decimal n) ≡ n
value_read n small = (decimal_is_IsNumeral n (omega arith)).1

-- the number that a word spells, in the word's column
abbrev number_at : ℕ → ℕ → Number
number_at column value = record { value = value; column = column }

abbrev number_in : List ℕ × ℕ → Number
number_in w = number_at w.1 (digits_value 10 w.0)

number_read : (n : Number) (column : ℕ) → n.column ≡ column → n.value < 1000000000 → number_in (decimal n.value, column) ≡ n
number_read n column at small = ap₂ number_at (sym at) (value_read n.value small)

-- The order with this letter and these words. How many words there are tells a get and a ledger from the others, and
-- the letter tells those apart.
abbrev two_in : ℕ → Number → Number → Command Number
two_in b k x = cond (b == 80) (Put k x) (cond (b == 82) (Renew k x) (Save k x))

abbrev order_in : ℕ → List (List ℕ × ℕ) → Command Number
order_in b [] = Ledger
order_in b (w ∷ []) = Get (number_in w)
order_in b (w ∷ (v ∷ ws)) = two_in b (number_in w) (number_in v)

-- the order that a line is
abbrev order_of : List ℕ → Command Number
order_of [] = Ledger
order_of (b ∷ rest) = order_in b (words_after rest)

two_read :
    (b : ℕ) (k x : Number) → ColumnsTwo k x → (k.value < 1000000000) × (x.value < 1000000000) →
    order_of (b ∷ (32 ∷ (decimal k.value ++ (32 ∷ decimal x.value)))) ≡ two_in b k x
unfolding placed
two_read b k x at small =
    let column : x.column ≡ 3 + length (decimal k.value) + 1 = let first = at.0 in let second = at.1 in omega arith in
    ap (λ ws. order_in b (placed 3 ws)) (two_words k.value x.value small.0 small.1)
    ∙ ap₂ (two_in b) (number_read k 3 at.0 small.0) (number_read x (3 + length (decimal k.value) + 1) column small.1)

order_read : (l : List ℕ) (o : Command Number) → IsOrder l o → order_of l ≡ o
unfolding placed
order_read l (Put k x) is = ap order_of is.0 ∙ two_read 80 k x is.1 is.2
order_read l (Renew k x) is = ap order_of is.0 ∙ two_read 82 k x is.1 is.2
order_read l (Save k x) is = ap order_of is.0 ∙ two_read 83 k x is.1 is.2
order_read l (Get k) is =
    ap order_of is.0 ∙ ap (λ ws. order_in 71 (placed 3 ws)) (one_word k.value is.2) ∙ ap Get (number_read k 3 is.1 is.2)
order_read l Ledger is = ap order_of is.0

pub orders_same : OneOrder
orders_same l o o' is is' = sym (order_read l o is) ∙ order_read l o' is'

-- The factor that a piece spells. Vectors also hold their order with a proof that it is theirs, and there is only one
-- such pair.
abbrev integers_of : ℕ → Factor
integers_of modulus = Integers (record { modulus = modulus })

abbrev vectors_of : ℕ → Factor
vectors_of bits = Vectors (record { bits = bits; order = (vectors bits).order; its_order = refl })

vectors_are :
    (bits order : ℕ) (its_order : order ≡ (vectors bits).order) →
    vectors_of bits ≡ Vectors (record { bits = bits; order = order; its_order = its_order })
vectors_are bits order its_order =
    path_j' (λ x p. vectors_of bits ≡ Vectors (record { bits = bits; order = x; its_order = p })) refl its_order

abbrev factor_in : List ℕ → Factor
factor_in [] = integers_of 0
factor_in (b ∷ digits) = cond (b == 90) (integers_of (digits_value 10 digits)) (vectors_of (digits_value 10 digits))

factor_read : (f : Factor) → NineDigitFactor f → factor_in (factor_spelt f) ≡ f
factor_read (Integers g) small = ap integers_of (value_read g.modulus small)
factor_read (Vectors g) small = ap vectors_of (value_read g.bits small) ∙ vectors_are g.bits g.order g.its_order

-- the group that the pieces of a word spell
abbrev product_of : Factor → Factor → GroupWord
product_of f g = Two (record { left = f; right = g })

abbrev group_in : List (List ℕ) → GroupWord
group_in [] = One (factor_in [])
group_in (p ∷ []) = One (factor_in p)
group_in (p ∷ (q ∷ ps)) = product_of (factor_in p) (factor_in q)

group_read : (g : GroupWord) → NineDigitGroup g → group_in (cut 46 (group_spelt g)) ≡ g
group_read (One f) small = ap group_in (group_pieces (One f) small) ∙ ap One (factor_read f small)
group_read (Two p) small =
    ap group_in (group_pieces (Two p) small) ∙ ap₂ product_of (factor_read p.left small.0) (factor_read p.right small.1)

-- the heading of these words
abbrev head_of : GroupWord → Number → Number → Number → Head GroupWord Number
head_of g n p w = record { group = g; n = n; pages = p; width = w }

abbrev word_in : List (List ℕ × ℕ) → ℕ → List ℕ × ℕ
word_in ws k = get_or ws k ([], 0)

abbrev heading_in : List (List ℕ × ℕ) → Head GroupWord Number
heading_in ws =
    head_of (group_in (cut 46 (word_in ws 0).0)) (number_in (word_in ws 1)) (number_in (word_in ws 2)) (number_in (word_in ws 3))

heading_read : (l : List ℕ) (h : Head GroupWord Number) → IsHeading l h → heading_in (line_words l) ≡ h
unfolding placed
heading_read l h is =
    let at = is.1 in
    let small = is.2 in
    let n = 3 + length (group_spelt h.group) + 1 in
    let p = n + length (decimal h.n.value) + 1 in
    let w = p + length (decimal h.pages.value) + 1 in
    let pages : h.pages.column ≡ p = at.pages ∙ ap (λ c. c + length (decimal h.n.value) + 1) at.n in
    let width : h.width.column ≡ w = at.width ∙ ap (λ c. c + length (decimal h.pages.value) + 1) pages in
    ap (λ l. heading_in (line_words l)) is.0 ∙ ap (λ ws. heading_in (placed 3 ws)) (four_words h small)
    ∙ ap₂ (λ g k. head_of g k (number_in (decimal h.pages.value, p)) (number_in (decimal h.width.value, w)))
    (group_read h.group small.group) (number_read h.n n at.n small.n)
    ∙ ap₂ (head_of h.group h.n) (number_read h.pages p pages small.pages) (number_read h.width w width small.width)

pub headings_same : OneHeading
headings_same l h h' is is' = sym (heading_read l h is) ∙ heading_read l h' is'
