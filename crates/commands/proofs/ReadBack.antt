-- What is written out has the words that were written, and passes the tables of a line. Assumes nothing.
use Rattle.std.proofs.Common.{◌≡◌, ℕ, ◌<◌, ◌≤◌, ◌⊎◌, List, [], ◌∷◌, ◌++◌, map, length, Some, None, decimal, Option, sym, refl, ap, ◌∙◌, subst, inl, inr, arith, length-append}
use Rattle.std.proofs.lemmas.Fmt.{length-decimal-le}
use Rattle.scan.specs.Pieces.{cut, joined, Lacks}
use Rattle.scan.proofs.Cutting.{lacks_more, lacks_append, cut_joined}
use Rattle.scan.proofs.Spelling.{decimal_lacks}
use Rattle.commands.specs.declared.factor.Factor.{Factor}
use Rattle.commands.specs.declared.factor.Factor.TheVariants.{Integers, Vectors}
use Rattle.commands.specs.declared.group_word.GroupWord.{GroupWord}
use Rattle.commands.specs.declared.group_word.GroupWord.TheVariants.{One, Two}
use Rattle.commands.specs.declared.command.Command.TheVariants.{Put, Renew, Save, Get, Ledger}
use Rattle.commands.specs.declared.word.Number.{Number}
use Rattle.commands.specs.declared.head.Head.{Head}
use Rattle.commands.specs.PlacedRows.{NotRefused}
use Rattle.commands.specs.Words.{placed}
use Rattle.commands.specs.Groups.{factor_spelt, group_spelt, NineDigitFactor, NineDigitGroup}
use Rattle.commands.specs.Orders.{command_word_count, head_word_count, form_rows, number_row, head_word_rows, line_rows, NineDigitHeading, OrdersPass, HeadingsPass}
use Rattle.commands.proofs.Tables.{accepted_both}

few_digits : (n : ℕ) → n < 1000000000 → length (decimal n) ≤ 9
few_digits n h = length-decimal-le 9 n (omega arith) h (omega arith)

no_space : (n : ℕ) → n < 1000000000 → Lacks 32 (decimal n)
no_space n h = decimal_lacks 32 n (omega arith) (λ d. omega arith)

-- the words of one number, or of two
pub one_word : (k : ℕ) → k < 1000000000 → cut 32 (decimal k) ≡ decimal k ∷ []
unfolding joined
one_word k small = cut_joined 32 (decimal k) [] (no_space k small, tt)

pub two_words :
    (k x : ℕ) → k < 1000000000 → x < 1000000000 → cut 32 (decimal k ++ (32 ∷ decimal x)) ≡ decimal k ∷ (decimal x ∷ [])
unfolding joined
two_words k x small small' = cut_joined 32 (decimal k) (decimal x ∷ []) (no_space k small, (no_space x small', tt))

-- a line of a command that takes as many words as it has
form_passes :
    (takes : ℕ → Option ℕ) (b : ℕ) (xs : List ℕ) (k : ℕ) → length xs ≤ 78 → takes b ≡ Some k → length (placed 3 (cut 32 xs)) ≡ k →
    NotRefused (form_rows takes (b ∷ (32 ∷ xs)))
form_passes takes b xs k short knows counts = (
  (λ long. omega arith),
  ((λ foreign. go foreign), ((λ miscounted. miscounted (knows ∙ ap Some (sym counts))), tt)),
)
  where
    go : ((takes b ≡ None) ⊎ (◌≡◌ {A = ℕ} 32 32 → ⊥)) → ⊥
    go (inl none) = let z : ◌≡◌ {A = ℕ} 0 1 = cc in omega arith
    go (inr unspaced) = unspaced refl

-- one number after a letter, or two
one_passes : (b k : ℕ) → command_word_count b ≡ Some 1 → k < 1000000000 → NotRefused (line_rows (b ∷ (32 ∷ decimal k)))
unfolding placed
one_passes b k knows small =
    let one = one_word k small in
    let few = few_digits k small in
    accepted_both (form_rows command_word_count (b ∷ (32 ∷ decimal k))) (map number_row (placed 3 (cut 32 (decimal k))))
    (form_passes command_word_count b (decimal k) 1 (omega arith) knows (ap (λ ps. length (placed 3 ps)) one))
    (subst (λ ps. NotRefused (map number_row (placed 3 ps))) (sym one) ((λ none. none k (small, refl)), tt))

two_pass : (b k x : ℕ) → command_word_count b ≡ Some 2 → k < 1000000000 → x < 1000000000 → NotRefused (line_rows (b ∷ (32 ∷ (decimal k ++ (32 ∷ decimal x)))))
unfolding placed
two_pass b k x knows small small' =
    let xs = decimal k ++ (32 ∷ decimal x) in
    let two = two_words k x small small' in
    let few = few_digits k small in
    let few' = few_digits x small' in
    let long = length-append (decimal k) (32 ∷ decimal x) in
    accepted_both (form_rows command_word_count (b ∷ (32 ∷ xs))) (map number_row (placed 3 (cut 32 xs)))
    (form_passes command_word_count b xs 2 (omega arith) knows (ap (λ ps. length (placed 3 ps)) two))
    (subst (λ ps. NotRefused (map number_row (placed 3 ps))) (sym two) ((λ none. none k (small, refl)), ((λ none. none x (small', refl)), tt)))

pub orders_pass : OrdersPass
orders_pass (Put k x) small = two_pass 80 k.value x.value refl small.0 small.1
orders_pass (Renew k x) small = two_pass 82 k.value x.value refl small.0 small.1
orders_pass (Save k x) small = two_pass 83 k.value x.value refl small.0 small.1
orders_pass (Get k) small = one_passes 71 k.value refl small
orders_pass Ledger small = ((λ long. omega arith), (go, ((λ miscounted. miscounted refl), tt)))
  where
    go : ((command_word_count 76 ≡ None) ⊎ ⊥) → ⊥
    go (inl none) = let z : ◌≡◌ {A = ℕ} 0 1 = cc in omega arith
    go (inr never) = never

-- a group word has no space, and is short
factor_clean : (f : Factor) → NineDigitFactor f → Lacks 32 (factor_spelt f) × (length (factor_spelt f) ≤ 10)
factor_clean (Integers g) small =
    let few = few_digits g.modulus small in (lacks_more 32 90 (decimal g.modulus) (λ e. omega arith) (no_space g.modulus small), omega arith)
factor_clean (Vectors g) small =
    let few = few_digits g.bits small in (lacks_more 32 88 (decimal g.bits) (λ e. omega arith) (no_space g.bits small), omega arith)

group_clean : (g : GroupWord) → NineDigitGroup g → Lacks 32 (group_spelt g) × (length (group_spelt g) ≤ 21)
group_clean (One f) small = let one = factor_clean f small in (one.0, (let few = one.1 in omega arith))
group_clean (Two p) small =
    let f = p.left in
    let g = p.right in
    let one = factor_clean f small.0 in
    let two = factor_clean g small.1 in
    let few = one.1 in
    let few' = two.1 in
    let long = length-append (factor_spelt f) (46 ∷ factor_spelt g) in
    (lacks_append 32 (factor_spelt f) (46 ∷ factor_spelt g) one.0 (lacks_more 32 46 (factor_spelt g) (λ e. omega arith) two.0), omega arith)

-- the words of a heading
pub four_words :
    (h : Head GroupWord Number) → NineDigitHeading h →
    cut 32 (group_spelt h.group ++ (32 ∷ (decimal h.n.value ++ (32 ∷ (decimal h.pages.value ++ (32 ∷ decimal h.width.value))))))
    ≡ group_spelt h.group ∷ (decimal h.n.value ∷ (decimal h.pages.value ∷ (decimal h.width.value ∷ [])))
unfolding joined
four_words h small =
    let n = no_space h.n.value small.n in
    let p = no_space h.pages.value small.pages in
    let c = no_space h.width.value small.width in
    cut_joined 32 (group_spelt h.group) (decimal h.n.value ∷ (decimal h.pages.value ∷ (decimal h.width.value ∷ [])))
    ((group_clean h.group small.group).0, (n, (p, (c, tt))))

pub headings_pass : HeadingsPass
unfolding placed
headings_pass h small =
    let g = group_spelt h.group in
    let n = decimal h.n.value in
    let p = decimal h.pages.value in
    let c = decimal h.width.value in
    let xs = g ++ (32 ∷ (n ++ (32 ∷ (p ++ (32 ∷ c))))) in
    let words = four_words h small in
    let a = (group_clean h.group small.group).1 in
    let b = few_digits h.n.value small.n in
    let d = few_digits h.pages.value small.pages in
    let e = few_digits h.width.value small.width in
    let l₁ = length-append g (32 ∷ (n ++ (32 ∷ (p ++ (32 ∷ c))))) in
    let l₂ = length-append n (32 ∷ (p ++ (32 ∷ c))) in
    let l₃ = length-append p (32 ∷ c) in
    accepted_both (form_rows head_word_count (72 ∷ (32 ∷ xs))) (head_word_rows (placed 3 (cut 32 xs)))
    (form_passes head_word_count 72 xs 4 (omega arith) refl (ap (λ ps. length (placed 3 ps)) words))
    (subst (λ ps. NotRefused (head_word_rows (placed 3 ps))) (sym words) (
      (λ none. none h.group (small.group, refl)),
      ((λ none. none h.n.value (small.n, refl)), ((λ none. none h.pages.value (small.pages, refl)), ((λ none. none h.width.value (small.width, refl)), tt))),
    ))
