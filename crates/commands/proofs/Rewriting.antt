-- A line by its letter and its words: the words joined by spaces are the line. Assumes nothing.
use Rattle.std.proofs.Common.{◌≡◌, ℕ, ◌+◌, ◌<◌, ◌⊎◌, List, [], ◌∷◌, ◌++◌, map, length, decimal, Option, sym, refl, ap, ◌∙◌, subst, ap₂, inl, inr, arith}
use Rattle.std.proofs.lemmas.Bool.{cases_eq}
use Rattle.scan.specs.Pieces.{cut, joined}
use Rattle.scan.proofs.Cutting.{joined_cut, cut_some}
use Rattle.commands.specs.declared.word.Word.{Word}
use Rattle.commands.specs.declared.word.Number.{Number}
use Rattle.commands.specs.declared.head.Head.{Head}
use Rattle.commands.specs.declared.group_word.GroupWord.{GroupWord}
use Rattle.commands.specs.PlacedRows.{RefusedAt, NotRefused}
use Rattle.commands.specs.Groups.{SpellsGroup, group_spelt}
use Rattle.commands.specs.Words.{placed, line_words, word_of}
use Rattle.commands.specs.Orders.{command_word_count, head_word_count, form_rows, number_row, head_word_rows, line_rows, head_rows, Has, HasHead, ReadsNumber, ColumnsTwo, IsHeading}
use Rattle.commands.proofs.Tables.{accepted_both, refused_then}

-- the pieces of placed pieces
unplaced : (column : ℕ) (ps : List (List ℕ)) → map (λ (w : List ℕ × ℕ). w.0) (placed column ps) ≡ ps
unfolding placed
unplaced column [] = refl
unplaced column (p ∷ ps) = ap (λ qs. p ∷ qs) (unplaced (column + length p + 1) ps)

module _ (takes : ℕ → Option ℕ) (b : ℕ) where
  -- a line with words is its letter, a space, and its words joined by spaces
  pub line_is :
      (l : List ℕ) (w : List ℕ × ℕ) (ws : List (List ℕ × ℕ)) → NotRefused (form_rows takes l) → Has l b (w ∷ ws) →
      l ≡ b ∷ (32 ∷ joined 32 (map (λ (v : List ℕ × ℕ). v.0) (w ∷ ws)))
  line_is [] w ws accepted has = absurd has
  line_is (c ∷ []) w ws accepted has = absurd (let words = has.1 in let z : ◌≡◌ {A = ℕ} 0 1 = cc in omega arith)
  line_is (c ∷ (s ∷ rest)) w ws accepted has =
      ap₂ (λ x y. x ∷ (y ∷ rest)) has.0 (space (cases_eq s 32))
      ∙ ap (λ xs. b ∷ (32 ∷ xs)) (sym (joined_cut 32 rest) ∙ ap (joined 32) (sym (unplaced 3 (cut 32 rest)) ∙ ap (map (λ (v : List ℕ × ℕ). v.0)) has.1))
    where
      space : ((s ≡ 32) ⊎ (s ≡ 32 → ⊥)) → s ≡ 32
      space (inl e) = e
      space (inr ne) = absurd (accepted.1.0 (inr ne))

  -- and its words have the columns that their lengths give
  pub words_are :
      (l : List ℕ) (w : List ℕ × ℕ) (ws : List (List ℕ × ℕ)) → Has l b (w ∷ ws) → w ∷ ws ≡ placed 3 (map (λ (v : List ℕ × ℕ). v.0) (w ∷ ws))
  words_are [] w ws has = absurd has
  words_are (c ∷ []) w ws has = absurd (let words = has.1 in let z : ◌≡◌ {A = ℕ} 0 1 = cc in omega arith)
  words_are (c ∷ (s ∷ rest)) w ws has =
      sym has.1 ∙ ap (placed 3) (sym (unplaced 3 (cut 32 rest)) ∙ ap (map (λ (v : List ℕ × ℕ). v.0)) has.1)

  -- a line with no words is its letter
  pub letter_is : (l : List ℕ) → Has l b [] → l ≡ b ∷ []
  letter_is [] has = absurd has
  letter_is (c ∷ []) has = ap (λ x. x ∷ []) has.0
  letter_is (c ∷ (s ∷ rest)) has =
      let some = cut_some 32 rest in
      let none = ap length (sym (unplaced 3 (cut 32 rest)) ∙ ap (map (λ (v : List ℕ × ℕ). v.0)) has.1) in
      absurd (omega arith)

  -- one word, or two, that are numbers
  pub one_number :
      (l : List ℕ) (w : Word) (n : Number) → NotRefused (form_rows takes l) → Has l b (word_of w ∷ []) → ReadsNumber w n →
      (l ≡ b ∷ (32 ∷ decimal n.value)) × (n.column ≡ 3)
  unfolding joined placed
  one_number l w n accepted has number =
      let words = words_are l (word_of w) [] has in
      let pair : word_of w ≡ (w.bytes.now, 3) = cc in
      let column : w.column ≡ 3 = ap (λ q. q.1) pair in
      (line_is l (word_of w) [] accepted has ∙ ap (λ xs. b ∷ (32 ∷ xs)) number.0.1, number.1 ∙ column)

  pub two_numbers :
      (l : List ℕ) (v w : Word) (m n : Number) → NotRefused (form_rows takes l) → Has l b (word_of v ∷ (word_of w ∷ [])) → ReadsNumber v m → ReadsNumber w n →
      (l ≡ b ∷ (32 ∷ (decimal m.value ++ (32 ∷ decimal n.value)))) × ColumnsTwo m n
  unfolding joined placed
  two_numbers l v w m n accepted has first second =
      let words = words_are l (word_of v) (word_of w ∷ []) has in
      let pair : word_of v ≡ (v.bytes.now, 3) = cc in
      let next : word_of w ≡ (w.bytes.now, 3 + length v.bytes.now + 1) = cc in
      let one : v.column ≡ 3 = ap (λ q. q.1) pair in
      let two : w.column ≡ 3 + length v.bytes.now + 1 = ap (λ q. q.1) next in (
        line_is l (word_of v) (word_of w ∷ []) accepted has ∙ ap₂ (λ xs ys. b ∷ (32 ∷ (xs ++ (32 ∷ ys)))) first.0.1 second.0.1,
        (
          first.1 ∙ one,
          second.1 ∙ two ∙ ap₂ (λ x xs. x + length xs + 1) (sym (first.1 ∙ one)) first.0.1,
        ),
      )

-- the words of a heading
pub heading_is :
    (takes : ℕ → Option ℕ) (l : List ℕ) (h : Head Word Word) (t : Head GroupWord Number) → NotRefused (form_rows takes l) → HasHead l h → SpellsGroup h.group.bytes.now t.group →
    ReadsNumber h.n t.n → ReadsNumber h.pages t.pages → ReadsNumber h.width t.width → IsHeading l t
unfolding joined placed
heading_is takes l h t accepted has g n p c =
    let words = words_are takes 72 l (word_of h.group) (word_of h.n ∷ (word_of h.pages ∷ (word_of h.width ∷ []))) has in
    let first : word_of h.n ≡ (h.n.bytes.now, 3 + length h.group.bytes.now + 1) = cc in
    let second : word_of h.pages ≡ (h.pages.bytes.now, 3 + length h.group.bytes.now + 1 + length h.n.bytes.now + 1) = cc in
    let third :
    word_of h.width ≡ (h.width.bytes.now, 3 + length h.group.bytes.now + 1 + length h.n.bytes.now + 1 + length h.pages.bytes.now + 1) =
    cc in
    let one : h.n.column ≡ 3 + length h.group.bytes.now + 1 = ap (λ q. q.1) first in
    let two : h.pages.column ≡ h.n.column + length h.n.bytes.now + 1 = ap (λ q. q.1) second ∙ ap (λ x. x + length h.n.bytes.now + 1) (sym one) in
    let three : h.width.column ≡ h.pages.column + length h.pages.bytes.now + 1 =
    ap (λ q. q.1) third ∙ ap (λ x. x + length h.pages.bytes.now + 1) (sym (ap (λ q. q.1) second)) in (
      line_is takes 72 l (word_of h.group) (word_of h.n ∷ (word_of h.pages ∷ (word_of h.width ∷ []))) accepted has
          ∙ ap₂ (λ xs ys. 72 ∷ (32 ∷ (xs ++ (32 ∷ (ys ++ (32 ∷ (h.pages.bytes.now ++ (32 ∷ h.width.bytes.now)))))))) g.1 n.0.1
          ∙ ap₂ (λ xs ys. 72 ∷ (32 ∷ (group_spelt t.group ++ (32 ∷ (decimal t.n.value ++ (32 ∷ (xs ++ (32 ∷ ys)))))))) p.0.1 c.0.1,
      record {
        n = n.1 ∙ one ∙ ap (λ xs. 3 + length xs + 1) g.1;
        pages = p.1 ∙ two ∙ ap₂ (λ x xs. x + length xs + 1) (sym n.1) n.0.1;
        width = c.1 ∙ three ∙ ap₂ (λ x xs. x + length xs + 1) (sym p.1) p.0.1;
      },
      record { group = g.0; n = n.0.0; pages = p.0.0; width = c.0.0 },
    )

has_words : (l : List ℕ) (b : ℕ) (ws : List (List ℕ × ℕ)) → Has l b ws → line_words l ≡ ws
has_words [] b ws has = absurd has
has_words (c ∷ rest) b ws has = has.1

-- the table of a line whose form passes goes on with its words
module _ (l : List ℕ) (b : ℕ) (ws : List (List ℕ × ℕ)) (has : Has l b ws) where
  pub line_refused : (k j : ℕ) → NotRefused (form_rows command_word_count l) → RefusedAt (map number_row ws) k j → RefusedAt (line_rows l) k j
  line_refused k j accepted refused =
      refused_then (form_rows command_word_count l) (map number_row (line_words l)) k j accepted
      (subst (λ vs. RefusedAt (map number_row vs) k j) (sym (has_words l b ws has)) refused)

  pub line_accepted : NotRefused (form_rows command_word_count l) → NotRefused (map number_row ws) → NotRefused (line_rows l)
  line_accepted accepted words =
      accepted_both (form_rows command_word_count l) (map number_row (line_words l)) accepted (subst (λ vs. NotRefused (map number_row vs)) (sym (has_words l b ws has)) words)

  pub head_accepted : NotRefused (form_rows head_word_count l) → NotRefused (head_word_rows ws) → NotRefused (head_rows l)
  head_accepted accepted words =
      accepted_both (form_rows head_word_count l) (head_word_rows (line_words l)) accepted (subst (λ vs. NotRefused (head_word_rows vs)) (sym (has_words l b ws has)) words)

-- a line of a command with two numbers, one or none passes its table, and is that order written out
module _ (l : List ℕ) (b : ℕ) (form : NotRefused (form_rows command_word_count l)) where
  pub two_ordered :
      (v w : Word) (m n : Number) → Has l b (word_of v ∷ (word_of w ∷ [])) → NotRefused (number_row (word_of v) ∷ []) × ReadsNumber v m →
      NotRefused (number_row (word_of w) ∷ []) × ReadsNumber w n →
      NotRefused (line_rows l)
      × ((l ≡ b ∷ (32 ∷ (decimal m.value ++ (32 ∷ decimal n.value)))) × ColumnsTwo m n × ((m.value < 1000000000) × (n.value < 1000000000)))
  two_ordered v w m n has first second =
      let written = two_numbers command_word_count b l v w m n form has first.1 second.1 in
      (line_accepted l b (word_of v ∷ (word_of w ∷ [])) has form (first.0.0, (second.0.0, tt)), (written.0, written.1, (first.1.0.0, second.1.0.0)))

  pub one_ordered :
      (w : Word) (n : Number) → Has l b (word_of w ∷ []) → NotRefused (number_row (word_of w) ∷ []) × ReadsNumber w n →
      NotRefused (line_rows l) × ((l ≡ b ∷ (32 ∷ decimal n.value)) × (n.column ≡ 3) × (n.value < 1000000000))
  one_ordered w n has only =
      let written = one_number command_word_count b l w n form has only.1 in
      (line_accepted l b (word_of w ∷ []) has form (only.0.0, tt), (written.0, written.1, only.1.0.0))

  pub none_ordered : Has l b [] → NotRefused (line_rows l) × (l ≡ b ∷ [])
  none_ordered has = (line_accepted l b [] has form tt, letter_is command_word_count b l has)
