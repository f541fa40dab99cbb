-- The form of a line: its length, its command, the space after that, and the count of its words. Assumes nothing.
use Rattle.std.proofs.Common.{◌≡◌, ℕ, ◌+◌, List, [], ◌∷◌, length, Some, None, Ok, Err, Option, Result, sym, refl, ap, ◌∙◌, subst, subst₂, inl, inr, arith}
use Rattle.std.specs.Result.{MatchResult, IsOkAnd}
use Rattle.commands.specs.declared.opening.Opening.{Opening}
use Rattle.commands.specs.PlacedRows.{RefusedAt, NotRefused}
use Rattle.commands.specs.Words.{line_words, words_left}
use Rattle.commands.specs.declared.fault.Refusal.{Refusal}
use Rattle.commands.specs.Orders.{Miscounted, count_row, form_rows, Has, Begins, ReadsStep}

module _ (takes : ℕ → Option ℕ) (l : List ℕ) (o : Opening) (begins : Begins l o) where
  module _ (k : ℕ) (knows : takes o.letter ≡ Some k) where
    known : takes o.letter ≡ None → ⊥
    known none = let z : ◌≡◌ {A = ℕ} 0 1 = cc in omega arith

    -- the words are as many as the command takes, or not
    counted : (ws : List (List ℕ × ℕ)) → Has l o.letter ws → length ws ≡ k → Miscounted takes l → ⊥
    counted ws = go l
      where
        go : (xs : List ℕ) → Has xs o.letter ws → length ws ≡ k → Miscounted takes xs → ⊥
        go [] has e miscounted = has
        go (b ∷ rest) has e miscounted = miscounted (ap takes has.0 ∙ knows ∙ ap Some (sym e ∙ ap length (sym has.1)))

    miscounted : (ws : List (List ℕ × ℕ)) → Has l o.letter ws → (length ws ≡ k → ⊥) → Miscounted takes l
    miscounted ws = go l
      where
        go : (xs : List ℕ) → Has xs o.letter ws → (length ws ≡ k → ⊥) → Miscounted takes xs
        go [] has ne = has
        go (b ∷ rest) has ne =
            λ e.
            let first = has.0 in
            let words = has.1 in
            let both : Some (length (line_words (b ∷ rest))) ≡ Some k = sym e ∙ ap takes first ∙ knows in
            let size : length (line_words (b ∷ rest)) ≡ k = cc in
            ne (ap length (sym words) ∙ size)

    pub form_accepted : length (words_left o.words) ≡ k → NotRefused (form_rows takes l)
    form_accepted e =
        let short = begins.length in
        ((λ long. omega arith), (begins.known takes known, (counted (words_left o.words) begins.has e, tt)))

    pub form_miscounted : (length (words_left o.words) ≡ k → ⊥) → RefusedAt (form_rows takes l) 52 (length l + 1)
    form_miscounted ne =
        let short = begins.length in
        inr ((λ long. omega arith), inr (begins.known takes known, inl (miscounted (words_left o.words) begins.has ne, refl, refl)))

  -- The count of the words is checked, and what is made of k words: a refused count refuses the line, and otherwise the line
  -- has its letter and these words.
  module _ (k b : ℕ) (knows : takes b ≡ Some k) (is : o.letter ≡ b) {A : Type 0} (words : A → List (List ℕ × ℕ)) (size : (x : A) → length (words x) ≡ k) where
    pub line_read :
        (r : Result A Refusal) → ReadsStep (count_row (words_left o.words) k o.words.past ∷ []) (λ x. words_left o.words ≡ words x) r →
        ReadsStep (form_rows takes l) (λ x. Has l b (words x)) r
    line_read (Ok x) read = (
      form_accepted k (ap takes is ∙ knows) (ap length read.1 ∙ size x),
      subst (λ c. Has l c (words x)) is (subst (Has l o.letter) read.1 begins.has),
    )
    line_read (Err f) (inl (ne, by, at)) =
        subst₂ (λ x y. RefusedAt (form_rows takes l) x y) (sym by) (sym (at ∙ begins.past)) (form_miscounted k (ap takes is ∙ knows) ne)
    line_read (Err f) (inr (counted_well, never)) = absurd never

    -- the same of what a closure makes of the words
    pub line_made :
        {B : Type 0} (made : A → B) (Q : B → Type 0) (same : (x : A) → Has l b (words x) → Q (made x)) (r : Result A Refusal) (q : Result B Refusal) →
        ReadsStep (count_row (words_left o.words) k o.words.past ∷ []) (λ x. words_left o.words ≡ words x) r →
        MatchResult r (λ x. IsOkAnd q (λ y. y ≡ made x)) (λ e. q ≡ Err e) → ReadsStep (form_rows takes l) Q q
    line_made made Q same (Ok x) (Ok y) read is = let found = line_read (Ok x) read in (found.0, subst Q (sym is) (same x found.1))
    line_made made Q same (Ok x) (Err e) read is = absurd is
    line_made made Q same (Err f) q read is = rw is (line_read (Err f) read)
