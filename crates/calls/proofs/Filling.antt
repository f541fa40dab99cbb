-- Entries that are given their answers one by one. Assumes nothing.
use Rattle.std.proofs.Common.{◌≡◌, List, [], ◌∷◌, ◌++◌, length, map, get_or, set, Some, refl, ap, arith}
use Rattle.calls.specs.declared.call.Entry.{Entry}
use Rattle.calls.specs.Calls.{Answer}

module _ {C : Type 0} where
  -- the entries with these answers, as far as they go
  pub filled : List Answer → List (Entry C) → List (Entry C)
  filled [] es = es
  filled (a ∷ rs) [] = []
  filled (a ∷ rs) (e ∷ es) = record { call = e.call; answer = Some a } ∷ filled rs es

  pub filled_none : (es : List (Entry C)) → filled [] es ≡ es
  unfolding filled
  filled_none es = refl

  pub filled_next :
      (rs : List Answer) (es : List (Entry C)) (d : Entry C) → get_or (filled rs es) (length rs) d ≡ get_or es (length rs) d
  unfolding filled
  filled_next [] es d = refl
  filled_next (a ∷ rs) [] d = refl
  filled_next (a ∷ rs) (e ∷ es) d = filled_next rs es d

  pub filled_more :
      (rs : List Answer) (es : List (Entry C)) (a : Answer) (d : Entry C) →
      set (filled rs es) (length rs) (record { call = (get_or es (length rs) d).call; answer = Some a }) ≡ filled (rs ++ (a ∷ [])) es
  unfolding filled
  filled_more [] [] a d = refl
  filled_more [] (e ∷ es) a d = refl
  filled_more (b ∷ rs) [] a d = refl
  filled_more (b ∷ rs) (e ∷ es) a d = ap (λ l. record { call = e.call; answer = Some b } ∷ l) (filled_more rs es a d)

  -- every entry keeps its call
  pub calls_kept :
      (rs : List Answer) (es : List (Entry C)) → length rs ≡ length es →
      map (λ (e : Entry C). e.call) (filled rs es) ≡ map (λ (e : Entry C). e.call) es
  unfolding filled
  calls_kept [] es long = refl
  calls_kept (a ∷ rs) [] long = refl
  calls_kept (a ∷ rs) (e ∷ es) long = ap (λ cs. e.call ∷ cs) (calls_kept rs es (omega arith))

  -- and where there are as many answers, each has its own
  pub all_answered :
      (rs : List Answer) (es : List (Entry C)) → length rs ≡ length es →
      map (λ (e : Entry C). e.answer) (filled rs es) ≡ map Some rs
  unfolding filled
  all_answered [] [] long = refl
  all_answered [] (e ∷ es) long = absurd (omega arith)
  all_answered (a ∷ rs) [] long = absurd (omega arith)
  all_answered (a ∷ rs) (e ∷ es) long = ap (λ l. Some a ∷ l) (all_answered rs es (omega arith))
