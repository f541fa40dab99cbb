-- Calls from C are determined by what they ask and the bytes that they find. Assumes nothing.
use Rattle.std.proofs.Common.{◌≡◌, ℕ, ◌+◌, List, [], ◌∷◌, map, length, get_or, drop, sym, refl, ap, ◌∙◌, subst, subst₂, ap₂, inl, inr, arith}
use Rattle.std.proofs.lemmas.List.Elements.{All-head, All-tail}
use Rattle.images.specs.declared.format.Format.TheVariants.{Flash}
use Rattle.images.specs.Image.{decoded}
use Rattle.images.proofs.OneImage.{written_same}
use Rattle.cells.proofs.Alikes.{alike_itself}
use Rattle.coset.specs.Code.{Code}
use Rattle.calls.specs.declared.call.Call.{Call}
use Rattle.cells.proofs.SameRows.{refused_once, served_not_refused}
use Rattle.calls.proofs.Determined.{served_record, serves_same}
use Rattle.c_entry.specs.Entry.{entry_rows, CallsOnImage}
use Rattle.c_entry.specs.Together.{LinkedBytes}
use Rattle.c_entry.specs.Determined.{OneImageCall, CodedCall, ByRules, CallsInTurn, ImageCallsAgree}

pub image_call_agrees : OneImageCall
image_call_agrees c call xs ys ys' a a' (inl s) (inl s') =
    let m = decoded Flash xs in
    let same =
    serves_same c m m (decoded Flash ys) (decoded Flash ys') (alike_itself m) call a a' (served_record c m call s.obeys.0)
    s.obeys.1 s'.obeys.1 in
    (same.0, s'.written_after ∙ written_same Flash (decoded Flash ys) (decoded Flash ys') same.2 ∙ sym s.written_after)
image_call_agrees c call xs ys ys' a a' (inl s) (inr r) =
    absurd (served_not_refused (entry_rows c call xs) r.0 s.served r.1.refused)
image_call_agrees c call xs ys ys' a a' (inr r) (inl s) =
    absurd (served_not_refused (entry_rows c call xs) r.0 s.served r.1.refused)
image_call_agrees c call xs ys ys' a a' (inr r) (inr r') = (
  r'.2 ∙ ap (λ k. 10000 + k) (refused_once (entry_rows c call xs) r.0 r'.0 r.1.refused r'.1.refused) ∙ sym r.2,
  r'.1.unchanged ∙ sym r.1.unchanged,
)

-- a call by its parts
made_of : Code → Call → List ℕ → List ℕ → ℕ → CodedCall
made_of c call xs ys a = record { code = c; made = record { call = call; before = xs; after = ys; answer = a } }

pub image_calls_agree : ImageCallsAgree
unfolding made_of
image_calls_agree xs ys ys' [] [] codes calls turn turn' = (refl, turn'.linked ∙ sym turn.linked)
image_calls_agree xs ys ys' [] (e' ∷ es') codes calls turn turn' = absurd (let no = ap length calls in omega arith)
image_calls_agree xs ys ys' (e ∷ es) [] codes calls turn turn' = absurd (let no = ap length calls in omega arith)
image_calls_agree xs ys ys' (e ∷ es) (e' ∷ es') codes calls turn turn' =
    let code : e'.code ≡ e.code = ap (λ l. get_or l 0 e.code) codes in
    let call : e'.made.call ≡ e.made.call = ap (λ l. get_or l 0 e.made.call) calls in
    let found : e'.made.before ≡ e.made.before = turn'.linked.0 ∙ sym turn.linked.0 in
    let by : CallsOnImage e.code e'.made.call e'.made.before e'.made.after e'.made.answer =
    subst (λ c. CallsOnImage c e'.made.call e'.made.before e'.made.after e'.made.answer) code (All-head ByRules e' es' turn'.rules) in
    let one =
    image_call_agrees e.code e.made.call e.made.before e.made.after e'.made.after e.made.answer e'.made.answer (All-head ByRules e es turn.rules)
    (subst₂ (λ z b. CallsOnImage e.code z b e'.made.after e'.made.answer) call found by) in
    let rest =
    image_calls_agree e.made.after ys ys' es es' (ap (drop 1) codes) (ap (drop 1) calls)
    (record { linked = turn.linked.1; rules = All-tail ByRules e es turn.rules })
    (record {
      linked = subst (λ b. LinkedBytes b (map (λ (x : CodedCall). x.made) es') ys') one.1 turn'.linked.1;
      rules = All-tail ByRules e' es' turn'.rules;
    }) in
    let here : e' ≡ e =
    ap (λ c. made_of c e'.made.call e'.made.before e'.made.after e'.made.answer) code
    ∙ ap₂ (λ z b. made_of e.code z b e'.made.after e'.made.answer) call found
    ∙ ap₂ (λ l a. made_of e.code e.made.call e.made.before l a) one.1 one.0 in
    (ap₂ (λ x l. x ∷ l) here rest.0, rest.1)
