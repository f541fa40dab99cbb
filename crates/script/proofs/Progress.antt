-- Lines answered one after another. Assumes nothing.
use Rattle.std.proofs.Common.{◌≡◌, ℕ, List, [], ◌∷◌, ◌++◌, sym, refl, ap, ◌∙◌, subst, append_assoc}
use Rattle.std.proofs.lemmas.List.{append-nil}
use Rattle.coset.specs.Code.{Code}
use Rattle.calls.specs.Calls.{State, Obeys}
use Rattle.calls.specs.History.{Event, Linked, Every}
use Rattle.script.specs.declared.reply.Reply.{Reply}
use Rattle.script.specs.Execution.{ExecutesLine, state_after, ExecutesLines, Execution}

-- Of all the lines those before the ones left were answered from the state `first` on, and led to the state `now`.
pub record Progress (c : Code) (first : State) (all left : List (List ℕ × ℕ)) (now : State) (head : Reply) (out : List Reply) : Type 0 where
  pub done : List (List ℕ × ℕ)
  pub others : List Reply
  pub whole : all ≡ done ++ left
  pub prints : out ≡ head ∷ others
  pub execution : Execution c (λ h. ExecutesLines done first h others) first now

linked_both : (h i : List Event) (s t u : State) → Linked s h t → Linked t i u → Linked s (h ++ i) u
linked_both [] i s t u first second = subst (λ z. Linked z i u) first second
linked_both (e ∷ h) i s t u first second = (first.0, linked_both h i e.after t u first.1 second)

every_both : (P : Event → Type 0) (h i : List Event) → Every P h → Every P i → Every P (h ++ i)
every_both P [] i first second = second
every_both P (e ∷ h) i first second = (first.0, every_both P h i first.1 second)

-- one line more
executes_push :
    (ls : List (List ℕ × ℕ)) (s t : State) (h i : List Event) (out : List Reply) (l : List ℕ × ℕ) (r : Reply) → ExecutesLines ls s h out → Linked s h t →
    ExecutesLine l.1 l.0 t i r → ExecutesLines (ls ++ (l ∷ [])) s (h ++ i) (out ++ (r ∷ []))
unfolding state_after
executes_push [] s t h i out l r executes linked line =
    let none : h ≡ [] = executes.0 in
    let same : s ≡ t = sym (subst (λ z. Linked s z t) none linked) in (
      i,
      [],
      r,
      [],
      ap (λ z. z ++ i) none ∙ sym (append-nil i),
      ap (λ z. z ++ (r ∷ [])) executes.1,
      subst (λ z. ExecutesLine l.1 l.0 z i r) (sym same) line,
      (refl, refl),
    )
executes_push (q ∷ ls) s t h i out l r executes linked line =
    let now = executes.0 in
    let later = executes.1 in
    let parts : Linked s (now ++ later) t = subst (λ z. Linked s z t) executes.4 linked in (
      now,
      later ++ i,
      executes.2,
      executes.3 ++ (r ∷ []),
      ap (λ z. z ++ i) executes.4 ∙ append_assoc now later i,
      ap (λ z. z ++ (r ∷ [])) executes.5,
      executes.6,
      executes_push ls (state_after s now) t later i executes.3 l r executes.7 (linked_rest now later s t parts) line,
    )
  where
    linked_rest : (h i : List Event) (s t : State) → Linked s (h ++ i) t → Linked (state_after s h) i t
    linked_rest [] i s t linked = linked
    linked_rest (e ∷ h) i s t linked = linked_rest h i e.after t linked.1

pub progress_none : (c : Code) (s : State) (all : List (List ℕ × ℕ)) (head : Reply) (out : List Reply) → out ≡ head ∷ [] → Progress c s all all s head out
progress_none c s all head out is =
    record {
      done = [];
      others = [];
      whole = refl;
      prints = is;
      execution = record { history = []; linked = refl; obeys = tt; satisfies = (refl, refl) };
    }

pub progress_more :
    (c : Code) (first now next : State) (all left : List (List ℕ × ℕ)) (l : List ℕ × ℕ) (rest : List (List ℕ × ℕ)) (head r : Reply) (out more : List Reply) →
    Progress c first all left now head out → left ≡ l ∷ rest → more ≡ out ++ (r ∷ []) → Execution c (λ h. ExecutesLine l.1 l.0 now h r) now next →
    Progress c first all rest next head more
progress_more c first now next all left l rest head r out more earlier taken pushed line =
    let before = earlier.execution in
    record {
      done = earlier.done ++ (l ∷ []);
      others = earlier.others ++ (r ∷ []);
      whole = earlier.whole ∙ ap (λ z. earlier.done ++ z) taken ∙ sym (append_assoc earlier.done (l ∷ []) rest);
      prints = pushed ∙ ap (λ z. z ++ (r ∷ [])) earlier.prints;
      execution = record {
        history = before.history ++ line.history;
        linked = linked_both before.history line.history first now next before.linked line.linked;
        obeys = every_both (λ e. Obeys c e.call e.answer e.before e.after) before.history line.history before.obeys line.obeys;
        satisfies =
            executes_push earlier.done first now before.history line.history earlier.others l r before.satisfies before.linked line.satisfies;
      };
    }
