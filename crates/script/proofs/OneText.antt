-- One script prints one text and leaves one image. Assumes nothing.
use Rattle.std.proofs.Common.{◌≡◌, ℕ, false, ◌⊎◌, List, [], ◌∷◌, ◌++◌, take, drop, Option, Some, is_some, sym, refl, ap, ◌∙◌, subst, ap₂, inl, inr, arith}
use Rattle.std.proofs.lemmas.Bool.{both_ways}
use Rattle.std.proofs.lemmas.List.{take-append-drop}
use Rattle.cells.specs.Cells.{Cells, Alike}
use Rattle.cells.proofs.Alikes.{alike_join}
use Rattle.images.specs.declared.format.Format.TheVariants.{Flash}
use Rattle.images.proofs.OneImage.{written_same}
use Rattle.coset.specs.Code.{Code}
use Rattle.calls.specs.declared.call.Call.{Call}
use Rattle.calls.specs.declared.call.Call.TheVariants.{Get, Put, Renew}
use Rattle.calls.specs.Calls.{State, Answer, Obeys}
use Rattle.calls.specs.History.{Event, Linked, Every, RefusedFull}
use Rattle.calls.specs.Determined.{StatesAgree}
use Rattle.calls.proofs.Geometry.{records_same}
use Rattle.calls.proofs.Determined.{calls_agree}
use Rattle.commands.specs.declared.command.Command.{Command}
use Rattle.commands.specs.declared.command.Command.TheVariants.{Put as OrderPut, Renew as OrderRenew, Save as OrderSave, Get as OrderGet, Ledger as OrderLedger}
use Rattle.commands.specs.declared.head.Head.{Head}
use Rattle.commands.specs.declared.group_word.GroupWord.{GroupWord}
use Rattle.commands.specs.declared.word.Number.{Number}
use Rattle.commands.specs.Orders.{head_rows, line_rows}
use Rattle.commands.proofs.OneReading.{orders_same, headings_same}
use Rattle.script.specs.declared.fault.Cause.TheVariants.{Line}
use Rattle.script.specs.declared.output.Output.{Ghosts}
use Rattle.script.specs.declared.reply.Reply.{Reply}
use Rattle.script.specs.declared.reply.Reply.TheVariants.{Made, Wrote, Renewed, Holds, Counted}
use Rattle.script.specs.Execution.{refusal, reply_to, place_of, place_of_get, CallsOnce, CallsTwice, ExecutesOrder, ExecutesLine, state_after, ExecutesLines}
use Rattle.script.specs.Replies.{printed}
use Rattle.script.specs.Script.{code_of_heading, heading_rows, Lent, NoImage, LeavesImage, MadeStore, HeadRefused, Starts}
use Rattle.script.specs.Writing.{WritesBeginning}
use Rattle.script.specs.OneText.{SameImage, ScriptsAgree, OutputsAgree, WritersAgree}
use Rattle.script.proofs.KnownFaults.{never_both, refused_once, line_fault_same, heading_cause_same}

-- a history that is one part after another
linked_parts : (h i : List Event) (s t : State) → Linked s (h ++ i) t → Linked s h (state_after s h) × Linked (state_after s h) i t
unfolding state_after
linked_parts [] i s t linked = (refl, linked)
linked_parts (e ∷ h) i s t linked = let rest = linked_parts h i e.after t linked.1 in ((linked.0, rest.0), rest.1)

every_parts : (P : Event → Type 0) (h i : List Event) → Every P (h ++ i) → Every P h × Every P i
every_parts P [] i all = (tt, all)
every_parts P (e ∷ h) i all = let rest = every_parts P h i all.1 in ((all.0, rest.0), rest.1)

module _ (c : Code) where
  abbrev ByRules : List Event → Type 0
  ByRules h = Every (λ e. Obeys c e.call e.answer e.before e.after) h

  -- the same call in states that agree
  call_same :
      (call : Call) (e e' : Event) → e.call ≡ call → e'.call ≡ call → StatesAgree e.before e'.before →
      Obeys c e.call e.answer e.before e.after → Obeys c e'.call e'.answer e'.before e'.after →
      (e'.answer ≡ e.answer) × StatesAgree e.after e'.after
  call_same call e e' is is' agree obeys obeys' =
      let same =
      calls_agree c call e.answer e'.answer e.before e.after e'.before e'.after agree
      (subst (λ z. Obeys c z e.answer e.before e.after) is obeys) (subst (λ z. Obeys c z e'.answer e'.before e'.after) is' obeys') in
      (same.answer, same.left)

  module _ (s s' t t' : State) (h h' : List Event) (agree : StatesAgree s s') (linked : Linked s h t) (linked' : Linked s' h' t') (rules : ByRules h) (rules' : ByRules h') (r r' : Reply) where
    abbrev Same : Type 0
    Same = (r' ≡ r) × StatesAgree t t'

    none_same : h ≡ [] → h' ≡ [] → r' ≡ r → Same
    none_same e e' is =
        let same : t ≡ s = subst (λ z. Linked s z t) e linked in
        let same' : t' ≡ s' = subst (λ z. Linked s' z t') e' linked' in
        (is, rw (same, same') agree)

    -- the first calls
    first_same :
        (call : Call) (e e' : Event) (more more' : List Event) → h ≡ e ∷ more → h' ≡ e' ∷ more' → e.call ≡ call → e'.call ≡ call →
        (e'.answer ≡ e.answer) × StatesAgree e.after e'.after
    first_same call e e' more more' is is' calls calls' =
        let l : Linked s (e ∷ more) t = subst (λ z. Linked s z t) is linked in
        let l' : Linked s' (e' ∷ more') t' = subst (λ z. Linked s' z t') is' linked' in
        let o : ByRules (e ∷ more) = subst ByRules is rules in
        let o' : ByRules (e' ∷ more') = subst ByRules is' rules' in
        call_same call e e' calls calls' (rw (l.0, l'.0) agree) o.0 o'.0

    once_same : (call : Call) (reply : Answer → Reply) → CallsOnce call reply h r → CallsOnce call reply h' r' → Same
    once_same call reply one one' =
        let same = first_same call one.event one'.event [] [] one.alone one'.alone one.calls one'.calls in
        let l : Linked s (one.event ∷ []) t = subst (λ z. Linked s z t) one.alone linked in
        let l' : Linked s' (one'.event ∷ []) t' = subst (λ z. Linked s' z t') one'.alone linked' in
        (one'.prints ∙ ap reply same.0 ∙ sym one.prints, rw (l.1, l'.1) same.1)

    twice_same : (call next : Call) (reply : Answer → Reply) → CallsTwice call next reply h r → CallsTwice call next reply h' r' → Same
    twice_same call next reply two two' =
        let same = first_same call two.full two'.full (two.event ∷ []) (two'.event ∷ []) two.both two'.both two.tries two'.tries in
        let l : Linked s (two.full ∷ (two.event ∷ [])) t = subst (λ z. Linked s z t) two.both linked in
        let l' : Linked s' (two'.full ∷ (two'.event ∷ [])) t' = subst (λ z. Linked s' z t') two'.both linked' in
        let o : ByRules (two.full ∷ (two.event ∷ [])) = subst ByRules two.both rules in
        let o' : ByRules (two'.full ∷ (two'.event ∷ [])) = subst ByRules two'.both rules' in
        let last = call_same next two.event two'.event two.calls two'.calls (rw (l.1.0, l'.1.0) same.1) o.1.0 o'.1.0 in
        (two'.prints ∙ ap reply last.0 ∙ sym two.prints, rw (l.1.1, l'.1.1) last.1)

    order_same : (k : ℕ) (o : Command Number) → ExecutesOrder k o s h r → ExecutesOrder k o s' h' r' → Same
    order_same k (OrderPut m x) one one' = once_same (Put m.value x.value) (reply_to (place_of k m x) Wrote) one one'
    order_same k (OrderRenew m x) one one' = once_same (Renew m.value x.value) (reply_to (place_of k m x) Renewed) one one'
    order_same k (OrderGet m) one one' = once_same (Get m.value) (reply_to (place_of_get k m) Holds) one one'
    order_same k OrderLedger none none' = none_same none.0 none'.0 (none'.1 ∙ ap (λ l. Counted l) agree.ledger ∙ sym none.1)
    order_same k (OrderSave m x) (inl one) (inl one') = once_same (Put m.value x.value) (reply_to (place_of k m x) Wrote) one.0 one'.0
    order_same k (OrderSave m x) (inr two) (inr two') =
        twice_same (Put m.value x.value) (Renew m.value x.value) (reply_to (place_of k m x) Renewed) two two'
    order_same k (OrderSave m x) (inl one) (inr two) =
        let same = first_same (Put m.value x.value) one.0.event two.full [] (two.event ∷ []) one.0.alone two.both one.0.calls two.tries in
        absurd (one.1 one.0.event one.0.alone (subst RefusedFull same.0 two.fails))
    order_same k (OrderSave m x) (inr two) (inl one) =
        let same = first_same (Put m.value x.value) two.full one.0.event (two.event ∷ []) [] two.both one.0.alone two.tries one.0.calls in
        absurd (one.1 one.0.event one.0.alone (subst RefusedFull (sym same.0) two.fails))

    line_same : (k : ℕ) (l : List ℕ) → ExecutesLine k l s h r → ExecutesLine k l s' h' r' → Same
    line_same k l (inl bad) (inl bad') =
        let same = refused_once (line_rows l) _ _ _ _ bad.refused bad'.refused in
        none_same bad.no_call bad'.no_call
        (bad'.prints ∙ ap₂ (λ f j. refusal (Line f) k j) (line_fault_same bad.fault bad'.fault same.0) same.1 ∙ sym bad.prints)
    line_same k l (inl bad) (inr done) = absurd (never_both (line_rows l) _ _ done.accepted bad.refused)
    line_same k l (inr done) (inl bad) = absurd (never_both (line_rows l) _ _ done.accepted bad.refused)
    line_same k l (inr done) (inr done') =
        order_same k done.order done.executes
        (subst (λ o. ExecutesOrder k o s' h' r') (orders_same l done'.order done.order done'.is done.is) done'.executes)

  lines_same :
      (ls : List (List ℕ × ℕ)) (s s' t t' : State) (h h' : List Event) (out out' : List Reply) → StatesAgree s s' →
      Linked s h t → Linked s' h' t' → ByRules h → ByRules h' → ExecutesLines ls s h out → ExecutesLines ls s' h' out' →
      (out' ≡ out) × StatesAgree t t'
  lines_same [] s s' t t' h h' out out' agree linked linked' rules rules' done done' =
      let same : t ≡ s = subst (λ z. Linked s z t) done.0 linked in
      let same' : t' ≡ s' = subst (λ z. Linked s' z t') done'.0 linked' in
      (done'.1 ∙ sym done.1, rw (same, same') agree)
  lines_same (l ∷ ls) s s' t t' h h' out out' agree linked linked' rules rules' done done' =
      let parts = linked_parts done.0 done.1 s t (subst (λ z. Linked s z t) done.4 linked) in
      let parts' = linked_parts done'.0 done'.1 s' t' (subst (λ z. Linked s' z t') done'.4 linked') in
      let obeys = every_parts (λ e. Obeys c e.call e.answer e.before e.after) done.0 done.1 (subst ByRules done.4 rules) in
      let obeys' = every_parts (λ e. Obeys c e.call e.answer e.before e.after) done'.0 done'.1 (subst ByRules done'.4 rules') in
      let one =
      line_same s s' (state_after s done.0) (state_after s' done'.0) done.0 done'.0 agree parts.0 parts'.0 obeys.0 obeys'.0 done.2 done'.2 l.1 l.0 done.6 done'.6 in
      let rest =
      lines_same ls (state_after s done.0) (state_after s' done'.0) t t' done.1 done'.1 done.3 done'.3 one.1 parts.1 parts'.1 obeys.1 obeys'.1 done.7 done'.7 in
      (done'.5 ∙ ap₂ (λ r rs. r ∷ rs) one.0 rest.0 ∙ sym done.5, rest.1)

-- no image is one image too
none_left : (l l' : Lent) → NoImage l → NoImage l' → SameImage l l'
none_left l l' none none' = record {
  size = none'.none ∙ sym none.none;
  bytes = λ n some. absurd (both_ways false refl (ap is_some (sym none.none ∙ some)));
  all = λ same. none'.bytes ∙ same ∙ sym none.bytes;
}

-- the images of cells that agree are one
image_left : (n : ℕ) (m m' : Cells) (l l' : Lent) → Alike m m' → LeavesImage n m l → LeavesImage n m' l' → SameImage l l'
image_left n m m' l l' alike leaves leaves' = record {
  size = leaves'.size ∙ sym leaves.size;
  bytes = λ k some. subst (λ z. take z l'.after ≡ take z l.after) (the_size k (sym leaves.size ∙ some)) same;
  all = λ lent.
      sym (take-append-drop n l'.after)
      ∙ ap₂ (λ xs ys. xs ++ ys) same (leaves'.others ∙ ap (drop n) lent ∙ sym leaves.others)
      ∙ take-append-drop n l.after;
}
  where
    same : take n l'.after ≡ take n l.after
    same = leaves'.image ∙ written_same Flash m m' alike ∙ sym leaves.image

    the_size : (k : ℕ) → ◌≡◌ {A = Option ℕ} (Some n) (Some k) → n ≡ k
    the_size k e = cc

-- the stores that one heading makes
made_same :
    (h : Head GroupWord Number) (ls : List (List ℕ × ℕ)) (out out' : List Reply) (l l' : Lent) → MadeStore h ls out l → MadeStore h ls out' l' →
    (out' ≡ out) × SameImage l l'
made_same h ls out out' l l' made made' =
    let c = code_of_heading h in
    let agree : StatesAgree made.first made'.first = record {
      cells = alike_join made.fresh made'.fresh;
      ledger = made'.nothing_counted ∙ sym made.nothing_counted;
    } in
    let same =
    lines_same c ls made.first made'.first made.last made'.last made.promise.history made'.promise.history made.others made'.others agree
    made.promise.linked made'.promise.linked made.promise.obeys made'.promise.obeys made.executes made'.executes in (
      made'.prints ∙ ap₂ (λ k rs. Made k ∷ rs) (records_same c made.first.cells made'.first.cells agree.cells.shape) same.0 ∙ sym made.prints,
      image_left _ made.last.cells made'.last.cells l l' same.1.cells made.leaves made'.leaves,
    )

outcome_same :
    (k : ℕ) (h : Head GroupWord Number) (ls : List (List ℕ × ℕ)) (out out' : List Reply) (l l' : Lent) →
    (HeadRefused k h out × NoImage l) ⊎ MadeStore h ls out l → (HeadRefused k h out' × NoImage l') ⊎ MadeStore h ls out' l' →
    (out' ≡ out) × SameImage l l'
outcome_same k h ls out out' l l' (inl (bad, none)) (inl (bad', none')) = (
  bad'.prints
      ∙ ap₂ (λ f j. refusal f k j ∷ []) (heading_cause_same h bad.cause bad'.cause _ _ bad.refused bad'.refused)
      (refused_once (heading_rows h) _ _ _ _ bad.refused bad'.refused).1
      ∙ sym bad.prints,
  none_left l l' none none',
)
outcome_same k h ls out out' l l' (inl (bad, none)) (inr made) = absurd (never_both (heading_rows h) _ _ made.accepted bad.refused)
outcome_same k h ls out out' l l' (inr made) (inl (bad, none)) = absurd (never_both (heading_rows h) _ _ made.accepted bad.refused)
outcome_same k h ls out out' l l' (inr made) (inr made') = made_same h ls out out' l l' made made'

starts_same :
    (ls : List (List ℕ × ℕ)) (out out' : List Reply) (l l' : Lent) → Starts ls out l → Starts ls out' l' →
    (out' ≡ out) × SameImage l l'
starts_same [] out out' l l' is is' = (is'.0 ∙ sym is.0, none_left l l' is.1 is'.1)
starts_same (head ∷ ls) out out' l l' (inl (bad, none)) (inl (bad', none')) =
    let same = refused_once (head_rows head.0) _ _ _ _ bad.refused bad'.refused in (
      bad'.prints ∙ ap₂ (λ f j. refusal (Line f) head.1 j ∷ []) (line_fault_same bad.fault bad'.fault same.0) same.1 ∙ sym bad.prints,
      none_left l l' none none',
    )
starts_same (head ∷ ls) out out' l l' (inl (bad, none)) (inr well) = absurd (never_both (head_rows head.0) _ _ well.accepted bad.refused)
starts_same (head ∷ ls) out out' l l' (inr well) (inl (bad, none)) = absurd (never_both (head_rows head.0) _ _ well.accepted bad.refused)
starts_same (head ∷ ls) out out' l l' (inr well) (inr well') =
    outcome_same head.1 well.heading ls out out' l l' well.outcome
    (subst (λ h. (HeadRefused head.1 h out' × NoImage l') ⊎ MadeStore h ls out' l')
    (headings_same head.0 well'.heading well.heading well'.is well.is) well'.outcome)

pub scripts_agree : ScriptsAgree
scripts_agree script out out' l l' (inl long) (inl long') = (long'.1 ∙ sym long.1, none_left l l' long.2 long'.2)
scripts_agree script out out' l l' (inl long) (inr short) = absurd (let a = long.0 in let b = short.0 in omega arith)
scripts_agree script out out' l l' (inr short) (inl long) = absurd (let a = long.0 in let b = short.0 in omega arith)
scripts_agree script out out' l l' (inr short) (inr short') = starts_same _ out out' l l' short.1 short'.1

pub outputs_agree : {O P : Type 0} (output : Ghosts O) (other : Ghosts P) → OutputsAgree output other
outputs_agree output other script before after before' after' l l' replied replied' =
    let same = scripts_agree script replied.replies replied'.replies l l' replied.satisfies replied'.satisfies in
    record {
      replies = replied.replies;
      runs = replied.satisfies;
      takes = replied.takes;
      takes' = subst (λ rs. other.takes before' (printed rs) after') same.0 replied'.takes;
      image = same.1;
    }

pub writers_agree : WritersAgree
writers_agree script before after before' after' r r' l l' written written' =
    let same = scripts_agree script written.replies written'.replies l l' written.satisfies written'.satisfies in
    record {
      replies = written.replies;
      runs = written.satisfies;
      writes = written.writes;
      writes' = subst (λ rs. WritesBeginning before' after' (printed rs) r') same.0 written'.writes;
      image = same.1;
    }
