-- The calls of an order, and its reply. Assumes nothing.
use Rattle.std.proofs.Common.{◌≡◌, ℕ, [], ◌∷◌, Ok, Err, Result, sym, refl, ap, ◌∙◌, subst, inl, inr}
use Rattle.coset.specs.Code.{Code}
use Rattle.calls.specs.declared.call.Call.{Call}
use Rattle.calls.specs.declared.call.Call.TheVariants.{Get, Put, Renew}
use Rattle.calls.specs.Calls.{State, Answer, Obeys}
use Rattle.calls.specs.History.{Event, RefusedFull}
use Rattle.commands.specs.declared.command.Command.{Command}
use Rattle.commands.specs.declared.word.Number.{Number}
use Rattle.commands.specs.declared.command.Command.TheVariants.{Put as OrderPut, Renew as OrderRenew, Save as OrderSave, Get as OrderGet}
use Rattle.script.specs.declared.fault.OrderPlace.{OrderPlace}
use Rattle.script.specs.declared.reply.Reply.{Reply}
use Rattle.script.specs.declared.reply.Reply.TheVariants.{Wrote, Renewed, Holds, Refused}
use Rattle.script.specs.declared.fault.ScriptFault.{ScriptFault}
use Rattle.std.specs.Result.{MatchResult, IsOkAnd}
use Rattle.script.specs.Execution.{reply_to, place_of, place_of_get, fault_of_call, reply_of, CallsOnce, ExecutesOrder, Execution}

abbrev made : Call → Answer → State → State → Event
made call answer before after = record { call = call; answer = answer; before = before; after = after }

once :
    (c : Code) (call : Call) (reply : Answer → Reply) (a : Answer) (before after : State) (r : Reply) → Obeys c call a before after → r ≡ reply a →
    Execution c (λ h. CallsOnce call reply h r) before after
once c call reply a before after r obeys prints =
    record {
      history = made call a before after ∷ [];
      linked = (refl, refl);
      obeys = (obeys, tt);
      satisfies = record { event = made call a before after; alone = refl; calls = refl; prints = prints };
    }

-- a fault is printed as a refusal
pub reply_of_is : (q : Result Reply ScriptFault) (r : Reply) → MatchResult q (λ x. r ≡ x) (λ e. r ≡ Refused e) → r ≡ reply_of q
reply_of_is (Ok x) r is = is
reply_of_is (Err e) r is = is

-- what is replied to an answer is the reply to it
pub replied_to :
    (reply : ℕ → Reply) (p : OrderPlace) (a : Answer) (q : Result Reply ScriptFault) →
    MatchResult a (λ v. IsOkAnd q (λ y. y ≡ reply v)) (λ f. q ≡ Err (fault_of_call p f)) → reply_of q ≡ reply_to p reply a
replied_to reply p (Ok v) (Ok y) is = is
replied_to reply p (Ok v) (Err e) is = absurd is
replied_to reply p (Err f) q is = ap reply_of is

module _ (c : Code) (k : ℕ) (o : Command Number) (m x : Number) (p : OrderPlace) (at : p ≡ place_of k m x)
    (before after : State) (a : Answer) (r : Reply) where
  placed_there : (reply : ℕ → Reply) → r ≡ reply_to p reply a → r ≡ reply_to (place_of k m x) reply a
  placed_there reply prints = prints ∙ ap (λ q. reply_to q reply a) at

  pub executes_put :
      o ≡ OrderPut m x → Obeys c (Put m.value x.value) a before after → r ≡ reply_to p Wrote a →
      Execution c (λ h. ExecutesOrder k o before h r) before after
  executes_put is obeys prints =
      subst (λ z. Execution c (λ h. ExecutesOrder k z before h r) before after) (sym is)
      (once c (Put m.value x.value) (reply_to (place_of k m x) Wrote) a before after r obeys (placed_there Wrote prints))

  pub executes_renew :
      o ≡ OrderRenew m x → Obeys c (Renew m.value x.value) a before after → r ≡ reply_to p Renewed a →
      Execution c (λ h. ExecutesOrder k o before h r) before after
  executes_renew is obeys prints =
      subst (λ z. Execution c (λ h. ExecutesOrder k z before h r) before after) (sym is)
      (once c (Renew m.value x.value) (reply_to (place_of k m x) Renewed) a before after r obeys (placed_there Renewed prints))

  -- a put that is not full
  pub executes_saved :
      o ≡ OrderSave m x → Obeys c (Put m.value x.value) a before after → (RefusedFull a → ⊥) → r ≡ reply_to p Wrote a →
      Execution c (λ h. ExecutesOrder k o before h r) before after
  executes_saved is obeys fits prints =
      let e = made (Put m.value x.value) a before after in
      subst (λ z. Execution c (λ h. ExecutesOrder k z before h r) before after) (sym is)
      (record {
        history = e ∷ [];
        linked = (refl, refl);
        obeys = (obeys, tt);
        satisfies =
            inl (
              record { event = e; alone = refl; calls = refl; prints = placed_there Wrote prints },
              λ f same full. let one : made (Put m.value x.value) a before after ≡ f = cc in fits (subst (λ (z : Event). RefusedFull z.answer) (sym one) full),
            );
      })

  -- a put that is full, and then a renewal
  pub executes_renewed :
      (full : Answer) (mid : State) → o ≡ OrderSave m x → Obeys c (Put m.value x.value) full before mid → RefusedFull full →
      Obeys c (Renew m.value x.value) a mid after → r ≡ reply_to p Renewed a →
      Execution c (λ h. ExecutesOrder k o before h r) before after
  executes_renewed full mid is first fails second prints =
      let e = made (Put m.value x.value) full before mid in
      let f = made (Renew m.value x.value) a mid after in
      subst (λ z. Execution c (λ h. ExecutesOrder k z before h r) before after) (sym is)
      (record {
        history = e ∷ (f ∷ []);
        linked = (refl, (refl, refl));
        obeys = (first, (second, tt));
        satisfies = inr (record { full = e; event = f; both = refl; tries = refl; fails = fails; calls = refl; prints = placed_there Renewed prints });
      })

pub executes_get :
    (c : Code) (k : ℕ) (o : Command Number) (m : Number) (before after : State) (a : Answer) (r : Reply) → o ≡ OrderGet m → Obeys c (Get m.value) a before after →
    r ≡ reply_to (place_of_get k m) Holds a → Execution c (λ h. ExecutesOrder k o before h r) before after
executes_get c k o m before after a r is obeys prints =
    subst (λ z. Execution c (λ h. ExecutesOrder k z before h r) before after) (sym is)
    (once c (Get m.value) (reply_to (place_of_get k m) Holds) a before after r obeys prints)
