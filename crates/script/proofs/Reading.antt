-- From the reading of a line to its execution. Assumes nothing.
use Rattle.std.proofs.Common.{◌≡◌, ℕ, List, [], Ok, Err, Result, sym, refl, ap, ◌∙◌, subst, inl, inr, arith}
use Rattle.coset.specs.Code.{Code}
use Rattle.calls.specs.Faults.{located}
use Rattle.calls.specs.Calls.{State}
use Rattle.commands.specs.declared.fault.Refusal.{Refusal}
use Rattle.commands.specs.declared.command.Command.{Command}
use Rattle.commands.specs.declared.word.Number.{Number}
use Rattle.commands.specs.Faults.{line_number}
use Rattle.commands.specs.PlacedRows.{PlacedRow, RefusedAt, NotRefused}
use Rattle.commands.specs.Orders.{ReadsStep, IsOrder, line_rows}
use Rattle.script.specs.declared.fault.Cause.TheVariants.{Line}
use Rattle.script.specs.declared.reply.Reply.{Reply}
use Rattle.script.specs.Execution.{refusal, ExecutesOrder, ExecutesLine, Execution}

-- what a reading found, by its answer with the line beside a refusal
pub read_refused :
    (rs : List PlacedRow) {A : Type 0} (Q : A → Type 0) (k : ℕ) (q : Result A Refusal) (e : ℕ × Refusal) → located k q ≡ Err e → ReadsStep rs Q q →
    (e.0 ≡ k) × RefusedAt rs (line_number e.1.fault) e.1.column
read_refused rs Q k (Ok x) e is reading = absurd (let z : ◌≡◌ {A = ℕ} 0 1 = cc in omega arith)
read_refused rs Q k (Err f) e is reading =
    let pair : (k, f) ≡ e = cc in
    (sym (ap (λ p. p.0) pair), subst (λ (g : Refusal). RefusedAt rs (line_number g.fault) g.column) (ap (λ p. p.1) pair) reading)

pub read_accepted :
    (rs : List PlacedRow) {A : Type 0} (Q : A → Type 0) (k : ℕ) (q : Result A Refusal) (x : A) → located k q ≡ Ok x → ReadsStep rs Q q → NotRefused rs × Q x
read_accepted rs Q k (Ok y) x is reading = let same : y ≡ x = cc in (reading.0, subst Q same reading.1)
read_accepted rs Q k (Err f) x is reading = absurd (let z : ◌≡◌ {A = ℕ} 0 1 = cc in omega arith)

-- a line that is refused makes no call
pub executes_refused :
    (c : Code) (k : ℕ) (l : List ℕ) (e : ℕ × Refusal) (r : Reply) (s : State) → e.0 ≡ k → RefusedAt (line_rows l) (line_number e.1.fault) e.1.column →
    r ≡ refusal (Line e.1.fault) e.0 e.1.column → Execution c (λ h. ExecutesLine k l s h r) s s
executes_refused c k l e r s at refused prints =
    record {
      history = [];
      linked = refl;
      obeys = tt;
      satisfies =
          inl (
          record {
            fault = e.1.fault;
            column = e.1.column;
            refused = refused;
            no_call = refl;
            prints = prints ∙ ap (λ j. refusal (Line e.1.fault) j e.1.column) at;
          }
          );
    }

-- any other line is executed as its order is
pub executes_obeyed :
    (c : Code) (k : ℕ) (l : List ℕ) (o : Command Number) (r : Reply) (s t : State) → NotRefused (line_rows l) × IsOrder l o → Execution c (λ h. ExecutesOrder k o s h r) s t →
    Execution c (λ h. ExecutesLine k l s h r) s t
executes_obeyed c k l o r s t read execution =
    record {
      history = execution.history;
      linked = execution.linked;
      obeys = execution.obeys;
      satisfies = inr (record { order = o; accepted = read.0; is = read.1; executes = execution.satisfies });
    }
