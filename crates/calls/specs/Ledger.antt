-- The ledger of a store: three counts that stop at a ceiling. Assumes nothing.
use Rattle.std.specs.Prelude.{ℕ, ◌+◌, ◌*◌, ◌/◌, min, cond, ◌==◌}
use Rattle.calls.specs.declared.call.Call.{Call}
use Rattle.calls.specs.declared.call.Call.TheVariants.{Get, Put, Renew}
use Rattle.calls.specs.declared.ledger.Ledger.{Ledger}

abbrev pub ceiling : ℕ
ceiling = 4294967295

-- x and k more, or the ceiling
abbrev pub raised : ℕ → ℕ → ℕ
raised k x = min ceiling (x + k)

-- the ledger at the making
abbrev pub blank : Ledger
blank = record { changes = 0; renewals = 0; marked = 0 }

-- What the ledger becomes by a call that was served with the answer r, its record having held x.
abbrev pub noted : Call → ℕ → ℕ → Ledger → Ledger
noted (Get k) x r l = l
noted (Put k y) x r l = record { changes = raised (cond (x == y) 0 1) l.changes; renewals = l.renewals; marked = raised r l.marked }
noted (Renew k y) x r l = record { changes = l.changes; renewals = raised 1 l.renewals; marked = raised r l.marked }

-- changes to a hundred renewals, to the nearest whole number; it has a meaning only where w is not 0
abbrev pub rate : ℕ → ℕ → ℕ
rate a w = (200 * a + w) / (2 * w)
