-- What a script prints: its replies, and the bytes of each. Assumes nothing.
use Rattle.std.specs.Prelude.{ℕ, cond, List, ◌++◌, codes, decimal, ◌==◌}
use Rattle.std.specs.List.{flat_map}
use Rattle.calls.specs.declared.ledger.Ledger.{Ledger}
use Rattle.calls.specs.Ledger.{rate}
use Rattle.script.specs.declared.fault.ScriptFault.{ScriptFault}
use Rattle.script.specs.declared.reply.Reply.{Reply}
use Rattle.script.specs.declared.reply.Reply.TheVariants.{Made, Wrote, Renewed, Holds, Counted, Refused}
use Rattle.script.specs.Faults.{cause_number, cause_letter}

-- the rate, or a hyphen where there was no renewal
abbrev pub rate_shown : Ledger → List ℕ
rate_shown l = cond (l.renewals == 0) (codes "-") (decimal (rate l.changes l.renewals))

-- a refusal: its number, the letter of its place, its line and its column
abbrev pub fault_shown : ScriptFault → List ℕ
fault_shown f =
    decimal (cause_number f.cause) ++ (codes " " ++ (cause_letter f.cause ++ (codes " " ++ (decimal f.line ++ (codes " " ++ decimal f.column)))))

-- a reply as a line: its fields, with one space between each two, and the byte that ends it
abbrev pub shown : Reply → List ℕ
shown (Made k) = codes "M " ++ (decimal k ++ codes "\n")
shown (Wrote k) = codes "W " ++ (decimal k ++ codes "\n")
shown (Renewed k) = codes "E " ++ (decimal k ++ codes "\n")
shown (Holds x) = codes "V " ++ (decimal x ++ codes "\n")
shown (Counted l) =
    codes "N " ++ (decimal l.changes ++ (codes " " ++ (decimal l.renewals ++ (codes " " ++ (decimal l.marked ++ (codes " " ++ (rate_shown l ++ codes "\n")))))))
shown (Refused f) = codes "X " ++ (fault_shown f ++ codes "\n")

-- all of them, one after another
abbrev pub printed : List Reply → List ℕ
printed rs = flat_map shown rs
