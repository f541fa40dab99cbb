-- A store as its calls see it, what no call alters of it, and which steps its array takes. Assumes nothing.
use Rattle.std.specs.Prelude.{◌≡◌}
use Rattle.group.specs.declared.interface.Group.{Ghosts as GroupMembers}
use Rattle.cells.specs.declared.array.CellArray.{Ghosts}
use Rattle.cells.specs.Device.{Kept}
use Rattle.cells.specs.Chain.{Takes}
use Rattle.coset.specs.Codes.{code_of}
use Rattle.calls.specs.declared.call.Call.{Call}
use Rattle.calls.specs.Calls.{State, Answer, state_of}
use Rattle.calls.specs.Steps.{steps_of}
use Rattle.store.specs.declared.store.Store.{Store}

-- its state, by what its array means
abbrev pub state : {G A : Type 0} → Ghosts A → Store G A → State
state array s = state_of (array.cells s.array) s.ledger

-- The store keeps its code, and what every call keeps of its array.
abbrev pub Keeps : {G A : Type 0} → Ghosts A → Store G A → Store G A → Type 0
Keeps array before after = (after.code ≡ before.code) × Kept array.held array.intact before.array after.array

-- Its array takes the steps of this call with this answer, and no others.
abbrev pub TakesStepsOf : {G A : Type 0} → GroupMembers G → Ghosts A → Call → Answer → Store G A → Store G A → Type 0
TakesStepsOf group array call answer before after =
    Takes array (steps_of (code_of group before.code) call answer (array.cells before.array) (array.cells after.array))
    before.array after.array
