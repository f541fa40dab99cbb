-- Accesses as calls. Assumes nothing.
use Rattle.calls.specs.declared.call.Call.{Call}
use Rattle.calls.specs.declared.call.Call.TheVariants.{Get, Put}
use Rattle.calls.specs.declared.call.Access.{Access}
use Rattle.calls.specs.declared.call.Access.TheVariants.{Get as GetAny, Put as PutAny}

-- the call that an access is
abbrev pub as_call : Access → Call
as_call (GetAny k) = Get k
as_call (PutAny k x) = Put k x
