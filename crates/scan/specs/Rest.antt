-- How far bytes that are left to cut reach. Assumes nothing.
use Rattle.std.specs.Prelude.{ℕ, ◌+◌, List, length, Some, None, Option}
use denote.Ref.{Bor}

-- one place past the end of the bytes that begin at `at`, where any are left
abbrev pub reach : ℕ → Option (Bor (List ℕ)) → ℕ
reach at (Some rest) = at + length rest.now + 1
reach at None = at
