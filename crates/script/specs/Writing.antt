-- What a writer holds where a write may fail: a beginning of the bytes. Assumes nothing.
use Rattle.std.specs.Prelude.{◌≡◌, ℕ, List, [], ◌++◌, Option, OnOk, Result}
use Rattle.std.specs.Io.KnownBytes.{Appends}

-- Of these bytes a writer got `written` and not `unwritten`, and it got all of them where no fault is answered. What it holds
-- is compared where the writer says what it holds.
pub record WritesBeginning (before after : Option (List ℕ)) (bytes : List ℕ) {T E : Type 0} (r : Result T E) : Type 0 where
  pub written : List ℕ
  pub unwritten : List ℕ
  pub whole : bytes ≡ written ++ unwritten
  pub appends : Appends before after written
  pub all : OnOk r (unwritten ≡ [])
