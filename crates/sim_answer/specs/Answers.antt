-- What a call has written and answered that answers a text.
--     AnswersWhole       a whole answer to the text was written
--     AnswersPrefix      a prefix of one was written
use Rattle.std.specs.Prelude.{◌≡◌, ℕ, List, Option, IfSome}
use Rattle.std.specs.Io.KnownBytes.{Appends}
use Rattle.sim_command.specs.declared.status.Status.{Status}
use Rattle.sim_outside.specs.Writes.{AppendsPrefix, SinkOf}

-- a whole answer to the text was written, and the status is one that comes with it; where the source told the bytes left,
-- they are the text. `answers` says which bytes and which status answer a text
pub record AnswersWhole (answers : List ℕ → List ℕ → Status → Type 0) (left : Option (List ℕ)) (old new : SinkOf) (status : Status) : Type 0 where
  pub text : List ℕ
  pub told : IfSome left (λ bytes. text ≡ bytes)
  pub bytes : List ℕ
  pub written : Appends old.taken new.taken bytes
  pub answer : answers text bytes status

-- a prefix was written of bytes that `allows` says may be written for the text, whatever the status; where the source told the bytes left, they are the text
pub record AnswersPrefix (allows : List ℕ → List ℕ → Type 0) (left : Option (List ℕ)) (old new : SinkOf) : Type 0 where
  pub text : List ℕ
  pub told : IfSome left (λ bytes. text ≡ bytes)
  pub bytes : List ℕ
  pub written : AppendsPrefix old.taken new.taken bytes
  pub allowed : allows text bytes
