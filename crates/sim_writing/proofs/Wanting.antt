-- What was written where memory was wanting: nothing, which is a prefix of each answer.
use Rattle.std.proofs.Common.{◌≡◌, ℕ, List, Result, ap}
use Rattle.std.specs.Prelude.{IsErrAnd}
use Rattle.sim_outside.specs.Writes.{SinkOf, Writes}
use Rattle.sim_outside.proofs.Written.{told_err, none_written}
use Rattle.sim_writing.specs.declared.fault.RunFault.{RunFault}
use Rattle.sim_writing.specs.declared.fault.RunFault.TheVariants as fault
use Rattle.sim_writing.specs.RunFaults.{is_write}

pub wanting : {T : Type 0} (old : SinkOf) (answer : Result T RunFault) (bytes : List ℕ) → IsErrAnd answer (λ why. why ≡ fault.Memory)
    → Writes is_write old old answer bytes
wanting old answer bytes h =
    told_err is_write old old bytes answer (λ why. why ≡ fault.Memory) h (λ why is. none_written is_write old why bytes (ap is_write is))
