-- What a body leaves that was lent.
use Rattle.std.specs.Prelude.{ℕ}
use Rattle.std.specs.Borrow.{Lends, MutBor, Fml}
use denote.RattleType.{RattleType}
use Rattle.sim_types.specs.declared.event.ProcId.{ProcId}
use Rattle.sim_procs.specs.RecordOf.{RecordOf, ProcsOf, with_record, change_at}
use Rattle.sim_procs.specs.contracts.record.ProcRecord.{the_row as record_row}
use Rattle.sim_procs.specs.contracts.procs.Procs.{the_row as procs_row}

-- the record ends with the last value behind r as its body
abbrev pub LendsBody : (B : RattleType) → MutBor (RecordOf B.Denot) → MutBor B.Denot → Fml
LendsBody B s r = Lends (record_row B) B s r (λ b. record s.now { body = b })

-- and so does the record at this place
abbrev pub LendsBodyAt : (B : RattleType) → MutBor (ProcsOf B.Denot) → ℕ → MutBor B.Denot → Fml
LendsBodyAt B s i r = Lends (procs_row B) B s r (λ b. record s.now { live = change_at i (λ x. record x { body = b }) s.now.live })

-- and so does the record of this process
abbrev pub LendsBodyOf : (B : RattleType) → MutBor (ProcsOf B.Denot) → ProcId → MutBor B.Denot → Fml
LendsBodyOf B s p r = Lends (procs_row B) B s r (λ b. with_record p (λ x. record x { body = b }) s.now)
