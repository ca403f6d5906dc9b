-- Calls that go on with the text of a run.
--     on_by           a call wrote the lines that came behind
--     on_and_on       two calls, one after the other
--     on_ok, on_err   the same in the words of a caller
--     on_wanting      memory was wanting behind a call
--     on_none         nothing was written, and memory was wanting
--     on_passed       what was held was passed on
--     on_unpassed     or that failed
use Rattle.std.proofs.Common.{◌≡◌, ℕ, false, List, [], ◌++◌, refl, sym, ap, subst, append-nil, Result, Ok, Err}
use Rattle.std.specs.Prelude.{IsErrAnd}
use Rattle.sim_types.specs.Scenarios.{ScenarioOf}
use Rattle.sim_outside.specs.Writes.{RoseIf, SinkOf, Writes}
use Rattle.std.specs.Io.KnownBytes.{Keeps}
use Rattle.sim_outside.specs.declared.fault.Failed.{Failed}
use Rattle.sim_outside.specs.Causes.{HasCause}
use Rattle.sim_outside.proofs.Written.{as_well, as_failed, both_written, cut_behind, then_flushed, then_unflushed, told_err}
use Rattle.sim_writing.specs.declared.fault.RunFault.{RunFault}
use Rattle.sim_writing.specs.declared.fault.RunFault.TheVariants as fault
use Rattle.sim_writing.specs.RunFaults.{is_write}
use Rattle.sim_live.specs.LiveRuns.{LiveOf, HasWritten, WritesOn, text_so_far}

-- memory was wanting behind what was written
pub then_wanting : {T : Type 0} (old new : SinkOf) (why : RunFault) (bytes : List ℕ) → HasWritten old new bytes → is_write why ≡ false
    → Writes {T = T} is_write old new (Err why) bytes
then_wanting old new why bytes h free =
    record {
      whole = tt;
      prefix = h.prefix;
      never_falls = h.never_falls;
      ok = tt;
      cause = subst (λ b. RoseIf b old.faults new.faults) (sym free) h.ok;
    }

module _ (s : ScenarioOf) (x y : LiveOf) (old new : SinkOf) where
  pub on_by : {T : Type 0} (answer : Result T RunFault) (bytes : List ℕ) → Writes is_write old new answer bytes
      → text_so_far s y ≡ text_so_far s x ++ bytes → WritesOn s x y old new answer
  on_by {T} (Ok t) bytes h text before wrote = both_written is_write is_write {V = T} before old new tt t t (text_so_far s x) bytes (text_so_far s y) wrote h text
  on_by {T} (Err why) bytes h text before wrote = cut_behind is_write is_write {V = T} before old new tt why (text_so_far s x) bytes (text_so_far s y) wrote h text

  pub on_ok : {T U : Type 0} (t : T) (u : U) → WritesOn s x y old new (Ok t) → WritesOn s x y old new (Ok u)
  on_ok t u on before wrote = as_well is_write is_write before new t u (text_so_far s y) (text_so_far s y) (on before wrote) refl

  pub on_wanting : {T U : Type 0} (t : T) (why : RunFault) → is_write why ≡ false → WritesOn s x y old new (Ok t)
      → WritesOn {T = U} s x y old new (Err why)
  on_wanting t why free on before wrote =
      then_wanting before new why (text_so_far s y) (as_well is_write is_write before new t tt (text_so_far s y) (text_so_far s y) (on before wrote) refl) free

  pub on_err : {T U : Type 0} (why : RunFault) (answer : Result U RunFault) → IsErrAnd answer (λ told. told ≡ why)
      → WritesOn {T = T} s x y old new (Err why) → WritesOn s x y old new answer
  on_err why answer is on before wrote =
      told_err is_write before new (text_so_far s y) answer (λ told. told ≡ why) is
      (λ told same. as_failed is_write is_write before new why told (text_so_far s y) [] (text_so_far s y) (on before wrote) (sym (append-nil (text_so_far s y))) (sym (ap is_write same)))

-- nothing was written
module _ (s : ScenarioOf) (x y : LiveOf) (old : SinkOf) (same : text_so_far s y ≡ text_so_far s x) where
  pub on_none : {U : Type 0} (answer : Result U RunFault) → IsErrAnd answer (λ why. why ≡ fault.Memory) → WritesOn s x y old old answer
  on_none answer wants before wrote =
      told_err is_write before old (text_so_far s y) answer (λ why. why ≡ fault.Memory) wants
      (λ why is. then_wanting before old why (text_so_far s y) (subst (HasWritten before old) (sym same) wrote) (ap is_write is))

  pub on_same : {U : Type 0} (u : U) → WritesOn s x y old old (Ok u)
  on_same u before wrote = as_well is_write is_write before old tt u (text_so_far s x) (text_so_far s y) wrote (sym same)

pub on_and_on : {T U : Type 0} (s : ScenarioOf) (x y z : LiveOf) (a b c : SinkOf) (t : T) (answer : Result U RunFault)
    → WritesOn s x y a b (Ok t) → WritesOn s y z b c answer → WritesOn s x z a c answer
on_and_on s x y z a b c t answer first then before wrote =
    then before (as_well is_write is_write before b t tt (text_so_far s y) (text_so_far s y) (first before wrote) refl)

-- what a sink held was passed on, and that changes nothing
module _ (s : ScenarioOf) (x : LiveOf) (old new : SinkOf) (kept : Keeps old.taken new.taken) where
  pub on_passed : {U : Type 0} (u : U) → new.faults ≡ old.faults → WritesOn s x x old new (Ok u)
  on_passed u same before wrote = then_flushed is_write is_write before old new tt u (text_so_far s x) wrote kept same

  pub on_unpassed : {U V : Type 0} (answer : Result U RunFault) (f : Failed) → IsErrAnd answer (λ why. why ≡ fault.Write)
      → HasCause {T = V} {E = Failed} old.faults new.faults (Err f) → WritesOn s x x old new answer
  on_unpassed {U} {V} answer f is cause before wrote =
      told_err is_write before new (text_so_far s x) answer (λ why. why ≡ fault.Write) is
      (λ why told. then_unflushed is_write is_write {V = V} before old new tt why (text_so_far s x) wrote kept cause (ap is_write told))
