-- Writing to a sink that tells no bytes.
use Rattle.std.proofs.Common.{◌≡◌, ℕ, List, [], append-nil, refl, arith, None, Ok, true}
use Rattle.sim_outside.specs.declared.fault.Failed.{Failed}
use Rattle.sim_outside.specs.Writes.{SinkOf, Writes}

-- what is left out was written
pub left_out : (old : SinkOf) (bytes : List ℕ) → old.taken ≡ None → Writes {T = Unit {0}} {E = Failed} (λ _. true) old old (Ok tt) bytes
left_out old bytes none =
    record {
      whole = rw none tt;
      prefix = record { rest = []; front = record { front = bytes; parts = append-nil bytes; appended = rw none tt } };
      never_falls = omega arith;
      ok = refl;
      cause = tt;
    }
