-- Writing piece by piece.
use Rattle.std.proofs.Common.{◌≡◌, ℕ, ◌-◌, ◌≤◌, List, [], ◌∷◌, ◌++◌, length, take, drop, refl, sym, ◌∙◌, ap, arith, append_assoc, subst, true, Option, Ok, Err}
use Rattle.std.proofs.lemmas.Grind.{common_steps}
use Rattle.std.proofs.lemmas.List.{take-append-drop, append-nil}
use Rattle.std.specs.Io.KnownBytes.{Appends, Keeps}
use Rattle.std.proofs.KnownBytes.{Appends-nil, Appends-trans, Appends-kept}
use Rattle.sim_outside.specs.declared.fault.Failed.{Failed}
use Rattle.sim_outside.specs.Causes.{Rose}
use Rattle.sim_outside.specs.Writes.{AppendsFront, SinkOf, Writes}

-- what a slice from n on holds
rest_is : (bytes : List ℕ) (n : ℕ) → n ≤ length bytes → take (length bytes - n) (drop n bytes) ≡ drop n bytes
rest_is bytes n h = grind (arith, common_steps)

-- before the first write nothing is appended and all is left
pub front_none : (before : Option (List ℕ)) (bytes : List ℕ) → AppendsFront before before bytes bytes
front_none before bytes = record { front = []; parts = refl; appended = Appends-nil before }

-- a write of n more bytes
pub front_more : (before middle after : Option (List ℕ)) (bytes rest : List ℕ) (n : ℕ) → AppendsFront before middle bytes rest → n ≤ length rest
    → Appends middle after (take n rest) → AppendsFront before after bytes (take (length rest - n) (drop n rest))
front_more before middle after bytes rest n h small written =
    record {
      front = h.front ++ take n rest;
      parts =
          ap (λ r. (h.front ++ take n rest) ++ r) (rest_is rest n small)
          ∙ (append_assoc h.front (take n rest) (drop n rest) ∙ (ap (λ r. h.front ++ r) (take-append-drop n rest) ∙ h.parts));
      appended = Appends-trans before middle after h.front (take n rest) h.appended written;
    }

-- nothing is left, so all is appended
front_whole : (before after : Option (List ℕ)) (bytes rest : List ℕ) → AppendsFront before after bytes rest → length rest ≡ 0 → Appends before after bytes
front_whole before after bytes [] h e = subst (Appends before after) (sym (append-nil h.front) ∙ h.parts) h.appended
front_whole before after bytes (byte ∷ rest) h e = absurd (omega arith)

-- and the whole was written
pub all_written : {T : Type 0} (old new : SinkOf) (x : T) (bytes rest : List ℕ) → AppendsFront old.taken new.taken bytes rest → length rest ≡ 0
    → new.faults ≡ old.faults → Writes {T = T} {E = Failed} (λ _. true) old new (Ok x) bytes
all_written old new x bytes rest h e same =
    record {
      whole = front_whole old.taken new.taken bytes rest h e;
      prefix = record { rest = rest; front = h };
      never_falls = omega (arith, same);
      ok = same;
      cause = tt;
    }

-- a write that fails leaves a prefix
pub cut_short : {T : Type 0} (old middle new : SinkOf) (bytes rest : List ℕ) → AppendsFront old.taken middle.taken bytes rest → Keeps middle.taken new.taken
    → middle.faults ≡ old.faults → middle.faults ≤ new.faults → Rose middle.faults new.faults → Writes {T = T} {E = Failed} (λ _. true) old new (Err _) bytes
cut_short old middle new bytes rest h k same more rose =
    record {
      whole = tt;
      prefix = record { rest = rest; front = record { front = h.front; parts = h.parts; appended = Appends-kept old.taken middle.taken new.taken h.front h.appended k } };
      never_falls = omega (arith, same, more);
      ok = tt;
      cause = subst (λ n. Rose n new.faults) same rose;
    }

-- what is asked of pieces that are written one after the other
pub ruleset writing = (front_none, front_more, all_written, cut_short)
