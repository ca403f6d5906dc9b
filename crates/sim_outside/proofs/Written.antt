-- What is written by calls in turn.
use Rattle.std.proofs.Common.{◌≡◌, ℕ, Bool, true, false, List, [], ◌++◌, refl, sym, ap, ◌∙◌, subst, append_assoc, append-nil, Option, Result, Ok, Err, arith}
use Rattle.std.specs.Prelude.{IsErrAnd}
use Rattle.std.specs.Io.KnownBytes.{Appends, Keeps}
use Rattle.std.proofs.KnownBytes.{Appends-nil, Appends-trans, Appends-kept}
use Rattle.sim_outside.specs.declared.fault.Failed.{Failed}
use Rattle.sim_outside.specs.Causes.{Rose, HasCause}
use Rattle.sim_outside.specs.Writes.{AppendsPrefix, RoseIf, SinkOf, Writes}

-- ---- prefixes

prefix_none : (before : Option (List ℕ)) (bytes : List ℕ) → AppendsPrefix before before bytes
prefix_none before bytes = record { rest = bytes; front = record { front = []; parts = refl; appended = Appends-nil before } }

prefix_whole : (before after : Option (List ℕ)) (bytes : List ℕ) → Appends before after bytes → AppendsPrefix before after bytes
prefix_whole before after bytes h = record { rest = []; front = record { front = bytes; parts = append-nil bytes; appended = h } }

-- a prefix of a front
prefix_of_front : (before after : Option (List ℕ)) (front rest bytes : List ℕ) → AppendsPrefix before after front
    → bytes ≡ front ++ rest → AppendsPrefix before after bytes
prefix_of_front before after front rest bytes h is =
    record {
      rest = h.rest ++ rest;
      front =
          record {
            front = h.front.front;
            parts = sym (append_assoc h.front.front h.rest rest) ∙ (ap (λ r. r ++ rest) h.front.parts ∙ sym is);
            appended = h.front.appended;
          };
    }

-- some bytes, and then a prefix of those behind
prefix_behind : (before middle after : Option (List ℕ)) (front back bytes : List ℕ) → Appends before middle front
    → AppendsPrefix middle after back → bytes ≡ front ++ back → AppendsPrefix before after bytes
prefix_behind before middle after front back bytes written h is =
    record {
      rest = h.rest;
      front =
          record {
            front = front ++ h.front.front;
            parts = append_assoc front h.front.front h.rest ∙ (ap (λ r. front ++ r) h.front.parts ∙ sym is);
            appended = Appends-trans before middle after front h.front.front written h.front.appended;
          };
    }

rose_as : (a b : Bool) (before middle after : ℕ) → a ≡ b → middle ≡ before → RoseIf a middle after → RoseIf b before after
rose_as true true before middle after same is h = subst (λ n. Rose n after) is h
rose_as false false before middle after same is h = h ∙ is
rose_as true false before middle after same is h = absurd (cc)
rose_as false true before middle after same is h = absurd (cc)

-- what a call wrote that failed, by what is known of the error
pub told_err : {U F : Type 0} (g : F → Bool) (old new : SinkOf) (bytes : List ℕ) (answer : Result U F) (P : F → Type 0) → IsErrAnd answer P
    → ((why : F) → P why → Writes {T = U} {E = F} g old new (Err why) bytes) → Writes g old new answer bytes
told_err g old new bytes (Ok x) P h told = absurd h
told_err g old new bytes (Err why) P h told = told why h

-- ---- one call

-- nothing was written, and memory was wanting
pub none_written : {U F : Type 0} (g : F → Bool) (old : SinkOf) (why : F) (bytes : List ℕ) → g why ≡ false → Writes {T = U} {E = F} g old old (Err why) bytes
none_written g old why bytes free =
    record {
      whole = tt;
      prefix = prefix_none old.taken bytes;
      never_falls = omega arith;
      ok = tt;
      cause = rose_as false (g why) old.faults old.faults old.faults (sym free) refl refl;
    }

-- nothing was to be written
pub none_to_write : {U F : Type 0} (g : F → Bool) (old : SinkOf) (y : U) (bytes : List ℕ) → bytes ≡ [] → Writes {T = U} {E = F} g old old (Ok y) bytes
none_to_write g old y bytes is =
    record {
      whole = rw is (Appends-nil old.taken);
      prefix = prefix_none old.taken bytes;
      never_falls = omega arith;
      ok = refl;
      cause = tt;
    }

module _ {T U E F : Type 0} (f : E → Bool) (g : F → Bool) where
  -- what a call wrote that went well, in the words of its caller
  pub as_well : (old new : SinkOf) (x : T) (y : U) (bytes same : List ℕ) → Writes {T = T} {E = E} f old new (Ok x) bytes → bytes ≡ same
      → Writes {T = U} {E = F} g old new (Ok y) same
  as_well old new x y bytes same h is =
      record {
        whole = subst (Appends old.taken new.taken) is h.whole;
        prefix = subst (AppendsPrefix old.taken new.taken) is h.prefix;
        never_falls = h.never_falls;
        ok = h.ok;
        cause = tt;
      }

  -- what a call wrote that failed: a prefix of its bytes, so of all that begins with them
  pub as_failed : (old new : SinkOf) (why : E) (again : F) (bytes rest whole : List ℕ) → Writes {T = T} {E = E} f old new (Err why) bytes
      → whole ≡ bytes ++ rest → f why ≡ g again → Writes {T = U} {E = F} g old new (Err again) whole
  as_failed old new why again bytes rest whole h is same =
      record {
        whole = tt;
        prefix = prefix_of_front old.taken new.taken bytes rest whole h.prefix is;
        never_falls = h.never_falls;
        ok = tt;
        cause = rose_as (f why) (g again) old.faults old.faults new.faults same refl h.cause;
      }

  -- ---- two calls

  module _ {V : Type 0} where
    pub both_written : (old middle new : SinkOf) (x : T) (y : U) (z : V) (front back whole : List ℕ) → Writes {T = T} {E = E} f old middle (Ok x) front
        → Writes {T = U} {E = F} g middle new (Ok y) back → whole ≡ front ++ back → Writes {T = V} {E = F} g old new (Ok z) whole
    both_written old middle new x y z front back whole h k is =
        let all : Appends old.taken new.taken whole = rw is (Appends-trans old.taken middle.taken new.taken front back h.whole k.whole) in
        record {
          whole = all;
          prefix = prefix_whole old.taken new.taken whole all;
          never_falls = omega (arith, h.never_falls, k.never_falls);
          ok = k.ok ∙ h.ok;
          cause = tt;
        }

    -- the second failed
    pub cut_behind : (old middle new : SinkOf) (x : T) (why : F) (front back whole : List ℕ) → Writes {T = T} {E = E} f old middle (Ok x) front
        → Writes {T = U} {E = F} g middle new (Err why) back → whole ≡ front ++ back → Writes {T = V} {E = F} g old new (Err why) whole
    cut_behind old middle new x why front back whole h k is =
        record {
          whole = tt;
          prefix = prefix_behind old.taken middle.taken new.taken front back whole h.whole k.prefix is;
          never_falls = omega (arith, h.never_falls, k.never_falls);
          ok = tt;
          cause = rose_as (g why) (g why) old.faults middle.faults new.faults refl h.ok k.cause;
        }

  -- ---- a flush behind all that was written

  pub then_flushed : (old middle new : SinkOf) (x : T) (y : U) (bytes : List ℕ)
      → Writes {T = T} {E = E} f old middle (Ok x) bytes → Keeps middle.taken new.taken → new.faults ≡ middle.faults
      → Writes {T = U} {E = F} g old new (Ok y) bytes
  then_flushed old middle new x y bytes h kept same =
      let all : Appends old.taken new.taken bytes = Appends-kept old.taken middle.taken new.taken bytes h.whole kept in
      record {
        whole = all;
        prefix = prefix_whole old.taken new.taken bytes all;
        never_falls = omega (arith, h.never_falls, same);
        ok = same ∙ h.ok;
        cause = tt;
      }

  -- the flush failed
  pub then_unflushed : {V : Type 0} (old middle new : SinkOf) (x : T) (why : F) (bytes : List ℕ)
      → Writes {T = T} {E = E} f old middle (Ok x) bytes → Keeps middle.taken new.taken
      → HasCause {T = V} {E = Failed} middle.faults new.faults (Err _) → g why ≡ true
      → Writes {T = U} {E = F} g old new (Err why) bytes
  then_unflushed old middle new x why bytes h kept failed is =
      let all : Appends old.taken new.taken bytes = Appends-kept old.taken middle.taken new.taken bytes h.whole kept in
      record {
        whole = tt;
        prefix = prefix_whole old.taken new.taken bytes all;
        never_falls = omega (arith, h.never_falls, failed.never_falls);
        ok = tt;
        cause = rose_as true (g why) old.faults middle.faults new.faults (sym is) h.ok failed.failed;
      }
