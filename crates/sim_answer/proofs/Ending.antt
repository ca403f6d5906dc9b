-- How a call ends, by what happened in it.
--     asked_nothing                   the words ask for nothing
--     read_failed, write_failed       a device failed
--     memory_wanting                  memory was wanting
--     answered                        the answer was written whole, and flushed
--     ends_for                        the same for other words that ask for nothing where these do
use Rattle.std.proofs.Common.{◌≡◌, ℕ, false, refl, sym, ap, ◌∙◌, inl, inr}
use Rattle.std.specs.Prelude.{IsTrue, ◌↔◌}
use Rattle.std.proofs.lemmas.Bool.{false≢true}
use Rattle.sim_command.specs.declared.status.Status.{Status}
use Rattle.sim_command.specs.declared.status.Status.TheVariants as status
use Rattle.sim_command.specs.Endings.{is_whole}
use Rattle.sim_outside.specs.Causes.{Rose}
use Rattle.sim_outside.specs.Writes.{IsFlushedOnce, IsUnflushed, SinkOf}
use Rattle.sim_answer.specs.Ends.{EndsWell}

-- a status that comes after a whole answer is none that comes after less
not_other : {A : Type 0} (told other : Status) → IsTrue (is_whole told) → is_whole other ≡ false → told ≡ other → A
not_other told other whole less is = absurd (false≢true (sym less ∙ (ap is_whole (sym is) ∙ whole)))

module _ {S K : Type 0} (faults : S → ℕ) (tells : K → SinkOf) (nothing : Type 0) (source : S) (out : K) where
  pub asked_nothing : nothing → EndsWell faults tells nothing source source out out status.Usage
  asked_nothing none =
      record {
        flushed = λ whole. absurd (cc);
        unflushed = λ _. refl;
        usage = (λ _. none, λ _. refl);
        not_read = λ _. refl;
        not_written = λ _. refl;
        read_fault = λ is. absurd (cc);
        unwritten = λ _. refl;
        write_fault = λ is. absurd (cc);
        read_well = λ _. refl;
        wrote_well = λ _. refl;
        complete = λ some. absurd (some none);
      }

  module _ (some : ¬ nothing) (read : S) where
    pub read_failed : Rose (faults source) (faults read) → EndsWell faults tells nothing source read out out status.ReadFault
    read_failed rose =
        record {
          flushed = λ whole. absurd (cc);
          unflushed = λ _. refl;
          usage = (λ is. absurd (cc), λ none. absurd (some none));
          not_read = λ is. absurd (cc);
          not_written = λ _. refl;
          read_fault = λ _. rose;
          unwritten = λ _. refl;
          write_fault = λ is. absurd (cc);
          read_well = λ other. absurd (other refl);
          wrote_well = λ _. refl;
          complete = λ _ unrisen. absurd (unrisen rose);
        }

    module _ (well : faults read ≡ faults source) (written : K) where
      pub write_failed : Rose (tells out).faults (tells written).faults → IsUnflushed (tells out) (tells written)
          → EndsWell faults tells nothing source read out written status.WriteFault
      write_failed rose unflushed =
          record {
            flushed = λ whole. absurd (cc);
            unflushed = λ _. unflushed;
            usage = (λ is. absurd (cc), λ none. absurd (some none));
            not_read = λ is. absurd (cc);
            not_written = λ is. absurd (cc);
            read_fault = λ is. absurd (cc);
            unwritten = λ is. absurd (cc);
            write_fault = λ _. rose;
            read_well = λ _. well;
            wrote_well = λ other. absurd (other refl);
            complete = λ _ _ unrisen. absurd (unrisen rose);
          }

      module _ (wrote : (tells written).faults ≡ (tells out).faults) where
        pub memory_wanting : IsUnflushed (tells out) (tells written) → EndsWell faults tells nothing source read out written status.Memory
        memory_wanting unflushed =
            record {
              flushed = λ whole. absurd (cc);
              unflushed = λ _. unflushed;
              usage = (λ is. absurd (cc), λ none. absurd (some none));
              not_read = λ is. absurd (cc);
              not_written = λ is. absurd (cc);
              read_fault = λ is. absurd (cc);
              unwritten = λ is. absurd (cc);
              write_fault = λ is. absurd (cc);
              read_well = λ _. well;
              wrote_well = λ _. wrote;
              complete = λ _ _ _. inr refl;
            }

        pub answered : (told : Status) → IsTrue (is_whole told) → IsFlushedOnce (tells out) (tells written)
            → EndsWell faults tells nothing source read out written told
        answered told whole flushed =
            record {
              flushed = λ _. flushed;
              unflushed = λ less. absurd (false≢true (sym less ∙ whole));
              usage = (not_other told status.Usage whole refl, λ none. absurd (some none));
              not_read = not_other told status.Usage whole refl;
              not_written = not_other told status.Usage whole refl;
              read_fault = not_other told status.ReadFault whole refl;
              unwritten = not_other told status.ReadFault whole refl;
              write_fault = not_other told status.WriteFault whole refl;
              read_well = λ _. well;
              wrote_well = λ _. wrote;
              complete = λ _ _ _. inl whole;
            }

-- the same for others that ask for nothing where these do
pub ends_for : {S K : Type 0} (faults : S → ℕ) (tells : K → SinkOf) (nothing other : Type 0) (source read : S) (out written : K) (told : Status)
    → other ↔ nothing → EndsWell faults tells nothing source read out written told → EndsWell faults tells other source read out written told
ends_for faults tells nothing other source read out written told same h =
    record {
      flushed = h.flushed;
      unflushed = h.unflushed;
      usage = (λ is. same.1 (h.usage.0 is), λ none. h.usage.1 (same.0 none));
      not_read = h.not_read;
      not_written = h.not_written;
      read_fault = h.read_fault;
      unwritten = h.unwritten;
      write_fault = h.write_fault;
      read_well = h.read_well;
      wrote_well = h.wrote_well;
      complete = λ some. h.complete (λ none. some (same.1 none));
    }

pub ruleset endings = (asked_nothing, read_failed, write_failed, memory_wanting, answered)
