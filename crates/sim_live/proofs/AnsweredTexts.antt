-- The answer to a text.
--     answers_none              memory was wanting before anything was written
--     answers_flushed           what was written was flushed, or the flush failed
--     whole_answer, prefix_answer, none_begun      the same of the text that was read
use Rattle.std.proofs.Common.{◌≡◌, ◌<◌, ℕ, ◌+◌, true, false, List, [], length, map, refl, sym, ap, ◌∙◌, subst, Option, Some, Result, Ok, Err}
use Rattle.std.specs.Prelude.{IfSome, IsErrAnd, IsTrue, pos}
use Rattle.std.specs.Io.KnownBytes.{Appends, Keeps}
use Rattle.std.proofs.lemmas.List.{get_or-map, length-map}
use Rattle.std.proofs.lemmas.List.Elements.{All-from_get_or}
use Rattle.sim_types.specs.Limits.{most_bytes}
use Rattle.sim_types.specs.Scenarios.{ScenarioOf}
use Rattle.sim_types.specs.declared.fault.Fault.{Fault}
use Rattle.sim_types.specs.declared.setup.Arrival.{Arrival}
use Rattle.sim_code.proofs.TakenTexts.{long_refused, too_long}
use Rattle.sim_command.specs.declared.status.Status.{Status}
use Rattle.sim_command.specs.Endings.{is_whole}
use Rattle.sim_command.proofs.Endings.{end_whole}
use Rattle.sim_language.specs.WellFormed.{is_well_formed}
use Rattle.sim_language.specs.Reads.{reads}
use Rattle.sim_language_law.proofs.Scenarios.WellFormedTexts.{read_well_formed}
use Rattle.sim_outside.specs.declared.fault.Failed.{Failed}
use Rattle.sim_outside.specs.Causes.{HasCause}
use Rattle.sim_outside.specs.Reads.{TakesFirst}
use Rattle.sim_outside.specs.Writes.{AppendsPrefix, SinkOf}
use Rattle.sim_outside.proofs.Written.{none_written, then_flushed, then_unflushed}
use Rattle.sim_trace.specs.Texts.{fault_text}
use Rattle.sim_writing.specs.declared.fault.RunFault.{RunFault}
use Rattle.sim_writing.specs.declared.fault.RunFault.TheVariants as fault
use Rattle.sim_writing.specs.RunFaults.{is_write}
use Rattle.sim_types.specs.Setups.{HavePorts}
use Rattle.sim_engine.proofs.InOrder.{in_order}
use Rattle.sim_live.specs.Journals.{KeepsFronts, KeepsSections, post_of}
use Rattle.sim_answer.specs.Answers.{AnswersPrefix, AnswersWhole}
use Rattle.sim_answer.proofs.AnswersToTexts.{AreAnsweredAlike, AreTooLong, none_begun as nothing_begun, prefix_of, whole_of}
use Rattle.sim_live.specs.LiveAnswers.{AnswersRead, AnswersText, BeginsText, IsAnswer, MayWrite}
use Rattle.sim_live.specs.LiveTexts.{live_text, end_on}
use Rattle.sim_live.proofs.Finishing.{left_port}
use Rattle.sim_live.proofs.Replays.{says_again}

-- ---- what was written

no_fronts : (s : ScenarioOf) → KeepsFronts s []
no_fronts s = record { posts = λ p. refl; falls = refl }

pub answers_none : (read : Result ScenarioOf Fault) (limit : ℕ) (a : SinkOf) (why : RunFault) → is_write why ≡ false → AnswersRead read limit a a (Err why)
answers_none (Ok s) limit a why free =
    record { journal = []; writes = none_written is_write a why (live_text s limit []) free; fronts = no_fronts s; sections = tt; can_be = tt; status = tt }
answers_none (Err fault) limit a why free = record { writes = none_written is_write a why (fault_text fault) free; status = tt }

module _ (read : Result ScenarioOf Fault) (limit : ℕ) (a m b : SinkOf) (told : Status) where
  pub answers_flushed : AnswersRead read limit a m (Ok told) → Keeps m.taken b.taken → b.faults ≡ m.faults → AnswersRead read limit a b (Ok told)
  answers_flushed h kept same = by read h
    where
      by : (r : Result ScenarioOf Fault) → AnswersRead r limit a m (Ok told) → AnswersRead r limit a b (Ok told)
      by (Ok s) k =
          record {
            journal = k.journal;
            writes = then_flushed is_write is_write a m b told told (live_text s limit k.journal) k.writes kept same;
            fronts = k.fronts;
            sections = k.sections;
            can_be = k.can_be;
            status = k.status;
          }
      by (Err fault) k = record { writes = then_flushed is_write is_write a m b told told (fault_text fault) k.writes kept same; status = k.status }

  pub answers_unflushed : {V : Type 0} (why : RunFault) (f : Failed) → AnswersRead read limit a m (Ok told) → Keeps m.taken b.taken
      → HasCause {T = V} {E = Failed} m.faults b.faults (Err f) → is_write why ≡ true → AnswersRead read limit a b (Err why)
  answers_unflushed {V} why f h kept cause is = by read h
    where
      by : (r : Result ScenarioOf Fault) → AnswersRead r limit a m (Ok told) → AnswersRead r limit a b (Err why)
      by (Ok s) k =
          record {
            journal = k.journal;
            writes = then_unflushed is_write is_write {V = V} a m b told why (live_text s limit k.journal) k.writes kept cause is;
            fronts = k.fronts;
            sections = tt;
            can_be = tt;
            status = tt;
          }
      by (Err fault) k = record { writes = then_unflushed is_write is_write {V = V} a m b told why (fault_text fault) k.writes kept cause is; status = tt }

  pub answers_cut : {V : Type 0} (f : Failed) (answer : Result Status RunFault) → IsErrAnd answer (λ why. why ≡ fault.Write)
      → AnswersRead read limit a m (Ok told) → Keeps m.taken b.taken → HasCause {T = V} {E = Failed} m.faults b.faults (Err f) → AnswersRead read limit a b answer
  answers_cut f (Ok x) is h kept cause = absurd is
  answers_cut {V} f (Err why) is h kept cause = answers_unflushed {V = V} why f h kept cause (ap is_write is)

-- ---- the text that was read

ports_of : (s : ScenarioOf) (journal : List Arrival) → IsTrue (is_well_formed s) → KeepsSections s journal → HavePorts s.setup journal
ports_of s journal well h =
    All-from_get_or (λ x. x.port < length s.setup.ports) journal none
    (λ i below.
    let many : i < length (map post_of journal) = subst (λ n. i < n) (sym (length-map journal post_of)) below in
    subst (λ t. t.item.port < length s.setup.ports) (get_or-map post_of journal i none (post_of none) below)
    (left_port s [] (map post_of journal) h.posts i (post_of none) many well))
  where
    none : Arrival
    none = record { after = 0; poster = 0; serial = 0; port = 0; value = pos 0 }

is_answer : (text : List ℕ) (read : Result ScenarioOf Fault) (limit : ℕ) (a b : SinkOf) (told : Status) → reads text ≡ read
    → AnswersRead read limit a b (Ok told) → (bytes : List ℕ) × Appends a.taken b.taken bytes × AnswersText text read limit bytes told
is_answer text (Ok s) limit a b told is h =
    let well = read_well_formed text s is in (
      live_text s limit h.journal,
      h.writes.whole,
      record {
        journal = h.journal;
        keeps = h.sections;
        written = refl;
        ended = h.status;
        throughout = in_order s s.seed h.journal limit well (ports_of s h.journal well h.sections);
        again = says_again text s limit h.journal is h.can_be;
      },
    )
is_answer text (Err fault) limit a b told is h = (fault_text fault, h.writes.whole, (refl, h.status))

begun_by : (read : Result ScenarioOf Fault) (limit : ℕ) (a b : SinkOf) (answer : Result Status RunFault) → AnswersRead read limit a b answer
    → (bytes : List ℕ) × AppendsPrefix a.taken b.taken bytes × BeginsText read limit bytes
begun_by (Ok s) limit a b answer h =
    (live_text s limit h.journal, h.writes.prefix, record { journal = h.journal; fronts = h.fronts; written = refl })
begun_by (Err fault) limit a b answer h = (fault_text fault, h.writes.prefix, refl)

-- what answers a text that is refused answers each other that is refused so
refused_alike : (text other : List ℕ) (limit : ℕ) (bytes : List ℕ) (told : Status) (fault : Fault) → reads text ≡ Err fault → reads other ≡ Err fault
    → IsAnswer limit text bytes told → IsAnswer limit other bytes told
refused_alike text other limit bytes told fault first second h =
    let refused : AnswersText text (Err fault) limit bytes told = subst (λ r. AnswersText text r limit bytes told) first h in
    subst (λ r. AnswersText other r limit bytes told) (sym second) refused

alike : (limit : ℕ) (text other : List ℕ) → (IsTrue true → AreTooLong text other) → AreAnsweredAlike (MayWrite limit) (IsAnswer limit) text other
alike limit text other long =
    let l = long refl in
    let first : reads text ≡ Err too_long = long_refused text l.first in
    let second : reads other ≡ Err too_long = long_refused other l.second in
    record {
      allowed = λ bytes. subst (λ r. BeginsText r limit bytes) (first ∙ sym second);
      answer = λ bytes told. refused_alike text other limit bytes told too_long first second;
    }

module _ (limit : ℕ) (left rest : Option (List ℕ)) (text bytes : List ℕ) (a b : SinkOf) (takes : TakesFirst (most_bytes + 1) left rest bytes)
    (held : text ≡ bytes) where
  pub whole_answer : (told : Status) → AnswersRead (reads text) limit a b (Ok told) → AnswersWhole (IsAnswer limit) left a b told
  whole_answer told h =
      let w = is_answer text (reads text) limit a b told refl h in
      whole_of (MayWrite limit) (IsAnswer limit) true (alike limit) left rest text bytes a b takes held w.0 told w.1 w.2

  pub prefix_answer : (answer : Result Status RunFault) → AnswersRead (reads text) limit a b answer → AnswersPrefix (MayWrite limit) left a b
  prefix_answer answer h =
      let w = begun_by (reads text) limit a b answer h in
      prefix_of (MayWrite limit) (IsAnswer limit) true (alike limit) left rest text bytes a b takes held w.0 w.1 w.2

-- something may be written for each text
some : (read : Result ScenarioOf Fault) (limit : ℕ) → (bytes : List ℕ) × BeginsText read limit bytes
some (Ok s) limit = (live_text s limit [], record { journal = []; fronts = no_fronts s; written = refl })
some (Err fault) limit = (fault_text fault, refl)

-- so nothing written begins it
pub none_begun : (limit : ℕ) (left : Option (List ℕ)) (a : SinkOf) → AnswersPrefix (MayWrite limit) left a a
none_begun limit left a = nothing_begun (MayWrite limit) (λ text. some (reads text) limit) left a

-- ---- the status

-- a call that went well answers a whole answer
pub told_whole : (read : Result ScenarioOf Fault) (limit : ℕ) (a b : SinkOf) (told : Status) → AnswersRead read limit a b (Ok told) → is_whole told ≡ true
told_whole (Ok s) limit a b told h = ap is_whole h.status ∙ end_whole (end_on s limit h.journal)
told_whole (Err fault) limit a b told h = ap is_whole h.status

-- and no write of it failed
pub told_well : (read : Result ScenarioOf Fault) (limit : ℕ) (a b : SinkOf) (told : Status) → AnswersRead read limit a b (Ok told) → b.faults ≡ a.faults
told_well (Ok s) limit a b told h = h.writes.ok
told_well (Err fault) limit a b told h = h.writes.ok

-- ---- the words

pub if_some : (said : Option ℕ) (limit : ℕ) (P : ℕ → Type 0) → Some limit ≡ said → P limit → IfSome said P
if_some said limit P is h = rw (sym is) h
