-- What a live run comes to, and what was written of it.
--     summary_now       where it is over, it came to what the machine comes to on its journal
--     lines_written     the lines of its units were written
--     runs_cut          a prefix of the text of that run was written
--     runs_whole        the whole was
use Rattle.std.proofs.Common.{◌≡◌, ◌≢◌, ◌≤◌, ℕ, List, [], ◌++◌, refl, sym, ap, ◌∙◌, subst, append_assoc, append-nil, Result, Ok, Err}
use Rattle.std.specs.Prelude.{IsErrAnd, OnOk, IfOk}
use Rattle.sim_types.specs.Scenarios.{ScenarioOf}
use Rattle.sim_types.specs.declared.line.End.{End}
use Rattle.sim_types.specs.declared.line.Summary.{Summary}
use Rattle.sim_types.specs.declared.setup.Arrival.{Arrival}
use Rattle.sim_outside.specs.Writes.{SinkOf, Writes}
use Rattle.sim_outside.proofs.Written.{as_failed, as_well, both_written, cut_behind, none_to_write, none_written, told_err}
use Rattle.sim_replay.specs.Sections.{CanBeJournal}
use Rattle.sim_trace.specs.Texts.{journal_text, trace_text}
use Rattle.sim_script_model.specs.Scenarios.{summary}
use Rattle.sim_writing.specs.declared.fault.RunFault.{RunFault}
use Rattle.sim_writing.specs.declared.fault.RunFault.TheVariants as fault
use Rattle.sim_engine.specs.declared.session.Turn.TheVariants as turn
use Rattle.sim_engine.specs.declared.report.Report.{Report}
use Rattle.sim_writing.specs.RunFaults.{is_write}
use Rattle.sim_engine.specs.Rounds.{text_by}
use Rattle.sim_engine.specs.Sessions.{turn_of, report_of}
use Rattle.sim_engine.proofs.AddedArrivals.{over_whole, over_summary}
use Rattle.sim_engine.proofs.RunTexts.{end_text, text_before, text_front, text_rest, text_told}
use Rattle.sim_live.specs.Journals.{KeepsSections, KeepsFronts}
use Rattle.sim_live.specs.LiveAnswers.{RunsLive}
use Rattle.sim_live.specs.LiveRuns.{LiveOf, IsLive, HasWritten, WritesOn, text_so_far}
use Rattle.sim_live.specs.LiveTexts.{live_text, end_on}

-- ---- the text of a run

module _ (s : ScenarioOf) (limit : ℕ) (journal : List Arrival) where
  -- it begins with the lines of fewer units
  pub text_begins : (n : ℕ) → n ≤ limit → live_text s limit journal ≡ text_by s s.seed journal n
      ++ (text_rest s s.seed journal n limit ++ (end_text (summary s s.seed journal limit) ++ journal_text s.port_names journal))
  text_begins n within =
      let last = end_text (summary s s.seed journal limit) in
      let entries = journal_text s.port_names journal in
      ap (λ l. l ++ entries) (text_told s s.seed journal limit s.seed limit (summary s s.seed journal limit) refl refl refl)
      ∙ (ap (λ l. (l ++ last) ++ entries) (text_front s s.seed journal n limit within)
      ∙ (append_assoc (text_by s s.seed journal n ++ text_rest s s.seed journal n limit) last entries
      ∙ append_assoc (text_by s s.seed journal n) (text_rest s s.seed journal n limit) (last ++ entries)))

  -- and is all lines, the line on the end, and the journal
  pub text_parts : (told : Summary) (lines : List ℕ) → told ≡ summary s s.seed journal limit → text_by s s.seed journal limit ≡ lines
      → live_text s limit journal ≡ (lines ++ end_text told) ++ journal_text s.port_names journal
  text_parts told lines is same =
      ap (λ l. l ++ journal_text s.port_names journal)
      (text_told s s.seed journal limit s.seed limit told refl refl is ∙ ap (λ l. l ++ end_text told) same)

-- ---- a run that is over

module _ (s : ScenarioOf) (x : LiveOf) (live : IsLive s x) (over : turn_of x.session ≢ turn.Idle) where
  pub summary_now : (report_of x.session).summary ≡ summary s s.seed x.journal x.session.limit
  summary_now = over_summary s s.seed x.journal live.too_late x.session live.stands live.within live.settled over live.in_time

  pub text_now : text_by s s.seed x.journal x.session.limit ≡ text_so_far s x
  text_now =
      ap (λ m. trace_text s.port_names m.state.lines)
      (over_whole s s.seed x.journal live.too_late x.session live.stands live.within live.settled over live.in_time)

  -- the text of the machine with that limit
  pub text_over : (limit : ℕ) → x.session.limit ≡ limit
      → live_text s limit x.journal ≡ (text_so_far s x ++ end_text (report_of x.session).summary) ++ journal_text s.port_names x.journal
  text_over limit most =
      text_parts s limit x.journal (report_of x.session).summary (text_so_far s x) (summary_now ∙ ap (summary s s.seed x.journal) most)
      (ap (text_by s s.seed x.journal) (sym most) ∙ text_now)

  pub end_over : (limit : ℕ) → x.session.limit ≡ limit → (report_of x.session).summary.end ≡ end_on s limit x.journal
  end_over limit most = ap (λ r. r.end) (summary_now ∙ ap (summary s s.seed x.journal) most)

-- ---- a run that was written

-- before its first unit nothing is
pub nothing_written : (s : ScenarioOf) (x : LiveOf) (a : SinkOf) → x.journal ≡ [] → x.session.units ≡ 0 → HasWritten a a (text_so_far s x)
nothing_written s x a none zero_units =
    none_to_write is_write a tt (text_so_far s x)
    (ap (λ l. text_by s s.seed l x.session.units) none ∙ (ap (text_by s s.seed []) zero_units ∙ text_before s s.seed []))

-- the lines of its units were written, and behind them come the line on its end and the journal
pub record LinesWritten (s : ScenarioOf) (limit : ℕ) (a m : SinkOf) (journal : List Arrival) (lines : List ℕ) (told : Summary) : Type 0 where
  pub fronts : KeepsFronts s journal
  pub text : live_text s limit journal ≡ (lines ++ end_text told) ++ journal_text s.port_names journal
  pub written : HasWritten a m lines

pub lines_written : {T : Type 0} (s : ScenarioOf) (limit : ℕ) (opened x : LiveOf) (a m : SinkOf) (t : T) (report : Report) → opened.session.limit ≡ limit
    → opened.journal ≡ [] → opened.session.units ≡ 0 → WritesOn s opened x a m (Ok t) → IsLive s x → turn_of x.session ≢ turn.Idle
    → x.session.limit ≡ opened.session.limit → KeepsFronts s x.journal → report ≡ report_of x.session
    → LinesWritten s limit a m x.journal (text_so_far s x) report.summary
lines_written s limit opened x a m t report most none zero_units on live ended same fronts is =
    record {
      fronts = fronts;
      text =
          subst (λ (r : Report). live_text s limit x.journal ≡ (text_so_far s x ++ end_text r.summary) ++ journal_text s.port_names x.journal) (sym is)
          (text_over s x live ended limit (same ∙ most));
      written =
          as_well is_write is_write a m t tt (text_so_far s x) (text_so_far s x) (on a (nothing_written s opened a none zero_units)) refl;
    }

module _ {s : ScenarioOf} {limit : ℕ} {a m : SinkOf} {journal : List Arrival} {lines : List ℕ} {told : Summary}
    (h : LinesWritten s limit a m journal lines told) where
  with_end : {U : Type 0} (n : SinkOf) (u : U) → Writes {T = U} {E = RunFault} is_write m n (Ok u) (end_text told) → HasWritten a n (lines ++ end_text told)
  with_end n u then = both_written is_write is_write {V = Unit {0}} a m n tt u tt lines (end_text told) (lines ++ end_text told) h.written then refl

  text_with : (entries : List ℕ) → entries ≡ journal_text s.port_names journal → live_text s limit journal ≡ (lines ++ end_text told) ++ entries
  text_with entries is_journal = h.text ∙ ap (λ l. (lines ++ end_text told) ++ l) (sym is_journal)

module _ (s : ScenarioOf) (limit : ℕ) (a b : SinkOf) (answer : Result End RunFault) (why : RunFault) (is : IsErrAnd answer (λ told. told ≡ why)) where
  failed_ok : (P : Type 0) (r : Result End RunFault) → IsErrAnd r (λ told. told ≡ why) → OnOk r P
  failed_ok P (Ok e) h = absurd h
  failed_ok P (Err w) h = tt

  failed_end : (P : End → Type 0) (r : Result End RunFault) → IsErrAnd r (λ told. told ≡ why) → IfOk r P
  failed_end P (Ok e) h = absurd h
  failed_end P (Err w) h = tt

  -- it was cut off behind some of its text
  pub runs_cut : {T : Type 0} (journal : List Arrival) (bytes rest : List ℕ) → Writes {T = T} is_write a b (Err why) bytes
      → live_text s limit journal ≡ bytes ++ rest → KeepsFronts s journal → RunsLive s limit a b answer
  runs_cut journal bytes rest written text fronts =
      record {
        journal = journal;
        writes =
            told_err is_write a b (live_text s limit journal) answer (λ told. told ≡ why) is
            (λ told same. as_failed is_write is_write a b why told bytes rest (live_text s limit journal) written text (sym (ap is_write same)));
        fronts = fronts;
        sections = failed_ok (KeepsSections s journal) answer is;
        can_be = failed_ok (CanBeJournal s journal) answer is;
        end = failed_end (λ end. end ≡ end_on s limit journal) answer is;
      }

  -- the same behind its lines, or behind the line on its end
  module _ {T : Type 0} (journal : List Arrival) (lines : List ℕ) (told : Summary) (m : SinkOf) (h : LinesWritten s limit a m journal lines told) where
    pub runs_cut_at_end : Writes {T = T} {E = RunFault} is_write m b (Err why) (end_text told) → RunsLive s limit a b answer
    runs_cut_at_end then =
        runs_cut {T = T} journal (lines ++ end_text told) (journal_text s.port_names journal)
        (cut_behind is_write is_write {V = T} a m b tt why lines (end_text told) (lines ++ end_text told) h.written then refl) h.text h.fronts

    pub runs_cut_at_journal : {U : Type 0} (n : SinkOf) (u : U) (entries : List ℕ) → entries ≡ journal_text s.port_names journal
        → Writes {T = U} {E = RunFault} is_write m n (Ok u) (end_text told) → Writes {T = T} {E = RunFault} is_write n b (Err why) entries
        → RunsLive s limit a b answer
    runs_cut_at_journal n u entries is_journal then last =
        runs_cut {T = T} journal (live_text s limit journal) []
        (cut_behind is_write is_write {V = T} a n b tt why (lines ++ end_text told) entries (live_text s limit journal) (with_end h n u then) last
        (text_with h entries is_journal))
        (sym (append-nil (live_text s limit journal))) h.fronts

-- it was written to its end
pub runs_whole : {U V : Type 0} (s : ScenarioOf) (limit : ℕ) (a m n b : SinkOf) (end : End) (journal : List Arrival) (lines entries : List ℕ) (told : Summary)
    (u : U) (v : V)
    → LinesWritten s limit a m journal lines told → KeepsSections s journal → CanBeJournal s journal → end ≡ end_on s limit journal
    → entries ≡ journal_text s.port_names journal → Writes {T = U} {E = RunFault} is_write m n (Ok u) (end_text told)
    → Writes {T = V} {E = RunFault} is_write n b (Ok v) entries → RunsLive s limit a b (Ok end)
runs_whole s limit a m n b end journal lines entries told u v h sections can ends is_journal then last =
    record {
      journal = journal;
      writes =
          both_written is_write is_write {V = End} a n b tt v end (lines ++ end_text told) entries (live_text s limit journal) (with_end h n u then) last
          (text_with h entries is_journal);
      fronts = h.fronts;
      sections = sections;
      can_be = can;
      end = ends;
    }

-- memory was wanting before it began
pub runs_none : (s : ScenarioOf) (limit : ℕ) (a : SinkOf) (answer : Result End RunFault) → IsErrAnd answer (λ why. why ≡ fault.Memory)
    → RunsLive s limit a a answer
runs_none s limit a answer is =
    runs_cut s limit a a answer fault.Memory is {T = End} [] [] (live_text s limit []) (none_written is_write a fault.Memory [] refl) refl
    (record { posts = λ p. refl; falls = refl })

pub runs_none_told : (s : ScenarioOf) (limit : ℕ) (a : SinkOf) → RunsLive s limit a a (Err fault.Memory)
runs_none_told s limit a = runs_none s limit a (Err fault.Memory) refl
