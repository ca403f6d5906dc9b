-- What is done without a holder more or fewer, and what is done with a control.
use Rattle.std.proofs.Common.{◌≡◌, ℕ, ℤ, ◌+◌, Bool, true, false, List, [], ◌∷◌, ◌++◌, refl, sym, ap, ◌∙◌, arith}
use Rattle.std.specs.Prelude.{count_by, nat_le, pos, ◌==◌}
use Rattle.std.proofs.lemmas.Bool.{false≢true}
use Rattle.std.proofs.lemmas.Bool.Decides.{nat_tests}
use Rattle.sim_types.specs.declared.event.EventId.{EventId}
use Rattle.sim_types.specs.declared.event.ProcId.{ProcId}
use Rattle.sim_types.specs.declared.event.EventKind.TheVariants as kind
use Rattle.sim_types.specs.declared.event.Outcome.{Outcome}
use Rattle.sim_types.specs.declared.event.Callback.{Callback}
use Rattle.sim_types.specs.declared.event.Callback.TheVariants as callback
use Rattle.sim_types.specs.declared.event.Signal.{Signal}
use Rattle.sim_types.specs.declared.line.End.{End}
use Rattle.sim_types.specs.declared.line.End.TheVariants as end
use Rattle.sim_machine.specs.State.{ProcessOf, OpenScope, Control, Idle, Calling, Active, Over, State, Plan}
use Rattle.sim_machine.specs.Events.{event_at, is_same, is_processed, is_resume_of, next_event, register}
use Rattle.sim_machine.specs.Triggering.{normal, make, trigger}
use Rattle.sim_machine.specs.Trying.{on_calendar}
use Rattle.sim_machine.specs.Requests.{leave}
use Rattle.sim_machine.specs.Scopes.{on_events, close_scope}
use Rattle.sim_machine.specs.Processes.{change_process, defuse_failed, end_process, event_of, make_events_of_process, make_process, not_active, process_at, rest, signal_of, stop_waiting, strip_resume, target_of, tell as told, told_more, wait}
use Rattle.sim_machine.specs.Effect.{calendar}
use Rattle.sim_machine.specs.Steps.{control_to, is_crash, settle}
use Rattle.sim_machine.specs.Runs.{blank_state}
use Rattle.sim_machine.specs.Standing.{one_if, left_of}
use Rattle.sim_machine.specs.KeptEvents.{is_in_process, triggers}
use Rattle.sim_machine.specs.Tellings.{Telling}
use Rattle.sim_machine_law.proofs.Events.CallbackLaws.{count_by-cons, count_by-one, left_of-told, left_of-rest}
use Rattle.sim_machine_law.proofs.KeptParts.KeptTimesCases.{if_cases}
use Rattle.sim_lawful.proofs.Calendars.TakenOut.{count-apart}
use Rattle.sim_happen_model.specs.Naming.{but_zero, held_alone, named_by_process, named_in_places, triggered_by}
use Rattle.sim_happen_model.specs.HolderChanges.{StatesTrade, IsOnlyProcess, HasOnlyScope}
use Rattle.sim_accounts.proofs.Counts.{is_same-swap}
use Rattle.sim_accounts.proofs.Trading.{trades_quietly, trades_then}
use Rattle.sim_accounts.proofs.StateChanges.{triggers_counted, waits_trade, joined_trade, ended_trade, closed_trade, quiet_trade, registered_trade, controlled_trade, processed_trade}
use Rattle.sim_accounts.proofs.CalendarChanges.{plainly_defused_failed, plainly_process, plainly_scheduled, plainly_unregistered}
use Rattle.sim_accounts.proofs.FacilityChanges.{plainly_left}

-- ---- controls

told_in_process : (x : Signal) (k : Control) (e : EventId) → is_in_process (told_more x k) e ≡ is_in_process k e
told_in_process x Idle e = refl
told_in_process x (Calling f left) e = refl
told_in_process x (Active f left p y) e = refl
told_in_process x (Over why f left) e = refl

rest_in_process : (k : Control) (e : EventId) → is_in_process (not_active k) e ≡ is_in_process k e
rest_in_process Idle e = refl
rest_in_process (Calling f left) e = refl
rest_in_process (Active f left p y) e = refl
rest_in_process (Over why f left) e = refl

stripped_in_process : (p : ProcId) (k : Control) (e : EventId) → is_in_process (strip_resume p k) e ≡ is_in_process k e
stripped_in_process p Idle e = refl
stripped_in_process p (Calling f left) e = refl
stripped_in_process p (Active f left q y) e = refl
stripped_in_process p (Over why f left) e = refl

no_resumption : (p : ProcId) (e : EventId) (x : Callback) → is_resume_of p x ≡ true → triggers e x ≡ false
no_resumption p e (callback.Trigger y) h = absurd (false≢true h)
no_resumption p e _ h = refl

stripped_left : (p : ProcId) (k : Control) (e : EventId) → count_by (triggers e) (left_of (strip_resume p k)) ≡ count_by (triggers e) (left_of k)
stripped_left p Idle e = refl
stripped_left p (Calling f left) e = count-apart (triggers e) (is_resume_of p) (no_resumption p e) left
stripped_left p (Active f left q y) e = count-apart (triggers e) (is_resume_of p) (no_resumption p e) left
stripped_left p (Over why f left) e = refl

module _ {B : Type 0} (named : ℕ) (tell : Telling B) where
  -- the control changes, but neither the event that is processed nor the callbacks that pass outcomes on
  same_control : (s : State B) (k : Control) → ((e : EventId) → is_in_process k e ≡ is_in_process s.control e)
      → ((e : EventId) → count_by (triggers e) (left_of k) ≡ count_by (triggers e) (left_of s.control))
      → StatesTrade named tell [] [] s (record s { control = k })
  same_control s k processed left =
      processed_trade named tell s k [] [] (λ e. omega (arith, ap one_if (processed e))) (λ e. omega (arith, left e))

  pub told_trade : (x : Signal) (s : State B) → StatesTrade named tell [] [] s (told x s)
  told_trade x s = same_control s (told_more x s.control) (told_in_process x s.control) (λ e. ap (count_by (triggers e)) (left_of-told x s.control))

  pub rest_trade : (s : State B) → StatesTrade named tell [] [] s (rest s)
  rest_trade s = same_control s (not_active s.control) (rest_in_process s.control) (λ e. ap (count_by (triggers e)) (left_of-rest s.control))

  pub stripped_trade : (p : ProcId) (s : State B) → StatesTrade named tell [] [] s (record s { control = strip_resume p s.control })
  stripped_trade p s = same_control s (strip_resume p s.control) (stripped_in_process p s.control) (stripped_left p s.control)

  module _ (s : State B) (e : EventId) (x : Callback) (left : List Callback) (calling : s.control ≡ Calling e (x ∷ left)) where
    processed_before : (f : EventId) → one_if (is_in_process s.control f) ≡ one_if (is_same e f)
    processed_before f = rw calling refl

    left_before : (f : EventId) → count_by (triggers f) (left_of s.control) ≡ count_by (triggers f) left + count_by (is_same f) (triggered_by x)
    left_before f = rw calling (omega (arith, count_by-cons (triggers f) x left, triggers_counted f x))

    pub called_trade : StatesTrade named tell [] (triggered_by x) s (control_to (Calling e left) s)
    called_trade =
        controlled_trade named tell s (Calling e left) [] [] (triggered_by x) (λ f. omega (arith, processed_before f)) (λ f. omega (arith, left_before f))

    pub run_trade : (p : ProcId) (y : Signal) → StatesTrade named tell [] (triggered_by x) s (control_to (Active e left p y) s)
    run_trade p y =
        controlled_trade named tell s (Active e left p y) [] [] (triggered_by x) (λ f. omega (arith, processed_before f)) (λ f. omega (arith, left_before f))

    pub stopped_trade : (why : End) → StatesTrade named tell [] (but_zero (e ∷ []) ++ triggered_by x) s (control_to (Over why e left) s)
    stopped_trade why =
        controlled_trade named tell s (Over why e left) [] (e ∷ []) (triggered_by x)
        (λ f. omega (arith, processed_before f, count_by-one (is_same f) e, ap one_if (is_same-swap f e))) (λ f. omega (arith, left_before f))

  pub settled_trade : (s : State B) (e : EventId) → s.control ≡ Calling e [] → StatesTrade named tell [] (but_zero (e ∷ [])) s (settle e s)
  settled_trade s e calling =
      if_cases (λ k. StatesTrade named tell [] (but_zero (e ∷ [])) s (record s { control = k })) (is_crash e s) (Over end.Crash e []) Idle
      (λ crash. done (Over end.Crash e []) (λ f. refl) refl) (λ over. done Idle (λ f. refl) refl)
    where
      done : (k : Control) → ((f : EventId) → is_in_process k f ≡ false) → left_of k ≡ []
          → StatesTrade named tell [] (but_zero (e ∷ [])) s (record s { control = k })
      done k none left =
          processed_trade named tell s k [] (e ∷ [])
          (λ f. rw calling (omega (arith, ap one_if (none f), count_by-one (is_same f) e, ap one_if (is_same-swap f e))))
          (λ f. rw calling (omega (arith, ap (count_by (triggers f)) left)))

  -- ---- processes

  pub waited_trade : (s : State B) (p : ProcId) (x : ProcessOf B) (e : EventId) → IsOnlyProcess p x s → is_processed (calendar s) e ≡ false
      → StatesTrade named tell (but_zero (e ∷ [])) (but_zero (x.target ∷ [])) s (wait e p s)
  waited_trade s p x e only waits =
      let r : State B = on_events (register e (callback.Resume p)) s in
      let t : State B = change_process p (λ y. record y { target = e }) r in
      if_cases (StatesTrade named tell (but_zero (e ∷ [])) (but_zero (x.target ∷ [])) s) (is_processed (calendar s) e) _ (rest t) (λ processed. absurd (false≢true (sym waits ∙ processed)))
      (λ not_yet. trades_quietly (but_zero (e ∷ [])) (but_zero (x.target ∷ [])) (held_alone named tell s) (held_alone named tell t) (held_alone named tell (rest t))
      (trades_then [] [] (but_zero (e ∷ [])) (but_zero (x.target ∷ [])) (held_alone named tell s) (held_alone named tell r) (held_alone named tell t)
      (registered_trade named tell s e (callback.Resume p)) (waits_trade named tell r p x e (record { found = only.found; distinct = only.distinct })))
      (rest_trade t))

  pub went_on_trade : (s : State B) (p : ProcId) (e : EventId) → is_processed (calendar s) e ≡ true → StatesTrade named tell [] [] s (wait e p s)
  went_on_trade s p e processed =
      let x : Signal = signal_of (event_at (calendar s) e).outcome in
      let r : State B = on_events (defuse_failed e) s in
      if_cases (StatesTrade named tell [] [] s) (is_processed (calendar s) e) (told x r) _
      (λ is. trades_then [] [] [] [] (held_alone named tell s) (held_alone named tell r) (held_alone named tell (told x r))
      (quiet_trade named tell s (on_calendar (defuse_failed e) s.facilities) (plainly_defused_failed e (calendar s)).quietly.triggers) (told_trade x r))
      (λ not_yet. absurd (false≢true (sym not_yet ∙ processed)))

  pub made_trade : (g : Plan B) (k : ℕ) (args : List ℤ) (s : State B)
      → StatesTrade named tell (but_zero (next_event (make kind.Process (calendar s)) ∷ named_in_places tell (g.start k args (record { 0 = (next_event (calendar s)).0 })))) [] s (make_process g k args s)
  made_trade g k args s =
      let p : ProcId = record { 0 = (next_event (calendar s)).0 } in
      joined_trade named tell s (record { id = p; body = g.start k args p; target = next_event (make kind.Process (calendar s)) }) (on_calendar make_events_of_process s.facilities) (plainly_process (calendar s)).quietly.triggers

  pub over_trade : (s : State B) (p : ProcId) (x : ProcessOf B) (o : Outcome) → IsOnlyProcess p x s
      → StatesTrade named tell [] (but_zero (named_by_process tell x)) s (end_process p o s)
  over_trade s p x o only =
      ended_trade named tell s p x (on_calendar (trigger (event_of p) o) s.facilities) only (plainly_scheduled (event_of p) o normal (pos 0) (calendar s)).quietly.triggers

  pub unresumed_trade : (p : ProcId) (s : State B) → StatesTrade named tell [] [] s (stop_waiting p s)
  unresumed_trade p s =
      quiet_trade named tell s (stop_waiting p s).facilities (plainly_unregistered (target_of p (process_at p s)) (is_resume_of p) (calendar s) (λ y. refl)).quietly.triggers

  pub left_trade : (s : State B) (x : OpenScope) → HasOnlyScope x.request s → StatesTrade named tell [] (but_zero (x.request ∷ [])) s (close_scope s x)
  left_trade s x only =
      closed_trade named tell s x.request (leave x.res x.request s.facilities) only (plainly_left x.res x.request s.facilities).quietly.triggers

-- before anything is made each named event is held once, and event 0
pub blank_alone : {B : Type 0} (tell : Telling B) (g : Plan B) (e : EventId)
    → held_alone g.setup.events tell (blank_state g) e ≡ one_if (nat_le e.0 g.setup.events)
blank_alone tell g e = by_zero (e.0 == 0) refl
  where
    by_zero : (b : Bool) → (e.0 == 0) ≡ b → held_alone g.setup.events tell (blank_state g) e ≡ one_if (nat_le e.0 g.setup.events)
    by_zero true is = rw is (ap one_if (sym (at_zero e.0 g.setup.events is)))
      where
        at_zero : (m k : ℕ) → (m == 0) ≡ true → nat_le m k ≡ true
        at_zero m k h = grind (arith, nat_tests)
    by_zero false is = rw is (omega arith)
