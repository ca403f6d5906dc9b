-- Alike states stay so by each operation and each callback.
--     effect_alike                  an operation
--     call_or_settle_alike          a callback, or the settling of an event
use Rattle.std.proofs.Common.{◌≡◌, ℕ, ℤ, Bool, true, false, List, [], ◌∷◌, Option, None, Some, refl, sym, subst}
use Rattle.std.specs.Prelude.{cond, find, int_lt, not, pos}
use Rattle.sim_types.specs.Throws.{already_triggered, amount_not_positive, ended_process, interrupt, negative_delay, process_itself, time_too_late}
use Rattle.sim_types.specs.declared.event.EventId.{EventId}
use Rattle.sim_types.specs.declared.event.ProcId.{ProcId}
use Rattle.sim_types.specs.declared.event.Callback.{Callback}
use Rattle.sim_types.specs.declared.event.Callback.TheVariants as callback
use Rattle.sim_types.specs.declared.event.Outcome.TheVariants as outcome
use Rattle.sim_types.specs.declared.event.Signal.TheVariants as signal
use Rattle.sim_types.specs.declared.op.Op.{Op}
use Rattle.sim_types.specs.declared.op.Op.TheVariants as op
use Rattle.sim_machine.specs.State.{Control, Calling, Active, Facilities, OpenScope, Plan, ProcessOf, State}
use Rattle.sim_machine.specs.Events.{event_at, is_pending, is_process, is_processed, is_same, next_event}
use Rattle.sim_machine.specs.Triggering.{is_too_late, make_interruption, make_timeout}
use Rattle.sim_machine.specs.Conditions.{is_too_wide}
use Rattle.sim_machine.specs.Users.{first_of_list}
use Rattle.sim_machine.specs.Requests.{is_own_victim, is_refused_amount, make_get, make_put}
use Rattle.sim_machine.specs.Scopes.{close_if_any, on_events, on_facilities, release_if_any, scopes_inwards}
use Rattle.sim_machine.specs.Processes.{drop_process, end_process, is_alive, make_process, rest, signal_of, stop_waiting, tell, wait}
use Rattle.sim_machine.specs.Effect.{calendar, chain, effect, raise, tell_made, to_another, with_move, with_timeout}
use Rattle.sim_machine.specs.Steps.{call, call_or_settle, control_to, strike}
use Rattle.sim_body_law.proofs.AlikeBodies.{Begins, BeginsAlike, plan_with_bodies}
use Rattle.sim_body_law.proofs.AlikeStates.{AllAlike, AlikeStates, KeepsAlike, alive_alike, drop_alike, end_alike, make_alike, stop_alike, then_alike, wait_alike, with_processes}

module _ {B C : Type 0} (like : B → C → Type 0) where
  -- the processes are as before
  quiet : (s t : State B) (ys : List (ProcessOf C)) → AllAlike like t.processes ys → AlikeStates like t (with_processes like ys t)
  quiet s t ys h = record { processes = ys; alike = h; is = refl }

  -- where it depends on what does not change
  either : (b : Bool) (s t : State B) (u v : State C) → AlikeStates like s u → AlikeStates like t v → AlikeStates like (cond b s t) (cond b u v)
  either true s t u v h k = h
  either false s t u v h k = k

  -- ---- operations

  module _ (s : State B) (ys : List (ProcessOf C)) (h : AllAlike like s.processes ys) where
    abbrev u : State C
    u = with_processes like ys s

    -- the same is done to all but the processes
    same : (t : State B) → t.processes ≡ s.processes → AlikeStates like t (with_processes like ys t)
    same t is = record { processes = ys; alike = subst (λ xs. AllAlike like xs ys) (sym is) h; is = refl }

    timeout_alike : (delay value : ℤ) (after : EventId → State B → State B) (again : EventId → State C → State C)
        → ((e : EventId) (t : State B) → KeepsAlike like (after e) (again e) t)
        → AlikeStates like (with_timeout delay value after s) (with_timeout delay value again u)
    timeout_alike delay value after again keeps =
        either (int_lt delay (pos 0)) _ _ _ _ (same (raise negative_delay s) refl)
        (either (is_too_late delay (calendar s)) _ _ _ _ (same (raise time_too_late s) refl)
        (keeps (next_event (calendar s)) (on_events (make_timeout delay value) s) ys h))

    move_alike : (g : Plan B) (start : Begins C) (res : ℕ) (amount : ℤ) (does : Facilities → Facilities)
        (after : EventId → State B → State B) (again : EventId → State C → State C)
        → ((e : EventId) (t : State B) → KeepsAlike like (after e) (again e) t)
        → AlikeStates like (with_move g res amount does after s) (with_move (plan_with_bodies start g) res amount does again u)
    move_alike g start res amount does after again keeps =
        either (is_refused_amount g.setup.resources res amount) _ _ _ _ (same (raise amount_not_positive s) refl)
        (keeps (next_event (calendar s)) (on_facilities does s) ys h)

    another_alike : (p q : ProcId) (does : State B → State B) (again : State C → State C) → AlikeStates like (does s) (again u)
        → AlikeStates like (to_another p q does s) (to_another p q again u)
    another_alike p q does again done =
        subst (λ a. AlikeStates like (to_another p q does s)
        (cond (not a) (raise ended_process u) (cond (is_process q p) (raise process_itself u) (tell signal.Done (again u)))))
        (sym (alive_alike like q s ys h))
        (either (not (is_alive q s)) _ _ _ _ (same (raise ended_process s) refl)
        (either (is_process q p) _ _ _ _ (same (raise process_itself s) refl)
        (then_alike like (tell signal.Done) (tell signal.Done) (does s) (again u) done (λ zs k. record { processes = zs; alike = k; is = refl }))))

    closes : (x : Option OpenScope) → AlikeStates like (tell signal.Done (close_if_any x s)) (tell signal.Done (close_if_any x u))
    closes None = same (tell signal.Done s) refl
    closes (Some x) = record { processes = ys; alike = h; is = refl }

    releases : (x : Option OpenScope) → AlikeStates like (tell signal.Done (release_if_any x s)) (tell signal.Done (release_if_any x u))
    releases None = same (tell signal.Done s) refl
    releases (Some x) = record { processes = ys; alike = h; is = refl }

    chain_alike : (e y : EventId) → AlikeStates like (chain e y s) (chain e y u)
    chain_alike e y =
        either (not (is_processed (calendar s) e)) _ _ _ _ (record { processes = ys; alike = h; is = refl })
        (either (is_pending (calendar s) y) _ _ _ _ (record { processes = ys; alike = h; is = refl }) (same (raise already_triggered s) refl))

  made_told : (e : EventId) (t : State B) → KeepsAlike like (tell_made e) (tell_made e) t
  made_told e t ys h = record { processes = ys; alike = h; is = refl }

  waits : (p : ProcId) (e : EventId) (t : State B) → KeepsAlike like (wait e p) (wait e p) t
  waits p e t ys h = wait_alike like p t ys h e

  rested : (t : State B) → KeepsAlike like rest rest t
  rested t ys h = record { processes = ys; alike = h; is = refl }

  module _ (g : Plan B) (start : Begins C) (p : ProcId) where
    -- the process that is asked for begins alike
    abbrev pub SpawnsAlike : Op → Type 0
    SpawnsAlike o = (k : ℕ) (args : List ℤ) → o ≡ op.Spawn k args → BeginsAlike like g.start start k args

    pub effect_alike : (o : Op) → SpawnsAlike o → (s : State B) → KeepsAlike like (effect g p o) (effect (plan_with_bodies start g) p o) s
    effect_alike op.Nop spawns s ys h = record { processes = ys; alike = h; is = refl }
    effect_alike (op.Timeout delay value) spawns s ys h = timeout_alike s ys h delay value tell_made tell_made made_told
    effect_alike (op.Pause delay value) spawns s ys h = timeout_alike s ys h delay value (λ e t. wait e p t) (λ e t. wait e p t) (waits p)
    effect_alike (op.Wait e) spawns s ys h = wait_alike like p s ys h e
    effect_alike op.NewEvent spawns s ys h = record { processes = ys; alike = h; is = refl }
    effect_alike (op.Succeed e value) spawns s ys h =
        either (is_pending (calendar s) e) _ _ _ _ (record { processes = ys; alike = h; is = refl }) (record { processes = ys; alike = h; is = refl })
    effect_alike (op.Fail e code) spawns s ys h =
        either (is_pending (calendar s) e) _ _ _ _ (record { processes = ys; alike = h; is = refl }) (record { processes = ys; alike = h; is = refl })
    effect_alike (op.Spawn k args) spawns s ys h =
        then_alike like (tell_made (next_event (calendar s))) (tell_made (next_event (calendar s))) (make_process g k args s) _
        (make_alike like g start k args (spawns k args refl) s ys h) (made_told (next_event (calendar s)) (make_process g k args s))
    effect_alike (op.Interrupt q cause) spawns s ys h =
        let strikes = make_interruption q (record { kind = interrupt; value = cause }) in
        another_alike s ys h p q (on_events strikes) (on_events strikes) (record { processes = ys; alike = h; is = refl })
    effect_alike (op.Drop q value) spawns s ys h =
        another_alike s ys h p q (drop_process q value) (drop_process q value) (drop_alike like q value s ys h)
    effect_alike (op.AllOf members) spawns s ys h =
        either (is_too_wide members (calendar s)) _ _ _ _ (record { processes = ys; alike = h; is = refl }) (record { processes = ys; alike = h; is = refl })
    effect_alike (op.AnyOf members) spawns s ys h =
        either (is_too_wide members (calendar s)) _ _ _ _ (record { processes = ys; alike = h; is = refl }) (record { processes = ys; alike = h; is = refl })
    effect_alike (op.Has c e) spawns s ys h = record { processes = ys; alike = h; is = refl }
    effect_alike (op.Enter res priority preempts) spawns s ys h =
        either (is_own_victim g.setup.resources res p priority preempts s.facilities) _ _ _ _ (record { processes = ys; alike = h; is = refl })
        (record { processes = ys; alike = h; is = refl })
    effect_alike op.Leave spawns s ys h = closes s ys h (first_of_list (scopes_inwards p s))
    effect_alike (op.Release request) spawns s ys h = releases s ys h (find (λ x. is_same x.request request) s.scopes)
    effect_alike (op.Put res amount priority) spawns s ys h =
        move_alike s ys h g start res amount (make_put g.setup.resources res amount priority) tell_made tell_made made_told
    effect_alike (op.PutWait res amount priority) spawns s ys h =
        move_alike s ys h g start res amount (make_put g.setup.resources res amount priority) (λ e t. wait e p t) (λ e t. wait e p t) (waits p)
    effect_alike (op.Get res least greatest) spawns s ys h =
        move_alike s ys h g start res least (make_get g.setup.resources res least greatest) tell_made tell_made made_told
    effect_alike (op.GetWait res least greatest) spawns s ys h =
        move_alike s ys h g start res least (make_get g.setup.resources res least greatest) (λ e t. wait e p t) (λ e t. wait e p t) (waits p)
    effect_alike (op.Cancel e) spawns s ys h = record { processes = ys; alike = h; is = refl }
    effect_alike (op.Count res) spawns s ys h = record { processes = ys; alike = h; is = refl }
    effect_alike (op.Draw lo hi) spawns s ys h =
        either (int_lt hi lo) _ _ _ _ (record { processes = ys; alike = h; is = refl }) (record { processes = ys; alike = h; is = refl })
    effect_alike (op.Log value) spawns s ys h = record { processes = ys; alike = h; is = refl }
    effect_alike (op.Finish value) spawns s ys h =
        then_alike like rest rest (end_process p (outcome.Ok value) s) _ (end_alike like p s ys h (outcome.Ok value)) (rested _)
    effect_alike (op.Die t) spawns s ys h =
        then_alike like rest rest (end_process p (outcome.Fail t) s) _ (end_alike like p s ys h (outcome.Fail t)) (rested _)
    effect_alike (op.Chain e y) spawns s ys h = chain_alike s ys h e y

  -- ---- callbacks

  strike_alike : (e : EventId) (left : List Callback) (p : ProcId) (s : State B) → KeepsAlike like (strike e left p) (strike e left p) s
  strike_alike e left p s ys h =
      subst (λ a. AlikeStates like (strike e left p s) (cond a (control_to thrown (stop_waiting p u)) (control_to (Calling e left) u)))
      (sym (alive_alike like p s ys h))
      (either (is_alive p s) _ _ _ _
      (then_alike like (control_to thrown) (control_to thrown) (stop_waiting p s) (stop_waiting p u) (stop_alike like p s ys h)
      (λ zs k. record { processes = zs; alike = k; is = refl })) (record { processes = ys; alike = h; is = refl }))
    where
      u : State C
      u = with_processes like ys s

      thrown : Control
      thrown = Active e left p (signal_of (event_at (calendar s) e).outcome)

  call_alike : (g : Plan B) (start : Begins C) (e : EventId) (x : Callback) (left : List Callback) (s : State B)
      → KeepsAlike like (call g e x left) (call (plan_with_bodies start g) e x left) s
  call_alike g start e (callback.Strike p) left s ys h = strike_alike e left p s ys h
  call_alike g start e (callback.Resume p) left s ys h = record { processes = ys; alike = h; is = refl }
  call_alike g start e (callback.Check c) left s ys h = record { processes = ys; alike = h; is = refl }
  call_alike g start e (callback.Build c) left s ys h = record { processes = ys; alike = h; is = refl }
  call_alike g start e (callback.TryPut res) left s ys h = record { processes = ys; alike = h; is = refl }
  call_alike g start e (callback.TryGet res) left s ys h = record { processes = ys; alike = h; is = refl }
  call_alike g start e callback.Stop left s ys h = record { processes = ys; alike = h; is = refl }
  call_alike g start e (callback.Trigger y) left s ys h = record { processes = ys; alike = h; is = refl }

  pub call_or_settle_alike : (g : Plan B) (start : Begins C) (e : EventId) (left : List Callback) (s : State B)
      → KeepsAlike like (call_or_settle g e left) (call_or_settle (plan_with_bodies start g) e left) s
  call_or_settle_alike g start e [] s ys h = record { processes = ys; alike = h; is = refl }
  call_or_settle_alike g start e (x ∷ left) s ys h = call_alike g start e x left s ys h
