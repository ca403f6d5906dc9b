-- States that are alike but for the bodies of their processes, which are alike one by one.
--     AlikeStates                   two states
-- They stay so where the same is done to the processes of both:
--     wait_alike, stop_alike, leave_alike, drop_alike, end_alike, body_alike, make_alike
use Rattle.std.proofs.Common.{◌≡◌, ℕ, ℤ, Bool, true, false, List, [], ◌∷◌, ◌++◌, map, Option, None, Some, refl, sym, ap, ◌∙◌, subst}
use Rattle.std.specs.Prelude.{⊤, cond, not, ◌||◌, filter, find, fold}
use Rattle.std.specs.List.{list_any}
use Rattle.sim_types.specs.declared.event.EventId.{EventId}
use Rattle.sim_types.specs.declared.event.ProcId.{ProcId}
use Rattle.sim_types.specs.declared.event.Outcome.{Outcome}
use Rattle.sim_types.specs.declared.event.Outcome.TheVariants as outcome
use Rattle.sim_types.specs.declared.event.EventKind.TheVariants as kind
use Rattle.sim_types.specs.declared.event.Callback.TheVariants as callback
use Rattle.sim_machine.specs.State.{OpenScope, Plan, ProcessOf, State}
use Rattle.sim_machine.specs.Events.{event_at, is_process, is_processed, is_resume_of, next_event, register, unregister}
use Rattle.sim_machine.specs.Triggering.{make}
use Rattle.sim_machine.specs.Scopes.{close_scope, leave_all, on_events, scopes_inwards}
use Rattle.sim_machine.specs.Processes.{change_process, defuse_failed, drop_process, end_process, is_alive, make_process, process_at, rest, signal_of, stop_waiting, strip_resume, target_of, tell, wait, with_body}
use Rattle.sim_body_law.proofs.AlikeBodies.{Begins, BeginsAlike, plan_with_bodies}

module _ {B C : Type 0} (like : B → C → Type 0) where
  pub record AlikeProcesses (x : ProcessOf B) (y : ProcessOf C) : Type 0 where
    pub id : y.id ≡ x.id
    pub target : y.target ≡ x.target
    pub body : like x.body y.body

  abbrev pub AllAlike : List (ProcessOf B) → List (ProcessOf C) → Type 0
  AllAlike [] [] = ⊤
  AllAlike [] (y ∷ ys) = ⊥
  AllAlike (x ∷ xs) [] = ⊥
  AllAlike (x ∷ xs) (y ∷ ys) = AlikeProcesses x y × AllAlike xs ys

  abbrev pub FoundAlike : Option (ProcessOf B) → Option (ProcessOf C) → Type 0
  FoundAlike None None = ⊤
  FoundAlike None (Some y) = ⊥
  FoundAlike (Some x) None = ⊥
  FoundAlike (Some x) (Some y) = AlikeProcesses x y

  -- the state with other processes
  abbrev pub with_processes : List (ProcessOf C) → State B → State C
  with_processes ys s =
      record {
        facilities = s.facilities;
        processed = s.processed;
        drawn = s.drawn;
        scopes = s.scopes;
        processes = ys;
        control = s.control;
        lines = s.lines;
      }

  pub record AlikeStates (s : State B) (t : State C) : Type 0 where
    pub processes : List (ProcessOf C)
    pub alike : AllAlike s.processes processes
    pub is : t ≡ with_processes processes s

  -- what is done to two states keeps them alike
  abbrev pub KeepsAlike : (State B → State B) → (State C → State C) → State B → Type 0
  KeepsAlike does again s = (ys : List (ProcessOf C)) → AllAlike s.processes ys → AlikeStates (does s) (again (with_processes ys s))

  pub then_alike : (does : State B → State B) (again : State C → State C) (s : State B) (t : State C) → AlikeStates s t → KeepsAlike does again s
      → AlikeStates (does s) (again t)
  then_alike does again s t h keeps = subst (λ (u : State C). AlikeStates (does s) (again u)) (sym h.is) (keeps h.processes h.alike)

  -- ---- lists of processes

  module _ (p : ProcId) where
    abbrev IsOne : {D : Type 0} → ProcessOf D → Bool
    IsOne x = is_process x.id p

    -- one of two is alike
    by_one : {X Y : Type 0} (rel : X → Y → Type 0) (b d : Bool) → d ≡ b → (x z : X) (y w : Y) → rel x y → rel z w → rel (cond b x z) (cond d y w)
    by_one rel true d is x z y w h k = rw is h
    by_one rel false d is x z y w h k = rw is k

    found : (xs : List (ProcessOf B)) (ys : List (ProcessOf C)) → AllAlike xs ys → FoundAlike (find (λ x. is_process x.id p) xs) (find (λ y. is_process y.id p) ys)
    found [] [] h = tt
    found [] (y ∷ ys) h = absurd h
    found (x ∷ xs) [] h = absurd h
    found (x ∷ xs) (y ∷ ys) h =
        by_one FoundAlike (is_process x.id p) (is_process y.id p) (ap (λ i. is_process i p) h.0.id) (Some x) _ (Some y) _ h.0 (found xs ys h.1)

    any : (xs : List (ProcessOf B)) (ys : List (ProcessOf C)) → AllAlike xs ys → list_any (λ y. is_process y.id p) ys ≡ list_any (λ x. is_process x.id p) xs
    any [] [] h = refl
    any [] (y ∷ ys) h = absurd h
    any (x ∷ xs) [] h = absurd h
    any (x ∷ xs) (y ∷ ys) h =
        ap (λ i. is_process i p || list_any (λ (z : ProcessOf C). is_process z.id p) ys) h.0.id ∙ ap (λ b. is_process x.id p || b) (any xs ys h.1)

    kept : (xs : List (ProcessOf B)) (ys : List (ProcessOf C)) → AllAlike xs ys
        → AllAlike (filter (λ x. not (is_process x.id p)) xs) (filter (λ y. not (is_process y.id p)) ys)
    kept [] [] h = tt
    kept [] (y ∷ ys) h = absurd h
    kept (x ∷ xs) [] h = absurd h
    kept (x ∷ xs) (y ∷ ys) h =
        by_one AllAlike (not (is_process x.id p)) (not (is_process y.id p)) (ap (λ i. not (is_process i p)) h.0.id) _ _ _ _ (h.0, kept xs ys h.1)
        (kept xs ys h.1)

    -- one of them is changed
    module _ (change : ProcessOf B → ProcessOf B) (again : ProcessOf C → ProcessOf C)
        (same : (x : ProcessOf B) (y : ProcessOf C) → AlikeProcesses x y → AlikeProcesses (change x) (again y)) where
      changed : (xs : List (ProcessOf B)) (ys : List (ProcessOf C)) → AllAlike xs ys
          → AllAlike (map (λ x. cond (is_process x.id p) (change x) x) xs) (map (λ y. cond (is_process y.id p) (again y) y) ys)
      changed [] [] h = tt
      changed [] (y ∷ ys) h = absurd h
      changed (x ∷ xs) [] h = absurd h
      changed (x ∷ xs) (y ∷ ys) h = (
        by_one AlikeProcesses (is_process x.id p) (is_process y.id p) (ap (λ i. is_process i p) h.0.id) (change x) x (again y) y (same x y h.0) h.0,
        changed xs ys h.1,
      )

      change_alike : (s : State B) → KeepsAlike (change_process p change) (change_process p again) s
      change_alike s ys h =
          record { processes = map (λ y. cond (is_process y.id p) (again y) y) ys; alike = changed s.processes ys h; is = refl }

  one_more : (x : ProcessOf B) (y : ProcessOf C) → AlikeProcesses x y → (xs : List (ProcessOf B)) (ys : List (ProcessOf C)) → AllAlike xs ys
      → AllAlike (xs ++ x ∷ []) (ys ++ y ∷ [])
  one_more x y same [] [] h = (same, tt)
  one_more x y same [] (z ∷ ys) h = absurd h
  one_more x y same (w ∷ xs) [] h = absurd h
  one_more x y same (w ∷ xs) (z ∷ ys) h = (h.0, one_more x y same xs ys h.1)

  -- ---- one process of a state

  module _ (p : ProcId) (s : State B) (ys : List (ProcessOf C)) (h : AllAlike s.processes ys) where
    pub at_alike : FoundAlike (process_at p s) (process_at p (with_processes ys s))
    at_alike = found p s.processes ys h

    pub alive_alike : is_alive p (with_processes ys s) ≡ is_alive p s
    alive_alike = any p s.processes ys h

    target_alike : target_of p (process_at p (with_processes ys s)) ≡ target_of p (process_at p s)
    target_alike = by (process_at p s) (process_at p (with_processes ys s)) at_alike
      where
        by : (x : Option (ProcessOf B)) (y : Option (ProcessOf C)) → FoundAlike x y → target_of p y ≡ target_of p x
        by None None k = refl
        by None (Some y) k = absurd k
        by (Some x) None k = absurd k
        by (Some x) (Some y) k = k.target

    pub stop_alike : AlikeStates (stop_waiting p s) (stop_waiting p (with_processes ys s))
    stop_alike =
        record { processes = ys; alike = h; is = ap (λ e. on_events (unregister e (is_resume_of p)) (with_processes ys s)) target_alike }

    pub body_alike : (b : B) (c : C) → like b c → AlikeStates (with_body p b s) (with_body p c (with_processes ys s))
    body_alike b c same =
        change_alike p (λ x. record x { body = b }) (λ y. record y { body = c }) (λ x y k. record { id = k.id; target = k.target; body = same }) s ys h

    pub wait_alike : (e : EventId) → AlikeStates (wait e p s) (wait e p (with_processes ys s))
    wait_alike e = by (is_processed s.facilities.calendar e)
      where
        told : State B
        told = tell (signal_of (event_at s.facilities.calendar e).outcome) (on_events (defuse_failed e) s)

        waits : {D : Type 0} → State D → State D
        waits t = rest (change_process p (λ x. record x { target = e }) (on_events (register e (callback.Resume p)) t))

        by : (b : Bool) → AlikeStates (cond b told (waits s)) (cond b (with_processes ys told) (waits (with_processes ys s)))
        by true = record { processes = ys; alike = h; is = refl }
        by false =
            record {
              processes = map (λ y. cond (is_process y.id p) (record y { target = e }) y) ys;
              alike = changed p (λ x. record x { target = e }) (λ y. record y { target = e }) (λ x y k. record { id = k.id; target = refl; body = k.body }) s.processes ys h;
              is = refl;
            }

    pub end_alike : (x : Outcome) → AlikeStates (end_process p x s) (end_process p x (with_processes ys s))
    end_alike x = record { processes = filter (λ y. not (is_process y.id p)) ys; alike = kept p s.processes ys h; is = refl }

  -- its scopes are left, and it is dropped
  closed : (xs : List OpenScope) (s : State B) → KeepsAlike (λ t. fold close_scope t xs) (λ t. fold close_scope t xs) s
  closed [] s ys h = record { processes = ys; alike = h; is = refl }
  closed (x ∷ xs) s ys h = closed xs (close_scope s x) ys h

  pub leave_alike : (p : ProcId) (s : State B) → KeepsAlike (leave_all p) (leave_all p) s
  leave_alike p s ys h = closed (scopes_inwards p s) s ys h

  abbrev stripped : {D : Type 0} → ProcId → State D → State D
  stripped p t = record t { control = strip_resume p t.control }

  pub drop_alike : (p : ProcId) (value : ℤ) (s : State B) → KeepsAlike (drop_process p value) (drop_process p value) s
  drop_alike p value s ys h =
      let stopped : State B = stop_waiting p s in
      let strips : AlikeStates (stripped p stopped) (stripped p (stop_waiting p (with_processes ys s))) =
      then_alike (stripped p) (stripped p) stopped _ (stop_alike p s ys h) (λ zs k. record { processes = zs; alike = k; is = refl }) in
      let left = then_alike (leave_all p) (leave_all p) (stripped p stopped) _ strips (leave_alike p (stripped p stopped)) in
      then_alike (end_process p (outcome.Ok value)) (end_process p (outcome.Ok value)) (leave_all p (stripped p stopped)) _ left
      (λ zs k. end_alike p (leave_all p (stripped p stopped)) zs k (outcome.Ok value))

  -- a process is made
  pub make_alike : (g : Plan B) (again : Begins C) (k : ℕ) (args : List ℤ) → BeginsAlike like g.start again k args → (s : State B)
      → KeepsAlike (make_process g k args) (make_process (plan_with_bodies again g) k args) s
  make_alike g again k args begins s ys h =
      let c = s.facilities.calendar in
      let p : ProcId = record { 0 = (next_event c).0 } in
      let target = next_event (make kind.Process c) in
      let x : ProcessOf B = record { id = p; body = g.start k args p; target = target } in
      let y : ProcessOf C = record { id = p; body = again k args p; target = target } in
      record {
        processes = ys ++ y ∷ [];
        alike = one_more x y (record { id = refl; target = refl; body = begins p }) s.processes ys h;
        is = refl;
      }
