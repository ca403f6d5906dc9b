-- Each unit and each step of the opening keeps a state lawful.
use Rattle.std.proofs.Common.{◌≡◌, ℕ, ℤ, pos, ◌&&◌, not, List, [], ◌∷◌, length, Some}
use Rattle.std.specs.Prelude.{IsTrue, nat_lt, nat_le, ◌==◌}
use Rattle.std.specs.List.{list_all}
use Rattle.sim_types.specs.declared.event.EventId.{EventId}
use Rattle.sim_types.specs.declared.event.ProcId.{ProcId}
use Rattle.sim_types.specs.declared.event.Outcome.{Outcome}
use Rattle.sim_types.specs.declared.event.Signal.{Signal}
use Rattle.sim_types.specs.declared.event.Entry.{Entry}
use Rattle.sim_types.specs.declared.event.Callback.{Callback}
use Rattle.sim_types.specs.declared.event.Callback.TheVariants as callback
use Rattle.sim_types.specs.declared.setup.Until.{Until}
use Rattle.sim_machine.specs.State.{ProcessOf, Idle, Calling, Active, State, Plan}
use Rattle.sim_machine.specs.Events.{is_pending, is_processed, next_event}
use Rattle.sim_machine.specs.Agenda.{due}
use Rattle.sim_machine.specs.Scopes.{on_events}
use Rattle.sim_machine.specs.Processes.{process_at, with_body, rest, make_process, end_process}
use Rattle.sim_machine.specs.Effect.{calendar}
use Rattle.sim_machine.specs.Steps.{pop_entry, resume, call, settle}
use Rattle.sim_machine.specs.Runs.{blank_state, set_stop}
use Rattle.sim_machine.specs.Tellings.{Telling, CodeFacts}
use Rattle.sim_machine.specs.BodyLaw.{IsLawfulStart, may_begin, scopes_told}
use Rattle.sim_machine.specs.Setups.{FitsCode, until_fits}
use Rattle.sim_machine.specs.LawfulBodies.{place_fits}
use Rattle.sim_machine_law.proofs.KeptParts.KeptBodiesUnits.{bodies-blank, bodies-made_process_placed, bodies-polled_end, bodies-popped, bodies-resumed, bodies-set_stop, bodies-settled, bodies-stopped}
use Rattle.sim_machine_law.proofs.KeptParts.KeptCapacities.{capacities-blank, capacities-made_process, capacities-polled_end, capacities-popped, capacities-resumed, capacities-set_stop, capacities-settled, capacities-stopped}
use Rattle.sim_machine_law.proofs.KeptParts.KeptChains.{chains-blank, chains-made_process, chains-polled_end, chains-popped, chains-resumed, chains-set_stop, chains-settled, chains-stopped}
use Rattle.sim_lawful.proofs.KeptParts.KeptConditionsUnits.{conditions-blank, conditions-made_process, conditions-polled_end, conditions-popped, conditions-resumed, conditions-set_stop, conditions-settled, conditions-stopped}
use Rattle.sim_machine_law.proofs.KeptParts.KeptInterruptions.{interruptions-popped, interruptions-resumed, interruptions-settled, interruptions-stopped}
use Rattle.sim_lawful.proofs.KeptParts.KeptInterruptionsPolls.{interruptions-polled_end}
use Rattle.sim_lawful.proofs.KeptParts.KeptInterruptionsStart.{interruptions-blank, interruptions-made_process, interruptions-set_stop}
use Rattle.sim_machine_law.proofs.KeptParts.KeptProcesses.{processes-popped, processes-resumed, processes-settled, processes-stopped}
use Rattle.sim_lawful.proofs.KeptParts.KeptProcessesPolls.{processes-polled_end}
use Rattle.sim_lawful.proofs.KeptParts.KeptProcessesStart.{processes-blank, processes-made_process, processes-set_stop}
use Rattle.sim_machine_law.proofs.KeptParts.KeptRegistrations.{registrations-blank, registrations-made_process, registrations-polled_end, registrations-popped, registrations-resumed, registrations-set_stop, registrations-settled, registrations-stopped}
use Rattle.sim_machine_law.proofs.KeptParts.KeptTimes.{times-blank, times-made_process, times-polled_end, times-popped, times-resumed, times-set_stop, times-settled, times-stopped}
use Rattle.sim_machine_law.proofs.KeptParts.KeptWaitingUnits.{waiting-blank, waiting-made_process, waiting-polled_end, waiting-popped, waiting-resumed, waiting-set_stop, waiting-settled, waiting-stopped}
use Rattle.sim_machine_law.proofs.KeptParts.LawfulBasis.{AreNamedPending, LawfulBasis}

-- an entry is popped
pub lawful-popped : {B : Type 0} (g : Plan B) (tell : Telling B) (sound : B → Type 0) (s : State B) (x : Entry)
    → s.control ≡ Idle → due (calendar s).agenda ≡ Some x → LawfulBasis g tell sound s
    → LawfulBasis g tell sound (pop_entry x s)
lawful-popped g tell sound s x idle is_due h =
    record {
      times = times-popped g tell sound s x idle is_due h;
      registrations = registrations-popped g tell sound s x idle is_due h;
      processes = processes-popped g tell sound s x idle is_due h;
      interruptions = interruptions-popped g tell sound s x idle is_due h;
      waiting = waiting-popped g tell sound s x idle is_due h;
      capacities = capacities-popped g tell sound s x idle is_due h;
      conditions = conditions-popped g tell sound s x idle is_due h;
      bodies = bodies-popped g tell sound s x idle is_due h;
      chains = chains-popped g tell sound s x idle is_due h;
    }

-- a process is resumed
pub lawful-resumed : {B : Type 0} (g : Plan B) (tell : Telling B) (sound : B → Type 0) (s : State B) (e : EventId)
    (left : List Callback) (p : ProcId) → s.control ≡ Calling e (callback.Resume p ∷ left) → LawfulBasis g tell sound s
    → LawfulBasis g tell sound (resume e left p s)
lawful-resumed g tell sound s e left p calling h =
    record {
      times = times-resumed g tell sound s e left p calling h;
      registrations = registrations-resumed g tell sound s e left p calling h;
      processes = processes-resumed g tell sound s e left p calling h;
      interruptions = interruptions-resumed g tell sound s e left p calling h;
      waiting = waiting-resumed g tell sound s e left p calling h;
      capacities = capacities-resumed g tell sound s e left p calling h;
      conditions = conditions-resumed g tell sound s e left p calling h;
      bodies = bodies-resumed g tell sound s e left p calling h;
      chains = chains-resumed g tell sound s e left p calling h;
    }

-- an event stops the run
pub lawful-stopped : {B : Type 0} (g : Plan B) (tell : Telling B) (sound : B → Type 0) (s : State B) (e : EventId)
    (left : List Callback) → s.control ≡ Calling e (callback.Stop ∷ left) → LawfulBasis g tell sound s
    → LawfulBasis g tell sound (call g e callback.Stop left s)
lawful-stopped g tell sound s e left calling h =
    record {
      times = times-stopped g tell sound s e left calling h;
      registrations = registrations-stopped g tell sound s e left calling h;
      processes = processes-stopped g tell sound s e left calling h;
      interruptions = interruptions-stopped g tell sound s e left calling h;
      waiting = waiting-stopped g tell sound s e left calling h;
      capacities = capacities-stopped g tell sound s e left calling h;
      conditions = conditions-stopped g tell sound s e left calling h;
      bodies = bodies-stopped g tell sound s e left calling h;
      chains = chains-stopped g tell sound s e left calling h;
    }

-- an event is settled
pub lawful-settled : {B : Type 0} (g : Plan B) (tell : Telling B) (sound : B → Type 0) (s : State B) (e : EventId)
    → s.control ≡ Calling e [] → LawfulBasis g tell sound s → LawfulBasis g tell sound (settle e s)
lawful-settled g tell sound s e calling h =
    record {
      times = times-settled g tell sound s e calling h;
      registrations = registrations-settled g tell sound s e calling h;
      processes = processes-settled g tell sound s e calling h;
      interruptions = interruptions-settled g tell sound s e calling h;
      waiting = waiting-settled g tell sound s e calling h;
      capacities = capacities-settled g tell sound s e calling h;
      conditions = conditions-settled g tell sound s e calling h;
      bodies = bodies-settled g tell sound s e calling h;
      chains = chains-settled g tell sound s e calling h;
    }

-- the active process ends, with no scope open
pub lawful-polled_end : {B : Type 0} (g : Plan B) (tell : Telling B) (sound : B → Type 0) (s : State B) (f : CodeFacts)
    (e : EventId) (left : List Callback) (p : ProcId) (x : Signal) (y : ProcessOf B) (b : B) (o : Outcome)
    → s.control ≡ Active e left p x → process_at p s ≡ Some y → sound b → LawfulBasis g tell sound s
    → IsTrue (length (scopes_told (tell.scopes y.body) (tell.last y.body) x) == 0)
    → LawfulBasis g tell sound (rest (end_process p o (with_body p b s)))
lawful-polled_end g tell sound s f e left p x y b o active found sb h no_scopes =
    record {
      times = times-polled_end g tell sound s f e left p x y b o active found sb h no_scopes;
      registrations = registrations-polled_end g tell sound s f e left p x y b o active found sb h no_scopes;
      processes = processes-polled_end g tell sound s f e left p x y b o active found sb h no_scopes;
      interruptions = interruptions-polled_end g tell sound s f e left p x y b o active found sb h no_scopes;
      waiting = waiting-polled_end g tell sound s f e left p x y b o active found sb h no_scopes;
      capacities = capacities-polled_end g tell sound s f e left p x y b o active found sb h no_scopes;
      conditions = conditions-polled_end g tell sound s f e left p x y b o active found sb h no_scopes;
      bodies = bodies-polled_end g tell sound s f e left p x y b o active found sb h no_scopes;
      chains = chains-polled_end g tell sound s f e left p x y b o active found sb h no_scopes;
    }

-- a process is made, whose places fit as it begins
pub lawful-made_process : {B : Type 0} (g : Plan B) (tell : Telling B) (sound : B → Type 0) (s : State B) (f : CodeFacts)
    (k : ℕ) (args : List ℤ) → IsTrue (may_begin f k args)
    → IsLawfulStart f tell k args (record { 0 = (next_event (calendar s)).0 })
    (g.start k args (record { 0 = (next_event (calendar s)).0 }))
    → IsTrue (list_all (place_fits (calendar s)) (tell.places (g.start k args (record { 0 = (next_event (calendar s)).0 }))))
    → sound (g.start k args (record { 0 = (next_event (calendar s)).0 })) → LawfulBasis g tell sound s
    → LawfulBasis g tell sound (make_process g k args s)
lawful-made_process g tell sound s f k args may start placed sb h =
    record {
      times = times-made_process g tell sound s f k args may start sb h;
      registrations = registrations-made_process g tell sound s f k args may start sb h;
      processes = processes-made_process g tell sound s f k args may start sb h;
      interruptions = interruptions-made_process g tell sound s f k args may start sb h;
      waiting = waiting-made_process g tell sound s f k args may start sb h;
      capacities = capacities-made_process g tell sound s f k args may start sb h;
      conditions = conditions-made_process g tell sound s f k args may start sb h;
      bodies = bodies-made_process_placed g tell sound s f k args may start placed sb h;
      chains = chains-made_process g tell sound s f k args may start sb h;
    }

-- no process was made
pub lawful-blank : {B : Type 0} (g : Plan B) (tell : Telling B) (sound : B → Type 0) (f : CodeFacts) → FitsCode f g.setup
    → LawfulBasis g tell sound (blank_state g)
lawful-blank g tell sound f fits =
    record {
      times = times-blank g tell sound f fits;
      registrations = registrations-blank g tell sound f fits;
      processes = processes-blank g tell sound f fits;
      interruptions = interruptions-blank g tell sound f fits;
      waiting = waiting-blank g tell sound f fits;
      capacities = capacities-blank g tell sound f fits;
      conditions = conditions-blank g tell sound f fits;
      bodies = bodies-blank g tell sound f fits;
      chains = chains-blank g tell sound f fits;
    }

-- what is to stop the run is set
pub lawful-set_stop : {B : Type 0} (g : Plan B) (tell : Telling B) (sound : B → Type 0) (s : State B) (until : Until)
    → IsTrue (until_fits g.setup.events until)
    → AreNamedPending g s
    → (calendar s).time ≡ pos 0 → s.control ≡ Idle → LawfulBasis g tell sound s
    → LawfulBasis g tell sound (on_events (set_stop until) s)
lawful-set_stop g tell sound s until fits named start idle h =
    record {
      times = times-set_stop g tell sound s until fits named start idle h;
      registrations = registrations-set_stop g tell sound s until fits named start idle h;
      processes = processes-set_stop g tell sound s until fits named start idle h;
      interruptions = interruptions-set_stop g tell sound s until fits named start idle h;
      waiting = waiting-set_stop g tell sound s until fits named start idle h;
      capacities = capacities-set_stop g tell sound s until fits named start idle h;
      conditions = conditions-set_stop g tell sound s until fits named start idle h;
      bodies = bodies-set_stop g tell sound s until fits named start idle h;
      chains = chains-set_stop g tell sound s until fits named start idle h;
    }
