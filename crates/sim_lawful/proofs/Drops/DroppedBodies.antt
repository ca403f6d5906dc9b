-- A process drops another: the bodies of those that stay alive are sound, hold what fits, and are told what fits.
use Rattle.std.proofs.Common.{◌≡◌, ℤ, pos, Bool, true, List, filter, refl, sym, ap, ◌∙◌}
use Rattle.std.proofs.lemmas.List.Elements.{All-filter, All-same, All-weaker}
use Rattle.sim_types.specs.declared.event.EventId.{EventId}
use Rattle.sim_types.specs.declared.event.ProcId.{ProcId}
use Rattle.sim_types.specs.declared.event.Signal.{Signal}
use Rattle.sim_types.specs.declared.event.Callback.{Callback}
use Rattle.sim_types.specs.declared.event.Outcome.TheVariants as outcome
use Rattle.sim_machine.specs.State.{Calendar, ProcessOf, Control, Active, State, Plan}
use Rattle.sim_machine.specs.Events.{unregister, is_resume_of}
use Rattle.sim_machine.specs.Triggering.{normal, trigger}
use Rattle.sim_machine.specs.Processes.{event_of, process_at, target_of, drop_process}
use Rattle.sim_machine.specs.Effect.{calendar}
use Rattle.sim_machine.specs.Tellings.{Telling}
use Rattle.sim_machine.specs.LawfulBodies.{LawfulBodies, is_told_well}
use Rattle.sim_machine_law.proofs.KeptParts.KeptBodies.{IsBodyWell, bodies_lawful, bodies_well}
use Rattle.sim_machine_law.proofs.KeptParts.KeptRegistrationsCalendar.{Calm, calm_scheduled, calm_self, calm_then}
use Rattle.sim_lawful.proofs.Facilities.ChangedFacilities.{places_later, told_calm}
use Rattle.sim_lawful.proofs.Drops.DroppedProcess.{MayDrop, IsScopeless, scopeless, scopeless_state}
use Rattle.sim_machine_law.proofs.Processes.EndedProcesses.{is_other}
use Rattle.sim_machine_law.proofs.KeptParts.LawfulBasis.{LawfulBasis}

pub bodies_dropped : {B : Type 0} (g : Plan B) (tell : Telling B) (sound : B → Type 0) (s : State B) (e : EventId)
    (left : List Callback) (p : ProcId) (x : Signal) (q : ProcId) (value : ℤ) → MayDrop s e left p x q
    → LawfulBasis g tell sound s → LawfulBodies tell sound (drop_process q value s)
bodies_dropped {B} g tell sound s e left p x q value may h =
    let k : IsScopeless s e left p x q = scopeless g.setup.events s e left p x q may h.processes in
    let c : Calendar = calendar s in
    let a : Calendar = unregister (target_of q (process_at q s)) (is_resume_of q) c in
    let b : Calendar = calendar (scopeless_state q s) in
    let d : Calendar = trigger (event_of q) (outcome.Ok value) b in
    let t : State B = drop_process q value s in
    let calm : Calm c d = calm_then c a d (calm_self c a refl) (calm_then a b d k.leaves.proceeds.calm (calm_scheduled (event_of q) (outcome.Ok value) normal (pos 0) b)) in
    let P : ProcessOf B → Type 0 = IsBodyWell tell sound c s.control in
    let Q : ProcessOf B → Type 0 = IsBodyWell tell sound d t.control in
    let stays : (z : ProcessOf B) → P z → Q z = λ z w.
    let before : is_told_well tell c z.id z.body (Active e left p x) ≡ true = ap (λ (j : Control). is_told_well tell c z.id z.body j) (sym may.active) ∙ w.told in
    record {
      body = w.body;
      own = w.own;
      places = places_later c d calm.later (tell.places z.body) w.places;
      told = ap (λ (j : Control). is_told_well tell d z.id z.body j) k.control ∙ told_calm tell c d z.id z.body (Active e left p x) calm before;
    } in
    let each : ProcessOf B → Bool = is_other q in
    bodies_lawful tell sound t (All-same Q t.processes (filter each s.processes) (ap (λ (ys : List (ProcessOf B)). filter each ys) k.leaves.processes)
    (All-filter each Q s.processes (All-weaker P Q stays s.processes (bodies_well tell sound s h.bodies))))
