-- Lawful bodies: they are sound, know their numbers, hold events of their classes, and are told what fits.
use Rattle.std.specs.Prelude.{Bool, ◌≡◌, ◌==◌, ◌||◌, ◌&&◌, not, true, Some, None, if◌then◌else◌, All}
use Rattle.std.specs.List.{list_all, AllPass}
use Rattle.sim_types.specs.declared.event.ProcId.{ProcId}
use Rattle.sim_types.specs.declared.event.Signal.{Signal}
use Rattle.sim_types.specs.declared.event.Signal.TheVariants as signal
use Rattle.sim_machine.specs.State.{Calendar, Control, Active, State}
use Rattle.sim_machine.specs.Events.{is_process, is_processed}
use Rattle.sim_machine.specs.Processes.{tell}
use Rattle.sim_machine.specs.Tellings.{Place, Telling, kind_fits}
use Rattle.sim_machine.specs.MayFollow.{may_wait, may_be_told, makes_kind}
use Rattle.sim_machine.specs.Standing.{was_made, kind_at}

-- whether a place holds event 0, or an event that was made and is of its class
abbrev pub place_fits : Calendar → Place → Bool
place_fits c x = (x.event.0 == 0) || was_made c x.event && kind_fits x.class (kind_at c x.event)

-- whether the body asked last for something to wait for, or was never polled
abbrev pub waits_or_new : {B : Type 0} → Telling B → B → Bool
waits_or_new tell b = elim (tell.last b) [ None ↦ true | Some asked ↦ may_wait asked ]

-- whether what the active process is told fits what it asked for last, and what was made is of the kind asked for and
-- not yet processed
abbrev pub told_fits : {B : Type 0} → Telling B → Calendar → B → Signal → Bool
told_fits tell c b (signal.Made e) =
    may_be_told (tell.last b) (signal.Made e) && was_made c e && not (is_processed c e) && makes_kind (tell.last b) (kind_at c e)
told_fits tell c b x = may_be_told (tell.last b) x

-- whether a process is told what fits, if it is active, and else waits
abbrev pub is_told_well : {B : Type 0} → Telling B → Calendar → ProcId → B → Control → Bool
is_told_well tell c p b (Active e left q x) = if is_process q p then told_fits tell c b x else waits_or_new tell b
is_told_well tell c p b _ = waits_or_new tell b

-- live processes: their bodies are sound, their bodies know their numbers, their places hold events of their classes,
-- and they wait unless they are active
pub record LawfulBodies {B : Type 0} (tell : Telling B) (sound : B → Type 0) (s : State B) : Type 0 where
  pub bodies : All (λ x. sound x.body) s.processes
  pub own : All (λ x. tell.own x.body ≡ x.id) s.processes
  pub places : AllPass (λ x. list_all (place_fits s.facilities.calendar) (tell.places x.body)) s.processes
  pub told : AllPass (λ x. is_told_well tell s.facilities.calendar x.id x.body s.control) s.processes
