-- How many hold an event, but for the conditions that have it as a member: who names it in the machine's state, and who
-- passes an outcome on to it.
use Rattle.std.specs.Prelude.{◌==◌, not, ℕ, ◌+◌, List, [], ◌∷◌, map, filter, nat_le, count_by, if◌then◌else◌}
use Rattle.std.specs.List.{sum_by}
use Rattle.sim_types.specs.declared.event.EventId.{EventId}
use Rattle.sim_types.specs.declared.event.Callback.{Callback}
use Rattle.sim_types.specs.declared.event.Callback.TheVariants as callback
use Rattle.sim_types.specs.declared.setup.Class.TheVariants as class
use Rattle.sim_machine.specs.State.{ProcessOf, State}
use Rattle.sim_machine.specs.Events.{is_same}
use Rattle.sim_machine.specs.Standing.{one_if, callbacks_in_all}
use Rattle.sim_machine.specs.KeptEvents.{is_in_process, triggers}
use Rattle.sim_machine.specs.Tellings.{Telling, is_class}

-- the events that a body names in its places; in a place for a number no event stands
abbrev pub named_in_places : {B : Type 0} → Telling B → B → List EventId
named_in_places tell b = map (λ y. y.event) (filter (λ y. not (is_class y.class class.Number)) (tell.places b))

-- the events that a live process names: the one that it waits for, or waited for last, and those in its places
abbrev pub named_by_process : {B : Type 0} → Telling B → ProcessOf B → List EventId
named_by_process tell x = x.target ∷ named_in_places tell x.body

-- how often a live process names e
abbrev pub held_by_process : {B : Type 0} → Telling B → EventId → ProcessOf B → ℕ
held_by_process tell e x = count_by (is_same e) (named_by_process tell x)

-- the event that a callback passes an outcome on to, if it does so
abbrev pub triggered_by : Callback → List EventId
triggered_by (callback.Trigger y) = y ∷ []
triggered_by _ = []

-- how often e is named: once for good, where the setup names it; where it is being processed; by each live process that
-- waits for it or has it in a place; and by each scope that is open for it
abbrev pub times_named : {B : Type 0} → ℕ → Telling B → State B → EventId → ℕ
times_named named tell s e =
    one_if (nat_le e.0 named)
    + one_if (is_in_process s.control e)
    + sum_by (held_by_process tell e) s.processes
    + count_by (λ x. is_same e x.request) s.scopes

-- how many hold e, but for conditions: it is named so often, and each callback that is to pass an outcome on to it holds it.
-- Event 0 stands for none: it is held once for good, and nobody holds it by naming it
abbrev pub held_alone : {B : Type 0} → ℕ → Telling B → State B → EventId → ℕ
held_alone named tell s e =
    (if e.0 == 0 then 1 else times_named named tell s e) + callbacks_in_all (triggers e) s.facilities.calendar s.control

-- those of these events that are held by being named: all but event 0
abbrev pub but_zero : List EventId → List EventId
but_zero es = filter (λ e. not (e.0 == 0)) es
