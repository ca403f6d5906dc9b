-- Which states of the machine a kernel stands for, and what it means that it makes a unit of the machine.
use Rattle.std.specs.Prelude.{◌≡◌, List, [], ◌∷◌, map, filter, All}
use Rattle.std.specs.List.Sorted.{IsPermutation}
use Rattle.sim_types.specs.declared.event.EventId.{EventId}
use Rattle.sim_types.specs.declared.event.ProcId.{ProcId}
use Rattle.sim_types.specs.declared.event.Scope.{Scope}
use Rattle.sim_types.specs.declared.line.Line.{Line}
use Rattle.sim_machine.specs.State.{ProcessOf, State}
use Rattle.sim_machine.specs.Events.{is_process}
use Rattle.sim_machine.specs.RandomWords.{generator_of, generator_after}
use Rattle.sim_machine.specs.Bodies.{BodyOf}
use Rattle.sim_machine.specs.Steps.{IsStep}
use Rattle.sim_machine.specs.Runs.{opening}
use Rattle.sim_machine.specs.Lawful.{Lawful}
use Rattle.sim_procs.specs.RecordOf.{RecordOf}
use Rattle.sim_shared_model.specs.ShowsAll.{ShowsAll}
use Rattle.sim_happen_model.specs.Naming.{held_alone}
use Rattle.sim_happen_model.specs.Accounts.{AreGoneClosed, Balanced}
use Rattle.sim_steps_model.specs.PartsOf.{PartsOf, plan_of}
use Rattle.sim_steps_model.specs.declared.mode.Unit.{Unit}
use Rattle.sim_steps_model.specs.declared.mode.Unit.TheVariants as unit

-- a live process of the machine, as its record tells it
abbrev pub process_of : {B : Type 0} → RecordOf B → ProcessOf B
process_of r = record { id = r.id; body = r.body; target = r.target }

-- the open scopes of a process, the outermost first
abbrev pub scopes_of : {B : Type 0} → ProcId → State B → List Scope
scopes_of p s =
    map (λ x. record { request = x.request; res = x.res })
    (filter (λ x. is_process x.process p) s.scopes)

-- the kernel stands for the state: time, what happens in it and the resources show its facilities, so that each event that
-- is kept is there with its callbacks, and the queues, users, levels and items are those of the state; the processes are,
-- in any order, the scopes are those of the records, and the generator is that of the seed after the words drawn; the
-- lines, which no kernel keeps, are not compared
pub record StandsFor {B Code : Type 0} (parts : PartsOf B Code) (s : State B) : Type 0 where
  pub facilities : ShowsAll parts.shared s.facilities
  pub processed : parts.processed ≡ s.processed
  pub generator : parts.generator ≡ generator_after s.drawn (generator_of parts.seed)
  pub processes : IsPermutation s.processes (map process_of parts.live)
  pub scopes : All (λ r. r.scopes ≡ scopes_of r.id s) parts.live
  pub control : parts.control ≡ s.control

-- the accounts of holders balance for the state, where a holder of each of these events is still to be given back; and what
-- is kept no more is closed
pub record Balances {B Code : Type 0}
    (body : BodyOf B Code) (todo : List EventId) (parts : PartsOf B Code) (s : State B) : Type 0 where
  pub holders : Balanced (held_alone parts.setup.events (body.tell parts.code) s) todo parts.shared.happen.events
  pub gone : AreGoneClosed parts.shared.happen.events s.facilities.calendar

-- a lawful state of the machine that the kernel was opened with, for bodies of this kind
abbrev pub LawfulOf : {B Code : Type 0} → BodyOf B Code → PartsOf B Code → State B → Type 0
LawfulOf body parts s = Lawful (plan_of body parts) (body.tell parts.code) (body.sound parts.code) s

-- a step of that machine
abbrev pub StepOf : {B Code : Type 0} → BodyOf B Code → PartsOf B Code → State B → State B → Type 0
StepOf body parts = IsStep (plan_of body parts) (body.turn parts.code)

-- the kernel stands for some lawful state, for which its accounts balance with nothing to give back
pub record StandsForSome {B Code : Type 0}
    (body : BodyOf B Code) (parts : PartsOf B Code) : Type 0 where
  pub state : State B
  pub lawful : LawfulOf body parts state
  pub stands : StandsFor parts state
  pub balances : Balances body [] parts state

-- the kernel stands for the opening state of its machine
abbrev pub StandsForOpening : {B Code : Type 0} → BodyOf B Code → PartsOf B Code → Type 0
StandsForOpening body parts = StandsFor parts (opening (plan_of body parts))

-- and that state is lawful
abbrev pub IsLawfulOpening : {B Code : Type 0} → BodyOf B Code → PartsOf B Code → Type 0
IsLawfulOpening body parts = LawfulOf body parts (opening (plan_of body parts))

-- the lines that the answer of a unit tells
abbrev pub lines_of : Unit → List Line
lines_of unit.Quiet = []
lines_of (unit.Line line) = line ∷ []
