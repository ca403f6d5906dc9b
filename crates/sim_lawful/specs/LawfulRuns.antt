-- The words in which it is said that runs stay lawful. (Lawful states are this project's own: SimPy's documentation says
-- what happens, and not what stays true.)
use Rattle.std.specs.Prelude.{◌≡◌, ◌<◌, ◌≤ℤ◌, ℕ, ℤ, pos, List, length, All}
use Rattle.sim_types.specs.declared.event.Signal.{Signal}
use Rattle.sim_types.specs.Setups.{HavePorts}
use Rattle.sim_types.specs.declared.setup.Arrival.{Arrival}
use Rattle.sim_types.specs.declared.setup.Resource.{Resource}
use Rattle.sim_machine.specs.State.{Deed, State, Plan}
use Rattle.sim_machine.specs.Users.{resource_at, users, items}
use Rattle.sim_machine.specs.Trying.{level}
use Rattle.sim_machine.specs.Steps.{Turn, TurnFunction, IsStep}
use Rattle.sim_machine.specs.Units.{Course, inject}
use Rattle.sim_machine.specs.Runs.{opening}
use Rattle.sim_machine.specs.Setups.{FitsCode}
use Rattle.sim_machine.specs.Bodies.{BodyOf, start_of}
use Rattle.sim_machine.specs.Lawful.{Lawful}
use Rattle.sim_machine_law.specs.Courses.{Run, state_after}

-- a lawful state for bodies of this kind that share this code
abbrev pub LawfulAt : {B Code : Type 0} → BodyOf B Code → Code → Plan B → State B → Type 0
LawfulAt body code g s = Lawful g (body.tell code) (body.sound code) s

-- a plan begins processes as these bodies begin, and its setup is for their code
pub record IsPlanOf {B Code : Type 0} (body : BodyOf B Code) (code : Code) (g : Plan B) : Type 0 where
  pub starts : g.start ≡ start_of body code
  pub fits : FitsCode (body.facts code) g.setup

-- the opening state is lawful
abbrev pub OpensLawful : {B Code : Type 0} → BodyOf B Code → Code → Plan B → Type 0
OpensLawful body code g = LawfulAt body code g (opening g)

-- each step from a lawful state leads to one
abbrev pub StepsLawful : {B Code : Type 0} → BodyOf B Code → Code → Plan B → Type 0
StepsLawful body code g = (s t : State _) → LawfulAt body code g s → IsStep g (body.turn code) s t → LawfulAt body code g t

-- and so does each arrival that comes in by a port that there is
abbrev pub ArrivesLawful : {B Code : Type 0} → BodyOf B Code → Code → Plan B → Type 0
ArrivesLawful body code g =
    (m : Course _) (a : Arrival) → a.port < length g.setup.ports → LawfulAt body code g m.state → LawfulAt body code g (inject g a m).state

-- what a turn function does is among what the relation allows
abbrev pub IsAmong : {B : Type 0} → TurnFunction B → Turn B → Type 0
IsAmong does turn = (b : _) (time : ℤ) (told : Signal) → turn b time told (does b time told).0 (does b time told).1

-- a run of such a plan, whose turns are among those of the bodies, and whose arrivals come in by ports that there are
pub record IsRunOf {B Code : Type 0} (body : BodyOf B Code) (code : Code) (r : Run B) : Type 0 where
  pub plan : IsPlanOf body code r.plan
  pub turns : IsAmong r.turn (body.turn code)
  pub ports : HavePorts r.plan.setup r.journal

-- each state that the run comes to is lawful
abbrev pub StaysLawful : {B Code : Type 0} → BodyOf B Code → Code → Run B → Type 0
StaysLawful body code r = (n : ℕ) → LawfulAt body code r.plan (state_after r n)

-- the resources of a run
abbrev pub resources_of : {B : Type 0} → Run B → List Resource
resources_of r = r.plan.setup.resources

-- the capacity of the resource of this place
abbrev pub capacity_of : {B : Type 0} → Run B → ℕ → ℤ
capacity_of r res = (resource_at (resources_of r) res).capacity

-- what was done at its resources, after so many units
abbrev pub ledger_after : {B : Type 0} → Run B → ℕ → List Deed
ledger_after r n = (state_after r n).facilities.ledger

-- what the container of this place holds after so many units
abbrev pub level_after_units : {B : Type 0} → Run B → ℕ → ℕ → ℤ
level_after_units r n res = level (resources_of r) res (state_after r n).facilities

-- no resource ever has more users than its capacity
abbrev pub UsersFit : {B : Type 0} → Run B → Type 0
UsersFit r = (n res : ℕ) → res < length (resources_of r) → pos (length (users res (ledger_after r n))) ≤ℤ capacity_of r res

-- no container ever holds less than nothing
abbrev pub LevelsFromZero : {B : Type 0} → Run B → Type 0
LevelsFromZero r = (n res : ℕ) → res < length (resources_of r) → pos 0 ≤ℤ level_after_units r n res

-- or more than its capacity
abbrev pub LevelsFit : {B : Type 0} → Run B → Type 0
LevelsFit r = (n res : ℕ) → res < length (resources_of r) → level_after_units r n res ≤ℤ capacity_of r res

-- no store ever has more items than its capacity
abbrev pub ItemsFit : {B : Type 0} → Run B → Type 0
ItemsFit r = (n res : ℕ) → res < length (resources_of r) → pos (length (items res (ledger_after r n))) ≤ℤ capacity_of r res
