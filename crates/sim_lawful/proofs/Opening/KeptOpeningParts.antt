-- The start that comes next in a loop over them, and a process that an arrival starts.
use Rattle.std.proofs.Common.{List, ◌++◌, ℕ, ◌<◌, ℤ, [], ◌∷◌, length}
use Rattle.std.specs.Prelude.{IsTrue, slice_index_or}
use Rattle.sim_types.specs.declared.event.ProcId.{ProcId}
use Rattle.sim_types.specs.declared.event.Signal.{Signal}
use Rattle.sim_types.specs.declared.line.Line.{Line}
use Rattle.sim_types.specs.declared.line.Line.TheVariants as line
use Rattle.sim_types.specs.declared.op.Op.{Op}
use Rattle.sim_machine.specs.State.{State, Plan}
use Rattle.sim_machine.specs.Events.{next_event}
use Rattle.sim_machine.specs.Processes.{make_process}
use Rattle.sim_machine.specs.Effect.{calendar}
use Rattle.sim_machine.specs.Units.{arrive}
use Rattle.sim_machine.specs.Tellings.{Telling, CodeFacts}
use Rattle.sim_machine.specs.BodyLaw.{IsLawfulBody, may_begin}
use Rattle.sim_machine.specs.Setups.{FitsCode}
use Rattle.sim_lawful.proofs.Opening.OpeningLaws.{port_fits_starts}
use Rattle.sim_lawful.proofs.Opening.StartedPlaces.{port_placed}
use Rattle.sim_lawful.proofs.KeptParts.KeptLawful.{lawful-made_process}
use Rattle.sim_machine_law.proofs.KeptParts.LawfulBasis.{LawfulBasis}

-- what is drawn and what is written change nothing else
pub lawful_noted : {B : Type 0} (g : Plan B) (tell : Telling B) (sound : B → Type 0) (s : State B) (drawn : ℕ)
    (lines : List Line) → LawfulBasis g tell sound s → LawfulBasis g tell sound (record s { drawn = drawn; lines = lines })
lawful_noted g tell sound s drawn lines h =
    record {
      times = h.times;
      registrations = h.registrations;
      processes = record {
        distinct = h.processes.distinct;
        active = h.processes.active;
        waiting = h.processes.waiting;
        not_resumed = h.processes.not_resumed;
        living = h.processes.living;
        named_made = h.processes.named_made;
        named_plain = h.processes.named_plain;
        zero_processed = h.processes.zero_processed;
        zero_ok = h.processes.zero_ok;
      };
      interruptions = record {
        registered = h.interruptions.registered;
        calling = h.interruptions.calling;
        failed = h.interruptions.failed;
        targets = h.interruptions.targets;
        members = h.interruptions.members;
      };
      waiting = record {
        waiters = h.waiting.waiters;
        once = h.waiting.once;
        requests = h.waiting.requests;
        using = h.waiting.using;
        scopes = h.waiting.scopes;
        bodies = h.waiting.bodies;
      };
      capacities = h.capacities;
      conditions = h.conditions;
      bodies = record { bodies = h.bodies.bodies; own = h.bodies.own; places = h.bodies.places; told = h.bodies.told };
      chains = h.chains;
    }

-- a value comes in by a port
pub lawful-arrived : {B : Type 0} (f : CodeFacts) (tell : Telling B) (sound : B → Type 0) (g : Plan B)
    (turn : B → ℤ → Signal → Op → B → Type 0) (s : State B) (port : ℕ) (value : ℤ) → IsLawfulBody f tell sound g.start turn
    → FitsCode f g.setup → port < length g.setup.ports → LawfulBasis g tell sound s
    → LawfulBasis g tell sound (arrive g port value s)
lawful-arrived {B} f tell sound g turn s port value law fits below h =
    let k : ℕ = slice_index_or g.setup.ports port 0 in
    let p : ProcId = record { 0 = (next_event (calendar s)).0 } in
    let may : IsTrue (may_begin f k (value ∷ [])) = port_fits_starts f k value (fits.ports port 0 below) in
    let begun = law.starts k (value ∷ []) p may in
    let made : LawfulBasis g tell sound (make_process g k (value ∷ []) s) = lawful-made_process g tell sound s f k (value ∷ []) may begun (port_placed f tell (calendar s) k value p (g.start k (value ∷ []) p) (fits.ports port 0 below) begun) (law.begins k (value ∷ []) p may) h in
    lawful_noted g tell sound (make_process g k (value ∷ []) s) s.drawn (s.lines ++ line.Arrive s.processed value port ∷ []) made
