-- What holds of every kernel holds of one that was opened.
use Rattle.std.proofs.Common.{◌≡◌, ◌+◌, ◌*◌, ◌≤◌, List, [], ◌∷◌, length, refl, arith}
use Rattle.std.specs.Prelude.{fold}
use Rattle.sim_types.specs.declared.setup.Start.{Start}
use Rattle.sim_machine.specs.State.{Plan, State}
use Rattle.sim_machine.specs.Bodies.{BodyOf}
use Rattle.sim_machine.specs.Runs.{blank_state, start_process, opening}
use Rattle.sim_machine.specs.Setups.{FitsCode}
use Rattle.sim_lawful.proofs.Units.WholeSteps.{lawful_opening}
use Rattle.sim_happen_model.specs.HappenOf.{held}
use Rattle.sim_steps_model.specs.PartsOf.{PartsOf, plan_of}
use Rattle.sim_steps_model.specs.StandsFor.{LawfulOf}
use Rattle.sim_steps_model.specs.Becoming.{most_held}
use Rattle.sim_steps_model.specs.Opening.{most_begun}
use Rattle.sim_kernel.specs.Holding.{Holds, most_opened}
use Rattle.sim_kernel.specs.Opening.{with_starts}
use Rattle.sim_steps_law.proofs.Kernels.Keeping.{few_weaker}
use Rattle.sim_steps_law.proofs.Kernels.Running.{KeepsLaw}
use Rattle.sim_kernel.proofs.StartingAll.{events_of_starts}
use Rattle.sim_kernel.proofs.Stopping.{IsOpened, stop_events}

-- the opening state is lawful
pub opens_lawfully : {B Code : Type 0} (body : BodyOf B Code) (parts : PartsOf B Code) → KeepsLaw body parts.code →
    FitsCode (body.facts parts.code) parts.setup → LawfulOf body parts (opening (plan_of body parts))
opens_lawfully body parts law fits = lawful_opening (plan_of body parts) (body.tell parts.code) (body.sound parts.code) (body.turn parts.code) (body.facts parts.code) fits law

-- the starts process nothing
processed_from : {B : Type 0} (g : Plan B) (s : State B) (xs : List Start) → (fold (start_process g) s xs).processed ≡ s.processed
processed_from g s [] = refl
processed_from g s (x ∷ xs) = processed_from g (start_process g s x) xs

opening_events : {B Code : Type 0} (body : BodyOf B Code) (parts : PartsOf B Code) → FitsCode (body.facts parts.code) parts.setup →
    length (opening (plan_of body parts)).facilities.calendar.events ≤ most_opened
opening_events {B} body parts fits =
    let g : Plan B = plan_of body parts in
    let s : State B = with_starts g g.setup.starts in
    omega (arith, stop_events g.setup.until s.facilities.calendar, events_of_starts g g.setup.starts, fits.few_events, fits.few_starts)

pub opening_holds : {B Code : Type 0} (body : BodyOf B Code) (new : PartsOf B Code) → KeepsLaw body new.code → FitsCode (body.facts new.code) new.setup →
    new.shared.setup ≡ new.setup.resources → IsOpened body new → Holds body 0 new
opening_holds {B} body new law fits resources h =
    let g : Plan B = plan_of body new in
    let few = opening_events body new fits in
    record {
      fits = fits;
      resources = resources;
      state = opening g;
      lawful = opens_lawfully body new law fits;
      stands = h.stands;
      balances = h.balances;
      bounded = record { events = omega (arith, few, h.stands.facilities.calendar.made); processed = omega (arith, h.stands.processed, processed_from g (blank_state g) g.setup.starts) };
      few = few_weaker (1 + most_begun * length new.setup.starts) (most_held * (0 + most_opened)) (held new.shared.happen) (omega (arith, fits.few_starts)) h.few;
    }
