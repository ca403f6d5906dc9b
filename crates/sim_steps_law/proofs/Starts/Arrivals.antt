-- A process that is made where something arrives is the one that the machine makes.
use Rattle.std.proofs.Common.{◌≡◌, ℕ, ◌<◌, ℤ, true, List, [], ◌∷◌, length, refl, sym, subst}
use Rattle.std.specs.Prelude.{All, IsTrue, slice_index_or}
use Rattle.std.proofs.lemmas.Bool.{and_parts, false≢true}
use Rattle.std.proofs.lemmas.List.Elements.{All-nil}
use Rattle.sim_types.specs.declared.event.EventId.{EventId}
use Rattle.sim_types.specs.declared.line.Line.TheVariants as line
use Rattle.sim_types.specs.declared.setup.Class.{Class}
use Rattle.sim_types.specs.declared.setup.Class.TheVariants as class
use Rattle.sim_machine.specs.State.{State}
use Rattle.sim_machine.specs.Bodies.{BodyOf}
use Rattle.sim_machine.specs.Processes.{make_process, write_line}
use Rattle.sim_machine.specs.Setups.{FitsCode, port_fits, takes_one_number}
use Rattle.sim_machine.specs.Tellings.{CodeFacts}
use Rattle.sim_machine.specs.Units.{arrive}
use Rattle.sim_machine_law.specs.NamedEvents.{arguments_name}
use Rattle.sim_happen_model.specs.TableOf.{IsKept}
use Rattle.sim_steps_model.specs.PartsOf.{PartsOf, plan_of}
use Rattle.sim_steps_model.specs.StandsFor.{StandsForSome}
use Rattle.sim_steps_model.specs.Becoming.{BecomesWith}
use Rattle.sim_steps_model.specs.Opening.{AreArgumentsKept, most_begun}
use Rattle.sim_steps_law.proofs.Kernels.Becoming.{becomes_then, becomes_written, lawful_stands}
use Rattle.sim_steps_law.proofs.Holders.CountedHolders.{owing_zero}

-- ---- what is known where something arrives

number_names_none : (cs : List Class) (v : ℤ) → takes_one_number cs ≡ true → arguments_name cs (v ∷ []) ≡ []
number_names_none [] v h = refl
number_names_none (class.Number ∷ []) v h = refl
number_names_none (c ∷ []) v h = absurd (false≢true h)
number_names_none (c ∷ d ∷ cs) v h = absurd (false≢true h)

-- it names no event
pub port_kept : {B Code : Type 0} (f : CodeFacts) (parts : PartsOf B Code) (port : ℕ) (value : ℤ) → FitsCode f parts.setup →
    port < length parts.setup.ports →
    IsKept parts.shared.happen.events (record { 0 = 0 }) →
    AreArgumentsKept f (slice_index_or parts.setup.ports port 0) (value ∷ []) parts.shared.happen.events
port_kept f parts port value fits below zero =
    let k = slice_index_or parts.setup.ports port 0 in
    let here : IsTrue (port_fits f k) = fits.ports port 0 below in
    let P : EventId → Type 0 = IsKept parts.shared.happen.events in
    record {
      zero = zero;
      named = subst (λ (es : List EventId). All P es)
          (sym (number_names_none (slice_index_or f.params k []) value (and_parts _ _ here).1)) (All-nil P);
    }

-- event 0 is kept
pub zero_kept : {B Code : Type 0} (body : BodyOf B Code) (parts : PartsOf B Code) → StandsForSome body parts →
    IsKept parts.shared.happen.events (record { 0 = 0 })
zero_kept body parts h =
    owing_zero [] parts (record { state = h.state; stands = lawful_stands body parts h.state h.lawful h.stands; others = []; balances = h.balances })

-- ---- what becomes of the kernel

pub arrived_becomes : {B Code : Type 0} (body : BodyOf B Code) (old new : PartsOf B Code) (port : ℕ) (value : ℤ) →
    BecomesWith body most_begun (make_process (plan_of body old) (slice_index_or old.setup.ports port 0) (value ∷ [])) old new →
    BecomesWith body most_begun (arrive (plan_of body old) port value) old new
arrived_becomes {B} body old new port value begins =
    let k = slice_index_or old.setup.ports port 0 in
    let makes : State B → State B = make_process (plan_of body old) k (value ∷ []) in
    let writes : State B → State B = λ s. write_line (line.Arrive s.processed value port) s in
    becomes_then makes writes old new new begins (becomes_written (λ s. line.Arrive s.processed value port) new)
