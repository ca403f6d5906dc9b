-- How a walk ends is how the run ends at the course where it stands.
use Rattle.std.proofs.Common.{◌≡◌, List, [], ◌∷◌, Some, None, refl}
use Rattle.std.specs.Prelude.{unwrap_or}
use Rattle.sim_types.specs.declared.line.End.TheVariants as end
use Rattle.sim_types.specs.declared.setup.Arrival.{Arrival}
use Rattle.sim_machine.specs.State.{Plan}
use Rattle.sim_machine.specs.Bodies.{BodyOf}
use Rattle.sim_machine.specs.Effect.{calendar}
use Rattle.sim_machine.specs.Runs.{end_of, end_word}
use Rattle.sim_machine.specs.Units.{Course}
use Rattle.sim_steps_model.specs.PartsOf.{PartsOf, plan_of}
use Rattle.sim_steps_model.specs.Resting.{rest_in}
use Rattle.sim_steps_model.specs.declared.mode.Rest.{Rest}
use Rattle.sim_steps_model.specs.declared.mode.Rest.TheVariants as rest
use Rattle.sim_kernel.specs.Walks.{WalkOf, StandsAt}
use Rattle.sim_kernel.specs.Walking.{end_at, end_in}
use Rattle.sim_kernel.proofs.RestingMachines.{stands_idle, stands_empty, waits_on, goes_on_idle, over_end, busy_end, empty_has_ended}

module _ {B Code : Type 0} (body : BodyOf B Code) (w : WalkOf B Code) (m : Course B) (h : StandsAt body w m) where
  abbrev parts : PartsOf B Code
  parts = w.kernel.parts

  abbrev g : Plan B
  g = plan_of body parts

  by : (r : Rest) (left : List Arrival) → rest_in parts ≡ r → m.left ≡ left → end_at r parts.setup.until left ≡ unwrap_or (end_of g m) end.Limit
  by rest.Busy left is same =
      let on : end_of g m ≡ None = rw (← h.stands.control) (busy_end g parts.control parts.shared.happen.agenda (calendar m.state).agenda m.left is) in
      rw on refl
  by rest.Idle left is same =
      let idle = stands_idle parts m.state h.stands is in
      let on : end_of g m ≡ None = goes_on_idle g m.state m.left (calendar m.state).agenda idle.control idle.agenda in
      rw on refl
  by rest.Empty [] is same =
      let idle = stands_empty parts m.state h.stands is in
      rw same (rw (empty_has_ended g m.state (calendar m.state).agenda idle.control idle.agenda) refl)
  by rest.Empty (a ∷ left) is same =
      let idle = stands_empty parts m.state h.stands is in
      rw same (rw (waits_on g m.state a left (calendar m.state).agenda idle.control refl) refl)
  by (rest.Over why) left is same =
      let over : end_of g m ≡ Some why = rw (← h.stands.control) (over_end g parts.control parts.shared.happen.agenda (calendar m.state).agenda m.left why is) in
      rw over refl

  pub ends_at : end_in w ≡ end_word g m
  ends_at = by (rest_in parts) w.left refl h.left
