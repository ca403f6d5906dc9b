-- What holds of every walk, and what comes next in it.
use Rattle.std.specs.Prelude.{◌≡◌, ◌≤◌, ℕ, nat_le, Bool, true, false, if◌then◌else◌, List, [], ◌∷◌}
use Rattle.sim_types.specs.Setups.{HavePorts}
use Rattle.sim_types.specs.declared.line.End.{End}
use Rattle.sim_types.specs.declared.line.End.TheVariants as end
use Rattle.sim_types.specs.declared.setup.Arrival.{Arrival}
use Rattle.sim_types.specs.declared.setup.Until.{Until}
use Rattle.sim_machine.specs.Runs.{empty_end}
use Rattle.sim_steps_model.specs.Resting.{rest_in}
use Rattle.sim_steps_model.specs.declared.mode.Rest.{Rest}
use Rattle.sim_steps_model.specs.declared.mode.Rest.TheVariants as rest
use Rattle.sim_kernel.specs.KernelOf.{KernelOf}
use Rattle.sim_kernel.specs.Walks.{WalkOf}
use Rattle.sim_kernel.specs.declared.walk.Next.{Next}
use Rattle.sim_kernel.specs.declared.walk.Next.TheVariants as next

-- the kernel is to be stopped so and has made no more units than it may, and what is left comes in by ports that there are
pub record IsSoundWalk {B Code : Type 0} (kernel : KernelOf B Code) (stop : Until) (left : List Arrival) (limit : ℕ) : Type 0 where
  pub until : stop ≡ kernel.parts.setup.until
  pub ports : HavePorts kernel.parts.setup left
  pub within : kernel.units ≤ limit

-- what comes next, by whether all units are made, where the kernel stands, how many events were processed, and what is left
abbrev pub next_of : Bool → Rest → ℕ → List Arrival → Next
next_of true rests processed left = next.End
next_of false rest.Busy processed left = next.Step
next_of false rest.Idle processed [] = next.Step
next_of false rest.Idle processed (a ∷ left) = if nat_le a.after processed then next.Arrival a else next.Step
next_of false rest.Empty processed [] = next.End
next_of false rest.Empty processed (a ∷ left) = next.Arrival a
next_of false (rest.Over why) processed left = next.End

abbrev pub next_in : {B Code : Type 0} → WalkOf B Code → Next
next_in w = next_of (nat_le w.limit w.kernel.units) (rest_in w.kernel.parts) w.kernel.parts.processed w.left

-- how a walk ends where no more units are made, by where its kernel stands and what is left; where its run has not ended, by its
-- limit
abbrev pub end_at : Rest → Until → List Arrival → End
end_at rest.Busy until left = end.Limit
end_at rest.Idle until left = end.Limit
end_at rest.Empty until [] = empty_end until
end_at rest.Empty until (a ∷ left) = end.Limit
end_at (rest.Over why) until left = why

abbrev pub end_in : {B Code : Type 0} → WalkOf B Code → End
end_in w = end_at (rest_in w.kernel.parts) w.kernel.parts.setup.until w.left
