-- The resumption of a process is taken out of the callbacks of an event.
use Rattle.std.proofs.Common.{◌≡◌, refl}
use Rattle.sim_types.specs.declared.event.EventId.{EventId}
use Rattle.sim_types.specs.declared.event.ProcId.{ProcId}
use Rattle.sim_types.specs.declared.event.Callback.{Callback}
use Rattle.sim_types.specs.declared.event.Callback.TheVariants as callback
use Rattle.sim_machine.specs.Events.{unregister, is_resume_of}
use Rattle.sim_machine.specs.Callbacks.{is_same_callback}
use Rattle.sim_happen_model.specs.HappenOf.{HappenOf}
use Rattle.sim_happen_model.specs.Shows.{Follows}
use Rattle.sim_happen_law.proofs.Changes.Following.{turns_as}
use Rattle.sim_happen_law.proofs.Conditions.TakingChecks.{unregister_same}

same_resume : (p : ProcId) (x : Callback) → is_same_callback (callback.Resume p) x ≡ is_resume_of p x
same_resume p (callback.Resume q) = refl
same_resume p (callback.Check e) = refl
same_resume p (callback.Build e) = refl
same_resume p (callback.TryPut r) = refl
same_resume p (callback.TryGet r) = refl
same_resume p (callback.Strike q) = refl
same_resume p callback.Stop = refl
same_resume p (callback.Trigger e) = refl

-- the first callback that is the same is the first that resumes the process
pub resume_taken : (a b : HappenOf) (e : EventId) (p : ProcId) → Follows (unregister e (is_same_callback (callback.Resume p))) a b →
    Follows (unregister e (is_resume_of p)) a b
resume_taken a b e p t =
    turns_as (unregister e (is_same_callback (callback.Resume p))) (unregister e (is_resume_of p)) _ a b
    (λ c s. unregister_same e (is_same_callback (callback.Resume p)) (is_resume_of p) (same_resume p) c) t
