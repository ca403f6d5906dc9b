-- The calls that try the queues of a resource keep the state lawful.
use Rattle.std.proofs.Common.{◌≡◌, ℕ, List, ◌∷◌, refl}
use Rattle.sim_types.specs.declared.event.EventId.{EventId}
use Rattle.sim_types.specs.declared.event.Callback.{Callback}
use Rattle.sim_types.specs.declared.event.Callback.TheVariants as callback
use Rattle.sim_machine.specs.State.{Calling, State, Plan}
use Rattle.sim_machine.specs.Steps.{control_to, call}
use Rattle.sim_machine.specs.Tellings.{Telling}
use Rattle.sim_machine_law.proofs.KeptParts.KeptConditions.{IsNoConditions}
use Rattle.sim_machine_law.proofs.Events.ChangedCalendars.{lawful_called}
use Rattle.sim_lawful.proofs.Calendars.ReplacedCalendars.{replace_same}
use Rattle.sim_lawful.proofs.Waiting.TriedWaiters.{lawful_tried_put, lawful_tried_get}
use Rattle.sim_machine_law.proofs.KeptParts.LawfulBasis.{LawfulBasis}

pub try_put_is_no_conditions : (res : ℕ) → IsNoConditions (callback.TryPut res)
try_put_is_no_conditions res = record { no_check = λ cond. refl; no_build = λ cond. refl }

pub try_get_is_no_conditions : (res : ℕ) → IsNoConditions (callback.TryGet res)
try_get_is_no_conditions res = record { no_check = λ cond. refl; no_build = λ cond. refl }

pub lawful-called_try_put : {B : Type 0} (g : Plan B) (tell : Telling B) (sound : B → Type 0) (s : State B) (e : EventId)
    (res : ℕ) (left : List Callback) → s.control ≡ Calling e (callback.TryPut res ∷ left) → LawfulBasis g tell sound s
    → LawfulBasis g tell sound (call g e (callback.TryPut res) left s)
lawful-called_try_put {B} g tell sound s e res left calling h =
    let t : State B = control_to (Calling e left) s in
    let called : LawfulBasis g tell sound t = lawful_called g tell sound s e (callback.TryPut res) left (λ c. c) calling (λ p. refl) (try_put_is_no_conditions res) h (replace_same g tell sound s h) in
    (lawful_tried_put g tell sound t res called).lawful

pub lawful-called_try_get : {B : Type 0} (g : Plan B) (tell : Telling B) (sound : B → Type 0) (s : State B) (e : EventId)
    (res : ℕ) (left : List Callback) → s.control ≡ Calling e (callback.TryGet res ∷ left) → LawfulBasis g tell sound s
    → LawfulBasis g tell sound (call g e (callback.TryGet res) left s)
lawful-called_try_get {B} g tell sound s e res left calling h =
    let t : State B = control_to (Calling e left) s in
    let called : LawfulBasis g tell sound t = lawful_called g tell sound s e (callback.TryGet res) left (λ c. c) calling (λ p. refl) (try_get_is_no_conditions res) h (replace_same g tell sound s h) in
    (lawful_tried_get g tell sound t res called).lawful
