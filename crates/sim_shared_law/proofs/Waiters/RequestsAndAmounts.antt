-- What a request waits by and whom it would preempt, and which amounts are refused.
use Rattle.std.proofs.Common.{◌≡◌, ℕ, ℤ, pos, ◌<ℤ◌, Bool, true, false, ◌&&◌, not, List, sym, ap, ◌∙◌, arith}
use Rattle.std.specs.Prelude.{int_lt}
use Rattle.std.proofs.lemmas.Int.{ints}
use Rattle.sim_types.specs.declared.event.EventKind.TheVariants as kind
use Rattle.sim_types.specs.declared.event.ProcId.{ProcId}
use Rattle.sim_types.specs.declared.event.RequestKey.{RequestKey}
use Rattle.sim_types.specs.declared.event.Callback.TheVariants as callback
use Rattle.sim_types.specs.declared.setup.Resource.{Resource}
use Rattle.sim_types.specs.declared.setup.ResourceKind.{ResourceKind}
use Rattle.sim_machine.specs.State.{Slot, Waiter, Facilities}
use Rattle.sim_machine.specs.Events.{next_event}
use Rattle.sim_machine.specs.Attempts.{is_container}
use Rattle.sim_machine.specs.Users.{resource_at, put_queue, users}
use Rattle.sim_machine.specs.Requests as requests
use Rattle.sim_happen_model.specs.HappenOf.{unheld_event}
use Rattle.sim_shared_model.specs.AnyShared.{SharedResource}
use Rattle.sim_shared_model.specs.Resources.{declared_as, without_opening}
use Rattle.sim_shared_model.specs.SharedOf.{SharedOf}
use Rattle.sim_shared_model.specs.ShowsAll.{ShowsAll, TurnsAll}
use Rattle.sim_shared_model.specs.Joining.{with_waiter}
use Rattle.sim_shared_law.proofs.Shown.FollowingFacilities.{turns_all_as}

-- ---- requests

-- a request waits by the key that it has whatever facilities are shown
pub turns_requested : (a b : SharedOf) (res : ℕ) (p : ProcId) (priority given : ℤ) (preempts : Bool) (key : RequestKey) → given ≡ priority
    → ((f : Facilities) → ShowsAll a f → key ≡ requests.request_key (resource_at a.setup res).kind given preempts f)
    → TurnsAll (requests.join kind.Request res (Slot p key) (callback.TryGet res)) unheld_event a b
    → TurnsAll (requests.join_request a.setup res p priority preempts) unheld_event a b
turns_requested a b res p priority given preempts key same is t =
    turns_all_as (requests.join kind.Request res (Slot p key) (callback.TryGet res)) (requests.join_request a.setup res p priority preempts) unheld_event a b
    (λ f h. ap (λ k. requests.join kind.Request res (Slot p k) (callback.TryGet res) f) (is f h ∙ ap (λ z. requests.request_key (resource_at a.setup res).kind z preempts f) same)) t

-- the key of a request that is made now
pub key_shown : (a : SharedOf) (f : Facilities) (k : ResourceKind) (priority time given now : ℤ) (preempts wait : Bool) → given ≡ priority → time ≡ now
    → now ≡ a.happen.time → wait ≡ (requests.is_preemptive k && not preempts) → ShowsAll a f
    → (let key : RequestKey = record { priority = given; time = time; wait = wait } in key) ≡ requests.request_key k priority preempts f
key_shown a f k priority time given now preempts wait same told is waits h =
    ap (λ z. let key : RequestKey = record { priority = z; time = time; wait = wait } in key) same
    ∙ (ap (λ z. let key : RequestKey = record { priority = priority; time = z; wait = wait } in key) (told ∙ (is ∙ h.calendar.time))
    ∙ ap (λ b. let key : RequestKey = record { priority = priority; time = f.calendar.time; wait = b } in key) waits)

-- whether a request would be its own victim, by the key that it has
pub own_victim_shown : (rs : List Resource) (res : ℕ) (p : ProcId) (priority : ℤ) (preempts : Bool) (key : RequestKey) (f : Facilities) (is : Bool)
    → (let w : Waiter = record { event = next_event f.calendar; res = res; want = Slot p key } in
    is ≡ requests.is_of p (requests.victim_at_first (resource_at rs res) (put_queue rs res (with_waiter w f).waiters) (users res f.ledger)))
    → key ≡ requests.request_key (resource_at rs res).kind priority preempts f → is ≡ requests.is_own_victim rs res p priority preempts f
own_victim_shown rs res p priority preempts key f is h same =
    h ∙ ap (λ k. let w : Waiter = record { event = next_event f.calendar; res = res; want = Slot p k } in
    requests.is_of p (requests.victim_at_first (resource_at rs res) (put_queue rs res (with_waiter w f).waiters) (users res f.ledger))) same

-- ---- amounts

above_zero : (b : Bool) (n : ℤ) → (b && int_lt n (pos 1)) ≡ false → b ≡ true → pos 0 <ℤ n
above_zero b n h is = grind (arith, ints)

-- an amount at a container that is not refused is above 0
pub positive : (x : SharedResource) (rs : List Resource) (res : ℕ) (amount : ℤ) → declared_as x ≡ without_opening (resource_at rs res)
    → requests.is_refused_amount rs res amount ≡ false → is_container (declared_as x).kind ≡ true → pos 0 <ℤ amount
positive x rs res amount same h is =
    above_zero (is_container (resource_at rs res).kind) amount h (sym (ap (λ (r : Resource). is_container r.kind) same) ∙ is)
