-- A scope is left: its request waits and uses no longer, and who else waits or uses stays.
use Rattle.std.proofs.Common.{◌≡◌, ℕ, Bool, false, not, List, [], ◌∷◌, ◌++◌, filter, refl, sym, subst, ap, ◌∙◌, All}
use Rattle.std.specs.List.{list_any}
use Rattle.std.proofs.lemmas.Bool.{or_parts, not-true}
use Rattle.std.proofs.lemmas.List.Elements.{All-filter, filter_passes}
use Rattle.sim_types.specs.declared.event.EventId.{EventId}
use Rattle.sim_types.specs.declared.event.EventKind.TheVariants as kind
use Rattle.sim_types.specs.declared.event.Callback.TheVariants as callback
use Rattle.sim_machine.specs.State.{Waiter, User, Deed, Released, Facilities}
use Rattle.sim_machine.specs.Events.{is_same, cancel_event, next_event, register}
use Rattle.sim_machine.specs.Triggering.{make}
use Rattle.sim_machine.specs.Users.{users}
use Rattle.sim_machine.specs.Trying.{on_calendar, write_deed, unqueue}
use Rattle.sim_machine.specs.Requests.{cancel, waits, is_user, end_use, leave}
use Rattle.sim_machine_law.proofs.KeptParts.KeptTimesCases.{if_cases}
use Rattle.sim_machine_law.proofs.Ledger.UsersOfDeeds.{users_released}

-- ---- waiters

pub none_taken : {X : Type 0} (t : X → Bool) (xs : List X) → list_any t xs ≡ false → filter (λ x. not (t x)) xs ≡ xs
none_taken t [] h = refl
none_taken t (x ∷ xs) h = let parts = or_parts (t x) (list_any t xs) h in rw parts.0 (ap (λ ys. x ∷ ys) (none_taken t xs parts.1))

pub waiters_cancelled : (request : EventId) (f : Facilities) → (cancel request f).waiters ≡ filter (λ (w : Waiter). not (is_same w.event request)) f.waiters
waiters_cancelled request f =
    if_cases (λ u. u.waiters ≡ filter (λ (w : Waiter). not (is_same w.event request)) f.waiters) (waits request f) (on_calendar (cancel_event request) (unqueue request f)) f
    (λ a. refl) (λ a. sym (none_taken (λ (w : Waiter). is_same w.event request) f.waiters a))

waiters_used : (res : ℕ) (request : EventId) (f : Facilities) → (end_use res request f).waiters ≡ f.waiters
waiters_used res request f = if_cases (λ u. u.waiters ≡ f.waiters) (is_user res request f) (write_deed (Released res request) f) f (λ a. refl) (λ a. refl)

-- the release that a request's event is followed by, before it succeeds
abbrev pub release_made : ℕ → EventId → Facilities → Facilities
release_made res request f = let gone = cancel request f in on_calendar (λ c. register (next_event gone.calendar) (callback.TryPut res) (make kind.Release c)) gone

pub waiters_left : (res : ℕ) (request : EventId) (f : Facilities)
    → (leave res request f).waiters ≡ filter (λ (w : Waiter). not (is_same w.event request)) f.waiters
waiters_left res request f = waiters_used res request (release_made res request f) ∙ waiters_cancelled request f

-- ---- users

-- a user whose request is not the one that is left
abbrev pub UsesOther : (User → Type 0) → EventId → User → Type 0
UsesOther P request u = P u × (is_same u.request request ≡ false)

pub released_users : (P : User → Type 0) (at res : ℕ) (request : EventId) (ledger : List Deed) → All P (users at ledger)
    → All (UsesOther P request) (users at (ledger ++ Released res request ∷ []))
released_users P at res request ledger h =
    let other : User → Bool = λ u. not (is_same u.request request) in
    subst (All (UsesOther P request)) (sym (users_released at res request ledger))
    (λ n u below. (All-filter other P (users at ledger) h n u below, not-true (is_same _ request) (filter_passes other (users at ledger) n u below)))

pub ledger_cancelled : (request : EventId) (f : Facilities) → (cancel request f).ledger ≡ f.ledger
ledger_cancelled request f = if_cases (λ u. u.ledger ≡ f.ledger) (waits request f) (on_calendar (cancel_event request) (unqueue request f)) f (λ a. refl) (λ a. refl)

-- where a request that does not use its resource uses no other
pub users_left : (P : User → Type 0) (at res : ℕ) (request : EventId) (f : Facilities) → All P (users at f.ledger)
    → (list_any (λ u. is_same u.request request) (users res f.ledger) ≡ false → All (UsesOther P request) (users at f.ledger))
    → All (UsesOther P request) (users at (leave res request f).ledger)
users_left P at res request f h other =
    let g : Facilities = release_made res request f in
    let same : g.ledger ≡ f.ledger = ledger_cancelled request f in
    if_cases (λ u. All (UsesOther P request) (users at u.ledger)) (is_user res request g) (write_deed (Released res request) g) g
    (λ uses. released_users P at res request g.ledger (subst (λ (ds : List Deed). All P (users at ds)) (sym same) h))
    (λ no. subst (λ (ds : List Deed). All (UsesOther P request) (users at ds)) (sym same) (other (ap (λ (ds : List Deed). list_any (λ (u : User). is_same u.request request) (users res ds)) (sym same) ∙ no)))
