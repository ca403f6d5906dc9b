-- A scope is left: no capacity is exceeded then that was not before. Users go, and levels and items stay.
use Rattle.std.proofs.Common.{◌≡◌, ℕ, ◌≤◌, ℤ, pos, ◌≤ℤ◌, Bool, true, ◌&&◌, not, List, [], ◌∷◌, ◌++◌, filter, length, refl, sym, subst, arith}
use Rattle.std.specs.Prelude.{fold, nat_lt}
use Rattle.std.specs.List.{AllPass}
use Rattle.std.proofs.lemmas.Int.{ints}
use Rattle.std.proofs.lemmas.List.Elements.{All-filter, All-same, All-weaker}
use Rattle.sim_types.specs.declared.event.EventId.{EventId}
use Rattle.sim_types.specs.declared.event.ProcId.{ProcId}
use Rattle.sim_types.specs.declared.event.Outcome.TheVariants as outcome
use Rattle.sim_types.specs.declared.setup.Resource.{Resource}
use Rattle.sim_machine.specs.State.{Calendar, Waiter, User, Deed, Released, Facilities, OpenScope, State}
use Rattle.sim_machine.specs.Events.{is_same, unregister, is_resume_of}
use Rattle.sim_machine.specs.Triggering.{normal, trigger}
use Rattle.sim_machine.specs.Users.{resource_at, users, level_after, items}
use Rattle.sim_machine.specs.Trying.{write_deed}
use Rattle.sim_machine.specs.Requests.{is_user, leave}
use Rattle.sim_machine.specs.Scopes.{close_scope, scopes_inwards}
use Rattle.sim_machine.specs.Processes.{event_of, process_at, target_of, drop_process}
use Rattle.sim_machine.specs.Effect.{calendar}
use Rattle.sim_machine.specs.LawfulCapacities.{LawfulCapacities, is_in_use, waits_for_fitting}
use Rattle.sim_machine_law.proofs.Ledger.LedgerSteps.{users_more, items_released, level_released}
use Rattle.sim_machine_law.proofs.KeptParts.KeptCapacities.{capacities_later}
use Rattle.sim_machine_law.proofs.KeptParts.KeptRegistrationsCalendar.{Later, calm_scheduled, later_self}
use Rattle.sim_machine_law.proofs.KeptParts.KeptTimesCases.{if_cases}
use Rattle.sim_lawful.proofs.Drops.DroppedProcess.{scopeless_state, stopped_state}
use Rattle.sim_lawful.proofs.Calendars.LeavingCalendars.{proceeds-left}
use Rattle.sim_machine_law.proofs.Requests.ReleasedUsers.{UsesOther, ledger_cancelled, release_made, released_users, waiters_left}

-- ---- a use ends

-- no users but those before, the same levels and the same items
record KeepsLedger (a b : List Deed) : Type 0 where
  fewer : (res : ℕ) → length (users res b) ≤ length (users res a)
  no_others : (test : User → Bool) (res : ℕ) → AllPass test (users res a) → AllPass test (users res b)
  levels : (start : ℤ) (res : ℕ) → level_after start res b ≡ level_after start res a
  same_items : (res : ℕ) → items res b ≡ items res a

ledger_released : (at : ℕ) (request : EventId) (ledger : List Deed) → KeepsLedger ledger (ledger ++ Released at request ∷ [])
ledger_released at request ledger =
    record {
      fewer = λ res. omega (arith, users_more res (Released at request) ledger);
      no_others = λ test res h. All-weaker (UsesOther (λ u. test u ≡ true) request) (λ u. test u ≡ true) (λ u w. w.0) (users res (ledger ++ Released at request ∷ [])) (released_users (λ u. test u ≡ true) res at request ledger h);
      levels = λ start res. level_released start res at request ledger;
      same_items = λ res. items_released res at request ledger;
    }

ledger_same : (ledger : List Deed) → KeepsLedger ledger ledger
ledger_same ledger = record { fewer = λ res. omega arith; no_others = λ test res h. h; levels = λ start res. refl; same_items = λ res. refl }

ledger_left : (res : ℕ) (request : EventId) (f : Facilities) → KeepsLedger f.ledger (leave res request f).ledger
ledger_left res request f =
    let g : Facilities = release_made res request f in
    let same : g.ledger ≡ f.ledger = ledger_cancelled request f in
    if_cases (λ u. KeepsLedger f.ledger u.ledger) (is_user res request g) (write_deed (Released res request) g) g
    (λ uses. subst (λ (ds : List Deed). KeepsLedger f.ledger (ds ++ Released res request ∷ [])) (sym same) (ledger_released res request f.ledger)) (λ no. subst (λ (ds : List Deed). KeepsLedger f.ledger ds) (sym same) (ledger_same f.ledger))

-- ---- capacities

pub capacities_left : (rs : List Resource) (res : ℕ) (request : EventId) (f : Facilities)
    → Later f.calendar (leave res request f).calendar → LawfulCapacities rs f → LawfulCapacities rs (leave res request f)
capacities_left rs res request f k h =
    let g : Facilities = leave res request f in
    let keep : Waiter → Bool = λ w. not (is_same w.event request) in
    let ledger : KeepsLedger f.ledger g.ledger = ledger_left res request f in
    let l : LawfulCapacities rs (record f { calendar = g.calendar }) = capacities_later rs f g.calendar k h in
    let fits : Waiter → Bool = λ w. nat_lt w.res (length rs) && waits_for_fitting g.calendar (resource_at rs w.res) w w.want in
    record {
      slots = λ at low. let before : pos (length (users at f.ledger)) ≤ℤ (resource_at rs at).capacity = h.slots at low in omega (arith, ints, before, ledger.fewer at);
      in_use = λ at. ledger.no_others (is_in_use g.calendar) at (l.in_use at);
      level_low = λ at low. subst (λ (n : ℤ). pos 0 ≤ℤ n) (sym (ledger.levels (resource_at rs at).opening at)) (h.level_low at low);
      level_high = λ at low. subst (λ (n : ℤ). n ≤ℤ (resource_at rs at).capacity) (sym (ledger.levels (resource_at rs at).opening at)) (h.level_high at low);
      room = λ at low. subst (λ xs. pos (length xs) ≤ℤ (resource_at rs at).capacity) (sym (ledger.same_items at)) (h.room at low);
      waiting = All-same (λ w. fits w ≡ true) g.waiters (filter keep f.waiters) (waiters_left res request f) (All-filter keep (λ w. fits w ≡ true) f.waiters l.waiting);
    }

capacities_closed : {B : Type 0} (rs : List Resource) (xs : List OpenScope) (s : State B) → LawfulCapacities rs s.facilities
    → LawfulCapacities rs (fold close_scope s xs).facilities
capacities_closed rs [] s h = h
capacities_closed rs (x ∷ xs) s h = capacities_closed rs xs (close_scope s x) (capacities_left rs x.res x.request s.facilities (proceeds-left s.control x.res x.request s.facilities).calm.later h)

-- a process that is dropped leaves all its scopes
pub capacities_dropped : {B : Type 0} (rs : List Resource) (s : State B) (q : ProcId) (value : ℤ)
    → LawfulCapacities rs s.facilities → LawfulCapacities rs (drop_process q value s).facilities
capacities_dropped {B} rs s q value h =
    let c : Calendar = calendar s in
    let d : Calendar = unregister (target_of q (process_at q s)) (is_resume_of q) c in
    let t : State B = scopeless_state q s in
    let o = outcome.Ok value in
    let closed : LawfulCapacities rs t.facilities = capacities_closed rs (scopes_inwards q (stopped_state q s)) (stopped_state q s) (capacities_later rs s.facilities d (later_self c d refl) h) in
    capacities_later rs t.facilities (trigger (event_of q) o (calendar t)) (calm_scheduled (event_of q) o normal (pos 0) (calendar t)).later closed
