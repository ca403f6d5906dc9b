-- A process leaves its innermost scope, as the machine has it.
use Rattle.std.proofs.Common.{◌≡◌, ◌≢◌, ℕ, ◌<◌, Bool, true, false, List, [], ◌∷◌, length, refl, sym, ap, subst, ◌∙◌, arith, filter, if◌then◌else◌, Option, Some, None}
use Rattle.std.specs.Prelude.{All, ◌==◌, ◌||◌, reverse, option_and_then, IsSome, not}
use Rattle.std.proofs.lemmas.Bool.{eqb-false, false≢true, not-true}
use Rattle.std.proofs.lemmas.Option.{none-some}
use Rattle.std.proofs.lemmas.List.{length-append, length-map}
use Rattle.std.proofs.lemmas.List.Elements.{All-filter, All-head, All-same, All-tail, All-weaker}
use Rattle.sim_types.specs.declared.event.EventId.{EventId}
use Rattle.sim_types.specs.declared.event.ProcId.{ProcId}
use Rattle.sim_types.specs.declared.event.Scope.{Scope}
use Rattle.sim_types.specs.declared.event.Signal.TheVariants as signal
use Rattle.sim_types.specs.declared.setup.Resource.{Resource}
use Rattle.sim_types.specs.declared.setup.Setup.{Setup}
use Rattle.sim_machine.specs.State.{EventOf, Facilities, OpenScope, State, Waiter}
use Rattle.sim_machine.specs.Events.{event_at, is_process, is_same}
use Rattle.sim_machine.specs.Processes.{tell, told_more}
use Rattle.sim_machine.specs.Requests as requests
use Rattle.sim_machine.specs.Bodies.{BodyOf}
use Rattle.sim_machine.specs.MayAsk.{takes_requests}
use Rattle.sim_machine.specs.Scopes.{close_if_any, close_scope, leave_innermost}
use Rattle.sim_machine.specs.Users.{first_of_list, resource_at}
use Rattle.sim_machine.specs.Effect.{calendar}
use Rattle.sim_machine_law.proofs.Events.EventLaws.{is_same-self}
use Rattle.sim_lawful.proofs.Scopes.ClosedScopes.{SameButOne, same_left, All-passing}
use Rattle.sim_machine_law.proofs.KeptParts.KeptProcessesParts.{is_process-yes}
use Rattle.sim_machine_law.proofs.Requests.ReleasedUsers.{waiters_left}
use Rattle.sim_machine_law.proofs.Ledger.TriedQueues.{one_has}
use Rattle.sim_procs.specs.RecordOf.{RecordOf, record_of, change_record, innermost, without_innermost}
use Rattle.sim_happen_model.specs.HappenOf.{held, gone_if_unheld, unheld_event}
use Rattle.sim_happen_law.proofs.Changes.Held.{holders_at}
use Rattle.sim_shared_model.specs.SharedOf.{SharedOf}
use Rattle.sim_shared_model.specs.ShowsAll.{ShowsAll, TurnsAll}
use Rattle.sim_shared_model.specs.Waiting.{AreAllOpen, LeavesRoom, WaitsAtMostAt, gone_if_waits}
use Rattle.sim_happen_model.specs.HolderChanges.{ComesPlainly, HasOnlyScope, StatesTrade}
use Rattle.sim_happen_model.specs.Naming.{but_zero, held_alone}
use Rattle.sim_accounts.proofs.FacilityChanges.{plainly_left}
use Rattle.sim_accounts.proofs.KeepingHolders.{held_stays}
use Rattle.sim_accounts.proofs.NamedEvents.{held_in_scope}
use Rattle.sim_accounts.proofs.Quiet.{left_trade}
use Rattle.sim_steps_model.specs.PartsOf.{PartsOf, KeepsButHappen}
use Rattle.sim_steps_model.specs.StandsFor.{scopes_of}
use Rattle.sim_steps_model.specs.Dropping.{CanBeLeft, CanLeave, IsOpenIn, LeavesInnermost}
use Rattle.sim_steps_model.specs.Holding.{ReturnsHolder}
use Rattle.sim_steps_model.specs.Becoming.{IsOwing, Stands, Becomes, BecomesOwing}
use Rattle.sim_steps_law.proofs.Kernels.Keeping.{adds_unheld, few_by, few_same}
use Rattle.sim_steps_law.proofs.Kernels.Accounting.{keeps_unheld, owing_after, owing_by, stay_plainly}
use Rattle.sim_steps_law.proofs.Kernels.Becoming.{becomes_then, becomes_as, becomes_told, entered_still, no_fewer, stands_on_facilities}
use Rattle.sim_steps_law.proofs.Ends.Ending.{scopes_found}
use Rattle.sim_steps_law.proofs.Scopes.EnteredScopes.{scope_in, closed_stands}
use Rattle.sim_steps_law.proofs.Scopes.OpenEvents.{all_open_in, alone_shown, any_one}
use Rattle.sim_steps_law.proofs.Scopes.HeldScopes.{found_scope, innermost_among, innermost_found, none_found}

-- ---- what stays where a request is left

module _ {B : Type 0} (rs : List Resource) (s : State B) (z : OpenScope) where
  abbrev f : Facilities
  f = s.facilities

  abbrev left_now : Facilities
  left_now = requests.leave z.res z.request f

  abbrev stays : Waiter → Bool
  stays w = not (is_same w.event z.request)

  fewer_wait : left_now.waiters ≡ filter stays f.waiters
  fewer_wait = waiters_left z.res z.request f

  one : SameButOne z.request f.calendar left_now.calendar
  one = same_left z.res z.request f

  -- any other event is as open as it was
  pub open_still : (e : EventId) → e.0 ≢ z.request.0 → IsOpenIn f.calendar e → IsOpenIn left_now.calendar e
  open_still e differ h =
      let same : event_at left_now.calendar e ≡ event_at f.calendar e = one.same e h.made differ in
      record {
        made = omega (arith, h.made, one.longer);
        pending = ap (λ (x : EventOf). x.outcome) same ∙ h.pending;
        not_closed = ap (λ (x : EventOf). x.processed || x.cancelled) same ∙ h.not_closed;
      }

  -- so is what still waits
  pub waiting_still : All (λ w. IsOpenIn f.calendar w.event) f.waiters → All (λ w. IsOpenIn left_now.calendar w.event) left_now.waiters
  waiting_still h =
      All-same (λ w. IsOpenIn left_now.calendar w.event) left_now.waiters (filter stays f.waiters) fewer_wait
      (All-passing (λ w. IsOpenIn f.calendar w.event) (λ w. IsOpenIn left_now.calendar w.event) stays f.waiters
      (λ w away is_open. open_still w.event (eqb-false w.event.0 z.request.0 (not-true (is_same w.event z.request) away)) is_open) h)

  -- and the other scopes can be left
  pub others_can : All (CanBeLeft rs f) s.scopes → All (CanBeLeft rs left_now) (close_scope s z).scopes
  others_can h =
      All-filter (λ y. not (is_same y.request z.request)) (CanBeLeft rs left_now) s.scopes
      (All-weaker (CanBeLeft rs f) (CanBeLeft rs left_now) (λ y can.
      let P : Waiter → Type 0 = λ w. is_same w.event y.request ≡ true → w.res ≡ y.res in
      record {
        there = can.there;
        slots = can.slots;
        alone = All-same P left_now.waiters (filter stays f.waiters) fewer_wait (All-filter stays P f.waiters can.alone);
      }) s.scopes h)

-- ---- the innermost is left

-- what the leaving needs
module _ {B Code : Type 0} {body : BodyOf B Code} (a : PartsOf B Code) (p : ProcId) (r : RecordOf B) (x : Scope) (found : record_of p a.live ≡ Some r)
    (last : innermost r.scopes ≡ Some x) (can : CanLeave body a) (resources : a.shared.setup ≡ a.setup.resources) where
  abbrev now : State B
  now = can.state

  abbrev scope : OpenScope
  scope = (innermost_found a p r found x last now can.stands).0

  first : first_of_list (reverse (filter (λ v. is_process v.process p) now.scopes)) ≡ Some scope
  first = (innermost_found a p r found x last now can.stands).1

  same_scope : scope_in scope ≡ x
  same_scope = (innermost_found a p r found x last now can.stands).2

  can_scope : CanBeLeft a.setup.resources now.facilities scope
  can_scope = one_has (CanBeLeft a.setup.resources now.facilities) now.scopes scope can.each (innermost_among p now scope first)

  pub leaving_within : x.res < length a.shared.setup
  leaving_within = subst (λ (v : Scope). v.res < length a.shared.setup) same_scope
      (subst (λ rs. scope.res < length rs) (sym resources) can_scope.there)

  pub leaving_slots : takes_requests (resource_at a.shared.setup x.res).kind ≡ true
  leaving_slots =
      subst (λ (v : Scope). takes_requests (resource_at a.shared.setup v.res).kind ≡ true) same_scope
      (subst (λ rs. takes_requests (resource_at rs scope.res).kind ≡ true) (sym resources) can_scope.slots)

  pub leaving_here : WaitsAtMostAt x.request x.res a.shared
  leaving_here =
      subst (λ (v : Scope). WaitsAtMostAt v.request v.res a.shared) same_scope
      (alone_shown a.shared now.facilities scope.request scope.res can.stands.stands.facilities can_scope.alone)

  -- an open scope holds its request
  request_held : gone_if_unheld x.request (held a.shared.happen) ≡ held a.shared.happen
  request_held =
      let alone : EventId → ℕ = held_alone a.setup.events (body.tell a.code) now in
      let some : 0 < alone scope.request =
      held_in_scope a.setup.events (body.tell a.code) now scope.request
      (any_one (λ v. is_same v.request scope.request) now.scopes scope (is_same-self scope.request) (innermost_among p now scope first)) in
      subst (λ (v : Scope). gone_if_unheld v.request (held a.shared.happen) ≡ held a.shared.happen) same_scope
      (held_stays alone scope.request can.owed a.shared.happen can.balances.holders (omega (arith, some)))

  module _ (y : SharedOf) (waited : Bool)
      (left : TurnsAll (requests.leave x.res x.request) (λ hs. unheld_event (gone_if_waits waited x.request hs)) a.shared y) where
    abbrev popped_live : List (RecordOf B)
    popped_live = change_record p (λ (q : RecordOf B). record q { scopes = without_innermost q.scopes }) a.live

    abbrev m : PartsOf B Code
    m = record a { shared = y; live = popped_live }

    -- nobody has a holder more or fewer, and there is an event more
    holders_left : held y.happen ≡ unheld_event (held a.shared.happen)
    holders_left = left.held ∙ ap unheld_event (by_waited waited)
      where
        by_waited : (w : Bool) → gone_if_waits w x.request (held a.shared.happen) ≡ held a.shared.happen
        by_waited true = request_held
        by_waited false = refl

    left_stands : (s : State B) → Stands a s → Stands m (leave_innermost p s)
    left_stands s h =
        let z = innermost_found a p r found x last s h in
        let b : PartsOf B Code = record a { live = popped_live } in
        let t : State B = record s { scopes = filter (λ v. not (is_same v.request z.0.request)) s.scopes } in
        let k : Stands b t = closed_stands p z.0 s h.apart z.1 a h in
        let leaves : Facilities → Facilities = requests.leave z.0.res z.0.request in
        let shows : ShowsAll a.shared t.facilities → ShowsAll y (leaves t.facilities) =
        λ f. subst (λ (v : Scope). ShowsAll y (requests.leave v.res v.request t.facilities)) (sym z.2) (left.each t.facilities f) in
        let stood : Stands m (close_scope s z.0) = record {
          stands = stands_on_facilities leaves b y t shows k.stands;
          distinct = k.distinct;
          owned = k.owned;
          apart = k.apart;
          entered = entered_still (calendar t) (leaves t.facilities).calendar t.scopes
              (omega (
                arith,
                no_fewer 0 unheld_event a.shared.happen y.happen (adds_unheld 1) holders_left,
                k.stands.facilities.calendar.made,
                (shows k.stands.facilities).calendar.made,
              )) k.entered;
        } in
        subst (λ (o : Option OpenScope). Stands m (close_if_any o s)) (sym z.1) stood

    -- the holder that the scope had is to be given back
    leaves_owing : BecomesOwing body [] (but_zero (x.request ∷ [])) 0 (leave_innermost p) a m
    leaves_owing =
        owing_by [] (but_zero (x.request ∷ [])) 0 (leave_innermost p) a m left_stands (record { code = refl; setup = refl; seed = refl })
        (few_by 0 unheld_event a m (adds_unheld 1) holders_left)
        (λ s h. stay_plainly unheld_event a m s (leave_innermost p s) (keeps_unheld 1) holders_left (plainly s h))
        trades
      where
        plainly : (s : State B) → Stands a s → ComesPlainly (calendar s) (calendar (leave_innermost p s))
        plainly s h =
            let z = innermost_found a p r found x last s h in
            subst (λ (o : Option OpenScope). ComesPlainly (calendar s) (calendar (close_if_any o s)))
            (sym z.1) (plainly_left z.0.res z.0.request s.facilities)

        trades : (s : State B) → Stands a s → StatesTrade a.setup.events (body.tell a.code) [] (but_zero (x.request ∷ [])) s (leave_innermost p s)
        trades s h =
            let z = innermost_found a p r found x last s h in
            let only : HasOnlyScope z.0.request s =
            record {
              is_open = any_one (λ v. is_same v.request z.0.request) s.scopes z.0 (is_same-self z.0.request) (innermost_among p s z.0 z.1);
              apart = h.apart;
            } in
            subst (λ (o : Option OpenScope). StatesTrade a.setup.events (body.tell a.code) [] (but_zero (x.request ∷ [])) s (close_if_any o s))
            (sym z.1)
            (subst (λ (v : Scope). StatesTrade a.setup.events (body.tell a.code) [] (but_zero (v.request ∷ [])) s (close_scope s z.0)) z.2
            (left_trade a.setup.events (body.tell a.code) s z.0 only))

    pub left_owing : IsOwing body (but_zero (x.request ∷ [])) m
    left_owing = owing_after (leave_innermost p) a m leaves_owing
        (record { state = now; stands = can.stands; others = can.owed; balances = can.balances })

    module _ (n : PartsOf B Code) (room : LeavesRoom a.shared.happen y.happen)
        (back : BecomesOwing body (but_zero (x.request ∷ [])) [] 0 (λ s. s) m n)
        (returns : ReturnsHolder y.happen n.shared.happen) (rest : KeepsButHappen m n) where
      becomes_left : Becomes body (leave_innermost p) a n
      becomes_left = becomes_then (leave_innermost p) (λ s. s) a m n leaves_owing back

      left_can : CanLeave body n
      left_can =
          let at : Facilities → List OpenScope → Type 0 =
          λ f scopes. All (λ w. IsOpenIn f.calendar w.event) f.waiters × All (CanBeLeft n.setup.resources f) scopes in
          let after = subst (λ (o : Option OpenScope). at (close_if_any o now).facilities (close_if_any o now).scopes) (sym first) (
            waiting_still n.setup.resources now scope can.waiting,
            others_can n.setup.resources now scope
                (subst (λ rs. All (CanBeLeft rs now.facilities) now.scopes)
                (sym (ap (λ (v : Setup). v.resources) becomes_left.opened.setup)) can.each),
          ) in
          record {
            state = leave_innermost p now;
            stands = becomes_left.each now can.stands;
            owed = can.owed;
            balances = becomes_left.accounts can.owed now can.stands can.balances;
            waiting = after.0;
            each = after.1;
          }

      pub leaves_innermost : LeavesInnermost body p a n
      leaves_innermost =
          record {
            becomes = becomes_left;
            can = left_can;
            live = ap (λ (v : PartsOf B Code). v.live) rest;
            control = ap (λ (v : PartsOf B Code). v.control) rest;
            made = omega (
              arith,
              returns.made,
              ap (λ (hs : List (Option ℕ)). length hs) holders_left,
              length-map a.shared.happen.events holders_at,
              length-map y.happen.events holders_at,
              length-append (held a.shared.happen) (Some 0 ∷ []),
            );
            events = omega (arith, room.never_less, returns.events);
            callbacks = omega (arith, room.callbacks, returns.callbacks);
          }

-- where none is open, nothing is done
pub leaves_none : {B Code : Type 0} {body : BodyOf B Code} (p : ProcId) (a n : PartsOf B Code) (r : RecordOf B) → record_of p a.live ≡ Some r →
    r.scopes ≡ [] → CanLeave body a →
    n ≡ record a { live = change_record p (λ q. record q { scopes = without_innermost q.scopes }) a.live } → LeavesInnermost body p a n
leaves_none {B} {Code} {body} p a n r found none can is =
    let popped : RecordOf B → RecordOf B = λ q. record q { scopes = without_innermost q.scopes } in
    let own : scopes_of p can.state ≡ [] = scopes_found p a.live r can.state found can.stands.stands.scopes ∙ none in
    let live : change_record p popped a.live ≡ a.live = unchanged can.state own a.live can.stands.stands.scopes in
    let same : n ≡ a = is ∙ ap (λ (l : List (RecordOf B)). let v : PartsOf B Code = record a { live = l } in v) live in
    subst (LeavesInnermost body p a) (sym same)
    (record {
      becomes = becomes_as (λ s. s) (leave_innermost p) a a
          (λ s h. sym (ap (λ (xs : List OpenScope). close_if_any (first_of_list (reverse xs)) s) (none_found a p r found none s h)))
          (record {
            each = λ s h. h;
            accounts = λ todo s h k. k;
            opened = record { code = refl; setup = refl; seed = refl };
            few = few_same a a refl;
          });
      can = can;
      live = sym live;
      control = refl;
      made = omega arith;
      events = omega arith;
      callbacks = omega arith;
    })
  where
    one_same : (r : RecordOf B) (b : Bool) → (b ≡ true → r.scopes ≡ []) → (if b then record r { scopes = without_innermost r.scopes } else r) ≡ r
    one_same r true h =
        let with_scopes : List Scope → RecordOf B = λ xs. record r { scopes = xs } in
        ap (λ xs. with_scopes (without_innermost xs)) (h refl) ∙ sym (ap with_scopes (h refl))
    one_same r false h = refl

    unchanged : (s : State B) → scopes_of p s ≡ [] → (live : List (RecordOf B)) → All (λ q. q.scopes ≡ scopes_of q.id s) live →
        change_record p (λ q. record q { scopes = without_innermost q.scopes }) live ≡ live
    unchanged s own [] h = refl
    unchanged s own (q ∷ live) h =
        let change : RecordOf B → RecordOf B = λ q. record q { scopes = without_innermost q.scopes } in
        ap (λ (v : RecordOf B). v ∷ change_record p change live)
        (one_same q (q.id.0 == p.0)
        (λ is. All-head (λ v. v.scopes ≡ scopes_of v.id s) q live h ∙ (ap (λ i. scopes_of i s) (is_process-yes q.id p is) ∙ own)))
        ∙ ap (λ xs. q ∷ xs) (unchanged s own live (All-tail (λ v. v.scopes ≡ scopes_of v.id s) q live h))

-- ---- the same, by what the record of the process has for its innermost scope

none_innermost : (xs : List Scope) → innermost xs ≡ None → xs ≡ []
none_innermost [] h = refl
none_innermost (s ∷ []) h = absurd (none-some s (sym h))
none_innermost (s ∷ t ∷ xs) h = absurd (not_none t xs h)
  where
    not_none : (v : Scope) (ys : List Scope) → innermost (v ∷ ys) ≡ None → ⊥
    not_none v [] k = none-some v (sym k)
    not_none v (y ∷ ys) k = not_none y ys k

-- the innermost scope can be left
pub record MayLeave (x : Scope) (h : SharedOf) : Type 0 where
  pub within : x.res < length h.setup
  pub slots : takes_requests (resource_at h.setup x.res).kind ≡ true
  pub all_open : AreAllOpen h
  pub here : WaitsAtMostAt x.request x.res h

abbrev HasInnermost : {B : Type 0} → Option Scope → ProcId → List (RecordOf B) → Type 0
HasInnermost o p live = o ≡ option_and_then (λ r. innermost r.scopes) (record_of p live)

pub may_leave : {B Code : Type 0} {body : BodyOf B Code} {a : PartsOf B Code} (p : ProcId) (x : Scope) → CanLeave body a →
    a.shared.setup ≡ a.setup.resources →
    HasInnermost (Some x) p a.live → MayLeave x a.shared
may_leave {B} {Code} {body} {a} p x can resources last =
    let own = found_scope innermost (record_of p a.live) x last in
    record {
      within = leaving_within a p own.0 x own.1 own.2 can resources;
      slots = leaving_slots a p own.0 x own.1 own.2 can resources;
      all_open = all_open_in a.shared can.state.facilities can.stands.stands.facilities can.balances.gone can.waiting;
      here = leaving_here a p own.0 x own.1 own.2 can resources;
    }

-- its holder is to be given back then
pub left_owed : {B Code : Type 0} {body : BodyOf B Code} {a : PartsOf B Code}
    (waited : Bool) (p : ProcId) (x : Scope) (y : SharedOf) (m : PartsOf B Code) →
    CanLeave body a → a.shared.setup ≡ a.setup.resources → HasInnermost (Some x) p a.live →
    TurnsAll (requests.leave x.res x.request) (λ hs. unheld_event (gone_if_waits waited x.request hs)) a.shared y →
    m ≡ record a { shared = y; live = change_record p (λ r. record r { scopes = without_innermost r.scopes }) a.live } →
    IsOwing body (but_zero (x.request ∷ [])) m
left_owed {B} {Code} {body} {a} waited p x y m can resources last left is =
    let own = found_scope innermost (record_of p a.live) x last in
    subst (IsOwing body (but_zero (x.request ∷ []))) (sym is) (left_owing a p own.0 x own.1 own.2 can resources y waited left)

-- and once it is given back, the scope is left
pub left_scope : {B Code : Type 0} {body : BodyOf B Code} {a m : PartsOf B Code}
    (waited : Bool) (p : ProcId) (x : Scope) (y : SharedOf) (n : PartsOf B Code) →
    CanLeave body a → BecomesOwing body (but_zero (x.request ∷ [])) [] 0 (λ s. s) m n → ReturnsHolder m.shared.happen n.shared.happen →
    KeepsButHappen m n →
    a.shared.setup ≡ a.setup.resources → HasInnermost (Some x) p a.live →
    TurnsAll (requests.leave x.res x.request) (λ hs. unheld_event (gone_if_waits waited x.request hs)) a.shared y →
    LeavesRoom a.shared.happen y.happen →
    m ≡ record a { shared = y; live = change_record p (λ r. record r { scopes = without_innermost r.scopes }) a.live } → LeavesInnermost body p a n
left_scope {B} {Code} {body} {a} {m} waited p x y n can back returns rest resources last left room is =
    let own = found_scope innermost (record_of p a.live) x last in
    leaves_innermost a p own.0 x own.1 own.2 can resources y waited left n room
    (subst (λ (v : PartsOf B Code). BecomesOwing body (but_zero (x.request ∷ [])) [] 0 (λ s. s) v n) is back)
    (subst (λ (v : PartsOf B Code). ReturnsHolder v.shared.happen n.shared.happen) is returns)
    (subst (λ (v : PartsOf B Code). KeepsButHappen v n) is rest)

-- where there is none, nothing is done
pub left_none : {B Code : Type 0} {body : BodyOf B Code} {a : PartsOf B Code} (p : ProcId) (n : PartsOf B Code) → CanLeave body a →
    IsSome (record_of p a.live) →
    HasInnermost None p a.live → n ≡ record a { live = change_record p (λ r. record r { scopes = without_innermost r.scopes }) a.live } →
    LeavesInnermost body p a n
left_none {B} {Code} {body} {a} p n can alive last is = at (record_of p a.live) refl alive last
  where
    at : (o : Option (RecordOf B)) → record_of p a.live ≡ o → IsSome o → None ≡ option_and_then (λ r. innermost r.scopes) o →
        LeavesInnermost body p a n
    at None found some none = absurd (false≢true some)
    at (Some r) found some none = leaves_none p a n r found (none_innermost r.scopes (sym none)) can is

-- and the running process is told so
pub left_told : {B Code : Type 0} {body : BodyOf B Code} (p : ProcId) (a m n : PartsOf B Code) → LeavesInnermost body p a m →
    n ≡ record m { control = told_more signal.Done m.control } → Becomes body (λ s. tell signal.Done (leave_innermost p s)) a n
left_told {B} {Code} {body} p a m n left is =
    subst (Becomes body (λ s. tell signal.Done (leave_innermost p s)) a) (sym is)
    (becomes_then (leave_innermost p) (tell signal.Done) a m _ left.becomes (becomes_told signal.Done m))
