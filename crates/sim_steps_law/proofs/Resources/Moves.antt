-- What a try, a put, a get, a cancel and a count make of a kernel, as the machine has it.
use Rattle.std.proofs.Common.{◌≡◌, ℕ, zero, suc, ◌+◌, ◌<◌, ◌≤◌, ℤ, Bool, true, false, List, [], ◌∷◌, ◌++◌, length, refl, sym, ap, subst, ◌∙◌, arith, Option, Some, None, if◌then◌else◌}
use Rattle.std.specs.Prelude.{◌↔◌, slice_index_or, IsSome}
use Rattle.std.proofs.lemmas.Bool.{false≢true, or_right}
use Rattle.std.proofs.lemmas.List.{length-map, length-append, length-set}
use Rattle.sim_types.specs.declared.event.EventId.{EventId}
use Rattle.sim_types.specs.declared.event.Callback.TheVariants as callback
use Rattle.sim_types.specs.declared.event.EventKind.TheVariants as kind
use Rattle.sim_types.specs.declared.event.Signal.TheVariants as signal
use Rattle.sim_machine.specs.State.{Give, Calendar, EventOf, Facilities, State, Plan}
use Rattle.sim_machine.specs.Events.{cancel_event}
use Rattle.sim_machine.specs.KeptEvents.{is_closed}
use Rattle.sim_machine.specs.Conditions.{condition_of, members_of}
use Rattle.sim_machine.specs.Requests as requests
use Rattle.sim_machine.specs.Bodies.{BodyOf}
use Rattle.sim_machine.specs.Trying.{on_calendar, try_put, try_get, unqueue}
use Rattle.sim_machine.specs.Scopes.{on_facilities}
use Rattle.sim_machine.specs.Processes.{tell, told_more}
use Rattle.sim_machine.specs.Effect.{calendar, with_move}
use Rattle.sim_lawful.proofs.Units.MadeEvents.{put_made_more, get_made_more}
use Rattle.sim_happen_model.specs.TableOf.{Spare, IsKept, kept_at}
use Rattle.sim_happen_model.specs.HappenOf.{held, gone_if_unheld, none_if_unheld}
use Rattle.sim_happen_law.proofs.Shown.KeptPlaces.{at_end, kept_made}
use Rattle.sim_happen_law.proofs.Changes.Held.{holders_at, held_at, kept_of}
use Rattle.sim_happen_law.proofs.Changes.Following.{read_is}
use Rattle.sim_machine_law.proofs.Events.EventLaws.{change_event-same}
use Rattle.sim_happen_law.proofs.Changes.NewEvents.{next_is}
use Rattle.sim_shared_model.specs.SharedOf.{SharedOf}
use Rattle.sim_shared_model.specs.ShowsAll.{ShowsAll, TurnsAll, FollowsAll}
use Rattle.sim_shared_model.specs.Making.{MakesAll, ShowsSome, unheld_events}
use Rattle.sim_shared_model.specs.Waiting.{gone_if_waits}
use Rattle.sim_steps_model.specs.PartsOf.{PartsOf, IsCalling, plan_of}
use Rattle.sim_steps_model.specs.Calling.{called}
use Rattle.sim_steps_model.specs.Becoming.{Stands, Becomes}
use Rattle.sim_steps_model.specs.Resources.{MakesMove, RefusesMove}
use Rattle.sim_happen_model.specs.HolderChanges.{ComesPlainly, KeepsHolders}
use Rattle.sim_accounts.proofs.KeepingHolders.{keeps_all, keeps_gone}
use Rattle.sim_accounts.proofs.StateChanges.{quiet_trade}
use Rattle.sim_accounts.proofs.FacilityChanges.{plainly_cancelled_waiter, plainly_get, plainly_put, plainly_tried_get, plainly_tried_put}
use Rattle.sim_steps_law.proofs.Kernels.Keeping.{AddsHolders, adds_none, few_by, few_gone, few_weaker}
use Rattle.sim_steps_law.proofs.Kernels.Accounting.{owing_by}
use Rattle.sim_steps_law.proofs.Kernels.Becoming.{becomes_then, becomes_as, becomes_within, becomes_told, becomes_on_facilities, becomes_made_all, turned_stands}
use Rattle.sim_steps_law.proofs.Callbacks.Calls.{stays_calling}

-- ---- what was made is kept

unheld_longer : (n : ℕ) (hs : List (Option ℕ)) → length (unheld_events n hs) ≡ length hs + n
unheld_longer zero hs = omega arith
unheld_longer (suc n) hs = omega (arith, unheld_longer n hs, length-append (unheld_events n hs) (Some 0 ∷ []))

still_there : (hs : List (Option ℕ)) (o : Option ℕ) (i : ℕ) → IsSome (slice_index_or hs i None) → IsSome (slice_index_or (hs ++ o ∷ []) i None)
still_there [] o i h = absurd (false≢true h)
still_there (x ∷ hs) o zero h = h
still_there (x ∷ hs) o (suc i) h = still_there hs o i h

first_unheld : (n : ℕ) (hs : List (Option ℕ)) → IsSome (slice_index_or (unheld_events (suc n) hs) (length hs) None)
first_unheld zero hs = subst IsSome (sym (at_end hs (Some 0))) refl
first_unheld (suc n) hs = still_there (unheld_events (suc n) hs) (Some 0) (length hs) (first_unheld n hs)

made_first : (n : ℕ) (hs : List (Option ℕ)) → 0 < n → IsSome (slice_index_or (unheld_events n hs) (length hs) None)
made_first zero hs h = absurd (omega (arith, h))
made_first (suc n) hs h = first_unheld n hs

module _ (most : ℕ) (change : Facilities → Facilities) (a b : SharedOf) (some : ShowsSome a)
    (more : length some.facilities.calendar.events < length (change some.facilities).calendar.events) (m : MakesAll most change a b) where
  -- where more events are there, some were made
  some_made : 0 < m.made
  some_made =
      omega (
        arith,
        more,
        some.shown.calendar.made,
        (m.turns.each some.facilities some.shown).calendar.made,
        ap (λ (hs : List (Option ℕ)). length hs) m.turns.held,
        unheld_longer m.made (held a.happen),
        length-map a.happen.events holders_at,
        length-map b.happen.events holders_at,
      )

  -- the first of them is kept
  pub made_kept : (e : EventId) → e.0 ≡ length a.happen.events → IsKept b.happen.events e
  made_kept e same =
      let long : length (held a.happen) ≡ e.0 = length-map a.happen.events holders_at ∙ sym same in
      let there : IsSome (slice_index_or (unheld_events m.made (held a.happen)) e.0 None) =
      subst (λ n. IsSome (slice_index_or (unheld_events m.made (held a.happen)) n None)) long (made_first m.made (held a.happen) some_made) in
      kept_of (slice_index_or b.happen.events e.0 None)
      (subst IsSome (ap (λ (hs : List (Option ℕ)). slice_index_or hs e.0 None) (sym m.turns.held) ∙ held_at b.happen e) there)

-- room is left for callbacks
room_left : (most : ℕ) (change : Facilities → Facilities) (a b : SharedOf) → MakesAll most change a b → most < a.happen.spare.callbacks →
    0 < b.happen.spare.callbacks
room_left most change a b m h = omega (arith, h, m.at_most, ap (λ (x : Spare). x.callbacks) m.spare)

-- ---- a put or get

-- what was made was not refused
allowed_amount : (b : Bool) → (false ≡ true ↔ b ≡ true) → b ≡ false
allowed_amount true h = absurd (false≢true (h.1 refl))
allowed_amount false h = refl

pub move_made : {B Code : Type 0} {body : BodyOf B Code} (g : Plan B) (res : ℕ) (amount : ℤ)
    (change : Facilities → Facilities) (most : ℕ) (a n : PartsOf B Code) (e : EventId) →
    requests.is_refused_amount g.setup.resources res amount ≡ false → ((f : Facilities) → ComesPlainly f.calendar (change f).calendar) →
    MakesAll most change a.shared n.shared → e.0 ≡ length a.shared.happen.events →
    n ≡ record a { shared = n.shared } → ShowsSome a.shared → ((f : Facilities) → length f.calendar.events < length (change f).calendar.events) →
    most < a.shared.happen.spare.callbacks → MakesMove body g res amount change e a n
move_made {B} {Code} {body} g res amount change most a n e positive plainly made same is some more room =
    let makes : State B → State B = on_facilities change in
    let makes_it : Becomes body makes a n = subst (Becomes body makes a) (sym is) (becomes_made_all most change a n.shared plainly made) in
    record {
      each = λ more_held after last does.
          becomes_as (λ s. after e (makes s)) (with_move g res amount change after) a last
          (λ s h. ap (λ f. after f (makes s)) (sym (next_is a.shared.happen (calendar s) e same h.stands.facilities.calendar)) ∙ rw positive refl)
          (becomes_within (0 + more_held) more_held (λ s. after e (makes s)) a last
          (omega arith) (becomes_then makes (after e) a n last makes_it does));
      itself = makes_it;
      kept = made_kept most change a.shared n.shared some (more some.facilities) made e same;
      room = room_left most change a.shared n.shared made room;
    }

module _ {B Code : Type 0} {body : BodyOf B Code} (g : Plan B) (res : ℕ)
    (a n : PartsOf B Code) (e : EventId) (resources : a.shared.setup ≡ g.setup.resources)
    (same : e.0 ≡ length a.shared.happen.events) (is : n ≡ record a { shared = n.shared }) (some : ShowsSome a.shared)
    (room : 64 ≤ a.shared.happen.spare.callbacks) where
  pub put_makes : (amount priority : ℤ) → (false ≡ true ↔ requests.is_refused_amount a.shared.setup res amount ≡ true) →
      MakesAll 2 (requests.make_put a.shared.setup res amount priority) a.shared n.shared →
      MakesMove body g res amount (requests.make_put g.setup.resources res amount priority) e a n
  put_makes amount priority refused made =
      move_made g res amount (requests.make_put g.setup.resources res amount priority) 2 a n e
      (subst (λ r. requests.is_refused_amount r res amount ≡ false) resources
      (allowed_amount (requests.is_refused_amount a.shared.setup res amount) refused))
      (plainly_put g.setup.resources res amount priority)
      (subst (λ r. MakesAll 2 (requests.make_put r res amount priority) a.shared n.shared) resources made) same is some
      (put_made_more g.setup.resources res kind.Put (Give amount priority) (callback.TryGet res)) (omega (arith, room))

  pub get_makes : (least greatest : ℤ) → (false ≡ true ↔ requests.is_refused_amount a.shared.setup res least ≡ true) →
      MakesAll 1 (requests.make_get a.shared.setup res least greatest) a.shared n.shared →
      MakesMove body g res least (requests.make_get g.setup.resources res least greatest) e a n
  get_makes least greatest refused made =
      move_made g res least (requests.make_get g.setup.resources res least greatest) 1 a n e
      (subst (λ r. requests.is_refused_amount r res least ≡ false) resources
      (allowed_amount (requests.is_refused_amount a.shared.setup res least) refused))
      (plainly_get g.setup.resources res least greatest)
      (subst (λ r. MakesAll 1 (requests.make_get r res least greatest) a.shared n.shared) resources made) same is some
      (get_made_more g.setup.resources res least greatest) (omega (arith, room))

pub move_refused : {B Code : Type 0} {body : BodyOf B Code} (g : Plan B) (res : ℕ)
    (amount : ℤ) (change : Facilities → Facilities) (a n : PartsOf B Code) →
    a.shared.setup ≡ g.setup.resources → (true ≡ true ↔ requests.is_refused_amount a.shared.setup res amount ≡ true) →
    n ≡ record a { control = told_more (signal.Raised 2) a.control } → RefusesMove body g res amount change a n
move_refused {B} {Code} {body} g res amount change a n resources refuses is =
    let refused : requests.is_refused_amount g.setup.resources res amount ≡ true =
    subst (λ r. requests.is_refused_amount r res amount ≡ true) resources (refuses.0 refl) in
    record {
      each = λ after.
          subst (Becomes body (with_move g res amount change after) a) (sym is)
          (becomes_as (tell (signal.Raised 2)) (with_move g res amount change after) a _ (λ s h. rw refused refl) (becomes_told (signal.Raised 2) a));
    }

-- ---- tries

module _ {B Code : Type 0} (body : BodyOf B Code) (a n : PartsOf B Code) (event : EventId) (res : ℕ) (calling : IsCalling event a.control)
    (resources : a.shared.setup ≡ a.setup.resources) (is : n ≡ record a { shared = n.shared }) where
  abbrev g : Plan B
  g = plan_of body a

  pub try_put_called : (most : ℕ) → MakesAll most (try_put a.shared.setup res) a.shared n.shared →
      Becomes body (called g event (callback.TryPut res)) a n
  try_put_called most tries =
      let made : MakesAll most (try_put g.setup.resources res) a.shared n.shared =
      subst (λ r. MakesAll most (try_put r res) a.shared n.shared) resources tries in
      let change : State B → State B = on_facilities (try_put g.setup.resources res) in
      subst (Becomes body (called g event (callback.TryPut res)) a) (sym is)
      (becomes_as change (called g event (callback.TryPut res)) a _ (λ s h. ap change (sym (stays_calling g a event s calling h)))
      (becomes_made_all most (try_put g.setup.resources res) a n.shared (plainly_tried_put g.setup.resources res) made))

  pub try_get_called : FollowsAll (try_get a.shared.setup res) a.shared n.shared → Becomes body (called g event (callback.TryGet res)) a n
  try_get_called tries =
      let follows : FollowsAll (try_get g.setup.resources res) a.shared n.shared =
      subst (λ r. FollowsAll (try_get r res) a.shared n.shared) resources tries in
      let change : State B → State B = on_facilities (try_get g.setup.resources res) in
      subst (Becomes body (called g event (callback.TryGet res)) a) (sym is)
      (becomes_as change (called g event (callback.TryGet res)) a _ (λ s h. ap change (sym (stays_calling g a event s calling h)))
      (becomes_on_facilities (try_get g.setup.resources res) a n.shared (plainly_tried_get g.setup.resources res) follows))

-- ---- an event that waits is cancelled

-- what waited goes where nobody holds it
pub few_if_waits : (waited : Bool) (e : EventId) → AddsHolders 0 (gone_if_waits waited e)
few_if_waits false e = adds_none
few_if_waits true e =
    record {
      longer = λ hs. omega (arith, length-set hs e.0 (none_if_unheld (slice_index_or hs e.0 None)));
      few = λ most hs h. few_weaker most (most + 0) (gone_if_unheld e hs) (omega arith) (few_gone most e hs h);
    }

module _ {B Code : Type 0} (a n : PartsOf B Code) (y : SharedOf) (e : EventId) (waited : Bool) (kept : IsKept a.shared.happen.events e)
    (plain : (kept_at a.shared.happen.events e).event.condition ≡ None) (shown : (f : Facilities) → ShowsAll a.shared f → waited ≡ requests.waits e f)
    (turns : TurnsAll (requests.cancel e) (gone_if_waits waited e) a.shared y) where
  abbrev b : PartsOf B Code
  b = record a { shared = y }

  abbrev cancels : State B → State B
  cancels s = on_facilities (requests.cancel e) s

  -- where it waited it is closed then, and it is no condition
  keeps_cancelled : (s : State B) → Stands a s → KeepsHolders (calendar (cancels s)) (held a.shared.happen) (held y.happen)
  keeps_cancelled s h =
      let c : Calendar = calendar s in
      let d : Calendar = calendar (cancels s) in
      let hs : List (Option ℕ) = held a.shared.happen in
      let made : e.0 < length a.shared.happen.events = kept_made a.shared.happen.events e kept in
      let below : e.0 < length hs = omega (arith, made, length-map a.shared.happen.events holders_at) in
      let members : members_of d e ≡ [] =
      (plainly_cancelled_waiter e s.facilities).none.members e
      ∙ (ap (λ (x : EventOf). (condition_of x.condition).members) (sym (read_is a.shared.happen c e kept h.stands.facilities.calendar))
      ∙ ap (λ o. (condition_of o).members) plain) in
      subst (KeepsHolders d hs) (sym turns.held)
      (keeps_if waited (shown s.facilities h.stands.facilities) d hs below members
      (λ waits. shut (requests.waits e s.facilities) waits (omega (arith, made, h.stands.facilities.calendar.made))))
    where
      keeps_if : (w : Bool) → w ≡ requests.waits e s.facilities → (d : Calendar) (hs : List (Option ℕ)) → e.0 < length hs → members_of d e ≡ [] →
          (requests.waits e s.facilities ≡ true → is_closed d e ≡ true) → KeepsHolders d hs (gone_if_waits w e hs)
      keeps_if false is d hs below members closed = keeps_all d hs
      keeps_if true is d hs below members closed = keeps_gone d e hs hs below (closed (sym is)) members (keeps_all d hs)

      shut : (w : Bool) → w ≡ true → e.0 < length (calendar s).events →
          is_closed (if w then on_calendar (cancel_event e) (unqueue e s.facilities) else s.facilities).calendar e ≡ true
      shut true is below =
          or_right _ _ (ap (λ (x : EventOf). x.cancelled) (change_event-same e (λ x. record x { cancelled = true }) (calendar s) below))
      shut false is below = absurd (false≢true is)

  pub cancelled_becomes : {body : BodyOf B Code} → n ≡ record a { shared = y; control = told_more signal.Done a.control } →
      Becomes body (λ s. tell signal.Done (on_facilities (requests.cancel e) s)) a n
  cancelled_becomes {body} is =
      subst (Becomes body (λ s. tell signal.Done (cancels s)) a) (sym is)
      (becomes_then cancels (tell signal.Done) a b _
      (owing_by [] [] 0 cancels a b (turned_stands 0 (requests.cancel e) (gone_if_waits waited e) a y (few_if_waits waited e) turns)
      (record { code = refl; setup = refl; seed = refl }) (few_by 0 (gone_if_waits waited e) a b (few_if_waits waited e) turns.held)
      (λ s h.
      let plainly = plainly_cancelled_waiter e s.facilities in
      record { after = plainly.quietly.after; none = plainly.none; keeps = keeps_cancelled s h })
      (λ s h. quiet_trade a.setup.events (body.tell a.code) s (requests.cancel e s.facilities)
      (plainly_cancelled_waiter e s.facilities).quietly.triggers))
      (becomes_told signal.Done b))
