-- A process that puts or gets keeps the state lawful, whether it waits for that or goes on, or is refused.
use Rattle.std.proofs.Common.{◌≡◌, ℕ, ◌<◌, ℤ, Bool, true, false, not, List, [], ◌∷◌, length, Some, refl, ap, ◌∙◌, arith, zero, suc}
use Rattle.std.proofs.lemmas.Bool.{false≢true}
use Rattle.sim_types.specs.declared.event.EventId.{EventId}
use Rattle.sim_types.specs.declared.event.ProcId.{ProcId}
use Rattle.sim_types.specs.declared.event.EventKind.{EventKind}
use Rattle.sim_types.specs.declared.event.Callback.{Callback}
use Rattle.sim_types.specs.declared.event.Signal.{Signal}
use Rattle.sim_types.specs.declared.event.EventKind.TheVariants as kind
use Rattle.sim_types.specs.declared.event.Signal.TheVariants as signal
use Rattle.sim_types.specs.declared.op.Op.{Op}
use Rattle.sim_types.specs.declared.op.Op.TheVariants as op
use Rattle.sim_types.specs.declared.setup.Resource.{Resource}
use Rattle.sim_types.specs.declared.setup.ResourceKind.{ResourceKind}
use Rattle.sim_machine.specs.State.{Facilities, ProcessOf, State, Plan}
use Rattle.sim_machine.specs.Events.{next_event}
use Rattle.sim_machine.specs.Users.{resource_at}
use Rattle.sim_machine.specs.Requests.{make_put, make_get, is_refused_amount}
use Rattle.sim_machine.specs.Scopes.{on_facilities}
use Rattle.sim_machine.specs.Processes.{with_body, wait}
use Rattle.sim_machine.specs.Effect.{calendar, raise, tell_made, with_move}
use Rattle.sim_machine.specs.Steps.{polled}
use Rattle.sim_machine.specs.Tellings.{Telling, CodeFacts}
use Rattle.sim_machine.specs.MayAsk.{takes_requests, has_resource}
use Rattle.sim_machine.specs.MayFollow.{may_wait, may_follow, makes_kind, is_enter}
use Rattle.sim_machine.specs.Setups.{FitsCode}
use Rattle.sim_machine.specs.LawfulInterruptions.{is_unheard_kind}
use Rattle.sim_machine_law.proofs.KeptParts.KeptTimesCases.{if_cases}
use Rattle.sim_machine_law.proofs.Events.ChangedCalendars.{AsksFor, HasAsked}
use Rattle.sim_lawful.proofs.Calendars.ReplacedCalendars.{replace_same}
use Rattle.sim_lawful.proofs.Polls.ToldAnswers.{lawful_made, lawful_raised}
use Rattle.sim_lawful.proofs.Polls.WaitedEvents.{lawful_waits}
use Rattle.sim_lawful.proofs.Waiting.JoinedQueues.{IsMadeWell, lawful_put_made, lawful_get_made, move_of}
use Rattle.sim_machine_law.proofs.KeptParts.LawfulBasis.{LawfulBasis}

-- ---- the resource that a body names

pub has_resource_below : (rs : List Resource) (test : ResourceKind → Bool) (res : ℕ) → has_resource rs test res ≡ true → res < length rs
has_resource_below [] test res h = absurd (false≢true h)
has_resource_below (r ∷ rs) test zero h = omega arith
has_resource_below (r ∷ rs) test (suc res) h = omega (arith, has_resource_below rs test res h)

pub has_resource_of : (rs : List Resource) (test : ResourceKind → Bool) (res : ℕ) → has_resource rs test res ≡ true → test (resource_at rs res).kind ≡ true
has_resource_of [] test res h = absurd (false≢true h)
has_resource_of (r ∷ rs) test zero h = h
has_resource_of (r ∷ rs) test (suc res) h = has_resource_of rs test res h

-- ---- what is told

-- what is to be known of an operation that may be refused by error 2, and opens no scope
record IsMove (o : Op) : Type 0 where
  pub refused : may_follow o (signal.Raised 2) ≡ true
  pub not_enters : is_enter (Some o) ≡ false

moved_told : {B : Type 0} (g : Plan B) (tell : Telling B) (sound : B → Type 0) (s : State B) (f : CodeFacts) (e : EventId)
    (left : List Callback) (p : ProcId) (x : Signal) (y : ProcessOf B) (b : B) (o : Op) (k : EventKind) (res : ℕ)
    (amount : ℤ) (change : Facilities → Facilities) → HasAsked g tell sound s f e left p x y b o → IsMove o
    → may_follow o (signal.Made (next_event (calendar s))) ≡ true → makes_kind (Some o) k ≡ true
    → (is_refused_amount g.setup.resources res amount ≡ false → IsMadeWell g tell sound s k (change s.facilities))
    → LawfulBasis g tell sound (with_move g res amount change tell_made (with_body p b s))
moved_told {B} g tell sound s f e left p x y b o k res amount change h move follows makes made =
    let n : EventId = next_event (calendar s) in
    let r : State B = with_body p b s in
    let t : State B = on_facilities change s in
    if_cases (LawfulBasis g tell sound) (is_refused_amount g.setup.resources res amount) (raise 2 r) (tell_made n (on_facilities change r))
    (λ refused. lawful_raised g tell sound s f e left p x y b o 2 h move.not_enters move.refused)
    (λ fits.
    let m : IsMadeWell g tell sound s k (change s.facilities) = made fits in
    let asked : HasAsked g tell sound t f e left p x y b o = record { active = h.active; found = h.found; is_sound = h.is_sound; lawful = m.lawful; poll = h.poll; scopes = h.scopes } in
    lawful_made g tell sound t f e left p x y b o n (λ c. c) asked (replace_same g tell sound t m.lawful) move.not_enters follows (ap (λ (z : EventKind). makes_kind (Some o) z) m.kind ∙ makes) m.made m.unprocessed)

moved_waits : {B : Type 0} (g : Plan B) (tell : Telling B) (sound : B → Type 0) (s : State B) (f : CodeFacts) (e : EventId)
    (left : List Callback) (p : ProcId) (x : Signal) (y : ProcessOf B) (b : B) (o : Op) (k : EventKind) (res : ℕ)
    (amount : ℤ) (change : Facilities → Facilities) → HasAsked g tell sound s f e left p x y b o → IsMove o
    → may_wait o ≡ true → is_unheard_kind k ≡ false
    → (is_refused_amount g.setup.resources res amount ≡ false → IsMadeWell g tell sound s k (change s.facilities))
    → LawfulBasis g tell sound (with_move g res amount change (λ n t. wait n p t) (with_body p b s))
moved_waits {B} g tell sound s f e left p x y b o k res amount change h move waits heard made =
    let n : EventId = next_event (calendar s) in
    let r : State B = with_body p b s in
    let t : State B = on_facilities change s in
    if_cases (LawfulBasis g tell sound) (is_refused_amount g.setup.resources res amount) (raise 2 r) (wait n p (on_facilities change r))
    (λ refused. lawful_raised g tell sound s f e left p x y b o 2 h move.not_enters move.refused)
    (λ fits.
    let m : IsMadeWell g tell sound s k (change s.facilities) = made fits in
    let asked : HasAsked g tell sound t f e left p x y b o = record { active = h.active; found = h.found; is_sound = h.is_sound; lawful = m.lawful; poll = h.poll; scopes = h.scopes } in
    lawful_waits g tell sound t f e left p x y b o n asked waits m.made (ap is_unheard_kind m.kind ∙ heard))

-- ---- puts

put_well : {B : Type 0} (g : Plan B) (tell : Telling B) (sound : B → Type 0) (s : State B) (f : CodeFacts) (res : ℕ)
    (amount priority : ℤ) → FitsCode f g.setup → LawfulBasis g tell sound s
    → has_resource f.resources (λ k. not (takes_requests k)) res ≡ true
    → is_refused_amount g.setup.resources res amount ≡ false
    → IsMadeWell g tell sound s kind.Put (make_put g.setup.resources res amount priority s.facilities)
put_well g tell sound s f res amount priority fits h has kept =
    let rs : List Resource = g.setup.resources in
    let test : ResourceKind → Bool = λ k. not (takes_requests k) in
    let here : has_resource rs test res ≡ true = ap (λ (xs : List Resource). has_resource xs test res) fits.resources ∙ has in
    lawful_put_made g tell sound s res amount priority (has_resource_below rs test res here) (move_of (resource_at rs res).kind amount (has_resource_of rs test res here) kept) h

module _ {B : Type 0} (g : Plan B) (tell : Telling B) (sound : B → Type 0) (s : State B) (f : CodeFacts) (e : EventId) (left : List Callback) (p : ProcId) (x : Signal) (y : ProcessOf B) (b : B) where
  pub lawful-polled_put : (res : ℕ) (amount priority : ℤ) → FitsCode f g.setup
      → AsksFor g tell sound s f e left p x y b (op.Put res amount priority)
      → LawfulBasis g tell sound (polled g p (op.Put res amount priority) b s)
  lawful-polled_put res amount priority fits asks =
      let o : Op = op.Put res amount priority in
      let asked : HasAsked g tell sound s f e left p x y b o = record { active = asks.active; found = asks.found; is_sound = asks.is_sound; lawful = asks.lawful; poll = asks.poll; scopes = asks.poll.scopes } in
      moved_told g tell sound s f e left p x y b o kind.Put res amount (make_put g.setup.resources res amount priority) asked (record { refused = refl; not_enters = refl }) refl refl (put_well g tell sound s f res amount priority fits asks.lawful asks.poll.asks)

  pub lawful-polled_put_wait : (res : ℕ) (amount priority : ℤ) → FitsCode f g.setup
      → AsksFor g tell sound s f e left p x y b (op.PutWait res amount priority)
      → LawfulBasis g tell sound (polled g p (op.PutWait res amount priority) b s)
  lawful-polled_put_wait res amount priority fits asks =
      let o : Op = op.PutWait res amount priority in
      let asked : HasAsked g tell sound s f e left p x y b o = record { active = asks.active; found = asks.found; is_sound = asks.is_sound; lawful = asks.lawful; poll = asks.poll; scopes = asks.poll.scopes } in
      moved_waits g tell sound s f e left p x y b o kind.Put res amount (make_put g.setup.resources res amount priority) asked (record { refused = refl; not_enters = refl }) refl refl (put_well g tell sound s f res amount priority fits asks.lawful asks.poll.asks)

-- ---- gets

get_well : {B : Type 0} (g : Plan B) (tell : Telling B) (sound : B → Type 0) (s : State B) (f : CodeFacts) (res : ℕ)
    (least greatest : ℤ) → FitsCode f g.setup → LawfulBasis g tell sound s
    → has_resource f.resources (λ k. not (takes_requests k)) res ≡ true
    → is_refused_amount g.setup.resources res least ≡ false
    → IsMadeWell g tell sound s kind.Get (make_get g.setup.resources res least greatest s.facilities)
get_well g tell sound s f res least greatest fits h has kept =
    let rs : List Resource = g.setup.resources in
    let test : ResourceKind → Bool = λ k. not (takes_requests k) in
    let here : has_resource rs test res ≡ true = ap (λ (xs : List Resource). has_resource xs test res) fits.resources ∙ has in
    lawful_get_made g tell sound s res least greatest (has_resource_below rs test res here) (move_of (resource_at rs res).kind least (has_resource_of rs test res here) kept) h

module _ {B : Type 0} (g : Plan B) (tell : Telling B) (sound : B → Type 0) (s : State B) (f : CodeFacts) (e : EventId) (left : List Callback) (p : ProcId) (x : Signal) (y : ProcessOf B) (b : B) where
  pub lawful-polled_get : (res : ℕ) (least greatest : ℤ) → FitsCode f g.setup
      → AsksFor g tell sound s f e left p x y b (op.Get res least greatest)
      → LawfulBasis g tell sound (polled g p (op.Get res least greatest) b s)
  lawful-polled_get res least greatest fits asks =
      let o : Op = op.Get res least greatest in
      let asked : HasAsked g tell sound s f e left p x y b o = record { active = asks.active; found = asks.found; is_sound = asks.is_sound; lawful = asks.lawful; poll = asks.poll; scopes = asks.poll.scopes } in
      moved_told g tell sound s f e left p x y b o kind.Get res least (make_get g.setup.resources res least greatest) asked (record { refused = refl; not_enters = refl }) refl refl (get_well g tell sound s f res least greatest fits asks.lawful asks.poll.asks)

  pub lawful-polled_get_wait : (res : ℕ) (least greatest : ℤ) → FitsCode f g.setup
      → AsksFor g tell sound s f e left p x y b (op.GetWait res least greatest)
      → LawfulBasis g tell sound (polled g p (op.GetWait res least greatest) b s)
  lawful-polled_get_wait res least greatest fits asks =
      let o : Op = op.GetWait res least greatest in
      let asked : HasAsked g tell sound s f e left p x y b o = record { active = asks.active; found = asks.found; is_sound = asks.is_sound; lawful = asks.lawful; poll = asks.poll; scopes = asks.poll.scopes } in
      moved_waits g tell sound s f e left p x y b o kind.Get res least (make_get g.setup.resources res least greatest) asked (record { refused = refl; not_enters = refl }) refl refl (get_well g tell sound s f res least greatest fits asks.lawful asks.poll.asks)
