-- What stands in the place of a body that changes by a poll: it is one of its places, and what stands there then is kept.
use Rattle.std.proofs.Common.{◌≡◌, ℕ, ◌<◌, ◌^◌, Bool, true, false, not, List, [], ◌∷◌, length, refl, sym, ap, subst, ◌∙◌, Option, Some, None, arith, cond, if◌then◌else◌}
use Rattle.std.specs.Prelude.{All, IfSome, ◌==◌}
use Rattle.std.specs.Option.{option_map}
use Rattle.std.proofs.lemmas.Bool.{eqb-true}
use Rattle.std.proofs.lemmas.List.Elements.{All-cons, All-head, All-nil, All-tail}
use Rattle.sim_types.specs.declared.event.EventId.{EventId}
use Rattle.sim_types.specs.declared.event.ProcId.{ProcId}
use Rattle.sim_types.specs.declared.event.Signal.{Signal}
use Rattle.sim_types.specs.declared.event.Signal.TheVariants as signal
use Rattle.sim_types.specs.declared.op.Op.{Op}
use Rattle.sim_machine.specs.State.{Control, Active}
use Rattle.sim_machine.specs.Bodies.{BodyOf}
use Rattle.sim_machine.specs.Processes.{with_body}
use Rattle.sim_machine_law.proofs.Events.EventLaws.{same_event}
use Rattle.sim_procs.specs.Premises.{CanBeTold, events_in_places}
use Rattle.sim_procs.specs.RecordOf.{RecordOf, change_record, record_of}
use Rattle.sim_happen_model.specs.TableOf.{AreNeeded, IsKept}
use Rattle.sim_happen_model.specs.Naming.{but_zero}
use Rattle.sim_steps_model.specs.PartsOf.{PartsOf, IsRunning, IsRunningIn, KeepsButHappen}
use Rattle.sim_steps_model.specs.StandsFor.{StandsForSome}
use Rattle.sim_steps_model.specs.Becoming.{BecomesOwing, IsOwing}
use Rattle.sim_steps_model.specs.Holding.{HoldsMore, StandInPlaces, TakesHolder}
use Rattle.sim_steps_model.specs.Polling.{Asks, AsksOwing, event_placed, event_there, place_changed, place_given}
use Rattle.sim_steps_law.proofs.Kernels.Accounting.{owing_after}
use Rattle.sim_steps_law.proofs.Kernels.Becoming.{lawful_stands}
use Rattle.sim_steps_law.proofs.Holders.BodyPlaces.{polled_events}
use Rattle.sim_steps_law.proofs.Holders.CountedHolders.{is_owing_first}
use Rattle.sim_steps_law.proofs.Ends.Ending.{record_polled}
use Rattle.sim_steps_law.proofs.Holders.HeldPlaces.{all_in_places}
use Rattle.sim_steps_law.proofs.Kernels.KeptNames.{made_kept, named_kept, placed_kept}
use Rattle.sim_steps_law.proofs.Polls.Polls.{ReadsPlaces, asked_owing, can, lawful_stand, poll, sound_later, stand_later}
use Rattle.sim_steps_law.proofs.Kernels.Running.{KeepsLaw, running_can_be_told}

-- ---- the place that changes

-- it is one of the 64
pub place_within : {B Code : Type 0} (body : BodyOf B Code) (place : Code → B → Option ℕ)
    (a : PartsOf B Code) (event : EventId) (p : ProcId) (told : Signal) →
    ((code : Code) (b : B) (e : EventId) (at : ℕ) → CanBeTold body code b (signal.Made e) → place code b ≡ Some at → at < 64) → StandsForSome body a →
    length a.shared.happen.events < 2 ^ 62 → IsRunning event p told a.control →
    IfSome (place_given (place a.code) told (record_of p a.live)) (λ at. at < 64)
place_within {B} body place a event p told within h few running = at (record_of p a.live) told refl refl
  where
    of : (o : Option ℕ) → ((at : ℕ) → o ≡ Some at → at < 64) → IfSome o (λ at. at < 64)
    of None h = tt
    of (Some i) h = h i refl

    at : (o : Option (RecordOf B)) (x : Signal) → record_of p a.live ≡ o → told ≡ x → IfSome (place_given (place a.code) x o) (λ at. at < 64)
    at None x found is = tt
    at (Some r) (signal.Made e) found is =
        let can = running_can_be_told body a event p told r.body h running (ap (λ (o : Option (RecordOf B)). option_map (λ q. q.body) o) found) few in
        of (place a.code r.body) (λ i there. within a.code r.body e i (subst (CanBeTold body a.code r.body) is can) there)
    at (Some r) _ found is = tt

-- ---- what stands there

-- event 0, or what is no other than it
with_zero : (P : EventId → Type 0) (es : List EventId) → P (record { 0 = 0 }) → All P (but_zero es) → All P es
with_zero P [] zero h = All-nil P
with_zero P (e ∷ es) zero h = at (e.0 == 0) refl h (with_zero P es zero)
  where
    at : (b : Bool) → (e.0 == 0) ≡ b → All P (if not b then e ∷ but_zero es else but_zero es) → (All P (but_zero es) → All P es) → All P (e ∷ es)
    at true is all later = All-cons P e es (subst P (same_event (record { 0 = 0 }) e (sym (eqb-true e.0 0 is))) zero) (later all)
    at false is all later = All-cons P e es (All-head P e (but_zero es) all) (later (All-tail P e (but_zero es) all))

module _ {B Code : Type 0} (body : BodyOf B Code) (events : B → List EventId)
    (place : B → Option ℕ) (old : PartsOf B Code) (p : ProcId) (event : EventId) (told : Signal)
    (reads : ReadsPlaces body old.code events place) (law : KeepsLaw body old.code)
    (h : StandsForSome body old) (few : length old.shared.happen.events < 2 ^ 62)
    (running : IsRunning event p told old.control) (mid : PartsOf B Code) (asked : Op) (a : Asks body p told old asked mid) where
  abbrev changed : Option ℕ
  changed = place_changed (place a.before) told

  placed_before : place_given place told (record_of p old.live) ≡ changed
  placed_before =
      let r = record_polled body old mid p told asked a in
      ap (λ (o : Option (RecordOf B)). place_given place told o) r.1 ∙ ap (λ (b : B). place_changed (place b) told) r.2

  event_before : event_placed events changed (record_of p old.live) ≡ event_there (events a.before) changed
  event_before =
      let r = record_polled body old mid p told asked a in
      ap (λ (o : Option (RecordOf B)). event_placed events changed o) r.1 ∙ ap (λ (b : B). event_there (events b) changed) r.2

  event_later : event_placed events changed (record_of p mid.live) ≡ event_there (events a.later) changed
  event_later = ap (λ (o : Option (RecordOf B)). event_placed events changed o) (record_polled body old mid p told asked a).3

  -- after the poll all that stands in the places is kept: it stood there before, or was made and is told
  events_kept : AreNeeded old.shared.happen.events → All (IsKept old.shared.happen.events) (events a.later)
  events_kept needed =
      let P : EventId → Type 0 = IsKept old.shared.happen.events in
      let tell = body.tell old.code in
      let r = record_polled body old mid p told asked a in
      let zero : P (record { 0 = 0 }) = named_kept body old h needed (record { 0 = 0 }) (omega arith) in
      let stand : StandInPlaces tell (events r.0.body) r.0.body = lawful_stand body events place old p r.0 reads h r.1 in
      let before : All P (events r.0.body) =
      with_zero P (events r.0.body) zero (subst (All P) stand.named (placed_kept body old h needed p r.0 r.1)) in
      let places : All P (events_in_places body old.code a.before) =
      subst (All P) (sym (reads.places a.before (can body events place old p event told reads law h few running mid asked a).sound))
      (subst (λ b. All P (events b)) r.2 before) in
      let made : (e : EventId) → told ≡ signal.Made e → P e =
      λ e is. made_kept body old h needed event p e (subst (λ x. IsRunning event p x old.control) is running) in
      subst (All P) (reads.places a.later (sound_later body events place old p event told reads law h few running mid asked a))
      (polled_events (tell.last a.before) told P (tell.places a.before) (tell.places a.later)
      (poll body events place old p event told reads law h few running mid asked a).places made places)

  module _ (at : Option ℕ) (now : EventId) (given : at ≡ place_given place told (record_of p old.live))
      (is : now ≡ event_placed events at (record_of p mid.live)) where
    now_is : now ≡ event_there (events a.later) changed
    now_is = is ∙ (ap (λ (o : Option ℕ). event_placed events o (record_of p mid.live)) (given ∙ placed_before) ∙ event_later)

    pub now_kept : AreNeeded old.shared.happen.events → IsKept old.shared.happen.events now
    now_kept needed =
        let P : EventId → Type 0 = IsKept old.shared.happen.events in
        subst P (sym now_is) (there changed (named_kept body old h needed (record { 0 = 0 }) (omega arith)) (events_kept needed))
      where
        there : (o : Option ℕ) → IsKept old.shared.happen.events (record { 0 = 0 }) → All (IsKept old.shared.happen.events) (events a.later) →
            IsKept old.shared.happen.events (event_there (events a.later) o)
        there None zero all = zero
        there (Some i) zero all = all_in_places (IsKept old.shared.happen.events) (events a.later) zero all i

    -- where it is held, the rest is owed
    pub now_owing : (new : PartsOf B Code) → mid.shared.happen ≡ old.shared.happen → BecomesOwing body [] (but_zero (now ∷ [])) 1 (λ s. s) mid new →
        HoldsMore now mid.shared.happen.events new.shared.happen.events → TakesHolder mid.shared.happen new.shared.happen → KeepsButHappen mid new →
        AsksOwing body p told (event_placed events at (record_of p old.live)) old asked new
    now_owing new same hold more takes rest =
        let left_is : event_placed events at (record_of p old.live) ≡ event_there (events a.before) changed =
        ap (λ (o : Option ℕ). event_placed events o (record_of p old.live)) (given ∙ placed_before) ∙ event_before in
        subst (λ e. AsksOwing body p told e old asked new) (sym left_is)
        (asked_owing body events place old p event told reads law h few running mid asked a new same
        (subst (λ e. BecomesOwing body [] (but_zero (e ∷ [])) 1 (λ s. s) mid new) now_is hold)
        (subst (λ e. HoldsMore e mid.shared.happen.events new.shared.happen.events) now_is more) takes rest)

-- the kernel stands for some state then, and owes what it owes
pub asked_owing_some : {B Code : Type 0} (body : BodyOf B Code) (old new : PartsOf B Code)
    (p : ProcId) (told : Signal) (left : EventId) (asked : Op) →
    StandsForSome body old → AsksOwing body p told left old asked new → IsOwing body [] new
asked_owing_some body old new p told left asked h a =
    is_owing_first [] (but_zero (left ∷ [])) new
    (owing_after (with_body p a.asks.later) old new a.owes
    (record { state = h.state; stands = lawful_stands body old h.state h.lawful h.stands; others = []; balances = h.balances }))

-- ---- each process after the poll

-- what holds of each body, and of the new state of one, holds of each then
changed_has : {B : Type 0} (P : B → Type 0) (p q : ProcId) (b : B) → P b → (live : List (RecordOf B)) → IfSome (record_of q live) (λ r. P r.body) →
    IfSome (record_of q (change_record p (λ r. record r { body = b }) live)) (λ r. P r.body)
changed_has P p q b h [] all = tt
changed_has {B} P p q b h (r ∷ live) all = at (r.id.0 == q.0) (r.id.0 == p.0) refl all (changed_has P p q b h live)
  where
    at : (v w : Bool) → (r.id.0 == q.0) ≡ v → IfSome (cond v (Some r) (record_of q live)) (λ x. P x.body) →
        (IfSome (record_of q live) (λ x. P x.body) → IfSome (record_of q (change_record p (λ x. record x { body = b }) live)) (λ x. P x.body)) →
        IfSome (cond ((if w then record r { body = b } else r).id.0 == q.0) (Some (if w then record r { body = b } else r))
        (record_of q (change_record p (λ x. record x { body = b }) live))) (λ x. P x.body)
    at true true is all later = rw is h
    at true false is all later = rw is all
    at false true is all later = rw is (later all)
    at false false is all later = rw is (later all)

-- what its body names stands in its places
pub all_stand : {B Code : Type 0} (body : BodyOf B Code) (events : B → List EventId)
    (place : B → Option ℕ) (old : PartsOf B Code) (p : ProcId) (event : EventId) (told : Signal)
    (reads : ReadsPlaces body old.code events place) (law : KeepsLaw body old.code)
    (h : StandsForSome body old) (few : length old.shared.happen.events < 2 ^ 62)
    (running : IsRunning event p told old.control) (mid : PartsOf B Code) (asked : Op) → Asks body p told old asked mid → (q : ProcId) →
    IfSome (record_of q mid.live) (λ r. StandInPlaces (body.tell mid.code) (events r.body) r.body)
all_stand {B} body events place old p event told reads law h few running mid asked a q =
    let P : B → Type 0 = λ b. StandInPlaces (body.tell old.code) (events b) b in
    rw a.others (changed_has P p q a.later
    (stand_later body events place old p event told reads law h few running mid asked a) old.live (at (record_of q old.live) refl))
  where
    at : (o : Option (RecordOf B)) → record_of q old.live ≡ o → IfSome o (λ r. StandInPlaces (body.tell old.code) (events r.body) r.body)
    at None found = tt
    at (Some r) found = lawful_stand body events place old q r reads h found

-- ---- the process that was polled still runs

running_in : (c : Control) (event : EventId) (p : ProcId) (told : Signal) → IsRunning event p told c → IsRunningIn event p c
running_in (Active e left q x) event p told h = (h.0, h.1)
running_in _ event p told h = absurd h

pub asked_running : {B Code : Type 0} (body : BodyOf B Code) (old mid : PartsOf B Code) (event : EventId) (p : ProcId) (told : Signal) (asked : Op) →
    Asks body p told old asked mid → IsRunning event p told old.control → IsRunningIn event p mid.control
asked_running {B} {Code} body old mid event p told asked a running =
    subst (IsRunningIn event p) (sym (ap (λ (k : PartsOf B Code). k.control) a.others)) (running_in old.control event p told running)
