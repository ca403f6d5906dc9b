-- A process that the code makes is the one that the machine makes.
use Rattle.std.proofs.Common.{◌≡◌, ◌≢◌, ℕ, ℤ, zero, suc, ◌+◌, ◌<◌, Bool, true, false, List, [], ◌∷◌, ◌++◌, length, refl, sym, ap, subst, ◌∙◌, map, Option, Some, None, ◌⊎◌, inl, inr, arith}
use Rattle.std.specs.Prelude.{All, AllPairs, IsSome, is_some, slice_index_or}
use Rattle.std.specs.List.{list_any}
use Rattle.std.specs.List.Sorted.{IsPermutation}
use Rattle.std.proofs.lemmas.Bool.{both_ways, cases_Bool, or_left}
use Rattle.std.proofs.lemmas.List.Elements.{All-append, All-cons, All-nil, All-weaker}
use Rattle.std.proofs.lemmas.List.Folds.{list_any-append}
use Rattle.std.proofs.lemmas.List.Quantifiers.{all_pairs_push}
use Rattle.std.proofs.lemmas.List.Sorted.{IsPermutation-trans, IsPermutation-cons, IsPermutation-map, IsPermutation-sym, IsPermutation-to_front, All-permutation}
use Rattle.sim_types.specs.declared.event.EventId.{EventId}
use Rattle.sim_types.specs.declared.event.ProcId.{ProcId}
use Rattle.sim_types.specs.declared.event.Scope.{Scope}
use Rattle.sim_types.specs.declared.event.EventKind.TheVariants as kind
use Rattle.sim_types.specs.declared.setup.Start.{Start}
use Rattle.sim_machine.specs.State.{OpenScope, Calendar, ProcessOf, State, Plan}
use Rattle.sim_machine.specs.Events.{is_process, next_event}
use Rattle.sim_machine.specs.Tellings.{CodeFacts}
use Rattle.sim_machine_law.specs.NamedEvents.{arguments_name}
use Rattle.sim_machine.specs.Triggering.{make}
use Rattle.sim_machine.specs.Processes.{is_alive, make_events_of_process, make_process}
use Rattle.sim_machine.specs.Runs.{start_process}
use Rattle.sim_machine.specs.Scopes.{on_events}
use Rattle.sim_machine.specs.Effect.{calendar}
use Rattle.sim_machine.specs.Bodies.{BodyOf, start_of}
use Rattle.sim_machine.specs.BodyLaw.{IsLawfulStart}
use Rattle.sim_lawful.proofs.Scopes.ClosedScopes.{all_fail}
use Rattle.sim_machine_law.proofs.Events.EventLaws.{same_event, make-length}
use Rattle.sim_machine_law.proofs.KeptParts.KeptWaitingUnits.{none_found}
use Rattle.sim_machine_law.proofs.KeptParts.KeptProcessesParts.{is_process-self, is_process-yes}
use Rattle.sim_procs.specs.Premises.{CanBegin}
use Rattle.sim_procs.specs.RecordOf.{RecordOf, begun_record, record_of}
use Rattle.sim_happen_model.specs.TableOf.{Kept, IsKept}
use Rattle.sim_happen_model.specs.HappenOf.{HappenOf, held, unheld_event}
use Rattle.sim_happen_model.specs.Shows.{Shows}
use Rattle.sim_happen_law.proofs.Changes.Held.{held_at, kept_of, of_kept}
use Rattle.sim_happen_model.specs.Naming.{but_zero, named_by_process, named_in_places}
use Rattle.sim_accounts.proofs.CalendarChanges.{plainly_process}
use Rattle.sim_accounts.proofs.ChangedPlaces.{but_zero-append, in_place}
use Rattle.sim_accounts.proofs.StateChanges.{joined_trade}
use Rattle.sim_steps_model.specs.PartsOf.{PartsOf, KeepsButHappen, KeepsButRoom, plan_of, with_happen}
use Rattle.sim_steps_model.specs.StandsFor.{process_of, scopes_of}
use Rattle.sim_steps_model.specs.Becoming.{AreFew, Stands, Becomes, BecomesOwing, BecomesWith}
use Rattle.sim_steps_model.specs.Holding.{StandInPlaces}
use Rattle.sim_steps_model.specs.Opening.{next_process, next_init, two_unheld, most_begun, AreArgumentsKept, IsOpening, MakesProcess}
use Rattle.sim_steps_law.proofs.Kernels.Accounting.{keeps_unheld, owing_after, owing_besides, owing_by, stay_stated}
use Rattle.sim_steps_law.proofs.Kernels.Becoming.{becomes_as, becomes_then, becomes_turned}
use Rattle.sim_steps_law.proofs.Holders.BodyPlaces.{begun_events, begun_numbers, stand_where}
use Rattle.sim_steps_law.proofs.Holders.CountedHolders.{AreAlike, alike_itself, alike_swapped, owing_alike}
use Rattle.sim_steps_law.proofs.Holders.HeldPlaces.{all_in_places}
use Rattle.sim_steps_law.proofs.Polls.Interruptions.{alive_is}
use Rattle.sim_steps_law.proofs.Kernels.Keeping.{adds_unheld, few_made, few_same}
use Rattle.sim_steps_law.proofs.Polls.Polls.{ReadsPlaces}
use Rattle.sim_steps_law.proofs.Kernels.Rooms.{roomier_becomes}
use Rattle.sim_steps_law.proofs.Kernels.Running.{KeepsLaw}
use Rattle.sim_steps_law.proofs.Starts.Starting.{of_process_events}

-- ---- the events of a process

-- the numbers that are next are those of the machine
pub next_processes : (h : HappenOf) (c : Calendar) → Shows h c → next_process h ≡ record { 0 = (next_event c).0 }
next_processes h c s = ap (λ (n : ℕ). let p : ProcId = record { 0 = n } in p) s.made

next_inits : (h : HappenOf) (c : Calendar) → Shows h c → next_init h ≡ next_event (make kind.Process c)
next_inits h c s = same_event (next_init h) (next_event (make kind.Process c)) (omega (arith, s.made, make-length kind.Process c))

still_there : (hs : List (Option ℕ)) (x : Option ℕ) (i : ℕ) → IsSome (slice_index_or hs i None) → IsSome (slice_index_or (hs ++ x ∷ []) i None)
still_there [] x i h = absurd (cc)
still_there (y ∷ hs) x zero h = h
still_there (y ∷ hs) x (suc i) h = still_there hs x i h

-- what was kept is kept, and so is the init event
module _ (a x : HappenOf) (makes : MakesProcess a x) where
  kept_by : (e : EventId) → IsSome (slice_index_or (two_unheld (held a)) e.0 None) → IsKept x.events e
  kept_by e h = kept_of (slice_index_or x.events e.0 None)
      (subst IsSome (ap (λ (hs : List (Option ℕ)). slice_index_or hs e.0 None) (sym makes.held) ∙ held_at x e) h)

  pub kept_still : (e : EventId) → IsKept a.events e → IsKept x.events e
  kept_still e kept =
      let before : IsSome (slice_index_or (held a) e.0 None) = subst IsSome (sym (held_at a e)) (of_kept (slice_index_or a.events e.0 None) kept) in
      kept_by e (still_there (unheld_event (held a)) (Some 0) e.0 (still_there (held a) (Some 0) e.0 before))

-- nobody holds them yet
pub begun_few : (most : ℕ) (a x : HappenOf) → MakesProcess a x → AreFew most (held a) → AreFew most (held x)
begun_few most a x makes h = subst (AreFew most) (sym makes.held) (few_made most (unheld_event (held a)) (few_made most (held a) h))

-- ---- a process that is not alive

-- no open scope is its own
pub scopes_of_none : {B : Type 0} (p : ProcId) (s : State B) → is_alive p s ≡ false → All (λ x. is_alive x.process s ≡ true) s.scopes →
    scopes_of p s ≡ []
scopes_of_none {B} p s ended owned =
    let others : All (λ x. is_process x.process p ≡ false) s.scopes =
    All-weaker (λ x. is_alive x.process s ≡ true) (λ x. is_process x.process p ≡ false)
    (λ x lives. other x lives (cases_Bool (is_process x.process p))) s.scopes owned in
    ap (λ (xs : List OpenScope). map (λ (x : OpenScope). let y : Scope = record { request = x.request; res = x.res } in y) xs)
    (none_found (λ x. is_process x.process p) s.scopes others)
  where
    other : (x : OpenScope) → is_alive x.process s ≡ true → (is_process x.process p ≡ true) ⊎ (is_process x.process p ≡ false) →
        is_process x.process p ≡ false
    other x lives (inl same) = absurd (both_ways (is_alive p s) ended (subst (λ q. is_alive q s ≡ true) (is_process-yes x.process p same) lives))
    other x lives (inr differ) = differ

-- the processes with one of its number differ in their numbers
distinct_joined : {B : Type 0} (s : State B) (y : ProcessOf B) → is_alive y.id s ≡ false → AllPairs (λ x z. x.id ≢ z.id) s.processes →
    AllPairs (λ x z. x.id ≢ z.id) (s.processes ++ y ∷ [])
distinct_joined {B} s y ended h =
    let none : All (λ z. is_process z.id y.id ≡ false) s.processes = all_fail (λ z. is_process z.id y.id) s.processes ended in
    all_pairs_push (λ x z. x.id ≢ z.id) s.processes y h
    (λ k d below same. both_ways (is_process y.id y.id) (subst (λ q. is_process q y.id ≡ false) same (none k d below)) (is_process-self y.id))

-- who was alive is alive with one more
alive_joined : {B : Type 0} (s : State B) (y : ProcessOf B) (q : ProcId) → is_alive q s ≡ true →
    list_any (λ z. is_process z.id q) (s.processes ++ y ∷ []) ≡ true
alive_joined s y q lives =
    list_any-append (λ z. is_process z.id q) s.processes (y ∷ []) ∙ or_left (is_alive q s) (list_any (λ z. is_process z.id q) (y ∷ [])) lives

-- the processes with the new one are those of the records with the new one
processes_joined : {B : Type 0} (ps : List (ProcessOf B)) (r : RecordOf B) (old new : List (RecordOf B)) → IsPermutation ps (map process_of old) →
    IsPermutation (r ∷ old) new → IsPermutation (ps ++ process_of r ∷ []) (map process_of new)
processes_joined ps r old new h k =
    IsPermutation-trans (ps ++ process_of r ∷ []) (process_of r ∷ ps) (map process_of new) (IsPermutation-to_front ps (process_of r))
    (IsPermutation-trans (process_of r ∷ ps) (process_of r ∷ map process_of old) (map process_of new)
    (IsPermutation-cons (process_of r) ps (map process_of old) h) (IsPermutation-map process_of (r ∷ old) new k))

-- ---- a process more is alive

abbrev pub with_process : {B : Type 0} → ProcessOf B → State B → State B
with_process x s = record s { processes = s.processes ++ x ∷ [] }

joined_stands : {B Code : Type 0} (a : PartsOf B Code) (r : RecordOf B) (live : List (RecordOf B)) (spare : ℕ) → record_of r.id a.live ≡ None →
    r.scopes ≡ [] →
    IsPermutation (r ∷ a.live) live → (s : State B) → Stands a s → Stands (record a { live = live; spare = spare }) (with_process (process_of r) s)
joined_stands {B} a r live spare none alone others s h =
    let ended : is_alive r.id s ≡ false = alive_is a r.id s h ∙ ap is_some none in
    let t : State B = with_process (process_of r) s in
    let own : r.scopes ≡ scopes_of r.id t = alone ∙ sym (scopes_of_none r.id s ended h.owned) in
    record {
      stands = record {
        facilities = h.stands.facilities;
        processed = h.stands.processed;
        generator = h.stands.generator;
        processes = processes_joined s.processes r a.live live h.stands.processes others;
        scopes = All-permutation (λ y. y.scopes ≡ scopes_of y.id t) (r ∷ a.live) live others
            (All-cons (λ y. y.scopes ≡ scopes_of y.id t) r a.live own h.stands.scopes);
        control = h.stands.control;
      };
      distinct = distinct_joined s (process_of r) ended h.distinct;
      owned = All-weaker (λ x. is_alive x.process s ≡ true) (λ x. list_any (λ z. is_process z.id x.process) (s.processes ++ process_of r ∷ []) ≡ true)
          (λ x lives. alive_joined s (process_of r) x.process lives) s.scopes h.owned;
      apart = h.apart;
      entered = h.entered;
    }

module _ {B Code : Type 0} (body : BodyOf B Code) where
  -- it holds the event that it waits for, and those in its places
  pub joined_owing : (a n : PartsOf B Code) (r : RecordOf B) (live : List (RecordOf B)) (spare : ℕ) → record_of r.id a.live ≡ None → r.scopes ≡ [] →
      IsPermutation (r ∷ a.live) live → n ≡ record a { live = live; spare = spare } →
      BecomesOwing body (but_zero (named_by_process (body.tell a.code) (process_of r))) [] 0 (with_process (process_of r)) a n
  joined_owing a n r live spare none alone others is =
      let b : PartsOf B Code = record a { live = live; spare = spare } in
      let x : ProcessOf B = process_of r in
      let gained : List EventId = but_zero (named_by_process (body.tell a.code) x) in
      subst (BecomesOwing body gained [] 0 (with_process x) a) (sym is)
      (owing_by gained [] 0 (with_process x) a b (joined_stands a r live spare none alone others) (record { code = refl; setup = refl; seed = refl })
      (few_same a b refl) (λ s h. stay_stated a b s (with_process x s) refl refl)
      (λ s h. joined_trade a.setup.events (body.tell a.code) s x s.facilities (λ e. refl)))

  -- whether the body of the next one is there tells nothing else
  pub owing_readied : {m : ℕ} {gained lost : List EventId} (f : State B → State B) (a b : PartsOf B Code) (ready : Bool) →
      BecomesOwing body gained lost m f a b → BecomesOwing body gained lost m f a (record b { ready = ready })
  owing_readied f a b ready p = record {
    each = λ s h.
        let k : Stands b (f s) = p.each s h in
        record {
          stands = record {
            facilities = k.stands.facilities;
            processed = k.stands.processed;
            generator = k.stands.generator;
            processes = k.stands.processes;
            scopes = k.stands.scopes;
            control = k.stands.control;
          };
          distinct = k.distinct;
          owned = k.owned;
          apart = k.apart;
          entered = k.entered;
        };
    accounts = λ todo s h k. let q = p.accounts todo s h k in record { holders = q.holders; gone = q.gone };
    opened = record { code = p.opened.code; setup = p.opened.setup; seed = p.opened.seed };
    few = record { few = p.few.few };
  }

  -- ---- a process is made

  -- first its events
  pub events_made : (a : PartsOf B Code) (x : HappenOf) → MakesProcess a.shared.happen x →
      Becomes body (on_events make_events_of_process) a (with_happen x a)
  events_made a x t = becomes_turned make_events_of_process two_unheld a x (adds_unheld 2) (keeps_unheld 2) plainly_process t

  module _ (a : PartsOf B Code) (k : ℕ) (args : List ℤ) (room : ℕ) where
    abbrev pub begun_here : RecordOf B
    begun_here = begun_record (next_process a.shared.happen)
        (start_of body a.code k args (next_process a.shared.happen)) (next_init a.shared.happen) room

    same_made : (s : State B) → Stands a s →
        with_process (process_of begun_here) (on_events make_events_of_process s) ≡ make_process (plan_of body a) k args s
    same_made s h =
        let c : Calendar = calendar s in
        rw (next_processes a.shared.happen c h.stands.facilities.calendar, next_inits a.shared.happen c h.stands.facilities.calendar) refl

    -- then its init event is held and what stands in its places, and it is alive
    pub begun_becomes : (x : HappenOf) (b m o p n : PartsOf B Code) (es : List EventId) (live : List (RecordOf B)) (ready : Bool) (spare : ℕ) →
        record_of (next_process a.shared.happen) a.live ≡ None → MakesProcess a.shared.happen x → b ≡ with_happen x a →
        BecomesOwing body [] (but_zero (next_init a.shared.happen ∷ [])) 1 (λ s. s) b m → KeepsButHappen b m →
        o ≡ record m { ready = ready } → BecomesOwing body [] (but_zero es) 64 (λ s. s) o p → KeepsButHappen o p →
        StandInPlaces (body.tell a.code) es (start_of body a.code k args (next_process a.shared.happen)) →
        IsPermutation (begun_here ∷ p.live) live → n ≡ record p { live = live; spare = spare } →
        BecomesWith body most_begun (make_process (plan_of body a) k args) a n
    begun_becomes x b m o p n es live ready spare none makes is_b holds_init keeps_init is_o holds_places keeps_places stand others is_n =
        let r : RecordOf B = begun_here in
        let made : State B → State B = on_events make_events_of_process in
        let init : List EventId = but_zero (next_init a.shared.happen ∷ []) in
        let places : List EventId = but_zero es in
        let first : BecomesOwing body [] init 1 made a m =
        becomes_then made (λ s. s) a b m (subst (Becomes body made a) (sym is_b) (events_made a x makes)) holds_init in
        let second : BecomesOwing body [] init 1 made a o =
        subst (BecomesOwing body [] init 1 made a) (sym is_o) (owing_readied made a m ready first) in
        let third : BecomesOwing body [] (places ++ init) 65 made a p =
        becomes_then made (λ s. s) a o p second (owing_besides init (λ s. s) o p holds_places) in
        let live_of : PartsOf B Code → List (RecordOf B) = λ y. y.live in
        let same_live : p.live ≡ a.live = ap live_of keeps_places ∙ (ap live_of is_o ∙ (ap live_of keeps_init ∙ ap live_of is_b)) in
        let named : List EventId = named_in_places (body.tell a.code) r.body in
        let alike : AreAlike (places ++ init) (but_zero (named_by_process (body.tell p.code) (process_of r))) =
        subst (λ xs. AreAlike (places ++ init) xs)
        (ap (λ xs. init ++ xs) (sym stand.named)
        ∙ (sym (but_zero-append (next_init a.shared.happen ∷ []) named)
        ∙ ap (λ c. but_zero (named_by_process (body.tell c) (process_of r))) (sym third.opened.code)))
        (alike_swapped places init) in
        let joins : BecomesOwing body (places ++ init) [] 0 (with_process (process_of r)) p n =
        owing_alike (places ++ init) [] (with_process (process_of r)) p n alike (alike_itself [])
        (joined_owing p n r live spare (ap (record_of r.id) same_live ∙ none) refl others is_n) in
        becomes_as (λ s. with_process (process_of r) (made s)) (make_process (plan_of body a) k args) a n same_made
        (becomes_then made (with_process (process_of r)) a p n third joins)

-- ---- what a body that begins has in its places

module _ {B Code : Type 0} (body : BodyOf B Code) (code : Code) (events : B → List EventId) (place : B → Option ℕ) (law : KeepsLaw body code)
    (reads : ReadsPlaces body code events place) (k : ℕ) (args : List ℤ) (p : ProcId) (can : CanBegin (body.facts code) k args) where
  abbrev begins : B
  begins = start_of body code k args p

  starts : IsLawfulStart (body.facts code) (body.tell code) k args p begins
  starts = law.starts k args p can.fits

  -- it names it
  pub begun_stand : StandInPlaces (body.tell code) (events begins) begins
  begun_stand =
      let is_sound : body.sound code begins = law.begins k args p can.fits in
      stand_where (body.tell code) begins (events begins)
      (begun_numbers (slice_index_or (body.facts code).params k []) args ((body.tell code).places begins) starts.places)
      (reads.places begins is_sound)

  -- it is kept where its arguments are
  pub begun_kept : (table : List (Option Kept)) → AreArgumentsKept (body.facts code) k args table → (i : ℕ) →
      IsKept table (in_place (events begins) i)
  begun_kept table kept i =
      let is_sound : body.sound code begins = law.begins k args p can.fits in
      all_in_places (IsKept table) (events begins) kept.zero
      (subst (λ (es : List EventId). All (IsKept table) es) (reads.places begins is_sound)
      (begun_events (slice_index_or (body.facts code).params k []) args (IsKept table)
      ((body.tell code).places begins) kept.zero kept.named starts.places)) i

-- what was kept is kept once its events are made and more holders are taken
pub arguments_still : (f : CodeFacts) (k : ℕ) (args : List ℤ) (es fs : List (Option Kept)) → ((e : EventId) → IsKept es e → IsKept fs e) →
    AreArgumentsKept f k args es → AreArgumentsKept f k args fs
arguments_still f k args es fs still h = record {
  zero = still (record { 0 = 0 }) h.zero;
  named = All-weaker (IsKept es) (IsKept fs) still (arguments_name (slice_index_or f.params k []) args) h.named;
}

-- ---- only processes that run from the start were made

-- one that is made once there was room
pub begun_starts : {B Code : Type 0} {body : BodyOf B Code} (old mid new : PartsOf B Code) (x : Start) → KeepsButRoom old mid →
    BecomesWith body most_begun (make_process (plan_of body mid) x.kind x.args) mid new →
    BecomesWith body most_begun (λ s. start_process (plan_of body old) s x) old new
begun_starts {B} {Code} {body} old mid new x room begins =
    let plan : plan_of body mid ≡ plan_of body old = rw room.others refl in
    let makes : State B → State B = make_process (plan_of body old) x.kind x.args in
    becomes_then (λ s. s) makes old mid new (roomier_becomes old mid room)
    (subst (λ (g : Plan B). BecomesWith body most_begun (make_process g x.kind x.args) mid new) plan begins)

pub begun_opening : {B Code : Type 0} {body : BodyOf B Code} (g : Plan B) (k : ℕ) (args : List ℤ) (old new : PartsOf B Code) →
    BecomesWith body most_begun (make_process g k args) old new →
    IsOpening body old → IsOpening body new
begun_opening {B} {Code} {body} g k args old new b h =
    let s : State B = h.owing.state in
    let t : State B = make_process g k args s in
    let before : Stands old s = h.owing.stands in
    let later : Stands new t = b.each s before in
    let n : ℕ = length new.shared.happen.events in
    let m : ℕ = length old.shared.happen.events in
    let more : n ≡ m + 2 =
    omega (arith, later.stands.facilities.calendar.made, before.stands.facilities.calendar.made, of_process_events (calendar s)) in
    let P : ProcessOf B → Type 0 = λ x. x.id.0 < n in
    let x : ProcessOf B =
    record {
      id = record { 0 = (next_event (calendar s)).0 };
      body = g.start k args (record { 0 = (next_event (calendar s)).0 });
      target = next_event (make kind.Process (calendar s));
    } in
    let older : All P s.processes =
    All-weaker (λ y. y.id.0 < m) P (λ y below. omega (arith, below, more)) s.processes
    (All-permutation (λ y. y.id.0 < m) (map process_of old.live) s.processes
    (IsPermutation-sym s.processes (map process_of old.live) before.stands.processes) h.older) in
    let here : P x = omega (arith, more, before.stands.facilities.calendar.made) in
    record {
      time = later.stands.facilities.calendar.time ∙ (sym before.stands.facilities.calendar.time ∙ h.time);
      older = All-permutation P t.processes (map process_of new.live) later.stands.processes
          (All-append P s.processes (x ∷ []) older (All-cons P x [] here (All-nil P)));
      owing = owing_after (make_process g k args) old new b h.owing;
    }
