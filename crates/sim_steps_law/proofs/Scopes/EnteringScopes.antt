-- A process enters a scope, as the machine has it.
use Rattle.std.proofs.Common.{◌≡◌, ◌≢◌, ℕ, ◌+◌, ◌<◌, ◌^◌, ℤ, Bool, true, false, List, [], ◌∷◌, ◌++◌, length, refl, sym, ap, subst, ◌∙◌, arith, Option, Some, None}
use Rattle.std.specs.Prelude.{All, ◌↔◌, slice_index_or, IsSome, IsSomeAnd}
use Rattle.std.proofs.lemmas.Bool.{false≢true, lt-ltb, ltb-true}
use Rattle.std.proofs.lemmas.List.{length-map}
use Rattle.std.proofs.lemmas.List.Elements.{All-weaker}
use Rattle.sim_types.specs.declared.event.EventId.{EventId}
use Rattle.sim_types.specs.declared.event.ProcId.{ProcId}
use Rattle.sim_types.specs.declared.event.Scope.{Scope}
use Rattle.sim_types.specs.declared.event.EventKind.TheVariants as kind
use Rattle.sim_types.specs.declared.event.Callback.TheVariants as callback
use Rattle.sim_types.specs.declared.event.Signal.TheVariants as signal
use Rattle.sim_types.specs.declared.setup.Resource.{Resource}
use Rattle.sim_machine.specs.State.{Slot, Facilities, State, Plan}
use Rattle.sim_machine.specs.Processes.{tell, told_more}
use Rattle.sim_machine.specs.Requests as requests
use Rattle.sim_machine.specs.Bodies.{BodyOf}
use Rattle.sim_machine.specs.Scopes.{on_facilities, open_scope}
use Rattle.sim_machine.specs.Users.{resource_at}
use Rattle.sim_machine.specs.Effect.{calendar, enter}
use Rattle.sim_machine.specs.Standing.{was_made}
use Rattle.sim_lawful.proofs.Units.MadeEvents.{put_made_more}
use Rattle.sim_procs.specs.RecordOf.{RecordOf, record_of, change_record}
use Rattle.sim_happen_model.specs.TableOf.{IsKept}
use Rattle.sim_happen_model.specs.HappenOf.{AreHeldByFew, held}
use Rattle.sim_happen_law.proofs.Changes.Held.{held_at, holders_at, kept_of}
use Rattle.sim_happen_law.proofs.Changes.NewEvents.{next_is}
use Rattle.sim_shared_model.specs.SharedOf.{SharedOf}
use Rattle.sim_shared_model.specs.ShowsAll.{ShowsAll}
use Rattle.sim_shared_model.specs.Making.{MakesAll, ShowsSome, unheld_events}
use Rattle.sim_happen_model.specs.Naming.{but_zero}
use Rattle.sim_accounts.proofs.FacilityChanges.{plainly_requested}
use Rattle.sim_accounts.proofs.StateChanges.{opened_trade}
use Rattle.sim_steps_model.specs.PartsOf.{PartsOf, KeepsButHappen, plan_of}
use Rattle.sim_steps_model.specs.Becoming.{AreFew, Stands, Becomes, BecomesOwing, BecomesWith}
use Rattle.sim_steps_law.proofs.Kernels.Keeping.{adds_unheld, few_same, few_then, held_by_few}
use Rattle.sim_steps_law.proofs.Kernels.Accounting.{balances_by, keeps_unheld, opened_then, stay_stated}
use Rattle.sim_steps_law.proofs.Kernels.Becoming.{becomes_then, becomes_as, becomes_within, becomes_told, becomes_made_all}
use Rattle.sim_steps_law.proofs.Scopes.EnteredScopes.{opened_stands}

some_of : {X : Type 0} (P : X → Type 0) (o : Option X) → IsSomeAnd o P → IsSome o
some_of P None h = absurd h
some_of P (Some x) h = refl

-- ---- the request of the scope

-- a request that is made is kept
pub request_kept : (res : ℕ) (p : ProcId) (priority : ℤ) (preempts : Bool) (a x : SharedOf) (e : EventId) → e.0 ≡ length a.happen.events →
    MakesAll 2 (requests.make_request a.setup res p priority preempts) a x → ShowsSome a → IsKept x.happen.events e
request_kept res p priority preempts a x e same made some =
    let f : Facilities = some.facilities in
    let rs : List Resource = a.setup in
    let more : length a.happen.events < length x.happen.events =
    omega (
      arith,
      some.shown.calendar.made,
      (made.turns.each f some.shown).calendar.made,
      put_made_more rs res kind.Request (Slot p (requests.request_key (resource_at rs res).kind priority preempts f)) (callback.TryGet res) f,
    ) in
    let hs : List (Option ℕ) = held a.happen in
    let there : slice_index_or (unheld_events made.made hs) e.0 None ≡ Some 0 =
    (keeps_unheld made.made f.calendar hs).new e (omega (arith, same, length-map a.happen.events holders_at))
    (omega (arith, same, more, length-map x.happen.events holders_at, ap (λ (gs : List (Option ℕ)). length gs) made.turns.held)) in
    kept_of (slice_index_or x.happen.events e.0 None)
    (subst IsSome (sym (ap (λ (gs : List (Option ℕ)). slice_index_or gs e.0 None) made.turns.held ∙ there) ∙ held_at x.happen e) refl)

-- and it has few holders, as all others
pub request_few : (change : Facilities → Facilities) (a x : SharedOf) → MakesAll 2 change a x → AreFew (2 ^ 41) (held a.happen) →
    AreHeldByFew x.happen.events
request_few change a x made few =
    held_by_few (2 ^ 41 + 0) x.happen (omega arith)
    (subst (AreFew (2 ^ 41 + 0)) (sym made.turns.held) ((adds_unheld made.made).few (2 ^ 41) (held a.happen) few))

-- ---- the scope is entered

module _ {B Code : Type 0} (body : BodyOf B Code) (p : ProcId) (res : ℕ) (priority : ℤ) (preempts : Bool) (a n : PartsOf B Code)
    (resources : a.shared.setup ≡ a.setup.resources) where
  abbrev g : Plan B
  g = plan_of body a

  abbrev rs : List Resource
  rs = g.setup.resources

  abbrev change : Facilities → Facilities
  change f = requests.make_request rs res p priority preempts f

  pub victim_becomes : ((f : Facilities) → ShowsAll a.shared f →
      (true ≡ true ↔ requests.is_own_victim a.shared.setup res p priority preempts f ≡ true)) →
      n ≡ record a { control = told_more (signal.Raised 5) a.control } → BecomesWith body 1 (enter g p res priority preempts) a n
  victim_becomes refused is =
      subst (BecomesWith body 1 (enter g p res priority preempts) a) (sym is)
      (becomes_within 0 1 (enter g p res priority preempts) a _ (omega arith)
      (becomes_as (tell (signal.Raised 5)) (enter g p res priority preempts) a _
      (λ s h.
      let victim : requests.is_own_victim rs res p priority preempts s.facilities ≡ true =
      subst (λ r. requests.is_own_victim r res p priority preempts s.facilities ≡ true) resources
      ((refused s.facilities h.stands.facilities).0 refl) in
      rw victim refl)
      (becomes_told (signal.Raised 5) a)))

  module _ (x : SharedOf) (e : EventId) (same : e.0 ≡ length a.shared.happen.events)
      (made : MakesAll 2 (requests.make_request a.shared.setup res p priority preempts) a.shared x) where
    abbrev pushed : RecordOf B → RecordOf B
    pushed r = let y : Scope = record { request = e; res = res } in record r { scopes = r.scopes ++ y ∷ [] }

    abbrev b : PartsOf B Code
    b = record a { shared = x }

    requested : Becomes body (on_facilities change) a b
    requested =
        becomes_made_all 2 change a x (plainly_requested rs res p priority preempts)
        (subst (λ r. MakesAll 2 (requests.make_request r res p priority preempts) a.shared x) resources made)

    module _ (h : PartsOf B Code) (holds : BecomesOwing body [] (but_zero (e ∷ [])) 1 (λ s. s) b h) (rest : KeepsButHappen b h)
        (room : IsSomeAnd (record_of p a.live) (λ r. length r.scopes < r.room)) where
      abbrev c : PartsOf B Code
      c = record h { live = change_record p pushed h.live }

      live_is : h.live ≡ a.live
      live_is = ap (λ (v : PartsOf B Code). v.live) rest

      has_record : IsSome (record_of p h.live)
      has_record = subst (λ l. IsSome (record_of p l)) (sym live_is)
          (some_of (λ (r : RecordOf B). length r.scopes < r.room) (record_of p a.live) room)

      -- it is made now, and so stands in no scope yet
      made_now : (s : State B) → Stands a s → was_made (change s.facilities).calendar e ≡ true
      made_now s stands =
          lt-ltb e.0 (length (change s.facilities).calendar.events)
          (omega (
            arith,
            same,
            stands.stands.facilities.calendar.made,
            put_made_more rs res kind.Request (Slot p (requests.request_key (resource_at rs res).kind priority preempts s.facilities))
                (callback.TryGet res) s.facilities,
          ))

      in_none : (s : State B) → Stands a s → All (λ y. y.request ≢ e) s.scopes
      in_none s stands =
          All-weaker (λ y. was_made (calendar s) y.request ≡ true) (λ y. y.request ≢ e)
          (λ y made same_one. omega (
            arith,
            ltb-true y.request.0 (length (calendar s).events) made,
            same,
            stands.stands.facilities.calendar.made,
            ap (λ (f : EventId). f.0) same_one,
          )) s.scopes stands.entered

      held_stands : (s : State B) → Stands a s → Stands h (on_facilities change s)
      held_stands s stands = holds.each (on_facilities change s) (requested.each s stands)

      open_stands : (s : State B) → Stands a s → Stands c (open_scope p e res (on_facilities change s))
      open_stands s stands = opened_stands p e res (on_facilities change s) h (held_stands s stands) has_record (in_none s stands) (made_now s stands)

      opens : BecomesWith body 1 (λ s. open_scope p e res (on_facilities change s)) a c
      opens =
          record {
            each = open_stands;
            accounts = λ todo s stands k.
                let t : State B = on_facilities change s in
                let u : State B = open_scope p e res t in
                balances_by (but_zero (e ∷ [])) [] todo h c t u (record { code = refl; setup = refl; seed = refl })
                (held_stands s stands) (open_stands s stands)
                (stay_stated h c t u refl refl) (opened_trade h.setup.events (body.tell h.code) t p e res)
                (holds.accounts todo t (requested.each s stands) (requested.accounts todo s stands k));
            opened = opened_then a b c requested.opened (opened_then b h c holds.opened (record { code = refl; setup = refl; seed = refl }));
            few = few_then 0 1 a b c requested.few (few_then 1 0 b h c holds.few (few_same h c refl));
          }

      pub entered_becomes : (k : PartsOf B Code) →
          ((f : Facilities) → ShowsAll a.shared f → (false ≡ true ↔ requests.is_own_victim a.shared.setup res p priority preempts f ≡ true)) →
          k ≡ c → n ≡ record k { control = told_more (signal.Made e) k.control } → BecomesWith body 1 (enter g p res priority preempts) a n
      entered_becomes k allowed at is =
          let opening : State B → State B = λ s. open_scope p e res (on_facilities change s) in
          subst (BecomesWith body 1 (enter g p res priority preempts) a)
          (sym (is ∙ ap (λ (v : PartsOf B Code). let w : PartsOf B Code = record v { control = told_more (signal.Made e) v.control } in w) at))
          (becomes_as (λ s. tell (signal.Made e) (opening s)) (enter g p res priority preempts) a _
          (λ s stands.
          let other : requests.is_own_victim rs res p priority preempts s.facilities ≡ false =
          subst (λ r. requests.is_own_victim r res p priority preempts s.facilities ≡ false) resources
          (not_so _ (allowed s.facilities stands.stands.facilities)) in
          ap (λ f. tell (signal.Made f) (open_scope p f res (on_facilities change s)))
          (sym (next_is a.shared.happen (calendar s) e same stands.stands.facilities.calendar)) ∙ rw other refl)
          (becomes_then opening (tell (signal.Made e)) a c _ opens (becomes_told (signal.Made e) c)))
        where
          not_so : (v : Bool) → (false ≡ true ↔ v ≡ true) → v ≡ false
          not_so true h = absurd (false≢true (h.1 refl))
          not_so false h = refl

-- the same, where what is shared was changed in a kernel
pub enters : {B Code : Type 0} {body : BodyOf B Code} {a b : PartsOf B Code}
    (p : ProcId) (res : ℕ) (priority : ℤ) (preempts : Bool) (x : SharedOf) (e : EventId)
    (h k n : PartsOf B Code) → IsSomeAnd (record_of p a.live) (λ r. length r.scopes < r.room) →
    BecomesOwing body [] (but_zero (e ∷ [])) 1 (λ s. s) b h →
    KeepsButHappen b h → a.shared.setup ≡ a.setup.resources → b ≡ record a { shared = x } → e.0 ≡ length a.shared.happen.events →
    MakesAll 2 (requests.make_request a.shared.setup res p priority preempts) a.shared x →
    ((f : Facilities) → ShowsAll a.shared f → (false ≡ true ↔ requests.is_own_victim a.shared.setup res p priority preempts f ≡ true)) →
    k ≡ record h {
      live = change_record p
          (λ r. let y : Scope = record { request = e; res = res } in record r { scopes = r.scopes ++ y ∷ [] }) h.live;
    } →
    n ≡ record k { control = told_more (signal.Made e) k.control } → BecomesWith body 1 (enter (plan_of body a) p res priority preempts) a n
enters {B} {Code} {body} {a} {b} p res priority preempts x e h k n room holds rest resources is same made allowed at told =
    entered_becomes body p res priority preempts a n resources x e same made h
    (subst (λ (v : PartsOf B Code). BecomesOwing body [] (but_zero (e ∷ [])) 1 (λ s. s) v h) is holds)
    (subst (λ (v : PartsOf B Code). KeepsButHappen v h) is rest) room k allowed at told
