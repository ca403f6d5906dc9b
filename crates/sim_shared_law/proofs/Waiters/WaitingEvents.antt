-- Who waits, and who does once an event waits no longer.
use Rattle.std.proofs.Common.{◌≡◌, ◌≢◌, ℕ, ◌<◌, Bool, true, false, ◌||◌, ◌&&◌, not, List, [], ◌∷◌, ◌++◌, refl, sym, subst, ap, ◌∙◌, inl, inr, map, filter, arith, if◌then◌else◌}
use Rattle.std.specs.Prelude.{◌==◌, All, AllPairs}
use Rattle.std.specs.List.{list_any}
use Rattle.std.proofs.lemmas.Bool.{false≢true, cases_Bool, eqb-true}
use Rattle.std.proofs.lemmas.Bool.Decides.{nat_tests}
use Rattle.std.proofs.lemmas.List.{append-nil}
use Rattle.std.proofs.lemmas.List.Elements.{All-head, All-tail}
use Rattle.std.proofs.lemmas.List.Folds.{list_any-append}
use Rattle.sim_types.specs.declared.event.EventId.{EventId}
use Rattle.sim_types.specs.declared.setup.Resource.{Resource}
use Rattle.sim_types.specs.declared.setup.ResourceKind.{ResourceKind}
use Rattle.sim_types.specs.declared.setup.ResourceKind.TheVariants as resource
use Rattle.sim_types.proofs.Permutations.{AllPairs-head, AllPairs-tail}
use Rattle.sim_machine.specs.State.{Waiter, Facilities}
use Rattle.sim_machine.specs.Events.{is_same}
use Rattle.sim_machine.specs.Keys.{is_served_first}
use Rattle.sim_machine.specs.Users.{resource_at, put_queue, get_queue, in_order, sorted_waiters, insert_waiter, key_of, wants_to_put}
use Rattle.sim_machine_law.proofs.Events.EventLaws.{is_same-yes}
use Rattle.sim_shared_model.specs.StoreQueues.{stands_among}
use Rattle.sim_shared_model.specs.AnyShared.{SharedResource}
use Rattle.sim_shared_model.specs.declared.resource.AnyResource.TheVariants.{Desk, Tank, Shelf}
use Rattle.sim_shared_model.specs.Resources.{waiting_at}
use Rattle.sim_shared_model.specs.ShowsAll.{ShowsAt, AmountFor, amount_for, amount_waiting, put_waiting, get_waiting}
use Rattle.sim_shared_model.specs.Waiting.{waits_at}
use Rattle.sim_shared_model.proofs.AmongEvents.{any_of_events}
use Rattle.sim_shared_model.specs.DeskOf.{waiter_at}

-- what holds of all events holds of one that is among them
pub all_among : (P : EventId → Type 0) (e : EventId) (es : List EventId) → stands_among e es ≡ true → All P es → P e
all_among P e [] h all = absurd (false≢true h)
all_among P e (f ∷ es) h all = elim (cases_Bool (is_same f e)) [
  | inl is ↦ subst P (is_same-yes f e is) (All-head P f es all)
  | inr other ↦ all_among P e es (rw other at h) (All-tail P f es all)
]

-- ---- lists

mapped_twice : {X Y Z : Type 0} (g : Y → Z) (h : X → Y) (xs : List X) → map g (map h xs) ≡ map (λ x. g (h x)) xs
mapped_twice g h [] = refl
mapped_twice g h (x ∷ xs) = ap (λ ys. g (h x) ∷ ys) (mapped_twice g h xs)

or_swap : (a b c : Bool) → (b || (a || c)) ≡ (a || (b || c))
or_swap true true c = refl
or_swap true false c = refl
or_swap false true c = refl
or_swap false false c = refl

any_inserted_at : (p : Waiter → Bool) (w v : Waiter) (vs rest : List Waiter) (b : Bool) → list_any p rest ≡ (p w || list_any p vs)
    → list_any p (if b then v ∷ rest else w ∷ v ∷ vs) ≡ (p w || (p v || list_any p vs))
any_inserted_at p w v vs rest true h = ap (λ c. p v || c) h ∙ or_swap (p w) (p v) (list_any p vs)
any_inserted_at p w v vs rest false h = refl

any_inserted : (p : Waiter → Bool) (w : Waiter) (vs : List Waiter) → list_any p (insert_waiter w vs) ≡ (p w || list_any p vs)
any_inserted p w [] = refl
any_inserted p w (v ∷ vs) =
    any_inserted_at p w v vs (insert_waiter w vs) (is_served_first (key_of v.want) (key_of w.want)) (any_inserted p w vs)

any_sorted : (p : Waiter → Bool) (ws : List Waiter) → list_any p (sorted_waiters ws) ≡ list_any p ws
any_sorted p [] = refl
any_sorted p (w ∷ ws) = any_inserted p w (sorted_waiters ws) ∙ ap (λ b. p w || b) (any_sorted p ws)

-- a test is passed in any order
pub any_in_order : (p : Waiter → Bool) (k : ResourceKind) (ws : List Waiter) → list_any p (in_order k ws) ≡ list_any p ws
any_in_order p resource.Priority ws = any_sorted p ws
any_in_order p resource.Preemptive ws = any_sorted p ws
any_in_order p _ ws = refl

-- ---- who waits at a place

abbrev pub is_at : ℕ → Waiter → Bool
is_at res w = w.res == res

abbrev pub is_of : EventId → Waiter → Bool
is_of e w = is_same w.event e

one_placed : (p : Waiter → Bool) (w : Waiter) (ps gs all : List Waiter) (here puts : Bool) → (list_any p ps || list_any p gs) ≡ list_any p all
    → (list_any p (if here && puts then w ∷ ps else ps) || list_any p (if here && not puts then w ∷ gs else gs)) ≡ list_any p (if here then w ∷ all else all)
one_placed p w ps gs all false puts h = h
one_placed p w ps gs all true true h = or_first (p w) (list_any p ps) (list_any p gs) ∙ ap (λ b. p w || b) h
  where
    or_first : (a b c : Bool) → ((a || b) || c) ≡ (a || (b || c))
    or_first true b c = refl
    or_first false b c = refl
one_placed p w ps gs all true false h = or_swap (p w) (list_any p ps) (list_any p gs) ∙ ap (λ b. p w || b) h

-- who is in one of two queues waits at their place
any_placed : (p : Waiter → Bool) (res : ℕ) (ws : List Waiter)
    → (list_any p (filter (λ w. (w.res == res) && wants_to_put w.want) ws) || list_any p (filter (λ w. (w.res == res) && not (wants_to_put w.want)) ws))
    ≡ list_any p (filter (is_at res) ws)
any_placed p res [] = refl
any_placed p res (w ∷ ws) = one_placed p w _ _ (filter (is_at res) ws) (w.res == res) (wants_to_put w.want) (any_placed p res ws)

abbrev events_of : List Waiter → List EventId
events_of ws = map (λ (w : Waiter). w.event) ws

-- the events that wait are those of the machine's queues
shown_events : (rs : List Resource) (res : ℕ) (x : SharedResource) (f : Facilities) → ShowsAt rs res x f
    → waiting_at x ≡ events_of (put_queue rs res f.waiters) ++ events_of (get_queue res f.waiters)
shown_events rs res (Desk d) f s =
    sym (mapped_twice (λ (w : Waiter). w.event) (waiter_at res) d.queue) ∙ (ap events_of s.queue
    ∙ (sym (append-nil (events_of (put_queue rs res f.waiters))) ∙ ap (λ gs. events_of (put_queue rs res f.waiters) ++ events_of gs) (sym s.gets)))
shown_events rs res (Tank t) f s =
    let event : AmountFor → EventId = λ v. v.event in
    let puts = sym (mapped_twice event amount_waiting t.puts) ∙ (ap (map event) s.puts ∙ mapped_twice event amount_for (put_queue rs res f.waiters)) in
    let gets = sym (mapped_twice event amount_waiting t.gets) ∙ (ap (map event) s.gets ∙ mapped_twice event amount_for (get_queue res f.waiters)) in
    ap (λ es. es ++ map (λ w. w.event) t.gets) puts ∙ ap (λ es. events_of (put_queue rs res f.waiters) ++ es) gets
shown_events rs res (Shelf x) f s =
    let puts = sym (mapped_twice (λ (w : Waiter). w.event) (put_waiting res) x.puts) ∙ ap events_of s.puts in
    let gets = sym (mapped_twice (λ (w : Waiter). w.event) (get_waiting res) x.gets) ∙ ap events_of s.gets in
    ap (λ es. es ++ map (λ w. w.event) x.gets) puts ∙ ap (λ es. events_of (put_queue rs res f.waiters) ++ es) gets

-- an event waits at a resource where one of the machine's waiters at that place is of it
pub waits_shown : (rs : List Resource) (res : ℕ) (x : SharedResource) (f : Facilities) (e : EventId) → ShowsAt rs res x f
    → waits_at e x ≡ list_any (is_of e) (filter (is_at res) f.waiters)
waits_shown rs res x f e s =
    let ps : List Waiter = put_queue rs res f.waiters in
    let gs : List Waiter = get_queue res f.waiters in
    ap (stands_among e) (shown_events rs res x f s) ∙ (list_any-append (λ g. is_same g e) (events_of ps) (events_of gs)
    ∙ (ap (λ b. b || stands_among e (events_of gs)) (sym (any_of_events (λ (w : Waiter). w.event) e ps))
    ∙ (ap (λ b. list_any (is_of e) ps || b) (sym (any_of_events (λ (w : Waiter). w.event) e gs))
    ∙ (ap (λ b. b || list_any (is_of e) gs) (any_in_order (is_of e) (resource_at rs res).kind (filter (λ w. (w.res == res) && wants_to_put w.want) f.waiters))
    ∙ any_placed (is_of e) res f.waiters))))

-- ---- anywhere, nowhere, elsewhere

any_within : (p : Waiter → Bool) (w : Waiter) (fs ws : List Waiter) (b : Bool) → (list_any p fs ≡ true → list_any p ws ≡ true)
    → list_any p (if b then w ∷ fs else fs) ≡ true → (p w || list_any p ws) ≡ true
any_within p w fs ws b later h = elim (cases_Bool (p w)) [
  | inl is ↦ rw is refl
  | inr other ↦ rw other (later (elim (cases_Bool b) [
    | inl passes ↦ rw (passes, other) at h
    | inr fails ↦ rw fails at h
  ]))
]

-- who waits at a place waits
pub any_somewhere : (p q : Waiter → Bool) (ws : List Waiter) → list_any p (filter q ws) ≡ true → list_any p ws ≡ true
any_somewhere p q [] h = h
any_somewhere p q (w ∷ ws) h = any_within p w (filter q ws) ws (q w) (any_somewhere p q ws) h

none_filtered : (p q : Waiter → Bool) (ws : List Waiter) → list_any p ws ≡ false → list_any p (filter q ws) ≡ false
none_filtered p q ws h = elim (cases_Bool (list_any p (filter q ws))) [
  | inl is ↦ absurd (false≢true (sym h ∙ any_somewhere p q ws is))
  | inr none ↦ none
]

same_number : (n : ℕ) → (n == n) ≡ true
same_number n = grind (arith, nat_tests)

or_none : (a b : Bool) → (a || b) ≡ false → (a ≡ false) × (b ≡ false)
or_none true b h = absurd (false≢true (sym h))
or_none false b h = (refl, h)

tail_none : (p : Waiter → Bool) (w : Waiter) (fs : List Waiter) (b : Bool) → list_any p (if b then w ∷ fs else fs) ≡ false → list_any p fs ≡ false
tail_none p w fs true h = (or_none (p w) (list_any p fs) h).1
tail_none p w fs false h = h

-- who waits at none of the places does not wait
pub any_nowhere : (p : Waiter → Bool) (n : ℕ) (ws : List Waiter) → All (λ (w : Waiter). w.res < n) ws
    → ((res : ℕ) → res < n → list_any p (filter (is_at res) ws) ≡ false) → list_any p ws ≡ false
any_nowhere p n [] placed none = refl
any_nowhere p n (w ∷ ws) placed none =
    let here : list_any p (w ∷ filter (is_at w.res) ws) ≡ false = rw same_number at (none w.res (All-head (λ (v : Waiter). v.res < n) w ws placed)) in
    rw ((or_none (p w) (list_any p (filter (is_at w.res) ws)) here).0)
    (any_nowhere p n ws (All-tail (λ (v : Waiter). v.res < n) w ws placed) (λ res below. tail_none p w (filter (is_at res) ws) (w.res == res) (none res below)))

differ_none : (e : EventId) (w : Waiter) (ws : List Waiter) → is_same w.event e ≡ true → All (λ (v : Waiter). w.event ≢ v.event) ws
    → list_any (is_of e) ws ≡ false
differ_none e w [] same h = refl
differ_none e w (v ∷ ws) same h =
    let P : Waiter → Type 0 = λ u. w.event ≢ u.event in
    elim (cases_Bool (is_same v.event e)) [
      | inl is ↦ absurd (All-head P v ws h (is_same-yes w.event e same ∙ sym (is_same-yes v.event e is)))
      | inr other ↦ rw other (differ_none e w ws same (All-tail P v ws h))
    ]

-- who waits at a place waits at no other
pub any_elsewhere : (e : EventId) (res at : ℕ) (ws : List Waiter) → res ≢ at → AllPairs (λ (w : Waiter) v. w.event ≢ v.event) ws
    → list_any (is_of e) (filter (is_at res) ws) ≡ true → list_any (is_of e) (filter (is_at at) ws) ≡ false
any_elsewhere e res at [] differ apart h = absurd (false≢true h)
any_elsewhere e res at (w ∷ ws) differ apart h =
    let R : Waiter → Waiter → Type 0 = λ u v. u.event ≢ v.event in
    let first : All (R w) ws = AllPairs-head R w ws apart in
    let later = any_elsewhere e res at ws differ (AllPairs-tail R w ws apart) in
    elim (cases_Bool (is_same w.event e)) [
      | inl is ↦ elim (cases_Bool (w.res == res)) [
        | inl here ↦ elim (cases_Bool (w.res == at)) [
          | inl both ↦ absurd (differ (sym (eqb-true w.res res here) ∙ eqb-true w.res at both))
          | inr not_there ↦ rw not_there (none_filtered (is_of e) (is_at at) ws (differ_none e w ws is first))
        ]
        | inr not_here ↦ absurd (false≢true (sym (none_filtered (is_of e) (is_at res) ws (differ_none e w ws is first)) ∙ (rw not_here at h)))
      ]
      | inr other ↦
          let before : list_any (is_of e) (filter (is_at res) ws) ≡ true = past e w (filter (is_at res) ws) (w.res == res) other h in
          past_back e w (filter (is_at at) ws) (w.res == at) other (later before)
    ]
  where
    past : (e : EventId) (w : Waiter) (fs : List Waiter) (b : Bool) → is_same w.event e ≡ false → list_any (is_of e) (if b then w ∷ fs else fs) ≡ true
        → list_any (is_of e) fs ≡ true
    past e w fs true other h = rw other at h
    past e w fs false other h = h

    past_back : (e : EventId) (w : Waiter) (fs : List Waiter) (b : Bool) → is_same w.event e ≡ false → list_any (is_of e) fs ≡ false
        → list_any (is_of e) (if b then w ∷ fs else fs) ≡ false
    past_back e w fs true other h = rw other h
    past_back e w fs false other h = h
