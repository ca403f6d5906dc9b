-- A try of a container serves a front of its queue, and what it stops at does not fit.
use Rattle.std.proofs.Common.{◌≡◌, ◌≢◌, ℕ, ℤ, pos, ◌+ℤ◌, ◌-ℤ◌, ◌≤ℤ◌, Bool, true, false, ◌&&◌, not, List, [], ◌∷◌, Some, None, refl, sym, subst, ap, ◌∙◌, inl, inr, if◌then◌else◌, append_assoc, arith, filter, All}
use Rattle.std.specs.Prelude.{int_le, map, ◌==◌, slice_index_or}
use Rattle.std.specs.List.{list_any}
use Rattle.std.proofs.lemmas.Bool.{or_left, or_right, ne_eqb, and_parts, eqb-true}
use Rattle.std.proofs.lemmas.Bool.Decides.{nat_tests}
use Rattle.std.proofs.lemmas.Int.{ints}
use Rattle.std.proofs.lemmas.List.{append-nil}
use Rattle.std.proofs.lemmas.List.Elements.{All-head, All-tail, All-weaker, filter_passes}
use Rattle.sim_types.proofs.Permutations.{AllPairs-head, AllPairs-tail}
use Rattle.sim_types.specs.declared.event.EventId.{EventId}
use Rattle.sim_types.specs.declared.setup.Resource.{Resource}
use Rattle.sim_types.specs.declared.setup.ResourceKind.{ResourceKind}
use Rattle.sim_types.specs.declared.setup.ResourceKind.TheVariants as resource
use Rattle.sim_machine.specs.State.{Waiter, Deed, Granted, Released, Preempted, Deposited, Taken, Filled, Drained, Facilities}
use Rattle.sim_machine.specs.Events.{is_same}
use Rattle.sim_machine.specs.Users.{resource_at, wants_to_put, put_queue, level_after, change_of_level}
use Rattle.sim_machine.specs.Trying.{level, serve, serve_if_any, attempt, still_waits, WhileServed, put_reach, get_reach, goes_on, try_along, try_put, try_get}
use Rattle.sim_machine.specs.Runs.{total}
use Rattle.sim_machine_law.specs.Desks.{GoesByKeys, puts_at, gets_at}
use Rattle.sim_machine_law.specs.Stocks.{amounts_put, amounts_got, amount_of, IsPut, IsGet, WaitOnce, ServesFront, filled_by, drained_by, HasSpace, HasAmount}
use Rattle.sim_machine_law.proofs.Events.EventLaws.{same_event, is_same-self}
use Rattle.sim_machine_law.proofs.Ledger.TriedQueues.{IsOneOf, one_filtered, AreApart, IsQueueOf, is_put_queue, is_get_queue}
use Rattle.sim_machine_law.proofs.Requests.SortedQueues.{others_as_came}

-- ---- who waits

-- one that is served waits no longer
pub none_left : (e : EventId) (ws : List Waiter) → list_any (λ v. is_same v.event e) (filter (λ v. not (is_same v.event e)) ws) ≡ false
none_left e [] = refl
none_left e (w ∷ ws) = by_test (is_same w.event e) refl (none_left e ws)
  where
    rest : List Waiter
    rest = filter (λ v. not (is_same v.event e)) ws

    by_test : (b : Bool) → is_same w.event e ≡ b → list_any (λ v. is_same v.event e) rest ≡ false →
        list_any (λ v. is_same v.event e) (if not b then w ∷ rest else rest) ≡ false
    by_test true is h = h
    by_test false is h = rw is h

waits_of_one : (ws : List Waiter) (w : Waiter) → IsOneOf ws w → list_any (λ v. is_same v.event w.event) ws ≡ true
waits_of_one [] w h = absurd h
waits_of_one (v ∷ vs) w (inl same) =
    or_left (is_same v.event w.event) (list_any (λ u. is_same u.event w.event) vs) (ap (λ (u : Waiter). is_same u.event w.event) same ∙ is_same-self w.event)
waits_of_one (v ∷ vs) w (inr later) = or_right (is_same v.event w.event) (list_any (λ u. is_same u.event w.event) vs) (waits_of_one vs w later)

-- what is left of a queue after its first was served
queue_left : (w : Waiter) (ws all : List Waiter) → IsQueueOf all (w ∷ ws) → IsQueueOf (filter (λ v. not (is_same v.event w.event)) all) ws
queue_left w ws all queue =
    let one : All (IsOneOf all) ws = All-tail (IsOneOf all) w ws queue.waiting in
    let apart : All (AreApart w) ws = AllPairs-head AreApart w ws queue.apart in
    let test : Waiter → Bool = λ v. not (is_same v.event w.event) in
    record {
      waiting = λ n d below. one_filtered test all (slice_index_or ws n d) (differs (slice_index_or ws n d) (apart n d below)) (one n d below);
      apart = AllPairs-tail AreApart w ws queue.apart;
    }
  where
    differs : (v : Waiter) → w.event ≢ v.event → not (is_same v.event w.event) ≡ true
    differs v h = ap not (ne_eqb v.event.0 w.event.0 (λ same. h (sym (same_event v.event w.event same))))

-- ---- a try that goes on after each that is served

module _ (rs : List Resource) (deed : Waiter → Deed) (Fits : Waiter → Facilities → Type 0) (fits : Waiter → Facilities → Bool) (no_fit : (w : Waiter) (f : Facilities) → fits w f ≡ false → ¬ Fits w f) where
  -- an attempt that serves exactly where it fits
  abbrev IsMove : Waiter → Type 0
  IsMove w = (f : Facilities) → attempt rs w f ≡ (if fits w f then serve w (pos 0) (deed w) f else f)

  abbrev tried : List Waiter → Facilities → Facilities
  tried ws f = try_along rs WhileServed ws f

  goes_past : (w : Waiter) (ws : List Waiter) (f g : Facilities) → attempt rs w f ≡ g → still_waits w g ≡ false → tried (w ∷ ws) f ≡ tried ws g
  goes_past w ws f g is served =
      ap (λ (a : Facilities). if goes_on WhileServed w a then tried ws a else a) is ∙ ap (λ (b : Bool). if not b then tried ws g else g) served

  stops_at : (w : Waiter) (ws : List Waiter) (f : Facilities) → attempt rs w f ≡ f → still_waits w f ≡ true → tried (w ∷ ws) f ≡ f
  stops_at w ws f is waits =
      ap (λ (a : Facilities). if goes_on WhileServed w a then tried ws a else a) is ∙ ap (λ (b : Bool). if not b then tried ws f else f) waits

  serves_front : (ws : List Waiter) (f : Facilities) → All IsMove ws → IsQueueOf f.waiters ws → ServesFront deed Fits ws f (tried ws f)
  serves_front [] f moves queue = record { front = []; left = []; stands = refl; served = refl; deeds = sym (append-nil f.ledger); stops = tt }
  serves_front (w ∷ ws) f moves queue =
      let move : IsMove w = All-head IsMove w ws moves in
      let after : Facilities = serve w (pos 0) (deed w) f in
      first_served (fits w f) refl move (serves_front ws after (All-tail IsMove w ws moves) (queue_left w ws f.waiters queue))
    where
      first_served : (b : Bool) → fits w f ≡ b → IsMove w →
          ServesFront deed Fits ws (serve w (pos 0) (deed w) f) (tried ws (serve w (pos 0) (deed w) f)) →
          ServesFront deed Fits (w ∷ ws) f (tried (w ∷ ws) f)
      first_served true is move later =
          let after : Facilities = serve w (pos 0) (deed w) f in
          let done : attempt rs w f ≡ after = move f ∙ ap (λ (b : Bool). if b then after else f) is in
          subst (ServesFront deed Fits (w ∷ ws) f) (sym (goes_past w ws f after done (none_left w.event f.waiters)))
          (record {
            front = w ∷ later.front;
            left = later.left;
            stands = ap (λ (vs : List Waiter). w ∷ vs) later.stands;
            served = later.served;
            deeds = later.deeds ∙ append_assoc f.ledger (deed w ∷ []) (map deed later.front);
            stops = later.stops;
          })
      first_served false is move later =
          let none : attempt rs w f ≡ f = move f ∙ ap (λ (b : Bool). if b then serve w (pos 0) (deed w) f else f) is in
          let waits : still_waits w f ≡ true = waits_of_one f.waiters w (All-head (IsOneOf f.waiters) w ws queue.waiting) in
          subst (ServesFront deed Fits (w ∷ ws) f) (sym (stops_at w ws f none waits))
          (record { front = []; left = w ∷ ws; stands = refl; served = refl; deeds = sym (append-nil f.ledger); stops = no_fit w f is })

-- ---- containers

-- whether an amount fits, and whether it is there
abbrev fits_space : List Resource → Waiter → Facilities → Bool
fits_space rs w f = int_le (level rs w.res f +ℤ amount_of w.want) (resource_at rs w.res).capacity

abbrev fits_level : List Resource → Waiter → Facilities → Bool
fits_level rs w f = int_le (amount_of w.want) (level rs w.res f)

not_within : (m n : ℤ) → int_le m n ≡ false → ¬ (m ≤ℤ n)
not_within m n h = λ l. grind (arith, ints, nat_tests)

if_served : (w : Waiter) (deed : Deed) (f : Facilities) (b : Bool) →
    serve_if_any w (if b then Some (record { value = pos 0; deed = deed }) else None) f ≡ (if b then serve w (pos 0) deed f else f)
if_served w deed f true = refl
if_served w deed f false = refl

put_moves : (rs : List Resource) (w : Waiter) → (resource_at rs w.res).kind ≡ resource.Container → IsPut w → (f : Facilities) →
    attempt rs w f ≡ (if fits_space rs w f then serve w (pos 0) (filled_by w) f else f)
put_moves rs w kind (amount, priority, wants) f =
    let r : Resource = resource_at rs w.res in
    rw (wants, kind) (if_served w (Filled w.res amount) f (int_le (level rs w.res f +ℤ amount) r.capacity))

get_moves : (rs : List Resource) (w : Waiter) → (resource_at rs w.res).kind ≡ resource.Container → IsGet w → (f : Facilities) →
    attempt rs w f ≡ (if fits_level rs w f then serve w (pos 0) (drained_by w) f else f)
get_moves rs w kind (least, greatest, wants) f =
    rw (wants, kind) (if_served w (Drained w.res least) f (int_le least (level rs w.res f)))

not_by_keys : (k : ResourceKind) → k ≡ resource.Container → ¬ GoesByKeys k
not_by_keys k is (inl h) = cc
not_by_keys k is (inr h) = cc

-- all that wait at a container, puts or gets
at_container : (rs : List Resource) (res : ℕ) (P Q : Waiter → Type 0) (ws : List Waiter) → (resource_at rs res).kind ≡ resource.Container →
    All (λ w. w.res ≡ res) ws → All P ws →
    ((w : Waiter) → (resource_at rs w.res).kind ≡ resource.Container → P w → Q w) → All Q ws
at_container rs res P Q ws kind at h each = λ n d below. each (slice_index_or ws n d) (ap (λ (m : ℕ). (resource_at rs m).kind) (at n d below) ∙ kind) (h n d below)

pub filtered_at : (res : ℕ) (test : Waiter → Bool) (ws : List Waiter) → All (λ w. w.res ≡ res) (filter (λ w. (w.res == res) && test w) ws)
filtered_at res test ws =
    All-weaker (λ w. ((w.res == res) && test w) ≡ true) (λ w. w.res ≡ res) (λ w h. eqb-true w.res res (and_parts (w.res == res) (test w) h).0) (filter (λ w. (w.res == res) && test w) ws) (filter_passes (λ w. (w.res == res) && test w) ws)

pub front_of_puts : (rs : List Resource) (res : ℕ) (f : Facilities) → (resource_at rs res).kind ≡ resource.Container → WaitOnce f.waiters →
    All IsPut (puts_at res f.waiters) →
    ServesFront filled_by (HasSpace rs) (puts_at res f.waiters) f (try_put rs res f)
front_of_puts rs res f kind once puts =
    let queue : List Waiter = puts_at res f.waiters in
    let as_came : put_queue rs res f.waiters ≡ queue = others_as_came rs res f.waiters (not_by_keys (resource_at rs res).kind kind) in
    let is_queue : IsQueueOf f.waiters queue = subst (IsQueueOf f.waiters) as_came (is_put_queue rs res f.waiters once) in
    let at : All (λ w. w.res ≡ res) queue = filtered_at res (λ w. wants_to_put w.want) f.waiters in
    let moves = at_container rs res IsPut (IsMove rs filled_by (HasSpace rs) (fits_space rs) (space_not rs)) queue kind at puts (put_moves rs) in
    let tried : ServesFront filled_by (HasSpace rs) queue f (try_along rs WhileServed queue f) = serves_front rs filled_by (HasSpace rs) (fits_space rs) (space_not rs) queue f moves is_queue in
    subst (λ (q : List Waiter). ServesFront filled_by (HasSpace rs) queue f (try_along rs (put_reach (resource_at rs res).kind) q f)) (sym as_came)
    (subst (λ (k : ResourceKind). ServesFront filled_by (HasSpace rs) queue f (try_along rs (put_reach k) queue f)) (sym kind) tried)
  where
    space_not : (rs : List Resource) (w : Waiter) (f : Facilities) → fits_space rs w f ≡ false → ¬ HasSpace rs w f
    space_not rs w f h = not_within (level rs w.res f +ℤ amount_of w.want) (resource_at rs w.res).capacity h

pub front_of_gets : (rs : List Resource) (res : ℕ) (f : Facilities) → (resource_at rs res).kind ≡ resource.Container → WaitOnce f.waiters →
    All IsGet (gets_at res f.waiters) →
    ServesFront drained_by (HasAmount rs) (gets_at res f.waiters) f (try_get rs res f)
front_of_gets rs res f kind once gets =
    let queue : List Waiter = gets_at res f.waiters in
    let at : All (λ w. w.res ≡ res) queue = filtered_at res (λ w. not (wants_to_put w.want)) f.waiters in
    let moves = at_container rs res IsGet (IsMove rs drained_by (HasAmount rs) (fits_level rs) (level_not rs)) queue kind at gets (get_moves rs) in
    subst (λ (k : ResourceKind). ServesFront drained_by (HasAmount rs) queue f (try_along rs (get_reach k) queue f)) (sym kind)
    (serves_front rs drained_by (HasAmount rs) (fits_level rs) (level_not rs) queue f moves (is_get_queue res f.waiters once))
  where
    level_not : (rs : List Resource) (w : Waiter) (f : Facilities) → fits_level rs w f ≡ false → ¬ HasAmount rs w f
    level_not rs w f h = not_within (amount_of w.want) (level rs w.res f) h

-- ---- levels

if_more : (start n : ℤ) (ns : List ℤ) (b : Bool) → (start +ℤ (if b then n else pos 0)) +ℤ total ns ≡ start +ℤ total (if b then n ∷ ns else ns)
if_more start n ns true = omega (arith, ints)
if_more start n ns false = omega (arith, ints)

less_one : (start n p q : ℤ) → ((start +ℤ (pos 0 -ℤ n)) +ℤ p) -ℤ q ≡ (start +ℤ p) -ℤ (n +ℤ q)
less_one start n p q = omega (arith, ints)

if_less : (start n p : ℤ) (ns : List ℤ) (b : Bool) →
    ((start +ℤ (if b then pos 0 -ℤ n else pos 0)) +ℤ p) -ℤ total ns ≡ (start +ℤ p) -ℤ total (if b then n ∷ ns else ns)
if_less start n p ns true = less_one start n p (total ns)
if_less start n p ns false = omega (arith, ints)

unchanged : (start p q : ℤ) → ((start +ℤ pos 0) +ℤ p) -ℤ q ≡ (start +ℤ p) -ℤ q
unchanged start p q = omega (arith, ints)

-- the level is what it was at first, and all that was put, less all that was got
pub level_of_amounts : (start : ℤ) (res : ℕ) (ledger : List Deed) →
    level_after start res ledger ≡ (start +ℤ total (amounts_put res ledger)) -ℤ total (amounts_got res ledger)
level_of_amounts start res [] = omega (arith, ints)
level_of_amounts start res (Filled at n ∷ later) =
    level_of_amounts (start +ℤ change_of_level res (Filled at n)) res later ∙ ap (λ (m : ℤ). m -ℤ total (amounts_got res later)) (if_more start n (amounts_put res later) (at == res))
level_of_amounts start res (Drained at n ∷ later) =
    level_of_amounts (start +ℤ change_of_level res (Drained at n)) res later ∙ if_less start n (total (amounts_put res later)) (amounts_got res later) (at == res)
level_of_amounts start res (Granted at u ∷ later) = level_of_amounts (start +ℤ pos 0) res later ∙ unchanged start (total (amounts_put res later)) (total (amounts_got res later))
level_of_amounts start res (Released at r ∷ later) = level_of_amounts (start +ℤ pos 0) res later ∙ unchanged start (total (amounts_put res later)) (total (amounts_got res later))
level_of_amounts start res (Preempted at r ∷ later) = level_of_amounts (start +ℤ pos 0) res later ∙ unchanged start (total (amounts_put res later)) (total (amounts_got res later))
level_of_amounts start res (Deposited at x ∷ later) = level_of_amounts (start +ℤ pos 0) res later ∙ unchanged start (total (amounts_put res later)) (total (amounts_got res later))
level_of_amounts start res (Taken at p ∷ later) = level_of_amounts (start +ℤ pos 0) res later ∙ unchanged start (total (amounts_put res later)) (total (amounts_got res later))
