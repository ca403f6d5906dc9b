-- What the lawful conditions read: where all of it stays, they stay.
use Rattle.std.proofs.Common.{◌≡◌, ℕ, ◌+◌, ◌<◌, ◌≤◌, Bool, true, false, ◌||◌, ◌&&◌, not, List, [], ◌∷◌, ◌++◌, length, refl, sym, ap, ◌∙◌, if◌then◌else◌, arith, ◌⊎◌, inl, inr, zero, suc, filter, map, Option}
use Rattle.std.specs.Prelude.{count_by, sum_by, nat_lt, nat_le, ◌==◌, cond, is_some}
use Rattle.std.specs.List.{list_any, list_all}
use Rattle.std.proofs.lemmas.Bool.{cases_lt, lt-ltb, false≢true}
use Rattle.std.proofs.lemmas.Bool.Decides.{nat_tests}
use Rattle.std.proofs.lemmas.List.Sums.{sum_by-cons, sum_by_push}
use Rattle.std.proofs.lemmas.List.Elements.{filter-append}
use Rattle.std.proofs.lemmas.List.{map-append, get_or_past}
use Rattle.sim_types.specs.declared.event.EventId.{EventId}
use Rattle.sim_types.specs.declared.event.Signal.{Signal}
use Rattle.sim_types.specs.declared.event.Callback.{Callback}
use Rattle.sim_types.specs.declared.event.EventKind.TheVariants as kind
use Rattle.sim_machine.specs.State.{ConditionOf, EventOf, Registration, Calendar, Control, Idle, Calling, Active, Over}
use Rattle.sim_machine.specs.Events.{is_same, event_at, is_pending, is_processed, callbacks_of, register, is_check_of, pending_event}
use Rattle.sim_machine.specs.Conditions.{condition_of, is_condition, condition_at, members_of, most_weight, weight_within}
use Rattle.sim_machine.specs.Processes.{told_more, not_active}
use Rattle.sim_machine.specs.Standing.{one_if, left_of, is_event_of, all_callbacks_of}
use Rattle.sim_machine.specs.LawfulConditions.{is_build_of, members_are_older, is_below_all, counts_well, checks_at, times_member, first_passes, is_empty, needs_build, builds_left_first, is_to_be_built}
use Rattle.sim_machine_law.proofs.KeptParts.LawfulBasis.{ConditionsBasis}
use Rattle.sim_machine_law.proofs.Events.CallbackLaws.{count_by-append}

-- ---- lists

sum_by_same : {X : Type 0} (f g : X → ℕ) → ((x : X) → f x ≡ g x) → (xs : List X) → sum_by f xs ≡ sum_by g xs
sum_by_same f g h [] = refl
sum_by_same f g h (x ∷ xs) = rw (sum_by-cons f x xs, sum_by-cons g x xs) (omega (arith, h x, sum_by_same f g h xs))

pub count_cons : {X : Type 0} (p : X → Bool) (x : X) (xs : List X) → count_by p (x ∷ xs) ≡ cond (p x) 1 0 + count_by p xs
count_cons p x xs = sum_by-cons (λ x. cond (p x) 1 0) x xs

-- what fails the test counts nothing
pub count_failing : {X : Type 0} (p : X → Bool) (x : X) (xs : List X) → p x ≡ false → count_by p (x ∷ xs) ≡ count_by p xs
count_failing p x xs h = count_cons p x xs ∙ rw h (omega arith)

-- what was not made is as an event just made
pub unmade_event : (c : Calendar) (e : EventId) → length c.events ≤ e.0 → event_at c e ≡ pending_event kind.Plain
unmade_event c e h = get_or_past c.events e.0 (pending_event kind.Plain) h

-- ---- weights

weight_same : (c d : Calendar) → ((e : EventId) → members_of d e ≡ members_of c e) → (n : ℕ) (e : EventId) → weight_within n d e ≡ weight_within n c e
weight_same c d h zero e = refl
weight_same c d h (suc n) e = rw (h e) (ap (λ (k : ℕ). 1 + k) (sum_by_same (weight_within n d) (weight_within n c) (weight_same c d h n) (members_of c e)))

weight_alone : (c : Calendar) (n : ℕ) (e : EventId) → members_of c e ≡ [] → weight_within (suc n) c e ≡ 1
weight_alone c n e h = rw h refl

abbrev cond_one : Bool → ℕ
cond_one b = cond b 1 0

abbrev older : EventId → List EventId → ℕ → Bool
older e members weight = list_all (λ f. nat_lt f.0 e.0) members && nat_le weight most_weight

pub older_same : (c d : Calendar) → ((e : EventId) → members_of d e ≡ members_of c e) → (e : EventId) → members_are_older d e ≡ members_are_older c e
older_same c d h e =
    ap (λ (ms : List EventId). older e ms (weight_within (most_weight + 1) d e)) (h e) ∙ ap (older e (members_of c e)) (weight_same c d h (most_weight + 1) e)

pub older_alone : (c : Calendar) (e : EventId) → members_of c e ≡ [] → members_are_older c e ≡ true
older_alone c e h =
    ap (λ (ms : List EventId). older e ms (weight_within (most_weight + 1) c e)) h ∙ ap (older e []) (weight_alone c most_weight e h)

older_at : (c : Calendar) (k : Control) (e : EventId) → ConditionsBasis c k → (e.0 < length c.events) ⊎ (length c.events ≤ e.0) → members_are_older c e ≡ true
older_at c k e h (inl made) = h.members e (lt-ltb e.0 (length c.events) made)
older_at c k e h (inr unmade) = older_alone c e (ap (λ (x : EventOf). (condition_of x.condition).members) (unmade_event c e unmade))

-- also what was not made has older members, as it has none
pub older_everywhere : (c : Calendar) (k : Control) (e : EventId) → ConditionsBasis c k → members_are_older c e ≡ true
older_everywhere c k e h = older_at c k e h (cases_lt e.0 (length c.events))

-- ---- the events change, and what is registered and to be called stays

-- what a change of the calendar keeps, where conditions are to stay lawful
pub record KeepsConditions (c d : Calendar) : Type 0 where
  pub conditions : (e : EventId) → (event_at d e).condition ≡ (event_at c e).condition
  pub processed : (e : EventId) → is_processed d e ≡ is_processed c e
  pub pending : (e : EventId) → is_pending d e ≡ true → is_pending c e ≡ true

pub same_members : (c d : Calendar) → ((e : EventId) → (event_at d e).condition ≡ (event_at c e).condition) → (e : EventId) → members_of d e ≡ members_of c e
same_members c d same e = ap (λ (o : Option ConditionOf). (condition_of o).members) (same e)

same_needs : (c d : Calendar) → KeepsConditions c d → (e : EventId) → needs_build d e ≡ needs_build c e
same_needs c d k e =
    ap (λ (o : Option ConditionOf). is_some o && not (is_processed d e) && not (is_empty (condition_of o).members)) (k.conditions e) ∙ ap (λ (b : Bool). is_condition c e && not b && not (is_empty (members_of c e))) (k.processed e)

same_to_be_built : (c d : Calendar) (k : Control) → KeepsConditions c d → (e : EventId) → is_to_be_built d k e ≡ is_to_be_built c k e
same_to_be_built c d k s e = ap (λ (b : Bool). not b || is_event_of k e && list_any (is_build_of e) (left_of k)) (s.processed e)

still_counts : (a p q b : Bool) → (q ≡ true → p ≡ true) → (not (a && p) || b) ≡ true → (not (a && q) || b) ≡ true
still_counts true true true b h w = w
still_counts true true false b h w = refl
still_counts true false true b h w = absurd (false≢true (h refl))
still_counts true false false b h w = refl
still_counts false p q b h w = refl

pub counts_changed : (c d : Calendar) (e : EventId) → (event_at d e).condition ≡ (event_at c e).condition
    → (is_pending d e ≡ true → is_pending c e ≡ true) → counts_well c e ≡ true → counts_well d e ≡ true
counts_changed c d e same pending h =
    ap (λ (o : Option ConditionOf). not (is_some o && is_pending d e) || is_below_all (condition_of o)) same ∙ still_counts (is_condition c e) (is_pending c e) (is_pending d e) (is_below_all (condition_at c e)) pending h

-- the same conditions, where all callbacks count alike and the first ones stay first
record SameCalls (c d : Calendar) (a b : Control) : Type 0 where
  checks : (cond e : EventId) → checks_at d b cond e ≡ checks_at c a cond e
  building : (cond : EventId) → (is_event_of a cond && list_any (is_build_of cond) (left_of a)) ≡ true
      → (is_event_of b cond && list_any (is_build_of cond) (left_of b)) ≡ true
  builds : (cond : EventId) → count_by (λ r. is_build_of cond r.callback) d.registered ≡ count_by (λ r. is_build_of cond r.callback) c.registered
  first : (cond : EventId) → first_passes (is_build_of cond) (callbacks_of cond c) ≡ true → first_passes (is_build_of cond) (callbacks_of cond d) ≡ true
  left : (cond : EventId) → builds_left_first a cond ≡ true → builds_left_first b cond ≡ true

pub weaker_or : (a p q : Bool) → (p ≡ true → q ≡ true) → (a || p) ≡ true → (a || q) ≡ true
weaker_or true p q h w = refl
weaker_or false p q h w = h w

-- all that conditions read may change so
conditions_kept : (c d : Calendar) (a b : Control) → KeepsConditions c d → SameCalls c d a b → ConditionsBasis c a → ConditionsBasis d b
conditions_kept c d a b same calls h =
    record {
      members = λ e made. older_same c d (same_members c d same.conditions) e ∙ older_everywhere c a e h;
      counts = λ e. counts_changed c d e (same.conditions e) (same.pending e) (h.counts e);
      checks = λ cond e.
          let times : times_member d cond e ≡ times_member c cond e = ap (count_by (is_same e)) (same_members c d same.conditions cond) in
          rw (times, calls.checks cond e) (h.checks cond e);
      unbuilt = λ cond e some.
          same_to_be_built c d b same cond ∙ weaker_or (not (is_processed c cond)) _ _ (calls.building cond) (h.unbuilt cond e (ap (nat_lt 0) (sym (calls.checks cond e)) ∙ some));
      builds = λ cond. calls.builds cond ∙ (h.builds cond ∙ ap one_if (sym (same_needs c d same cond)));
      first = λ cond.
          ap (λ (n : Bool). not n || first_passes (is_build_of cond) (callbacks_of cond d)) (same_needs c d same cond) ∙ weaker_or (not (needs_build c cond)) _ _ (calls.first cond) (h.first cond);
      left = λ cond. calls.left cond (h.left cond);
    }

keeps_itself : (c : Calendar) → KeepsConditions c c
keeps_itself c = record { conditions = λ e. refl; processed = λ e. refl; pending = λ e h. h }

all_callbacks_kept : (c d : Calendar) (k : Control) (e : EventId) → d.registered ≡ c.registered → all_callbacks_of d k e ≡ all_callbacks_of c k e
all_callbacks_kept c d k e h =
    ap (λ (rs : List Registration). map (λ r. r.callback) (filter (λ r. is_same r.event e) rs) ++ (if is_event_of k e then left_of k else [])) h

callbacks_kept : (c d : Calendar) (e : EventId) → d.registered ≡ c.registered → callbacks_of e d ≡ callbacks_of e c
callbacks_kept c d e h = ap (λ (rs : List Registration). map (λ r. r.callback) (filter (λ r. is_same r.event e) rs)) h

-- the events may change, where those parts stay that conditions read
pub conditions_changed : (c d : Calendar) (k : Control) → KeepsConditions c d → d.registered ≡ c.registered → ConditionsBasis c k → ConditionsBasis d k
conditions_changed c d k same registered h =
    conditions_kept c d k k same (record {
      checks = λ cond e. ap (count_by (is_check_of cond)) (all_callbacks_kept c d k e registered);
      building = λ cond w. w;
      builds = λ cond. ap (count_by (λ r. is_build_of cond r.callback)) registered;
      first = λ cond w. ap (first_passes (is_build_of cond)) (callbacks_kept c d cond registered) ∙ w;
      left = λ cond w. w;
    }) h

-- ---- a callback more is registered, and it is neither check nor build

-- a callback that is no condition's
pub record IsNoConditions (x : Callback) : Type 0 where
  pub no_check : (cond : EventId) → is_check_of cond x ≡ false
  pub no_build : (cond : EventId) → is_build_of cond x ≡ false

abbrev one_more : EventId → EventId → Callback → List Callback
one_more e f x = map (λ (r : Registration). r.callback) (filter (λ r. is_same r.event f) (record { event = e; callback = x } ∷ []))

-- the callbacks of an event once one more is registered
pub callbacks_registered : (e f : EventId) (x : Callback) (c : Calendar) → callbacks_of f (register e x c) ≡ callbacks_of f c ++ one_more e f x
callbacks_registered e f x c =
    ap (map (λ (r : Registration). r.callback)) (filter-append (λ r. is_same r.event f) c.registered (record { event = e; callback = x } ∷ [])) ∙ map-append (λ r. r.callback) (filter (λ r. is_same r.event f) c.registered) (filter (λ r. is_same r.event f) (record { event = e; callback = x } ∷ []))

counts_no_more : (p : Callback → Bool) (e f : EventId) (x : Callback) (b : Bool) → is_same e f ≡ b → p x ≡ false → count_by p (one_more e f x) ≡ 0
counts_no_more p e f x true h w = rw h (rw w refl)
counts_no_more p e f x false h w = rw h refl

count_registered : (p : Callback → Bool) (e f : EventId) (x : Callback) (c : Calendar) → p x ≡ false
    → count_by p (callbacks_of f (register e x c)) ≡ count_by p (callbacks_of f c)
count_registered p e f x c h =
    ap (count_by p) (callbacks_registered e f x c) ∙ (count_by-append p (callbacks_of f c) (one_more e f x) ∙ omega (arith, counts_no_more p e f x (is_same e f) refl h))

pub first_stays : (p : Callback → Bool) (xs ys : List Callback) → first_passes p xs ≡ true → first_passes p (xs ++ ys) ≡ true
first_stays p [] ys h = absurd (false≢true h)
first_stays p (x ∷ xs) ys h = h

-- a callback that is no condition's may be registered
pub conditions_registered : (e : EventId) (x : Callback) (c : Calendar) (k : Control) → IsNoConditions x
    → ConditionsBasis c k → ConditionsBasis (register e x c) k
conditions_registered e x c k n h =
    conditions_kept c (register e x c) k k (record { conditions = λ f. refl; processed = λ f. refl; pending = λ f w. w }) (record {
      checks = λ cond f.
          let left : List Callback = if is_event_of k f then left_of k else [] in
          count_by-append (is_check_of cond) (callbacks_of f (register e x c)) left ∙ (ap (λ (m : ℕ). m + count_by (is_check_of cond) left) (count_registered (is_check_of cond) e f x c (n.no_check cond)) ∙ sym (count_by-append (is_check_of cond) (callbacks_of f c) left));
      building = λ cond w. w;
      builds = λ cond. sum_by_push (λ r. cond_one (is_build_of cond r.callback)) c.registered (record { event = e; callback = x }) ∙ rw (n.no_build cond) (omega arith);
      first = λ cond w. ap (first_passes (is_build_of cond)) (callbacks_registered e cond x c) ∙ first_stays (is_build_of cond) (callbacks_of cond c) (one_more e cond x) w;
      left = λ cond w. w;
    }) h

-- ---- the control changes

abbrev called_by : Control → EventId → List Callback
called_by k e = if is_event_of k e then left_of k else []

-- what a change of the control keeps, where conditions are to stay lawful
pub record KeepsCalls (a b : Control) : Type 0 where
  pub checks : (cond e : EventId) → count_by (is_check_of cond) (called_by b e) ≡ count_by (is_check_of cond) (called_by a e)
  pub building : (cond : EventId) → (is_event_of a cond && list_any (is_build_of cond) (left_of a)) ≡ true
      → (is_event_of b cond && list_any (is_build_of cond) (left_of b)) ≡ true
  pub left : (cond : EventId) → builds_left_first a cond ≡ true → builds_left_first b cond ≡ true

pub conditions_controlled : (c : Calendar) (a b : Control) → KeepsCalls a b → ConditionsBasis c a → ConditionsBasis c b
conditions_controlled c a b calls h =
    conditions_kept c c a b (keeps_itself c) (record {
      checks = λ cond e.
          count_by-append (is_check_of cond) (callbacks_of e c) (called_by b e) ∙ (ap (λ (m : ℕ). count_by (is_check_of cond) (callbacks_of e c) + m) (calls.checks cond e) ∙ sym (count_by-append (is_check_of cond) (callbacks_of e c) (called_by a e)));
      building = calls.building;
      builds = λ cond. refl;
      first = λ cond w. w;
      left = calls.left;
    }) h

called_failing : (p : Callback → Bool) (b : Bool) (x : Callback) (xs : List Callback) → p x ≡ false
    → count_by p (if b then x ∷ xs else []) ≡ count_by p (if b then xs else [])
called_failing p true x xs h = count_failing p x xs h
called_failing p false x xs h = refl

building_failing : (p : Callback → Bool) (b : Bool) (x : Callback) (xs : List Callback) → p x ≡ false
    → (b && list_any p (x ∷ xs)) ≡ true → (b && list_any p xs) ≡ true
building_failing p true x xs h w = rw h at w
building_failing p false x xs h w = w

pub first_failing : (a b q : Bool) (n : ℕ) → q ≡ false → ((n == 0) || (n == 1) && b && q) ≡ true → ((n == 0) || a) ≡ true
first_failing a b q n h w = grind (arith, nat_tests)

-- of the callbacks of e the first one is called, and it is no condition's
pub calls_less : (e : EventId) (x : Callback) (left : List Callback) (b : Control)
    → ((f : EventId) → is_event_of b f ≡ is_same e f) → left_of b ≡ left → IsNoConditions x
    → KeepsCalls (Calling e (x ∷ left)) b
calls_less e x left b same at n =
    record {
      checks = λ cond f. rw (same f, at) (sym (called_failing (is_check_of cond) (is_same e f) x left (n.no_check cond)));
      building = λ cond w. rw (same cond, at) (building_failing (is_build_of cond) (is_same e cond) x left (n.no_build cond) w);
      left = λ cond w.
          let count : ℕ = count_by (is_build_of cond) left in
          let before : ((count == 0) || (count == 1) && is_same e cond && is_build_of cond x) ≡ true = ap (λ (m : ℕ). (m == 0) || (m == 1) && is_same e cond && is_build_of cond x) (sym (count_failing (is_build_of cond) x left (n.no_build cond))) ∙ w in
          rw at (first_failing ((count == 1) && is_event_of b cond && first_passes (is_build_of cond) left) (is_same e cond) (is_build_of cond x) count (n.no_build cond) before);
    }

called_nothing : (p : Callback → Bool) (b : Bool) (xs : List Callback) → xs ≡ [] → count_by p (if b then xs else []) ≡ 0
called_nothing p true xs h = rw h refl
called_nothing p false xs h = refl

nothing_to_build : (p : Callback → Bool) (b : Bool) (xs : List Callback) → xs ≡ [] → (b && list_any p xs) ≡ true → ⊥
nothing_to_build p true xs h w = false≢true (rw h at w)
nothing_to_build p false xs h w = false≢true w

-- nothing is left to call
pub calls_none : (a b : Control) → left_of a ≡ [] → left_of b ≡ [] → KeepsCalls a b
calls_none a b h w =
    record {
      checks = λ cond e. called_nothing (is_check_of cond) (is_event_of b e) (left_of b) w ∙ sym (called_nothing (is_check_of cond) (is_event_of a e) (left_of a) h);
      building = λ cond k. absurd (nothing_to_build (is_build_of cond) (is_event_of a cond) (left_of a) h k);
      left = λ cond k. rw w refl;
    }

calls_told : (x : Signal) (k : Control) → KeepsCalls k (told_more x k)
calls_told x Idle = record { checks = λ cond e. refl; building = λ cond w. w; left = λ cond w. w }
calls_told x (Calling e left) = record { checks = λ cond e. refl; building = λ cond w. w; left = λ cond w. w }
calls_told x (Active e left p y) = record { checks = λ cond e. refl; building = λ cond w. w; left = λ cond w. w }
calls_told x (Over why e left) = record { checks = λ cond e. refl; building = λ cond w. w; left = λ cond w. w }

-- the active process is told more
pub conditions_told : (x : Signal) (c : Calendar) (k : Control) → ConditionsBasis c k → ConditionsBasis c (told_more x k)
conditions_told x c k h = conditions_controlled c k (told_more x k) (calls_told x k) h

calls_not_active : (k : Control) → KeepsCalls k (not_active k)
calls_not_active Idle = record { checks = λ cond e. refl; building = λ cond w. w; left = λ cond w. w }
calls_not_active (Calling e left) = record { checks = λ cond e. refl; building = λ cond w. w; left = λ cond w. w }
calls_not_active (Active e left p y) = record { checks = λ cond e. refl; building = λ cond w. w; left = λ cond w. w }
calls_not_active (Over why e left) = record { checks = λ cond e. refl; building = λ cond w. w; left = λ cond w. w }

-- the active process rests
pub conditions_rested : (c : Calendar) (k : Control) → ConditionsBasis c k → ConditionsBasis c (not_active k)
conditions_rested c k h = conditions_controlled c k (not_active k) (calls_not_active k) h
