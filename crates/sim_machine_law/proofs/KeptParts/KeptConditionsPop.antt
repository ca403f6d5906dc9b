-- Conditions stay lawful at a pop: their build is called first, and by them.
use Rattle.std.proofs.Common.{◌≡◌, ◌≢◌, ℕ, ◌+◌, ◌<◌, ◌≤◌, Bool, true, false, ◌||◌, ◌&&◌, not, List, [], ◌∷◌, ◌++◌, length, refl, sym, subst, ap, ◌∙◌, if◌then◌else◌, arith, ◌⊎◌, inl, inr, filter, map, Option, Some, None, append-nil}
use Rattle.std.specs.Prelude.{count_by, nat_lt, ◌==◌, cond, is_none, is_some}
use Rattle.std.specs.List.{list_any}
use Rattle.std.proofs.lemmas.Bool.{cases_lt, cases_eq, false≢true, true≢false, and_parts, not-true, not_from_true, not_from_false, false_from_ne_true, ltb-true, lt-ltb, or_left, or_right, and_from}
use Rattle.std.proofs.lemmas.Bool.Decides.{nat_tests}
use Rattle.std.proofs.lemmas.List.Filters.{sum_by-filter_both}
use Rattle.std.proofs.lemmas.List.Folds.{fold-map}
use Rattle.sim_types.specs.declared.event.EventId.{EventId}
use Rattle.sim_types.specs.declared.event.Entry.{Entry}
use Rattle.sim_types.specs.declared.event.Callback.{Callback}
use Rattle.sim_machine.specs.State.{ConditionOf, EventOf, Registration, Calendar, Control, Idle, Calling}
use Rattle.sim_machine.specs.Events.{is_same, event_at, is_pending, is_processed, is_triggered, callbacks_of, is_check_of}
use Rattle.sim_machine.specs.Agenda.{due, without_entry, popped}
use Rattle.sim_machine.specs.Conditions.{condition_of, is_condition, members_of}
use Rattle.sim_machine.specs.Standing.{one_if, all_callbacks_of}
use Rattle.sim_machine.specs.LawfulTimes.{LawfulTimes}
use Rattle.sim_machine.specs.LawfulConditions.{is_build_of, checks_at, times_member, is_empty, first_passes, needs_build, builds_first, builds_left_first, is_to_be_built}
use Rattle.sim_machine_law.proofs.Events.AgendaLaws.{Among, due_among}
use Rattle.sim_machine_law.proofs.Events.EventLaws.{same_event, is_same-self, change_event-same, change_event-other, change_event-keeps}
use Rattle.sim_machine_law.proofs.KeptParts.KeptConditions.{count_cons, unmade_event, same_members, older_same, older_everywhere, counts_changed}
use Rattle.sim_machine_law.proofs.KeptParts.LawfulBasis.{ConditionsBasis}

-- ---- the event of the due entry is triggered

among_counts : (es : List Entry) (x : Entry) → Among es x → 1 ≤ count_by (λ y. is_same y.event x.event) es
among_counts [] x a = absurd a
among_counts (y ∷ es) x (inl same) =
    let P : Entry → Type 0 = λ z. 1 ≤ count_by (λ y. is_same y.event x.event) (z ∷ es) in
    subst P same (rw (count_cons (λ y. is_same y.event x.event) x es) (rw (is_same-self x.event) (omega arith)))
among_counts (y ∷ es) x (inr a) = omega (arith, count_cons (λ z. is_same z.event x.event) y es, among_counts es x a)

pub one_if_yes : (b : Bool) → 1 ≤ one_if b → b ≡ true
one_if_yes true h = refl
one_if_yes false h = absurd (omega (arith, h))

pub due_triggered : (c : Calendar) (x : Entry) → due c.agenda ≡ Some x → LawfulTimes c → is_triggered c x.event ≡ true
due_triggered c x h l = one_if_yes (is_triggered c x.event) (omega (arith, among_counts c.agenda x (due_among c.agenda x h), l.triggered x.event))

triggered_made_at : (c : Calendar) (e : EventId) → is_pending c e ≡ false → (e.0 < length c.events) ⊎ (length c.events ≤ e.0) → e.0 < length c.events
triggered_made_at c e h (inl made) = made
triggered_made_at c e h (inr unmade) = absurd (true≢false (sym (ap (λ (x : EventOf). is_none x.outcome) (unmade_event c e unmade)) ∙ h))

-- a triggered event was made
pub triggered_made : (c : Calendar) (e : EventId) → is_triggered c e ≡ true → e.0 < length c.events
triggered_made c e h =
    triggered_made_at c e (not-true (is_pending c e) (and_parts (not (is_pending c e)) (not (is_processed c e)) h).0) (cases_lt e.0 (length c.events))

-- ---- the callbacks of an event, and those of all others

abbrev calls_at : EventId → List Registration → List Callback
calls_at e rs = map (λ r. r.callback) (filter (λ r. is_same r.event e) rs)

abbrev calls_of_others : EventId → List Registration → List Registration
calls_of_others e rs = filter (λ r. not (is_same r.event e)) rs

pub split_calls : (p : Callback → Bool) (e : EventId) (rs : List Registration)
    → count_by p (calls_at e rs) + count_by (λ r. p r.callback) (calls_of_others e rs) ≡ count_by (λ r. p r.callback) rs
split_calls p e rs =
    let q : Registration → Bool = λ r. is_same r.event e in
    let mapped : count_by p (calls_at e rs) ≡ count_by (λ r. p r.callback) (filter q rs) = fold-map (λ a x. a + cond {A = ℕ} (p x) 1 0) (λ r. r.callback) 0 (filter q rs) in
    omega (arith, mapped, sum_by-filter_both q (λ r. not (is_same r.event e)) (λ r. refl) (λ r. cond {A = ℕ} (p r.callback) 1 0) rs)

within_step : {X : Type 0} (p q : X → Bool) (x : X) (xs : List X) (b : Bool) → (p x ≡ true → b ≡ true)
    → filter p (filter q xs) ≡ filter p xs
    → filter p (cond b (x ∷ filter q xs) (filter q xs)) ≡ cond (p x) (x ∷ filter p xs) (filter p xs)
within_step p q x xs true h w = rw w refl
within_step p q x xs false h w =
    let no : p x ≡ false = false_from_ne_true (p x) (λ e. false≢true (h e)) in
    rw no w

-- a test passes what it passed, where the filter before it keeps all of that
pub filter_within : {X : Type 0} (p q : X → Bool) → ((x : X) → p x ≡ true → q x ≡ true) → (xs : List X) → filter p (filter q xs) ≡ filter p xs
filter_within p q h [] = refl
filter_within p q h (x ∷ xs) = within_step p q x xs (q x) (h x) (filter_within p q h xs)

apart_step : {X : Type 0} (p : X → Bool) (x : X) (xs : List X) (b : Bool) → (p x ≡ true → b ≡ false) → filter p xs ≡ [] → filter p (cond b (x ∷ xs) xs) ≡ []
apart_step p x xs true h w =
    let no : p x ≡ false = false_from_ne_true (p x) (λ e. true≢false (h e)) in
    rw no w
apart_step p x xs false h w = w

-- and passes nothing, where the filter before it takes all of that out
pub filter_apart : {X : Type 0} (p q : X → Bool) → ((x : X) → p x ≡ true → q x ≡ false) → (xs : List X) → filter p (filter q xs) ≡ []
filter_apart p q h [] = refl
filter_apart p q h (x ∷ xs) = apart_step p x (filter q xs) (q x) (h x) (filter_apart p q h xs)

same_apart : (r e f : EventId) → (e.0 ≡ f.0 → ⊥) → is_same r e ≡ true → is_same r f ≡ false
same_apart r e f h w = grind (arith, nat_tests)

-- the callbacks of others stay
pub calls_at_others : (e f : EventId) (rs : List Registration) → (e.0 ≡ f.0 → ⊥) → calls_at e (calls_of_others f rs) ≡ calls_at e rs
calls_at_others e f rs h = ap (map (λ (r : Registration). r.callback)) (filter_within (λ r. is_same r.event e) (λ r. not (is_same r.event f)) (λ r w. not_from_false (is_same r.event f) (same_apart r.event e f h w)) rs)

-- and none of its own
pub calls_at_none : (f : EventId) (rs : List Registration) → calls_at f (calls_of_others f rs) ≡ []
calls_at_none f rs = ap (map (λ (r : Registration). r.callback)) (filter_apart (λ r. is_same r.event f) (λ r. not (is_same r.event f)) (λ r w. not_from_true (is_same r.event f) w) rs)

first_counts : (p : Callback → Bool) (xs : List Callback) → first_passes p xs ≡ true → 1 ≤ count_by p xs
first_counts p [] h = absurd (false≢true h)
first_counts p (x ∷ xs) h = rw (count_cons p x xs) (rw h (omega arith))

first_any : (p : Callback → Bool) (xs : List Callback) → first_passes p xs ≡ true → list_any p xs ≡ true
first_any p [] h = absurd (false≢true h)
first_any p (x ∷ xs) h = rw h refl

-- ---- where the builds stand

abbrev builds_at : EventId → EventId → Calendar → ℕ
builds_at e cond c = count_by (is_build_of cond) (callbacks_of e c)

abbrev builds_of_others : EventId → EventId → Calendar → ℕ
builds_of_others e cond c = count_by (λ r. is_build_of cond r.callback) (calls_of_others e c.registered)

-- a condition that needs its build bears it
build_stands : (c : Calendar) (k : Control) (cond : EventId) → ConditionsBasis c k → (b : Bool) → needs_build c cond ≡ b → one_if b ≤ builds_at cond cond c
build_stands c k cond h true needs = first_counts (is_build_of cond) (callbacks_of cond c) (rw needs at (h.first cond))
build_stands c k cond h false needs = omega arith

builds_all : (c : Calendar) (k : Control) (f cond : EventId) → ConditionsBasis c k
    → builds_at f cond c + builds_of_others f cond c ≡ one_if (needs_build c cond)
builds_all c k f cond h = split_calls (is_build_of cond) f c.registered ∙ h.builds cond

others_bear : (c : Calendar) (f cond : EventId) → (cond.0 ≡ f.0 → ⊥) → builds_at cond cond c ≤ builds_of_others f cond c
others_bear c f cond h =
    let kept : builds_at cond cond c ≡ count_by (is_build_of cond) (calls_at cond (calls_of_others f c.registered)) = ap (count_by (is_build_of cond)) (sym (calls_at_others cond f c.registered h)) in
    omega (arith, kept, split_calls (is_build_of cond) cond (calls_of_others f c.registered))

-- no event bears the build of another
no_build_at_others : (c : Calendar) (k : Control) (f cond : EventId) → (cond.0 ≡ f.0 → ⊥) → ConditionsBasis c k → builds_at f cond c ≡ 0
no_build_at_others c k f cond differ h =
    omega (arith, builds_all c k f cond h, others_bear c f cond differ, build_stands c k cond h (needs_build c cond) refl)

-- nor do others bear its own
no_build_of_others : (c : Calendar) (k : Control) (f : EventId) → ConditionsBasis c k → builds_of_others f f c ≡ 0
no_build_of_others c k f h = omega (arith, builds_all c k f f h, build_stands c k f h (needs_build c f) refl)

-- ---- the pop

abbrev emptied : Entry → Calendar → Calendar
emptied x c = record c { time = x.key.time; agenda = without_entry x c.agenda; registered = calls_of_others x.event c.registered }

-- a pop leaves an event all but processed
pub popped-keeps : {X : Type 0} (part : EventOf → X) (x : Entry) (c : Calendar) (e : EventId)
    → ((y : EventOf) → part (record y { processed = true }) ≡ part y) → part (event_at (popped x c) e) ≡ part (event_at c e)
popped-keeps part x c e keeps = change_event-keeps part x.event e (λ y. record y { processed = true }) (emptied x c) keeps

pub popped-other : (x : Entry) (c : Calendar) (e : EventId) → e.0 ≢ x.event.0 → event_at (popped x c) e ≡ event_at c e
popped-other x c e differ = change_event-other x.event e (λ y. record y { processed = true }) (emptied x c) differ

pub popped-processed : (x : Entry) (c : Calendar) → x.event.0 < length c.events → is_processed (popped x c) x.event ≡ true
popped-processed x c made = ap (λ (y : EventOf). y.processed) (change_event-same x.event (λ y. record y { processed = true }) (emptied x c) made)

is_same-no : (e f : EventId) → (e.0 ≡ f.0 → ⊥) → is_same e f ≡ false
is_same-no e f h = grind (arith, nat_tests)

callbacks_at : (x : Entry) (c : Calendar) (e : EventId) → (e.0 ≡ x.event.0) ⊎ (e.0 ≢ x.event.0)
    → all_callbacks_of (popped x c) (Calling x.event (callbacks_of x.event c)) e ≡ all_callbacks_of c Idle e
callbacks_at x c e (inl same) =
    let left : List Callback = callbacks_of x.event c in
    let P : EventId → Type 0 = λ f. all_callbacks_of (popped x c) (Calling x.event left) f ≡ all_callbacks_of c Idle f in
    let none : calls_at x.event (calls_of_others x.event c.registered) ≡ [] = calls_at_none x.event c.registered in
    let at : (if is_same x.event x.event then left else []) ≡ left = ap (λ (b : Bool). if b then left else []) (is_same-self x.event) in
    subst P (sym (same_event e x.event same)) (ap (λ (xs : List Callback). xs ++ (if is_same x.event x.event then left else [])) none ∙ (at ∙ sym (append-nil left)))
callbacks_at x c e (inr differ) =
    let left : List Callback = callbacks_of x.event c in
    ap (λ (xs : List Callback). xs ++ (if is_same x.event e then left else [])) (calls_at_others e x.event c.registered differ) ∙ ap (λ (b : Bool). callbacks_of e c ++ (if b then left else [])) (is_same-no x.event e (λ s. differ (sym s)))

-- at a pop no callback is lost, and each still counts for its event
pub callbacks-popped : (x : Entry) (c : Calendar) (e : EventId)
    → all_callbacks_of (popped x c) (Calling x.event (callbacks_of x.event c)) e ≡ all_callbacks_of c Idle e
callbacks-popped x c e = callbacks_at x c e (cases_eq e.0 x.event.0)

processed_needs_none : (c : Calendar) (e : EventId) → is_processed c e ≡ true → needs_build c e ≡ false
processed_needs_none c e h = ap (λ (b : Bool). is_condition c e && not b && not (is_empty (members_of c e))) h ∙ none (is_condition c e)
  where
    none : (b : Bool) → (b && not true && not (is_empty (members_of c e))) ≡ false
    none true = refl
    none false = refl

popped_needs : (x : Entry) (c : Calendar) (e : EventId) → e.0 ≢ x.event.0 → needs_build (popped x c) e ≡ needs_build c e
popped_needs x c e differ = ap (λ (y : EventOf). is_some y.condition && not y.processed && not (is_empty (condition_of y.condition).members)) (popped-other x c e differ)

builds_popped : (x : Entry) (c : Calendar) (k : Control) (e : EventId) → x.event.0 < length c.events → ConditionsBasis c k
    → (e.0 ≡ x.event.0) ⊎ (e.0 ≢ x.event.0) → builds_of_others x.event e c ≡ one_if (needs_build (popped x c) e)
builds_popped x c k e made h (inl same) =
    let P : EventId → Type 0 = λ f. builds_of_others x.event f c ≡ one_if (needs_build (popped x c) f) in
    let none : needs_build (popped x c) x.event ≡ false = processed_needs_none (popped x c) x.event (popped-processed x c made) in
    subst P (sym (same_event e x.event same)) (no_build_of_others c k x.event h ∙ ap one_if (sym none))
builds_popped x c k e made h (inr differ) =
    let kept : builds_of_others x.event e c ≡ one_if (needs_build c e) = omega (arith, builds_all c k x.event e h, no_build_at_others c k x.event e differ h) in
    kept ∙ ap one_if (sym (popped_needs x c e differ))

first_popped : (x : Entry) (c : Calendar) (k : Control) (e : EventId) → x.event.0 < length c.events → ConditionsBasis c k
    → (e.0 ≡ x.event.0) ⊎ (e.0 ≢ x.event.0) → builds_first (popped x c) e ≡ true
first_popped x c k e made h (inl same) =
    let P : EventId → Type 0 = λ f. builds_first (popped x c) f ≡ true in
    let none : needs_build (popped x c) x.event ≡ false = processed_needs_none (popped x c) x.event (popped-processed x c made) in
    subst P (sym (same_event e x.event same)) (ap (λ (b : Bool). not b || first_passes (is_build_of x.event) (callbacks_of x.event (popped x c))) none)
first_popped x c k e made h (inr differ) =
    ap (λ (b : Bool). not b || first_passes (is_build_of e) (callbacks_of e (popped x c))) (popped_needs x c e differ) ∙ (ap (λ (xs : List Callback). not (needs_build c e) || first_passes (is_build_of e) xs) (calls_at_others e x.event c.registered differ) ∙ h.first e)

left_at : (c : Calendar) (k : Control) (f : EventId) → ConditionsBasis c k → (b : Bool) → needs_build c f ≡ b
    → builds_left_first (Calling f (callbacks_of f c)) f ≡ true
left_at c k f h true needs =
    let first : first_passes (is_build_of f) (callbacks_of f c) ≡ true = rw needs at (h.first f) in
    let one : builds_at f f c ≡ 1 = omega (arith, builds_all c k f f h, no_build_of_others c k f h, ap one_if needs) in
    rw (is_same-self f) (rw first (counted (builds_at f f c) one))
  where
    counted : (n : ℕ) → n ≡ 1 → ((n == 0) || (n == 1) && true && true) ≡ true
    counted n h = rw h refl
left_at c k f h false needs =
    let none : builds_at f f c ≡ 0 = omega (arith, builds_all c k f f h, ap one_if needs) in
    ap (λ (n : ℕ). (n == 0) || (n == 1) && is_same f f && first_passes (is_build_of f) (callbacks_of f c)) none

left_popped : (c : Calendar) (k : Control) (f cond : EventId) → ConditionsBasis c k → (cond.0 ≡ f.0) ⊎ (cond.0 ≢ f.0)
    → builds_left_first (Calling f (callbacks_of f c)) cond ≡ true
left_popped c k f cond h (inl same) =
    let P : EventId → Type 0 = λ e. builds_left_first (Calling f (callbacks_of f c)) e ≡ true in
    subst P (sym (same_event cond f same)) (left_at c k f h (needs_build c f) refl)
left_popped c k f cond h (inr differ) =
    ap (λ (n : ℕ). (n == 0) || (n == 1) && is_same f cond && first_passes (is_build_of cond) (callbacks_of f c)) (no_build_at_others c k f cond differ h)

some_members : (e : EventId) (ms : List EventId) → 1 ≤ count_by (is_same e) ms → not (is_empty ms) ≡ true
some_members e [] h = absurd (omega (arith, h))
some_members e (m ∷ ms) h = refl

some_condition : (o : Option ConditionOf) → not (is_empty (condition_of o).members) ≡ true → is_some o ≡ true
some_condition None h = absurd (false≢true h)
some_condition (Some y) h = refl

needs_from : (a b m : Bool) → a ≡ true → b ≡ false → m ≡ true → (a && not b && m) ≡ true
needs_from a b m p q r = rw (p, q, r) refl

-- a condition that is checked and not processed needs its build
checked_needs : (c : Calendar) (k : Control) (cond e : EventId) → ConditionsBasis c k → 1 ≤ checks_at c k cond e
    → is_processed c cond ≡ false → needs_build c cond ≡ true
checked_needs c k cond e h some unprocessed =
    let members : not (is_empty (members_of c cond)) ≡ true = some_members e (members_of c cond) (omega (arith, some, h.checks cond e)) in
    needs_from (is_condition c cond) (is_processed c cond) (not (is_empty (members_of c cond))) (some_condition (event_at c cond).condition members) unprocessed members

unbuilt_popped : (x : Entry) (c : Calendar) (cond e : EventId) → is_processed c x.event ≡ false → ConditionsBasis c Idle
    → 1 ≤ checks_at c Idle cond e → (cond.0 ≡ x.event.0) ⊎ (cond.0 ≢ x.event.0)
    → is_to_be_built (popped x c) (Calling x.event (callbacks_of x.event c)) cond ≡ true
unbuilt_popped x c cond e unprocessed h some (inl same) =
    let left : List Callback = callbacks_of x.event c in
    let at : cond ≡ x.event = same_event cond x.event same in
    let P : EventId → Type 0 = λ f. is_to_be_built (popped x c) (Calling x.event left) f ≡ true in
    let Q : EventId → Type 0 = λ f. 1 ≤ checks_at c Idle f e in
    let needs : needs_build c x.event ≡ true = checked_needs c Idle x.event e h (subst Q at some) unprocessed in
    let any : list_any (is_build_of x.event) left ≡ true = first_any (is_build_of x.event) left (rw needs at (h.first x.event)) in
    subst P (sym at) (or_right (not (is_processed (popped x c) x.event)) _ (and_from (is_same x.event x.event) (list_any (is_build_of x.event) left) (is_same-self x.event) any))
unbuilt_popped x c cond e unprocessed h some (inr differ) =
    let old : (not (is_processed c cond) || false) ≡ true = h.unbuilt cond e (lt-ltb 0 (checks_at c Idle cond e) some) in
    let kept : is_processed (popped x c) cond ≡ is_processed c cond = ap (λ (y : EventOf). y.processed) (popped-other x c cond differ) in
    or_left (not (is_processed (popped x c) cond)) _ (ap not kept ∙ no_more (not (is_processed c cond)) old)
  where
    no_more : (b : Bool) → (b || false) ≡ true → b ≡ true
    no_more true h = refl
    no_more false h = h

checks_popped : (x : Entry) (c : Calendar) (cond e : EventId)
    → checks_at (popped x c) (Calling x.event (callbacks_of x.event c)) cond e ≡ checks_at c Idle cond e
checks_popped x c cond e = ap (count_by (is_check_of cond)) (callbacks-popped x c e)

-- the entry that is due may be popped
pub conditions_popped : (x : Entry) (c : Calendar) → due c.agenda ≡ Some x → LawfulTimes c → ConditionsBasis c Idle
    → ConditionsBasis (popped x c) (Calling x.event (callbacks_of x.event c))
conditions_popped x c is_due l h =
    let triggered : is_triggered c x.event ≡ true = due_triggered c x is_due l in
    let made : x.event.0 < length c.events = triggered_made c x.event triggered in
    let unprocessed : is_processed c x.event ≡ false = not-true (is_processed c x.event) (and_parts (not (is_pending c x.event)) (not (is_processed c x.event)) triggered).1 in
    let same : (e : EventId) → (event_at (popped x c) e).condition ≡ (event_at c e).condition = λ e. popped-keeps (λ y. y.condition) x c e (λ y. refl) in
    record {
      members = λ e was. older_same c (popped x c) (same_members c (popped x c) same) e ∙ older_everywhere c Idle e h;
      counts = λ e. counts_changed c (popped x c) e (same e) (λ w. sym (popped-keeps (λ y. is_none y.outcome) x c e (λ y. refl)) ∙ w) (h.counts e);
      checks = λ cond e.
          let times : times_member (popped x c) cond e ≡ times_member c cond e = ap (count_by (is_same e)) (same_members c (popped x c) same cond) in
          rw (times, checks_popped x c cond e) (h.checks cond e);
      unbuilt = λ cond e some.
          unbuilt_popped x c cond e unprocessed h (ltb-true 0 (checks_at c Idle cond e) (ap (nat_lt 0) (sym (checks_popped x c cond e)) ∙ some)) (cases_eq cond.0 x.event.0);
      builds = λ cond. builds_popped x c Idle cond made h (cases_eq cond.0 x.event.0);
      first = λ cond. first_popped x c Idle cond made h (cases_eq cond.0 x.event.0);
      left = λ cond. left_popped c Idle x.event cond h (cases_eq cond.0 x.event.0);
    }
