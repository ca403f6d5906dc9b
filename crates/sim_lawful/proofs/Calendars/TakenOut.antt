-- The first callback of an event that passes a test is taken out: what counts as before, and what is lawful as before where it
-- is a resumption.
use Rattle.std.proofs.Common.{◌≡◌, ◌+◌, ◌<◌, ◌≤◌, Bool, true, false, ◌&&◌, not, List, [], ◌∷◌, map, filter, refl, sym, ap, ◌∙◌, arith, All, if◌then◌else◌}
use Rattle.std.specs.Prelude.{count_by, nat_lt}
use Rattle.std.proofs.lemmas.Bool.{cond_both, and_parts, both_ways, false≢true}
use Rattle.std.proofs.lemmas.List.Elements.{All-cons, All-head, All-tail}
use Rattle.std.proofs.lemmas.List.Sums.{count_by-le-length}
use Rattle.sim_types.specs.declared.event.EventId.{EventId}
use Rattle.sim_types.specs.declared.event.ProcId.{ProcId}
use Rattle.sim_types.specs.declared.event.Callback.{Callback}
use Rattle.sim_types.specs.declared.event.Callback.TheVariants as callback
use Rattle.sim_machine.specs.State.{Registration, Calendar, Control}
use Rattle.sim_machine.specs.Events.{is_same, without_first, callbacks_of, unregister, is_resume_of, is_check_of}
use Rattle.sim_machine.specs.Standing.{one_if, left_of, is_event_of, all_callbacks_of, callbacks_in_all}
use Rattle.sim_machine.specs.LawfulRegistrations.{LawfulRegistrations, awaits_processing}
use Rattle.sim_machine.specs.LawfulInterruptions.{is_strike}
use Rattle.sim_machine.specs.LawfulConditions.{is_build_of, first_passes, checks_at, needs_build}
use Rattle.sim_machine.specs.LawfulChains.{LawfulChains, chains_well}
use Rattle.sim_machine_law.proofs.Events.CallbackLaws.{counts_one, counts_none, count_by-cons, count_by-append, length_counts}
use Rattle.sim_machine_law.proofs.KeptParts.KeptInterruptionsParts.{StrikesAlone, alone_parts, alone_from}
use Rattle.sim_machine_law.proofs.KeptParts.LawfulBasis.{ConditionsBasis}
use Rattle.sim_machine_law.proofs.KeptParts.KeptConditions.{weaker_or}

-- ---- lists

pub All-without_first : {X : Type 0} (P : X → Type 0) (test : X → Bool) (xs : List X) → All P xs → All P (without_first test xs)
All-without_first P test [] h = h
All-without_first P test (x ∷ xs) h =
    cond_both (test x) xs (x ∷ without_first test xs) (λ ys. All P ys) (λ a. All-tail P x xs h) (λ a. All-cons P x (without_first test xs) (All-head P x xs h) (All-without_first P test xs (All-tail P x xs h)))

-- what is taken out does not count
pub count-apart : {X : Type 0} (t u : X → Bool) → ((x : X) → u x ≡ true → t x ≡ false) → (xs : List X) → count_by t (without_first u xs) ≡ count_by t xs
count-apart t u apart [] = refl
count-apart t u apart (x ∷ xs) =
    let rest = without_first u xs in
    cond_both (u x) xs (x ∷ rest) (λ ys. count_by t ys ≡ count_by t (x ∷ xs)) (λ a. omega (arith, count_by-cons t x xs, counts_none (t x) (apart x a)))
    (λ a. omega (arith, count_by-cons t x xs, count_by-cons t x rest, count-apart t u apart xs))

-- what is taken out counts, and there is one
pub count-taken : {X : Type 0} (t u : X → Bool) → ((x : X) → u x ≡ true → t x ≡ true) → (xs : List X) → 0 < count_by u xs
    → count_by t xs ≡ 1 + count_by t (without_first u xs)
count-taken t u counts [] some = absurd (omega (arith, some))
count-taken t u counts (x ∷ xs) some =
    let rest = without_first u xs in
    cond_both (u x) xs (x ∷ rest) (λ ys. count_by t (x ∷ xs) ≡ 1 + count_by t ys) (λ a. omega (arith, count_by-cons t x xs, counts_one (t x) (counts x a)))
    (λ a. omega (arith, count_by-cons t x xs, count_by-cons t x rest, count-taken t u counts xs (omega (arith, some, count_by-cons u x xs, counts_none (u x) a))))

pub count-less : {X : Type 0} (t u : X → Bool) (xs : List X) → count_by t (without_first u xs) ≤ count_by t xs
count-less t u [] = omega arith
count-less t u (x ∷ xs) =
    let rest = without_first u xs in
    cond_both (u x) xs (x ∷ rest) (λ ys. count_by t ys ≤ count_by t (x ∷ xs)) (λ a. omega (arith, count_by-cons t x xs)) (λ a. omega (arith, count_by-cons t x xs, count_by-cons t x rest, count-less t u xs))

-- ---- the callbacks of an event are counted among all registrations

abbrev pub bears : EventId → (Callback → Bool) → Registration → Bool
bears f test r = is_same r.event f && test r.callback

-- what is called at an event, of these registrations
abbrev pub calls_at : EventId → List Registration → List Callback
calls_at f rs = map (λ (r : Registration). r.callback) (filter (λ (r : Registration). is_same r.event f) rs)

pub count_at : (test : Callback → Bool) (f : EventId) (rs : List Registration) → count_by test (calls_at f rs) ≡ count_by (bears f test) rs
count_at test f [] = refl
count_at test f (r ∷ rs) =
    let others : List Registration = filter (λ (q : Registration). is_same q.event f) rs in
    let later = count_at test f rs in
    cond_both (is_same r.event f) (r ∷ others) others (λ xs. count_by test (map (λ (q : Registration). q.callback) xs) ≡ count_by (bears f test) (r ∷ rs))
    (λ a. let here : one_if (bears f test r) ≡ one_if (test r.callback) = rw a refl in omega (arith, count_by-cons test r.callback (calls_at f rs), count_by-cons (bears f test) r rs, here, later))
    (λ a. let here : one_if (bears f test r) ≡ 0 = rw a refl in omega (arith, count_by-cons (bears f test) r rs, here, later))

pub callbacks-counted : (test : Callback → Bool) (f : EventId) (c : Calendar) → count_by test (callbacks_of f c) ≡ count_by (bears f test) c.registered
callbacks-counted test f c = count_at test f c.registered

-- ---- a callback is taken out of those of e

abbrev called_by : Control → EventId → List Callback
called_by k f = if is_event_of k f then left_of k else []

-- what counts no callback that passes the test counts as before
pub at-unregister : (t test : Callback → Bool) (e f : EventId) (c : Calendar) (k : Control)
    → ((x : Callback) → test x ≡ true → t x ≡ false)
    → count_by t (all_callbacks_of (unregister e test c) k f) ≡ count_by t (all_callbacks_of c k f)
at-unregister t test e f c k apart =
    let d : Calendar = unregister e test c in
    let none : (r : Registration) → bears e test r ≡ true → bears f t r ≡ false = λ r w. both_false (is_same r.event f) (t r.callback) (apart r.callback (and_parts (is_same r.event e) (test r.callback) w).1) in
    omega (arith, count_by-append t (callbacks_of f d) (called_by k f), count_by-append t (callbacks_of f c) (called_by k f), callbacks-counted t f d, callbacks-counted t f c, count-apart (bears f t) (bears e test) none c.registered)
  where
    both_false : (a b : Bool) → b ≡ false → (a && b) ≡ false
    both_false true b h = h
    both_false false b h = refl

pub in_all-unregister : (t test : Callback → Bool) (e : EventId) (c : Calendar) (k : Control)
    → ((x : Callback) → test x ≡ true → t x ≡ false) → callbacks_in_all t (unregister e test c) k ≡ callbacks_in_all t c k
in_all-unregister t test e c k apart =
    let none : (r : Registration) → bears e test r ≡ true → t r.callback ≡ false = λ r w. apart r.callback (and_parts (is_same r.event e) (test r.callback) w).1 in
    omega (arith, count-apart (λ r. t r.callback) (bears e test) none c.registered)

pub at-unregister_less : (t test : Callback → Bool) (e f : EventId) (c : Calendar) (k : Control)
    → count_by t (all_callbacks_of (unregister e test c) k f) ≤ count_by t (all_callbacks_of c k f)
at-unregister_less t test e f c k =
    let d : Calendar = unregister e test c in
    omega (arith, count_by-append t (callbacks_of f d) (called_by k f), count_by-append t (callbacks_of f c) (called_by k f), callbacks-counted t f d, callbacks-counted t f c, count-less (bears f t) (bears e test) c.registered)

-- the first callback of an event stays the first, where it does not pass the test
first_stays : (p : Callback → Bool) (u : Registration → Bool) (f : EventId)
    → ((r : Registration) → u r ≡ true → p r.callback ≡ false) → (rs : List Registration)
    → first_passes p (calls_at f rs) ≡ true → first_passes p (calls_at f (without_first u rs)) ≡ true
first_stays p u f apart [] h = h
first_stays p u f apart (r ∷ rs) h =
    let rest : List Registration = without_first u rs in
    let others : List Registration = filter (λ (q : Registration). is_same q.event f) rs in
    let calls : List Registration → List Callback = λ qs. map (λ (q : Registration). q.callback) qs in
    cond_both (u r) rs (r ∷ rest) (λ ys. first_passes p (calls_at f ys) ≡ true)
    (λ a. cond_both (is_same r.event f) (r ∷ others) others (λ qs. first_passes p (calls qs) ≡ true → first_passes p (calls_at f rs) ≡ true) (λ b w. absurd (both_ways (p r.callback) (apart r a) w)) (λ b w. w) h)
    (λ a. cond_both (is_same r.event f) (r ∷ others) others (λ qs. first_passes p (calls qs) ≡ true → first_passes p (calls_at f (r ∷ rest)) ≡ true) (λ b w. rw b w) (λ b w. rw b (first_stays p u f apart rs w)) h)

-- ---- a resumption is taken out: what is lawful stays so

pub registrations_taken : (e : EventId) (test : Callback → Bool) (c : Calendar) (k : Control) → LawfulRegistrations c k
    → LawfulRegistrations (unregister e test c) k
registrations_taken e test c k h =
    record { unprocessed = All-without_first (λ r. awaits_processing c r ≡ true) (bears e test) c.registered h.unprocessed; processing = h.processing; outcomes = h.outcomes }

pub chains_taken : (e : EventId) (test : Callback → Bool) (c : Calendar) (k : Control) → LawfulChains c k → LawfulChains (unregister e test c) k
chains_taken e test c k h = record { registered = All-without_first (λ r. chains_well c r.event r.callback ≡ true) (bears e test) c.registered h.registered; calling = h.calling }

pub resumes_only : (p : ProcId) (x : Callback) (t : Callback → Bool) → ((q : ProcId) → t (callback.Resume q) ≡ false) → is_resume_of p x ≡ true → t x ≡ false
resumes_only p (callback.Resume q) t none h = none q
resumes_only p _ t none h = absurd (false≢true h)

pub strikes_taken : (e : EventId) (p : ProcId) (c : Calendar) (k : Control) → StrikesAlone c k → StrikesAlone (unregister e (is_resume_of p) c) k
strikes_taken e p c k h =
    let d : Calendar = unregister e (is_resume_of p) c in
    let every : Callback → Bool = λ x. true in
    record {
      alone = λ f counted.
          let same = at-unregister is_strike (is_resume_of p) e f c k (λ x w. resumes_only p x is_strike (λ q. refl) w) in
          let before = alone_parts c k f (h.alone f (omega (arith, counted, same))) in
          let calls : List Callback = all_callbacks_of d k f in
          alone_from d k f before.0 (omega (arith, counted, before.1, count_by-le-length is_strike calls, length_counts calls, length_counts (all_callbacks_of c k f), at-unregister_less every (is_resume_of p) e f c k));
    }

pub conditions_taken : (e : EventId) (p : ProcId) (c : Calendar) (k : Control) → ConditionsBasis c k → ConditionsBasis (unregister e (is_resume_of p) c) k
conditions_taken e p c k h =
    let d : Calendar = unregister e (is_resume_of p) c in
    let checks : (cond f : EventId) → checks_at d k cond f ≡ checks_at c k cond f = λ cond f. at-unregister (is_check_of cond) (is_resume_of p) e f c k (λ x w. resumes_only p x (is_check_of cond) (λ q. refl) w) in
    let no_build : (cond : EventId) (r : Registration) → bears e (is_resume_of p) r ≡ true → is_build_of cond r.callback ≡ false = λ cond r w.
    resumes_only p r.callback (is_build_of cond) (λ q. refl) (and_parts (is_same r.event e) (is_resume_of p r.callback) w).1 in
    record {
      members = h.members;
      counts = h.counts;
      checks = λ cond f. omega (arith, checks cond f, h.checks cond f);
      unbuilt = λ cond f some. h.unbuilt cond f (ap (nat_lt 0) (sym (checks cond f)) ∙ some);
      builds = λ cond. count-apart (λ r. is_build_of cond r.callback) (bears e (is_resume_of p)) (no_build cond) c.registered ∙ h.builds cond;
      first = λ cond. weaker_or (not (needs_build c cond)) _ _ (λ w. first_stays (is_build_of cond) (bears e (is_resume_of p)) cond (no_build cond) c.registered w) (h.first cond);
      left = h.left;
    }
