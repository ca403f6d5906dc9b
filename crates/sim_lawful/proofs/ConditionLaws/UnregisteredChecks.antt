-- A check is taken out of the registrations: conditions stay lawful, and the calendar may take the place of the state's.
use Rattle.std.proofs.Common.{◌≡◌, ℕ, ◌+◌, ◌≤◌, Bool, true, false, ◌&&◌, not, List, [], ◌∷◌, map, filter, refl, ◌∙◌, arith, if◌then◌else◌, All, inl, inr}
use Rattle.std.specs.Prelude.{count_by}
use Rattle.std.proofs.lemmas.Bool.{false≢true, both_ways, ltb-true, lt-ltb, cases_Bool}
use Rattle.std.proofs.lemmas.List.Elements.{All-nil, All-cons, All-head, All-tail}
use Rattle.std.proofs.lemmas.List.Sums.{count_by-le-length}
use Rattle.sim_types.specs.declared.event.EventId.{EventId}
use Rattle.sim_types.specs.declared.event.ProcId.{ProcId}
use Rattle.sim_types.specs.declared.event.Callback.{Callback}
use Rattle.sim_types.specs.declared.event.Callback.TheVariants as callback
use Rattle.sim_machine.specs.State.{Registration, Calendar, Control, State}
use Rattle.sim_machine.specs.Events.{is_same, without_first, callbacks_of, unregister, is_resume_of, is_check_of}
use Rattle.sim_machine.specs.Standing.{left_of, is_event_of, all_callbacks_of}
use Rattle.sim_machine.specs.LawfulRegistrations.{awaits_processing}
use Rattle.sim_machine.specs.LawfulInterruptions.{is_strike}
use Rattle.sim_machine.specs.LawfulConditions.{is_build_of, checks_at, needs_build, first_passes}
use Rattle.sim_machine.specs.LawfulChains.{chains_well}
use Rattle.sim_machine_law.proofs.Events.CallbackLaws.{count_by-cons, count_by-append, counts_one, counts_none, length_counts}
use Rattle.sim_machine_law.proofs.KeptParts.KeptTimes.{times_registered}
use Rattle.sim_machine_law.proofs.KeptParts.KeptTimesCases.{if_cases}
use Rattle.sim_machine_law.proofs.KeptParts.KeptRegistrationsCalendar.{later_self, later_then}
use Rattle.sim_machine_law.proofs.KeptParts.KeptProcessesParts.{living-events}
use Rattle.sim_machine_law.proofs.KeptParts.KeptInterruptionsParts.{alone_parts, alone_from}
use Rattle.sim_machine_law.proofs.KeptParts.KeptConditions.{weaker_or, older_same, older_everywhere}
use Rattle.sim_lawful.proofs.Calendars.TakenCalendars.{MayTake}
use Rattle.sim_lawful.proofs.Calendars.TakenOut.{calls_at, count_at}
use Rattle.sim_machine_law.proofs.KeptParts.LawfulBasis.{ConditionsBasis}

-- ---- a list without its first element that passes a test

fewer : {X : Type 0} (p t : X → Bool) (xs : List X) → count_by p (without_first t xs) ≤ count_by p xs
fewer p t [] = omega arith
fewer p t (x ∷ xs) =
    if_cases (λ ys. count_by p ys ≤ count_by p (x ∷ xs)) (t x) xs (x ∷ without_first t xs)
    (λ yes. omega (arith, count_by-cons p x xs))
    (λ no. omega (arith, count_by-cons p x xs, count_by-cons p x (without_first t xs), fewer p t xs))

not_fewer : {X : Type 0} (p t : X → Bool) (xs : List X) → ((x : X) → t x ≡ true → p x ≡ false) → count_by p (without_first t xs) ≡ count_by p xs
not_fewer p t [] apart = refl
not_fewer p t (x ∷ xs) apart =
    if_cases (λ ys. count_by p ys ≡ count_by p (x ∷ xs)) (t x) xs (x ∷ without_first t xs)
    (λ yes. omega (arith, count_by-cons p x xs, counts_none (p x) (apart x yes)))
    (λ no. omega (arith, count_by-cons p x xs, count_by-cons p x (without_first t xs), not_fewer p t xs apart))

one_fewer : {X : Type 0} (t : X → Bool) (xs : List X) (n : ℕ) → count_by t xs ≤ n + 1 → count_by t (without_first t xs) ≤ n
one_fewer t [] n h = omega arith
one_fewer t (x ∷ xs) n h =
    if_cases (λ ys. count_by t ys ≤ n) (t x) xs (x ∷ without_first t xs)
    (λ yes. omega (arith, h, count_by-cons t x xs, counts_one (t x) yes))
    (λ no. omega (arith, count_by-cons t x (without_first t xs), counts_none (t x) no, one_fewer t xs n (omega (arith, h, count_by-cons t x xs, counts_none (t x) no))))

all_fewer : {X : Type 0} (P : X → Type 0) (t : X → Bool) (xs : List X) → All P xs → All P (without_first t xs)
all_fewer P t [] h = All-nil P
all_fewer P t (x ∷ xs) h =
    if_cases (All P) (t x) xs (x ∷ without_first t xs) (λ yes. All-tail P x xs h)
    (λ no. All-cons P x (without_first t xs) (All-head P x xs h) (all_fewer P t xs (All-tail P x xs h)))

-- ---- a check is taken out of the registrations

-- the registrations of which the first is taken out
abbrev taken : EventId → EventId → Registration → Bool
taken e cond r = is_same r.event e && is_check_of cond r.callback

and_false : (a b : Bool) → b ≡ false → (a && b) ≡ false
and_false true b h = h
and_false false b h = refl

and_second : (a b : Bool) → (a && b) ≡ true → b ≡ true
and_second true b h = h
and_second false b h = absurd (false≢true h)

-- no event bears more
pub unregistered-fewer : (q : Callback → Bool) (e cond f : EventId) (c : Calendar)
    → count_by q (callbacks_of f (unregister e (is_check_of cond) c)) ≤ count_by q (callbacks_of f c)
unregistered-fewer q e cond f c =
    omega (arith, count_at q f (unregister e (is_check_of cond) c).registered, count_at q f c.registered, fewer (λ r. is_same r.event f && q r.callback) (taken e cond) c.registered)

-- and each as many that are no checks
unregistered-same : (q : Callback → Bool) (e cond f : EventId) (c : Calendar)
    → ((x : Callback) → is_check_of cond x ≡ true → q x ≡ false)
    → count_by q (callbacks_of f (unregister e (is_check_of cond) c)) ≡ count_by q (callbacks_of f c)
unregistered-same q e cond f c apart =
    let here : Registration → Bool = λ r. is_same r.event f && q r.callback in
    omega (
      arith,
      count_at q f (unregister e (is_check_of cond) c).registered,
      count_at q f c.registered,
      not_fewer here (taken e cond) c.registered (λ r yes. and_false (is_same r.event f) (q r.callback) (apart r.callback (and_second (is_same r.event e) (is_check_of cond r.callback) yes))),
    )

-- the event itself bears one check less
pub unregistered-one : (e cond : EventId) (c : Calendar) (n : ℕ) → count_by (is_check_of cond) (callbacks_of e c) ≤ n + 1
    → count_by (is_check_of cond) (callbacks_of e (unregister e (is_check_of cond) c)) ≤ n
unregistered-one e cond c n h =
    omega (arith, count_at (is_check_of cond) e (unregister e (is_check_of cond) c).registered, one_fewer (taken e cond) c.registered n (omega (arith, h, count_at (is_check_of cond) e c.registered)))

first_left : (q : Callback → Bool) (e cond f : EventId) (rs : List Registration)
    → ((x : Callback) → is_check_of cond x ≡ true → q x ≡ false) → first_passes q (calls_at f rs) ≡ true
    → first_passes q (calls_at f (without_first (taken e cond) rs)) ≡ true
first_left q e cond f [] apart h = h
first_left q e cond f (r ∷ rs) apart h =
    let others : List Registration = filter (λ r. is_same r.event f) rs in
    let left : List Registration = filter (λ r. is_same r.event f) (without_first (taken e cond) rs) in
    if_cases (λ ws. first_passes q (calls_at f ws) ≡ true) (taken e cond r) rs (r ∷ without_first (taken e cond) rs)
    (λ yes. if_cases (λ (xs : List Registration). first_passes q (map (λ r. r.callback) xs) ≡ true → first_passes q (calls_at f rs) ≡ true) (is_same r.event f) (r ∷ others) others
    (λ same w. absurd (both_ways (q r.callback) (apart r.callback (and_second (is_same r.event e) (is_check_of cond r.callback) yes)) w)) (λ differ w. w) h)
    (λ no. elim (cases_Bool (is_same r.event f)) [
      | inl same ↦ rw same (rw same at h)
      | inr differ ↦ rw differ (first_left q e cond f rs apart (rw differ at h))
    ])

-- ---- what checks are not

check_resumes : (cond : EventId) (p : ProcId) (x : Callback) → is_check_of cond x ≡ true → is_resume_of p x ≡ false
check_resumes cond p (callback.Check f) h = refl
check_resumes cond p _ h = absurd (false≢true h)

check_strikes : (cond : EventId) (x : Callback) → is_check_of cond x ≡ true → is_strike x ≡ false
check_strikes cond (callback.Check f) h = refl
check_strikes cond _ h = absurd (false≢true h)

check_builds : (cond e : EventId) (x : Callback) → is_check_of cond x ≡ true → is_build_of e x ≡ false
check_builds cond e (callback.Check f) h = refl
check_builds cond e _ h = absurd (false≢true h)

-- ---- the law

abbrev called : Control → EventId → List Callback
called k e = if is_event_of k e then left_of k else []

all_same : (q : Callback → Bool) (e cond f : EventId) (c : Calendar) (k : Control)
    → ((x : Callback) → is_check_of cond x ≡ true → q x ≡ false)
    → count_by q (all_callbacks_of (unregister e (is_check_of cond) c) k f) ≡ count_by q (all_callbacks_of c k f)
all_same q e cond f c k apart =
    omega (arith, count_by-append q (callbacks_of f (unregister e (is_check_of cond) c)) (called k f), count_by-append q (callbacks_of f c) (called k f), unregistered-same q e cond f c apart)

all_fewer_at : (q : Callback → Bool) (e cond f : EventId) (c : Calendar) (k : Control)
    → count_by q (all_callbacks_of (unregister e (is_check_of cond) c) k f) ≤ count_by q (all_callbacks_of c k f)
all_fewer_at q e cond f c k =
    omega (arith, count_by-append q (callbacks_of f (unregister e (is_check_of cond) c)) (called k f), count_by-append q (callbacks_of f c) (called k f), unregistered-fewer q e cond f c)

pub take_unregistered : {B : Type 0} (s : State B) (e cond : EventId) (d : Calendar) → MayTake s d → MayTake s (unregister e (is_check_of cond) d)
take_unregistered s e cond d h =
    let c : Calendar = s.facilities.calendar in
    let k : Control = s.control in
    let n : Calendar = unregister e (is_check_of cond) d in
    let every : Callback → Bool = λ x. true in
    record {
      times = times_registered n.registered d h.times;
      registrations = record { unprocessed = all_fewer (λ r. awaits_processing d r ≡ true) (taken e cond) d.registered h.registrations.unprocessed; processing = h.registrations.processing; outcomes = h.registrations.outcomes };
      living = living-events c d n refl h.living;
      resumes = record {
        active = h.resumes.active;
        in_all = λ p. omega (arith, h.resumes.in_all p, not_fewer (λ r. is_resume_of p r.callback) (taken e cond) d.registered (λ r yes. check_resumes cond p r.callback (and_second (is_same r.event e) (is_check_of cond r.callback) yes)));
        at = λ p f. all_same (is_resume_of p) e cond f d k (check_resumes cond p) ∙ h.resumes.at p f;
      };
      failed = h.failed;
      heard = h.heard;
      strikes = record {
        alone = λ f counted.
            let before = alone_parts d k f (h.strikes.alone f (omega (arith, counted, all_same is_strike e cond f d k (check_strikes cond)))) in
            alone_from n k f before.0 (omega (arith, counted, before.1, count_by-le-length is_strike (all_callbacks_of n k f), length_counts (all_callbacks_of n k f), length_counts (all_callbacks_of d k f), all_fewer_at every e cond f d k));
      };
      grown = record { longer = h.grown.longer; kinds = h.grown.kinds; cancelled = h.grown.cancelled };
      pending = h.pending;
      later = later_then c d n h.later (later_self d n refl);
      chains = record { registered = all_fewer (λ r. chains_well d r.event r.callback ≡ true) (taken e cond) d.registered h.chains.registered; calling = h.chains.calling };
    }

pub conditions_unregistered : (e cond : EventId) (c : Calendar) (k : Control) → ConditionsBasis c k → ConditionsBasis (unregister e (is_check_of cond) c) k
conditions_unregistered e cond c k h =
    let n : Calendar = unregister e (is_check_of cond) c in
    record {
      members = λ f made. older_same c n (λ g. refl) f ∙ older_everywhere c k f h;
      counts = h.counts;
      checks = λ x f. omega (arith, h.checks x f, all_fewer_at (is_check_of x) e cond f c k);
      unbuilt = λ x f some. h.unbuilt x f (lt-ltb 0 (checks_at c k x f) (omega (arith, all_fewer_at (is_check_of x) e cond f c k, ltb-true 0 (checks_at n k x f) some)));
      builds = λ x. not_fewer (λ r. is_build_of x r.callback) (taken e cond) c.registered (λ r yes. check_builds cond x r.callback (and_second (is_same r.event e) (is_check_of cond r.callback) yes)) ∙ h.builds x;
      first = λ x. weaker_or (not (needs_build c x)) (first_passes (is_build_of x) (callbacks_of x c)) (first_passes (is_build_of x) (callbacks_of x n)) (first_left (is_build_of x) e cond x c.registered (check_builds cond x)) (h.first x);
      left = h.left;
    }
