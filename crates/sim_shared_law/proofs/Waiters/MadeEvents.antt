-- Events that are made for resources, served and released.
use Rattle.std.proofs.Common.{◌≡◌, ℕ, zero, suc, inl, inr, ◌+◌, ◌≤◌, pos, List, [], ◌∷◌, length, refl, sym, subst, ap, ◌∙◌, Option, Some, None, map, arith}
use Rattle.std.specs.Prelude.{is_some, slice_set, slice_index_or, count_by, ◌==◌}
use Rattle.std.specs.Option.{option_map}
use Rattle.std.proofs.lemmas.Bool.{cases_Bool}
use Rattle.sim_machine_law.proofs.Events.CallbackLaws.{count_by-cons, count_by-append}
use Rattle.sim_types.specs.declared.event.EventId.{EventId}
use Rattle.sim_types.specs.declared.event.EventKind.{EventKind}
use Rattle.sim_types.specs.declared.event.EventKind.TheVariants as kind
use Rattle.sim_types.specs.declared.event.Callback.{Callback}
use Rattle.sim_types.specs.declared.event.Callback.TheVariants as callback
use Rattle.sim_machine.specs.State.{Calendar, Facilities}
use Rattle.sim_machine.specs.Standing.{one_if}
use Rattle.sim_machine.specs.Events.{next_event, register, cancel_event}
use Rattle.sim_machine.specs.Triggering.{make, succeed}
use Rattle.sim_machine.specs.Trying.{on_calendar}
use Rattle.sim_machine.specs.Requests as requests
use Rattle.sim_machine_law.proofs.Events.EventLaws.{make-length}
use Rattle.sim_happen_model.specs.HappenOf.{HappenOf, IsOpen, KeepsRoom, unheld_event, as_before, gone_if_unheld, none_if_unheld, held}
use Rattle.sim_happen_model.specs.TableOf.{Kept, Spare, kept_count}
use Rattle.sim_happen_model.specs.Changes.{more_events, more_callbacks}
use Rattle.sim_happen_model.specs.Shows.{Turns, Follows}
use Rattle.sim_happen_law.proofs.Changes.Following.{turns_then, turns_as}
use Rattle.sim_happen_law.proofs.Changes.NewEvents.{next_is, is_new, new_registered, IsNew}
use Rattle.sim_shared_model.specs.Making.{MakesAll}
use Rattle.sim_shared_model.specs.SharedOf.{SharedOf}
use Rattle.sim_shared_model.specs.Waiting.{LeavesRoom}
use Rattle.sim_shared_model.specs.ShowsAll.{TurnsAll, FollowsAll}
use Rattle.sim_shared_law.proofs.Shown.FollowingFacilities.{turns_all_then, turns_all_as, turns_on_calendar}

-- an event more, with a callback
abbrev pub made_with : EventKind → Callback → Calendar → Calendar
made_with k x c = register (next_event c) x (make k c)

pub turns_made_with : (k : EventKind) (x : Callback) (a : SharedOf) (m b : HappenOf) (e : EventId) → e.0 ≡ length a.happen.events
    → Turns (make k) unheld_event a.happen m → Follows (register e x) m b
    → TurnsAll (on_calendar (made_with k x)) unheld_event a (record a { happen = b })
turns_made_with k x a m b e same t f =
    turns_on_calendar (made_with k x) unheld_event a b (λ c. omega (arith, make-length k c))
    (turns_as (λ c. register e x (make k c)) (made_with k x) unheld_event a.happen b
    (λ c s. ap (λ g. register g x (make k c)) (sym (next_is a.happen c e same s)))
    (turns_then (make k) (register e x) unheld_event as_before a.happen m b t f))

-- it can be served
pub made_open : (k : EventKind) (x : Callback) (a m b : HappenOf) (e : EventId) → e.0 ≡ length a.events → Turns (make k) unheld_event a m
    → Follows (register e x) m b → IsOpen b e
made_open k x a m b e same t f =
    let new : IsNew b e = new_registered x m b e f (is_new k a m e t same) in
    record { kept = new.kept; pending = new.pending; not_cancelled = new.uncancelled }

-- a release, step by step
pub release_made : (a b d g : SharedOf) (e r : EventId) (res : ℕ) → e.0 ≡ length a.happen.events
    → TurnsAll (on_calendar (made_with kind.Release (callback.TryPut res))) unheld_event a b → FollowsAll (requests.end_use res r) b d
    → FollowsAll (on_calendar (succeed e (pos 0))) d g → TurnsAll (requests.make_release res r) unheld_event a g
release_made a b d g e r res same made ended served =
    let first : Facilities → Facilities = on_calendar (made_with kind.Release (callback.TryPut res)) in
    turns_all_as (λ f. on_calendar (succeed e (pos 0)) (requests.end_use res r (first f))) (requests.make_release res r) unheld_event a g
    (λ f h. ap (λ (n : EventId). on_calendar (succeed n (pos 0)) (requests.end_use res r (first f))) (sym (next_is a.happen f.calendar e same h.calendar)))
    (turns_all_then (λ f. requests.end_use res r (first f)) (on_calendar (succeed e (pos 0))) unheld_event as_before a d g
    (turns_all_then first (requests.end_use res r) unheld_event as_before a b d made ended) served)

-- ---- how many are kept

abbrev holders_of : Kept → ℕ
holders_of k = k.holders

one_counted : (o : Option Kept) → is_some o ≡ is_some (option_map holders_of o)
one_counted None = refl
one_counted (Some k) = refl

held_counts : (es : List (Option Kept)) → kept_count es ≡ count_by is_some (map (option_map holders_of) es)
held_counts [] = refl
held_counts (o ∷ es) = omega (arith, count_by-cons is_some o es, count_by-cons is_some (option_map holders_of o) (map (option_map holders_of) es), held_counts es, ap one_if (one_counted o))

counted : (h : HappenOf) → kept_count h.events ≡ count_by is_some (held h)
counted h = held_counts h.events

fewer_if_unheld : (o : Option ℕ) → one_if (is_some (none_if_unheld o)) ≤ one_if (is_some o)
fewer_if_unheld None = omega arith
fewer_if_unheld (Some n) = elim (cases_Bool (n == 0)) [
  | inl is ↦ rw is (omega arith)
  | inr other ↦ rw other (omega arith)
]

fewer_set : (hs : List (Option ℕ)) (n : ℕ) → count_by is_some (slice_set hs n (none_if_unheld (slice_index_or hs n None))) ≤ count_by is_some hs
fewer_set [] n = omega arith
fewer_set (o ∷ hs) zero = omega (arith, count_by-cons is_some (none_if_unheld o) hs, count_by-cons is_some o hs, fewer_if_unheld o)
fewer_set (o ∷ hs) (suc n) =
    omega (arith, count_by-cons is_some o (slice_set hs n (none_if_unheld (slice_index_or hs n None))), count_by-cons is_some o hs, fewer_set hs n)

-- where an event may go, there is no less room for events
pub shut_room : (a b : HappenOf) (e : EventId) → Turns (cancel_event e) (gone_if_unheld e) a b → KeepsRoom a b → a.spare.events ≤ b.spare.events
shut_room a b e t room =
    let fewer : count_by is_some (held b) ≤ count_by is_some (held a) = subst (λ (hs : List (Option ℕ)). count_by is_some hs ≤ count_by is_some (held a)) (sym t.held) (fewer_set (held a) e.0) in
    omega (arith, room.events, counted a, counted b, fewer)

-- one more is kept
pub kept_more : (a b : HappenOf) → held b ≡ unheld_event (held a) → kept_count b.events ≡ kept_count a.events + 1
kept_more a b h =
    let more : count_by is_some (held b) ≡ count_by is_some (held a) + 1 = ap (λ (hs : List (Option ℕ)). count_by is_some hs) h ∙ count_by-append is_some (held a) (Some 0 ∷ []) in
    omega (arith, counted a, counted b, more)

-- a request is cancelled and released
pub leaves_room : (a b d : HappenOf) → KeepsRoom a b → a.spare.events ≤ b.spare.events → held d ≡ unheld_event (held b)
    → more_events 1 (more_callbacks 1 d.spare) ≡ b.spare → LeavesRoom a d
leaves_room a b d room less held spare = record {
  events = omega (arith, room.events, kept_more b d held, ap (λ (s : Spare). s.events) spare);
  never_less = omega (arith, less, ap (λ (s : Spare). s.events) spare);
  callbacks = omega (arith, room.callbacks, ap (λ (s : Spare). s.callbacks) spare);
  conditions = omega (arith, room.conditions, ap (λ (s : Spare). s.conditions) spare);
}

-- ---- how many events a call makes

-- none was
pub makes_none : (most : ℕ) (change : Facilities → Facilities) (a b : SharedOf) → FollowsAll change a b → b.happen.spare ≡ a.happen.spare
    → MakesAll most change a b
makes_none most change a b t spare = record {
  made = 0;
  at_most = omega arith;
  turns = record { each = t.each; held = t.held; left = t.left; setup = t.setup };
  spare = no_more b.happen.spare ∙ spare;
}
  where
    same_number : (n : ℕ) → n + 0 ≡ n
    same_number n = omega arith

    no_more : (s : Spare) → more_events 0 (more_callbacks 0 s) ≡ s
    no_more s =
        ap (λ (n : ℕ). record s { events = n; callbacks = s.callbacks + 0 }) (same_number s.events)
        ∙ ap (λ (n : ℕ). record s { callbacks = n }) (same_number s.callbacks)

-- one was, which took the room of one event and of one callback
pub makes_one : (change : Facilities → Facilities) (a b : SharedOf) → TurnsAll change unheld_event a b
    → more_events 1 (more_callbacks 1 b.happen.spare) ≡ a.happen.spare → MakesAll 1 change a b
makes_one change a b t spare = record {
  made = 1;
  at_most = omega arith;
  turns = record { each = t.each; held = t.held; left = t.left; setup = t.setup };
  spare = spare;
}
