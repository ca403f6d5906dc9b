-- What an operation comes to, case by case.
use Rattle.std.proofs.Common.{◌≡◌, ◌^◌, ◌+◌, ℤ, pos, ◌≤ℤ◌, ◌+ℤ◌, Bool, true, false, List, [], ◌∷◌, Some, refl, subst, arith, if◌then◌else◌}
use Rattle.std.specs.Prelude.{int_lt, find, All, cond}
use Rattle.std.proofs.lemmas.Int.{ints}
use Rattle.std.proofs.lemmas.Option.{same_Some, none-some}
use Rattle.std.proofs.lemmas.List.Elements.{All-head, All-tail}
use Rattle.sim_types.specs.declared.event.EventId.{EventId}
use Rattle.sim_types.specs.declared.event.ProcId.{ProcId}
use Rattle.sim_types.specs.declared.event.Callback.TheVariants as callback
use Rattle.sim_types.specs.declared.event.Signal.TheVariants as signal
use Rattle.sim_machine.specs.State.{State, Plan}
use Rattle.sim_machine.specs.Events.{event_at, is_processed, next_event, register}
use Rattle.sim_machine.specs.Triggering.{is_too_late, make_timeout}
use Rattle.sim_machine.specs.Scopes.{on_events}
use Rattle.sim_machine.specs.Processes.{change_process, tell, rest, signal_of, defuse_failed, wait}
use Rattle.sim_machine.specs.Effect.{calendar, raise, drawn_number, draw, with_timeout}

-- what holds in both cases of a test, each knowing how the test came out
pub if_cases : {X : Type 0} (P : X → Type 0) (b : Bool) (x y : X) → (b ≡ true → P x) → (b ≡ false → P y) → P (if b then x else y)
if_cases P true x y p q = p refl
if_cases P false x y p q = q refl

not_under : (a b : ℤ) → int_lt a b ≡ false → b ≤ℤ a
not_under a b h = grind (arith, ints)

-- a timeout is made only where its time is from now to the last one
pub timeout_cases : {B : Type 0} (P : State B → Type 0) (delay value : ℤ) (after : EventId → State B → State B) (s : State B)
    → P (raise 1 s) → P (raise 9 s)
    → (pos 0 ≤ℤ delay → ((calendar s).time +ℤ delay) ≤ℤ pos (2 ^ 62) → P (after (next_event (calendar s)) (on_events (make_timeout delay value) s)))
    → P (with_timeout delay value after s)
timeout_cases P delay value after s low high made =
    let t : State _ = after (next_event (calendar s)) (on_events (make_timeout delay value) s) in
    if_cases P (int_lt delay (pos 0)) (raise 1 s) (if is_too_late delay (calendar s) then raise 9 s else t) (λ h. low)
    (λ h. if_cases P (is_too_late delay (calendar s)) (raise 9 s) t (λ k. high) (λ k. made (not_under delay (pos 0) h) (not_under (pos (2 ^ 62)) ((calendar s).time +ℤ delay) k)))

-- a number is drawn from a range that is not empty
pub draw_cases : {B : Type 0} (P : State B → Type 0) (g : Plan B) (lo hi : ℤ) (s : State B) → P (raise 8 s)
    → (int_lt hi lo ≡ false → P (tell (signal.Number (drawn_number (g.word s.drawn) lo hi)) (record s { drawn = s.drawn + 1 })))
    → P (draw g lo hi s)
draw_cases P g lo hi s empty drawn =
    if_cases P (int_lt hi lo) (raise 8 s) (tell (signal.Number (drawn_number (g.word s.drawn) lo hi)) (record s { drawn = s.drawn + 1 })) (λ h. empty) drawn

-- a process goes on at once at a processed event, and else waits
pub wait_cases : {B : Type 0} (P : State B → Type 0) (e : EventId) (p : ProcId) (s : State B)
    → (is_processed (calendar s) e ≡ true → P (tell (signal_of (event_at (calendar s) e).outcome) (on_events (defuse_failed e) s)))
    → (is_processed (calendar s) e ≡ false → P (rest (change_process p (λ x. record x { target = e }) (on_events (register e (callback.Resume p)) s))))
    → P (wait e p s)
wait_cases P e p s processed unprocessed =
    if_cases P (is_processed (calendar s) e) (tell (signal_of (event_at (calendar s) e).outcome) (on_events (defuse_failed e) s)) (rest (change_process p (λ x. record x { target = e }) (on_events (register e (callback.Resume p)) s))) processed unprocessed

-- what holds of all elements holds of one that is found, and it passes the test
pub found_has : {X : Type 0} (P : X → Type 0) (test : X → Bool) (xs : List X) (y : X) → find test xs ≡ Some y → All P xs → P y × (test y ≡ true)
found_has P test [] y h all = absurd (none-some y h)
found_has {X} P test (x ∷ xs) y h all = at (test x) refl h (λ found. found_has P test xs y found (All-tail P x xs all))
  where
    at : (b : Bool) → test x ≡ b → cond b (Some x) (find test xs) ≡ Some y → (find test xs ≡ Some y → P y × (test y ≡ true)) → P y × (test y ≡ true)
    at true passes found later =
        let same : x ≡ y = same_Some x y found in
        (subst P same (All-head P x xs all), subst (λ z. test z ≡ true) same passes)
    at false fails found later = later found
