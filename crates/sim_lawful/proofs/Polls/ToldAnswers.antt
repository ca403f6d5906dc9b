-- The answers that the active process is told: an event that was made, that it was done, or an error.
use Rattle.std.proofs.Common.{◌≡◌, ℕ, ◌<◌, Bool, true, false, ◌&&◌, not, List, length, Option, Some, ap, ◌∙◌}
use Rattle.std.proofs.lemmas.Bool.{not_from_false}
use Rattle.sim_types.specs.declared.event.EventId.{EventId}
use Rattle.sim_types.specs.declared.event.ProcId.{ProcId}
use Rattle.sim_types.specs.declared.event.Callback.{Callback}
use Rattle.sim_types.specs.declared.event.Signal.{Signal}
use Rattle.sim_types.specs.declared.event.Signal.TheVariants as signal
use Rattle.sim_types.specs.declared.op.Op.{Op}
use Rattle.sim_machine.specs.State.{Calendar, ProcessOf, State, Plan}
use Rattle.sim_machine.specs.Events.{is_processed}
use Rattle.sim_machine.specs.Scopes.{on_events}
use Rattle.sim_machine.specs.Processes.{with_body, tell as told}
use Rattle.sim_machine.specs.Effect.{calendar, raise}
use Rattle.sim_machine.specs.Tellings.{Telling, CodeFacts}
use Rattle.sim_machine.specs.MayFollow.{may_follow, may_be_told, makes_kind, is_enter}
use Rattle.sim_machine.specs.Standing.{was_made, kind_at}
use Rattle.sim_machine.specs.LawfulBodies.{told_fits}
use Rattle.sim_machine_law.proofs.KeptParts.KeptRegistrationsCalendar.{below_made}
use Rattle.sim_machine_law.proofs.KeptParts.KeptBodies.{four_from}
use Rattle.sim_machine_law.proofs.Events.ChangedCalendars.{MayReplace, HasAsked, lawful_told}
use Rattle.sim_lawful.proofs.Calendars.ReplacedCalendars.{replace_same}
use Rattle.sim_machine_law.proofs.KeptParts.LawfulBasis.{LawfulBasis}

-- an event that was made and is not processed may be told after an operation that makes events of its kind
pub fits_made : {B : Type 0} (tell : Telling B) (d : Calendar) (b : B) (o : Op) (r : EventId) → tell.last b ≡ Some o
    → may_follow o (signal.Made r) ≡ true → makes_kind (Some o) (kind_at d r) ≡ true → r.0 < length d.events
    → is_processed d r ≡ false → told_fits tell d b (signal.Made r) ≡ true
fits_made tell d b o r last follows makes made unprocessed =
    let P : Option Op → Bool = λ a. may_be_told a (signal.Made r) && was_made d r && not (is_processed d r) && makes_kind a (kind_at d r) in
    ap P last ∙ four_from (may_follow o (signal.Made r)) (was_made d r) (not (is_processed d r)) (makes_kind (Some o) (kind_at d r)) follows (below_made d r made) (not_from_false (is_processed d r) unprocessed) makes

-- the process is told of an event that it asked for
pub lawful_made : {B : Type 0} (g : Plan B) (tell : Telling B) (sound : B → Type 0) (s : State B) (f : CodeFacts)
    (e : EventId) (left : List Callback) (p : ProcId) (x : Signal) (y : ProcessOf B) (b : B) (o : Op) (r : EventId)
    (change : Calendar → Calendar) → HasAsked g tell sound s f e left p x y b o → MayReplace s (change (calendar s))
    → is_enter (Some o) ≡ false → may_follow o (signal.Made r) ≡ true
    → makes_kind (Some o) (kind_at (change (calendar s)) r) ≡ true → r.0 < length (change (calendar s)).events
    → is_processed (change (calendar s)) r ≡ false
    → LawfulBasis g tell sound (told (signal.Made r) (on_events change (with_body p b s)))
lawful_made g tell sound s f e left p x y b o r change h k not_enters follows makes made unprocessed =
    lawful_told g tell sound s f e left p x y b o (signal.Made r) change h k (ap is_enter h.poll.last ∙ not_enters) (fits_made tell (change (calendar s)) b o r h.poll.last follows makes made unprocessed)

-- it is told that it was done
pub lawful_done : {B : Type 0} (g : Plan B) (tell : Telling B) (sound : B → Type 0) (s : State B) (f : CodeFacts)
    (e : EventId) (left : List Callback) (p : ProcId) (x : Signal) (y : ProcessOf B) (b : B) (o : Op)
    (change : Calendar → Calendar) → HasAsked g tell sound s f e left p x y b o → MayReplace s (change (calendar s))
    → is_enter (Some o) ≡ false → may_follow o signal.Done ≡ true
    → LawfulBasis g tell sound (told signal.Done (on_events change (with_body p b s)))
lawful_done g tell sound s f e left p x y b o change h k not_enters follows =
    lawful_told g tell sound s f e left p x y b o signal.Done change h k (ap is_enter h.poll.last ∙ not_enters) (ap (λ (a : Option Op). may_be_told a signal.Done) h.poll.last ∙ follows)

-- the operation is refused
pub lawful_raised : {B : Type 0} (g : Plan B) (tell : Telling B) (sound : B → Type 0) (s : State B) (f : CodeFacts)
    (e : EventId) (left : List Callback) (p : ProcId) (x : Signal) (y : ProcessOf B) (b : B) (o : Op) (n : ℕ)
    → HasAsked g tell sound s f e left p x y b o → is_enter (Some o) ≡ false → may_follow o (signal.Raised n) ≡ true
    → LawfulBasis g tell sound (raise n (with_body p b s))
lawful_raised g tell sound s f e left p x y b o n h not_enters follows =
    lawful_told g tell sound s f e left p x y b o (signal.Raised n) (λ c. c) h (replace_same g tell sound s h.lawful) (ap is_enter h.poll.last ∙ not_enters) (ap (λ (a : Option Op). may_be_told a (signal.Raised n)) h.poll.last ∙ follows)
