-- The open scopes of all processes once one of them was polled, did not ask to enter, and is told something.
use Rattle.std.proofs.Common.{◌≡◌, ℕ, ◌≤◌, Bool, true, false, List, [], ◌++◌, length, sym, ap, refl, ◌∙◌, if◌then◌else◌, append-nil}
use Rattle.std.proofs.lemmas.List.Elements.{All-weaker, All-map}
use Rattle.sim_types.specs.declared.event.EventId.{EventId}
use Rattle.sim_types.specs.declared.event.ProcId.{ProcId}
use Rattle.sim_types.specs.declared.event.Signal.{Signal}
use Rattle.sim_types.specs.declared.event.Callback.{Callback}
use Rattle.sim_types.specs.declared.event.Signal.TheVariants as signal
use Rattle.sim_types.specs.declared.line.Line.{Line}
use Rattle.sim_machine.specs.State.{Calendar, Waiter, ProcessOf, Control, Idle, Calling, Active, Over, State, Plan}
use Rattle.sim_machine.specs.Events.{is_process, is_pending}
use Rattle.sim_machine.specs.Processes.{is_alive, with_body, told_more}
use Rattle.sim_machine.specs.Tellings.{Telling}
use Rattle.sim_machine.specs.MayFollow.{is_enter}
use Rattle.sim_machine.specs.MayAsk.{most_scopes}
use Rattle.sim_machine.specs.BodyLaw.{scopes_told}
use Rattle.sim_machine.specs.LawfulWaiting.{waits_well, entered_by, requests_of, KnowsItsScopes}
use Rattle.sim_machine_law.proofs.KeptParts.KeptBodiesEvents.{Grown}
use Rattle.sim_machine_law.proofs.KeptParts.KeptWaiting.{moved, waiting_moved}
use Rattle.sim_machine_law.proofs.KeptParts.KeptWaitingPolls.{entered_other, IsWaitingPoll, own_scopes, alive_changed, holds_of_all}
use Rattle.sim_machine_law.proofs.KeptParts.LawfulBasis.{WaitingBasis}
use Rattle.sim_machine_law.proofs.KeptParts.KeptProcessesParts.{is_process-swap}

-- who did not enter is told of no scope
pub entered_not : (k : Control) (q : ProcId) → entered_by k q false ≡ []
entered_not Idle q = refl
entered_not (Calling e left) q = refl
entered_not (Active e left p (signal.Made r)) q = refl
entered_not (Active e left p _) q = refl
entered_not (Over why e left) q = refl

pub knows_alone : {B : Type 0} (tell : Telling B) (t : State B) (z : ProcessOf B)
    → entered_by t.control z.id (is_enter (tell.last z.body)) ≡ [] → requests_of z.id t ≡ tell.scopes z.body
    → length (requests_of z.id t) ≤ most_scopes → KnowsItsScopes tell t z
knows_alone tell t z none own few =
    (own ∙ sym (ap (λ (es : List EventId). tell.scopes z.body ++ es) none ∙ append-nil (tell.scopes z.body)), few)

knows_told : {B : Type 0} (g : Plan B) (tell : Telling B) (s t : State B) (e : EventId) (left : List Callback) (p : ProcId)
    (x n : Signal) (y : ProcessOf B) (b : B) (z : ProcessOf B) → IsWaitingPoll g tell s e left p x y b
    → is_enter (tell.last b) ≡ false → ((q : ProcId) → requests_of q t ≡ requests_of q s) → t.control ≡ Active e left p n
    → KnowsItsScopes tell s z → (v : Bool) → is_process z.id p ≡ v
    → KnowsItsScopes tell t (if v then record z { body = b } else z)
knows_told g tell s t e left p x n y b z h not_enters scopes on w true is =
    let own : (requests_of z.id s ≡ scopes_told (tell.scopes y.body) (tell.last y.body) x) × (length (requests_of z.id s) ≤ most_scopes) = own_scopes g tell s e left p x y h.active h.found h.lawful z.id is in
    let none : entered_by t.control z.id (is_enter (tell.last b)) ≡ [] = ap (λ (v : Bool). entered_by t.control z.id v) not_enters ∙ entered_not t.control z.id in
    knows_alone tell t (record z { body = b }) none (scopes z.id ∙ (own.0 ∙ sym h.scopes)) (rw (scopes z.id) own.1)
knows_told g tell s t e left p x n y b z h not_enters scopes on w false is =
    let v : Bool = is_enter (tell.last z.body) in
    let apart : is_process p z.id ≡ false = is_process-swap p z.id ∙ is in
    let before : entered_by s.control z.id v ≡ [] = ap (λ (k : Control). entered_by k z.id v) h.active ∙ entered_other e left p x z.id v apart in
    let after : entered_by t.control z.id v ≡ [] = ap (λ (k : Control). entered_by k z.id v) on ∙ entered_other e left p n z.id v apart in
    let own : requests_of z.id s ≡ tell.scopes z.body = w.0 ∙ (ap (λ (es : List EventId). tell.scopes z.body ++ es) before ∙ append-nil (tell.scopes z.body)) in
    knows_alone tell t z after (scopes z.id ∙ own) (rw (scopes z.id) w.1)

-- the body of p is replaced, no scope is opened or closed, and p is told something, be it an event that was made
pub waiting_told : {B : Type 0} (g : Plan B) (tell : Telling B) (s : State B) (e : EventId) (left : List Callback)
    (p : ProcId) (x n : Signal) (y : ProcessOf B) (b : B) (d : Calendar) (processed drawn : ℕ) (lines : List Line)
    → IsWaitingPoll g tell s e left p x y b → is_enter (tell.last b) ≡ false → Grown s.facilities.calendar d
    → ((w : Waiter) → waits_well s.facilities.calendar w ≡ true → is_pending d w.event ≡ true)
    → WaitingBasis g tell (moved s d (with_body p b s).processes (told_more n s.control) processed drawn lines)
waiting_told {B} g tell s e left p x n y b d processed drawn lines h not_enters grown pending =
    let f : ProcessOf B → ProcessOf B = λ z. if is_process z.id p then record z { body = b } else z in
    let k : Control = told_more n s.control in
    let t : State B = moved s d (with_body p b s).processes k processed drawn lines in
    waiting_moved g tell s d (with_body p b s).processes k processed drawn lines grown pending
    (holds_of_all (λ z. is_alive z.process s ≡ true → is_alive z.process t ≡ true) s.scopes (λ z w. alive_changed p z.process (λ n. record n { body = b }) s (λ n. refl) ∙ w))
    (All-map (KnowsItsScopes tell t) f s.processes (All-weaker (KnowsItsScopes tell s) (λ z. KnowsItsScopes tell t (f z)) (λ z w. knows_told g tell s t e left p x n y b z h not_enters (λ q. refl) (ap (told_more n) h.active) w (is_process z.id p) refl) s.processes h.lawful.bodies)) h.lawful
