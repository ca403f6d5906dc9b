-- The state that a run begins with is lawful.
use Rattle.std.proofs.Common.{◌≡◌, ℕ, ℤ, true, List, [], ◌∷◌, sym, subst}
use Rattle.std.specs.Prelude.{IsTrue, fold}
use Rattle.std.specs.List.{AllPass}
use Rattle.std.proofs.lemmas.List.Elements.{All-head, All-tail}
use Rattle.sim_types.specs.declared.event.ProcId.{ProcId}
use Rattle.sim_types.specs.declared.event.Signal.{Signal}
use Rattle.sim_types.specs.declared.op.Op.{Op}
use Rattle.sim_types.specs.declared.setup.Start.{Start}
use Rattle.sim_machine.specs.State.{State, Plan}
use Rattle.sim_machine.specs.Events.{next_event}
use Rattle.sim_machine.specs.Scopes.{on_events}
use Rattle.sim_machine.specs.Effect.{calendar}
use Rattle.sim_machine.specs.Runs.{blank_state, start_process, set_stop, opening}
use Rattle.sim_machine.specs.Tellings.{Telling, CodeFacts}
use Rattle.sim_machine.specs.BodyLaw.{IsLawfulBody, may_begin}
use Rattle.sim_machine.specs.Setups.{FitsCode, start_fits, until_fits}
use Rattle.sim_lawful.proofs.Opening.OpeningLaws.{Opens, blank_opens, started_opens, start_fits_starts}
use Rattle.sim_lawful.proofs.Opening.StartedPlaces.{NamedPlain, named_plain_of, start_placed}
use Rattle.sim_lawful.proofs.KeptParts.KeptLawful.{lawful-made_process, lawful-blank, lawful-set_stop}
use Rattle.sim_machine_law.proofs.KeptParts.LawfulBasis.{LawfulBasis}

-- a lawful state that opens, so that more processes may be started in it, and then the stop may be set
pub record OpensLawfully {B : Type 0} (g : Plan B) (tell : Telling B) (sound : B → Type 0) (s : State B) : Type 0 where
  pub lawful : LawfulBasis g tell sound s
  pub opens : Opens g s

-- no process was made
pub blank_lawful : {B : Type 0} (f : CodeFacts) (tell : Telling B) (sound : B → Type 0) (g : Plan B) → FitsCode f g.setup
    → OpensLawfully g tell sound (blank_state g)
blank_lawful f tell sound g fits = record { lawful = lawful-blank g tell sound f fits; opens = blank_opens g }

-- one process more is started
pub started_lawful : {B : Type 0} (f : CodeFacts) (tell : Telling B) (sound : B → Type 0) (g : Plan B)
    (turn : B → ℤ → Signal → Op → B → Type 0) (s : State B) (x : Start) → IsLawfulBody f tell sound g.start turn
    → FitsCode f g.setup → IsTrue (start_fits f x) → OpensLawfully g tell sound s
    → OpensLawfully g tell sound (start_process g s x)
started_lawful f tell sound g turn s x law fits start h =
    let p : ProcId = record { 0 = (next_event (calendar s)).0 } in
    let may : IsTrue (may_begin f x.kind x.args) = start_fits_starts f x start in
    let begun = law.starts x.kind x.args p may in
    let P : ℕ → Type 0 = λ n. NamedPlain n (calendar s) in
    let plain : NamedPlain f.named (calendar s) = subst P fits.events (named_plain_of g.setup.events s h.lawful.processes) in
    record {
      lawful = lawful-made_process g tell sound s f x.kind x.args may begun (start_placed f tell (calendar s) x p (g.start x.kind x.args p) plain start begun) (law.begins x.kind x.args p may) h.lawful;
      opens = started_opens g s x h.opens;
    }

-- any number of processes are started
pub all_started_lawful : {B : Type 0} (f : CodeFacts) (tell : Telling B) (sound : B → Type 0) (g : Plan B)
    (turn : B → ℤ → Signal → Op → B → Type 0) (s : State B) (xs : List Start) → IsLawfulBody f tell sound g.start turn
    → FitsCode f g.setup → AllPass (start_fits f) xs → OpensLawfully g tell sound s
    → OpensLawfully g tell sound (fold (start_process g) s xs)
all_started_lawful f tell sound g turn s [] law fits starts h = h
all_started_lawful f tell sound g turn s (x ∷ xs) law fits starts h =
    let P : Start → Type 0 = λ y. start_fits f y ≡ true in
    all_started_lawful f tell sound g turn (start_process g s x) xs law fits (All-tail P x xs starts) (started_lawful f tell sound g turn s x law fits (All-head P x xs starts) h)

-- once all that run from the start are started, what is to stop the run is set
pub stop_lawful : {B : Type 0} (f : CodeFacts) (tell : Telling B) (sound : B → Type 0) (g : Plan B) (s : State B)
    → FitsCode f g.setup → OpensLawfully g tell sound s → LawfulBasis g tell sound (on_events (set_stop g.setup.until) s)
stop_lawful f tell sound g s fits h =
    let P : ℕ → Type 0 = λ n. IsTrue (until_fits n g.setup.until) in
    lawful-set_stop g tell sound s g.setup.until (subst P (sym fits.events) fits.until) h.opens.named h.opens.time h.opens.idle h.lawful

pub opening_lawful : {B : Type 0} (f : CodeFacts) (tell : Telling B) (sound : B → Type 0) (g : Plan B)
    (turn : B → ℤ → Signal → Op → B → Type 0) → IsLawfulBody f tell sound g.start turn → FitsCode f g.setup
    → LawfulBasis g tell sound (opening g)
opening_lawful f tell sound g turn law fits =
    stop_lawful f tell sound g (fold (start_process g) (blank_state g) g.setup.starts) fits (all_started_lawful f tell sound g turn (blank_state g) g.setup.starts law fits fits.starts (blank_lawful f tell sound g fits))
