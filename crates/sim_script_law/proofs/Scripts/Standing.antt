-- Where a script stands once it took in what it was told, and what has to hold of what it asks for then.
use Rattle.std.proofs.Common.{◌≡◌, refl, sym, ◌∙◌, ℕ, ◌≤◌, ℤ, true, false, List, length, reverse, set, Some}
use Rattle.std.specs.List.{list_any}
use Rattle.sim_types.specs.Setups.{is_class}
use Rattle.sim_types.specs.Scenarios.{ScenarioOf, facts_of}
use Rattle.sim_types.specs.declared.event.EventId.{EventId}
use Rattle.sim_types.specs.declared.op.Op.{Op}
use Rattle.sim_types.specs.declared.setup.Class.{Class}
use Rattle.sim_types.specs.declared.setup.Class.TheVariants as class
use Rattle.sim_types.specs.declared.script.Kind.{Kind}
use Rattle.sim_machine.specs.MayFollow.{is_enter}
use Rattle.sim_machine.specs.MayAsk.{may_ask}
use Rattle.sim_machine.specs.BodyLaw.{may_start, scopes_asked}
use Rattle.sim_language.specs.FittingBlocks.{Open, is_open_loop}
use Rattle.sim_language.specs.FittingStatements.{class_of}
use Rattle.sim_script_model.specs.Scripts.{Frame, Script, places_of, requests_in}
use Rattle.sim_script_model.specs.Polls.{last_stmt}
use Rattle.sim_script_law.specs.Walks.{Walks}
use Rattle.sim_script_law.specs.Framing.{Framed}
use Rattle.sim_script_law.specs.SoundScripts.{IsAskedThere, IsEntering, is_answered, has_ended, is_running, is_breaking, begins_with_number}
use Rattle.sim_script_law.proofs.Scripts.Frames.{framed_set, other_class_not_held}
use Rattle.sim_script_law.proofs.Scripts.Variables.{class_of-is, may_start-number, places_of-number}

-- the scopes that are open, the outermost first
abbrev pub scopes_of : Script → List EventId
scopes_of b = reverse (requests_in b.frames)

-- it took in what it was told
pub record Stands (x : ScenarioOf) (kind : Kind) (opens : List Open) (t : Script) : Type 0 where
  pub classes : t.classes ≡ kind.classes
  pub long : length t.classes ≡ 64
  pub val : begins_with_number t.classes ≡ true
  pub variables : may_start t.classes t.variables ≡ true
  pub few : length opens ≤ 32
  pub framed : Framed x kind t.variables opens t.frames
  pub runs : is_running t.mode ≡ true → Walks x kind t.place opens
  pub breaks : is_breaking t.mode ≡ true → list_any is_open_loop opens ≡ true

-- it asked, and is now d
pub record Asks (x : ScenarioOf) (kind : Kind) (t : Script) (asked : Op) (d : Script) : Type 0 where
  pub may : may_ask (facts_of x) t.me (places_of t.classes t.variables) (scopes_of t) asked ≡ true
  pub own : d.me ≡ t.me
  pub kind_same : d.kind ≡ t.kind
  pub scenario : d.scenario ≡ t.scenario
  pub classes : d.classes ≡ t.classes
  pub places : places_of t.classes d.variables ≡ places_of t.classes t.variables
  pub variables : may_start t.classes d.variables ≡ true
  pub scopes : scopes_of d ≡ scopes_asked (scopes_of t) asked
  pub opens : List Open
  pub few : length opens ≤ 32
  pub framed : Framed x kind d.variables opens d.frames
  pub runs : has_ended (Some asked) ≡ false → is_enter (Some asked) ≡ false → is_running d.mode ≡ true → Walks x kind d.place opens
  pub enters : is_enter (Some asked) ≡ true → IsEntering x kind opens d
  pub breaks : is_breaking d.mode ≡ true → list_any is_open_loop opens ≡ true
  pub there : is_answered asked ≡ true → IsAskedThere x kind asked (last_stmt x.code d)

-- ---- numbers are stored

pub record Numbers (x : ScenarioOf) (kind : Kind) (cs : List Class) (vs ws : List ℤ) : Type 0 where
  pub places : places_of cs ws ≡ places_of cs vs
  pub starts : may_start cs vs ≡ true → may_start cs ws ≡ true
  pub framed : (os : List Open) (fs : List Frame) → Framed x kind vs os fs → Framed x kind ws os fs

pub number_stored : (x : ScenarioOf) (kind : Kind) (cs : List Class) (vs : List ℤ) (to : ℕ) (value : ℤ) → cs ≡ kind.classes
    → class_of kind to ≡ class.Number → Numbers x kind cs vs (set vs to value)
number_stored x kind cs vs to value is number =
    let at = sym (class_of-is kind to) ∙ number in
    let same : is_class class.Request (class_of kind to) ≡ false = rw number refl in
    record {
      places = rw is (places_of-number kind.classes vs to value at);
      starts = rw is (may_start-number kind.classes vs to value at);
      framed = λ os fs h. framed_set x kind vs to value os fs (other_class_not_held x kind vs to os fs same h) h;
    }

pub numbers_stored : (x : ScenarioOf) (kind : Kind) (cs : List Class) (us vs ws : List ℤ) → Numbers x kind cs us vs
    → Numbers x kind cs vs ws → Numbers x kind cs us ws
numbers_stored x kind cs us vs ws first then =
    record {
      places = then.places ∙ first.places;
      starts = λ h. then.starts (first.starts h);
      framed = λ os fs h. then.framed os fs (first.framed os fs h);
    }

pub nothing_stored : (x : ScenarioOf) (kind : Kind) (cs : List Class) (vs : List ℤ) → Numbers x kind cs vs vs
nothing_stored x kind cs vs = record { places = refl; starts = λ h. h; framed = λ os fs h. h }
