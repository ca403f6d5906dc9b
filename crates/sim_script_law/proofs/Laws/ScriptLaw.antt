-- A script keeps the law of bodies: it is never stuck.
use Rattle.std.proofs.Common.{◌≡◌, refl, ap, ◌∙◌, ℕ, ◌<◌, ℤ, Bool, List, length, map, Option, Some}
use Rattle.std.specs.Prelude.{IsTrue}
use Rattle.std.proofs.lemmas.List.{length-reverse}
use Rattle.sim_types.specs.Scenarios.{ScenarioOf}
use Rattle.sim_types.specs.declared.event.Signal.{Signal}
use Rattle.sim_types.specs.declared.op.Op.{Op}
use Rattle.sim_types.specs.declared.op.Op.TheVariants as op
use Rattle.sim_types.specs.declared.script.Kind.{Kind}
use Rattle.sim_machine.specs.MayFollow.{may_be_told}
use Rattle.sim_machine.specs.BodyLaw.{IsLawfulBody, IsLawfulPoll, scopes_told}
use Rattle.sim_language.specs.FittingBlocks.{Open}
use Rattle.sim_script_model.specs.Scripts.{Mode, Running, Throwing, Breaking, Finishing, Script, script_telling, requests_in, stmt_at}
use Rattle.sim_script_model.specs.Polls.{take_in, ask}
use Rattle.sim_script_model.specs.Needs.{most_open_scopes}
use Rattle.sim_machine.specs.Bodies.{start_of}
use Rattle.sim_script_law.specs.ScriptMembers.{script_body, IsScriptTurn, script_holds, script_facts}
use Rattle.sim_script_law.specs.SoundScripts.{IsSoundScript, IsEntering, is_running, is_breaking}
use Rattle.sim_script_law.proofs.Scripts.Walking.{steps}
use Rattle.sim_script_law.proofs.Scripts.Needs.{enters_within}
use Rattle.sim_script_law.proofs.Scripts.Starts.{facts_are, start_sound, start_lawful}
use Rattle.sim_script_law.proofs.Scripts.Standing.{Stands, Asks}
use Rattle.sim_script_law.proofs.Turns.Leaving.{leaves}
use Rattle.sim_script_law.proofs.Turns.Doing.{does}
use Rattle.sim_script_law.proofs.Turns.Taking.{Takes, takes}

-- ---- a poll

-- what a script that stands somewhere asks for
pub asks : (x : ScenarioOf) (kind : Kind) (opens : List Open) (t : Script) (time : ℤ) → Stands x kind opens t
    → Asks x kind t (ask x.code time t t.mode).0 (ask x.code time t t.mode).1
asks x kind opens t time h = by t.mode refl
  where
    by : (m : Mode) → t.mode ≡ m → Asks x kind t (ask x.code time t m).0 (ask x.code time t m).1
    by Running is = does x kind opens t time h is (stmt_at x.code t.place) refl (steps x kind t.place opens (h.runs (ap is_running is)))
    by (Throwing what) is = leaves x kind t h.classes h.variables (Throwing what) opens t.frames is refl refl h.few h.framed (λ breaking. h.breaks (ap is_breaking is ∙ breaking))
    by Breaking is = leaves x kind t h.classes h.variables Breaking opens t.frames is refl refl h.few h.framed (λ breaking. h.breaks (ap is_breaking is ∙ breaking))
    by (Finishing value) is = leaves x kind t h.classes h.variables (Finishing value) opens t.frames is refl refl h.few h.framed (λ breaking. h.breaks (ap is_breaking is ∙ breaking))

-- the request that is asked for, whatever is remembered
remembered : (x : ScenarioOf) (kind : Kind) (opens : List Open) (d : Script) (last : Option Op) → IsEntering x kind opens d
    → IsEntering x kind opens (record d { asked = last })
remembered x kind opens d last h =
    record {
      variable = h.variable;
      resource = h.resource;
      priority = h.priority;
      preempts = h.preempts;
      asked_by = h.asked_by;
      some = h.some;
      within = h.within;
      runs = h.runs;
      fresh = h.fresh;
      few = h.few;
      walks = h.walks;
    }

module _ (x : ScenarioOf) (b t : Script) (told : Signal) (h : IsSoundScript x b) (taken : Takes x h.kind b told t) (asked : Op) (d : Script) (a : Asks x h.kind t asked d) where
  polls_by_law : IsLawfulPoll (script_facts x) script_telling b told asked (record d { asked = Some asked })
  polls_by_law =
      record {
        asks = rw (facts_are x h.well_formed, a.own, a.classes, a.places, ← taken.scopes) a.may;
        own = a.own ∙ taken.own;
        places = rw (a.classes, a.places, taken.classes) taken.kept;
        one_place = rw (a.classes, a.places, taken.classes) taken.one;
        scopes = rw (← taken.scopes) a.scopes;
        last = refl;
      }

  stays_sound : IsSoundScript x (record d { asked = Some asked })
  stays_sound =
      record {
        scenario = a.scenario ∙ taken.scenario ∙ h.scenario;
        well_formed = h.well_formed;
        kind = h.kind;
        kind_is = rw (a.kind_same, taken.kind_same) h.kind_is;
        classes = a.classes ∙ taken.classes ∙ h.classes;
        long = rw (a.classes, taken.classes) h.long;
        val = rw (a.classes, taken.classes) h.val;
        variables = rw a.classes a.variables;
        opens = a.opens;
        few = a.few;
        framed = a.framed;
        runs = a.runs;
        enters = λ entering. remembered x h.kind a.opens d (Some asked) (a.enters entering);
        breaks = a.breaks;
        asked = λ last is answered. let same : asked ≡ last = cc in rw (← same) (a.there (rw same answered));
      }

-- ---- the law

pub poll_lawful : (x : ScenarioOf) (b : Script) (time : ℤ) (told : Signal) (asked : Op) (d : Script) → IsSoundScript x b
    → IsTrue (may_be_told b.asked told) → IsScriptTurn x b time told asked d
    → IsLawfulPoll (script_facts x) script_telling b told asked d
poll_lawful x b time told asked d h may turned =
    let taken = takes x b h told may in
    let t : Script = take_in x.code told b in
    rw (turned.0, turned.1) (polls_by_law x b t told h taken (ask x.code time t t.mode).0 (ask x.code time t t.mode).1 (asks x h.kind taken.opens t time taken.stands))

pub poll_sound : (x : ScenarioOf) (b : Script) (time : ℤ) (told : Signal) (asked : Op) (d : Script) → IsSoundScript x b
    → IsTrue (may_be_told b.asked told) → IsScriptTurn x b time told asked d → IsSoundScript x d
poll_sound x b time told asked d h may turned =
    let taken = takes x b h told may in
    let t : Script = take_in x.code told b in
    rw turned.1 (stays_sound x b t told h taken (ask x.code time t t.mode).0 (ask x.code time t t.mode).1 (asks x h.kind taken.opens t time taken.stands))

-- a script keeps the law of bodies
pub script_lawful : (x : ScenarioOf) → IsLawfulBody (script_facts x) script_telling (IsSoundScript x) (start_of script_body x) (IsScriptTurn x)
script_lawful x =
    record {
      starts = start_lawful x;
      begins = start_sound x;
      polls = poll_lawful x;
      keeps = poll_sound x;
    }

-- ---- its scopes

-- whoever asks for a request has fewer scopes open than where most of them are
pub script_enters_within : (x : ScenarioOf) (b : Script) (time : ℤ) (told : Signal) (res : ℕ) (priority : ℤ) (preempts : Bool) (d : Script)
    → IsSoundScript x b → IsTrue (may_be_told b.asked told) → IsScriptTurn x b time told (op.Enter res priority preempts) d
    → length (scopes_told (script_telling.scopes b) b.asked told) < most_open_scopes x.code
script_enters_within x b time told res priority preempts d h may turned =
    let law = poll_lawful x b time told (op.Enter res priority preempts) d h may turned in
    let sound = poll_sound x b time told (op.Enter res priority preempts) d h may turned in
    rw (← law.scopes, length-reverse (requests_in d.frames)) (enters_within x d sound (rw law.last refl))

-- ---- its places

pub script_has_places : (x : ScenarioOf) (b : Script) → IsSoundScript x b → map (λ p. p.event) (script_telling.places b) ≡ script_holds b
script_has_places x b h = refl
