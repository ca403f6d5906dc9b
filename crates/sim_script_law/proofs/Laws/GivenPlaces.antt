-- The place into which a poll puts the event that was made, and that no other place of the script changes.
use Rattle.std.proofs.Common.{◌≡◌, ◌≢◌, refl, ap, ◌∙◌, ℕ, zero, suc, ◌<◌, ℤ, pos, true, List, [], ◌∷◌, length, map, arith, Option, Some, None}
use Rattle.std.specs.Prelude.{slice_index_or, slice_set}
use Rattle.std.proofs.lemmas.Bool.{false≢true}
use Rattle.sim_types.specs.Scenarios.{ScenarioOf}
use Rattle.sim_types.specs.declared.event.EventId.{EventId}
use Rattle.sim_types.specs.declared.event.Signal.TheVariants as signal
use Rattle.sim_types.specs.declared.op.Op.{Op}
use Rattle.sim_types.specs.declared.setup.Class.{Class}
use Rattle.sim_types.specs.declared.script.Stmt.{Stmt}
use Rattle.sim_types.specs.declared.script.Stmt.TheVariants as stmt
use Rattle.sim_machine.specs.Tellings.{Place}
use Rattle.sim_machine.specs.MayFollow.{may_be_told}
use Rattle.sim_script_model.specs.Scripts.{Script, places_of}
use Rattle.sim_script_model.specs.Polls.{last_stmt, open_with, store, take_in, ask}
use Rattle.sim_script_law.specs.ScriptMembers.{IsScriptTurn, script_holds, script_told_place}
use Rattle.sim_script_law.specs.SoundScripts.{IsSoundScript, IsAskedThere}
use Rattle.sim_script_law.proofs.Turns.Answered.{gives_class}
use Rattle.sim_script_law.proofs.Scripts.Standing.{Asks}
use Rattle.sim_script_law.proofs.Turns.Taking.{Takes, takes, answered_by_event}
use Rattle.sim_script_law.proofs.Laws.ScriptLaw.{asks}

-- the events that variables of these classes hold
abbrev events_of : List Class → List ℤ → List EventId
events_of cs vs = map (λ (p : Place). p.event) (places_of cs vs)

-- the event in this place, or event 0 behind the last
abbrev in_place : List EventId → ℕ → EventId
in_place es i = slice_index_or es i (record { 0 = 0 })

-- ---- a store

stored_long : (cs : List Class) (vs : List ℤ) (at : ℕ) (v : ℤ) → length (events_of cs (slice_set vs at v)) ≡ length (events_of cs vs)
stored_long [] vs at v = refl
stored_long (c ∷ cs) [] at v = refl
stored_long (c ∷ cs) (w ∷ vs) zero v = refl
stored_long (c ∷ cs) (w ∷ vs) (suc at) v = omega (arith, stored_long cs vs at v)

-- a store changes no place but its own
stored_elsewhere : (cs : List Class) (vs : List ℤ) (at : ℕ) (v : ℤ) (i : ℕ) → at ≢ i
    → in_place (events_of cs (slice_set vs at v)) i ≡ in_place (events_of cs vs) i
stored_elsewhere [] vs at v i other = refl
stored_elsewhere (c ∷ cs) [] at v i other = refl
stored_elsewhere (c ∷ cs) (w ∷ vs) zero v zero other = absurd (other refl)
stored_elsewhere (c ∷ cs) (w ∷ vs) zero v (suc i) other = refl
stored_elsewhere (c ∷ cs) (w ∷ vs) (suc at) v zero other = refl
stored_elsewhere (c ∷ cs) (w ∷ vs) (suc at) v (suc i) other = stored_elsewhere cs vs at v i (λ is. other (ap suc is))

-- the same where a variable may be named
named_long : (to : Option ℕ) (v : ℤ) (b : Script) → length (events_of b.classes (store to v b).variables) ≡ length (events_of b.classes b.variables)
named_long None v b = refl
named_long (Some at) v b = stored_long b.classes b.variables at v

named_elsewhere : (to : Option ℕ) (v : ℤ) (b : Script) (i : ℕ) → to ≢ Some i
    → in_place (events_of b.classes (store to v b).variables) i ≡ in_place (events_of b.classes b.variables) i
named_elsewhere None v b i other = refl
named_elsewhere (Some at) v b i other = stored_elsewhere b.classes b.variables at v i (λ is. other (ap Some is))

-- ---- a poll that tells of an event

-- a scope that is opened changes no variable
opened_variables : (s : Stmt) (e : EventId) (b : Script) → (open_with s e b).variables ≡ b.variables
opened_variables (stmt.With to res priority preempts) e b = refl
opened_variables _ e b = refl

module _ (x : ScenarioOf) (b : Script) (e : EventId) (h : IsSoundScript x b) (may : may_be_told b.asked (signal.Made e) ≡ true) where
  -- what it holds after the poll is what it holds once the event is stored
  holds_stored : (time : ℤ) (asked : Op) (d : Script) → IsScriptTurn x b time (signal.Made e) asked d
      → script_holds d ≡ events_of b.classes (store (script_told_place x b) (pos e.0) b).variables
  holds_stored time asked d turned =
      let t : Script = take_in x.code (signal.Made e) b in
      let r : Op × Script = ask x.code time t t.mode in
      let taken : Takes x h.kind b (signal.Made e) t = takes x b h (signal.Made e) may in
      let a : Asks x h.kind t r.0 r.1 = asks x h.kind taken.opens t time taken.stands in
      ap script_holds turned.1
      ∙ ap (λ cs. events_of cs r.1.variables) a.classes
      ∙ ap (map (λ (p : Place). p.event)) a.places
      ∙ ap (λ cs. events_of cs t.variables) taken.classes
      ∙ ap (events_of b.classes) (opened_variables (last_stmt x.code b) e (store (script_told_place x b) (pos e.0) b))

  pub script_holds_as_many : (time : ℤ) (asked : Op) (d : Script) → IsScriptTurn x b time (signal.Made e) asked d
      → length (script_holds d) ≡ length (script_holds b)
  script_holds_as_many time asked d turned = ap length (holds_stored time asked d turned) ∙ named_long (script_told_place x b) (pos e.0) b

  -- no other place changes
  pub script_keeps_others : (time : ℤ) (asked : Op) (d : Script) → IsScriptTurn x b time (signal.Made e) asked d
      → (i : ℕ) → script_told_place x b ≢ Some i → in_place (script_holds d) i ≡ in_place (script_holds b) i
  script_keeps_others time asked d turned i other = ap (λ es. in_place es i) (holds_stored time asked d turned) ∙ named_elsewhere (script_told_place x b) (pos e.0) b i other

  -- the place is one of the 64
  pub script_gives_within : (at : ℕ) → script_told_place x b ≡ Some at → at < 64
  script_gives_within at is = by b.asked refl may
    where
      by : (last : Option Op) → b.asked ≡ last → may_be_told last (signal.Made e) ≡ true → at < 64
      by None none may = absurd (false≢true may)
      by (Some asked) some may =
          let there : IsAskedThere x h.kind asked (last_stmt x.code b) = h.asked asked some (answered_by_event e asked may) in
          (gives_class x h.kind (last_stmt x.code b) asked at is there.by there.fits).within
