-- A script in a state that it can be in is ready for a poll: what its code takes for granted holds.
use Rattle.std.proofs.Common.{◌≡◌, refl, ap, ◌∙◌, ℕ, suc, ◌+◌, ◌-◌, ◌<◌, ◌≤◌, ◌^◌, ℤ, true, List, [], ◌∷◌, length, Option, Some, None, arith}
use Rattle.std.proofs.lemmas.Bool.{false≢true, and_from, lt-ltb, le-leb, ltb-true}
use Rattle.sim_types.specs.Scenarios.{ScenarioOf}
use Rattle.sim_types.specs.declared.event.Signal.{Signal}
use Rattle.sim_types.specs.declared.event.Signal.TheVariants as signal
use Rattle.sim_types.specs.declared.op.Op.{Op}
use Rattle.sim_types.specs.declared.op.Op.TheVariants as op
use Rattle.sim_types.specs.declared.script.Kind.{Kind}
use Rattle.sim_types.specs.declared.script.Stmt.{Stmt}
use Rattle.sim_types.specs.declared.script.Stmt.TheVariants as stmt
use Rattle.sim_machine.specs.MayFollow.{may_be_told}
use Rattle.sim_machine.specs.NumberBounds.{tells_within_bound}
use Rattle.sim_language.specs.FittingBlocks.{Open, OpenWith, OpenLoop, OpenRepeat, OpenIf, OpenElse, OpenTry, OpenCatch}
use Rattle.sim_language.specs.FittingStatements.{statement_fits}
use Rattle.sim_script_model.specs.Scripts.{Mode, Running, Throwing, Breaking, Finishing, Frame, InTry, Script, stmt_at}
use Rattle.sim_script_model.specs.Polls.{last_stmt, take_in}
use Rattle.sim_script_law.specs.Walks.{Walks}
use Rattle.sim_script_law.specs.Framing.{Framed}
use Rattle.sim_script_law.specs.SoundScripts.{IsSoundScript, IsAskedThere, is_asked_by, is_running}
use Rattle.sim_script_model.specs.Needs.{last_given, last_variable, most_frames}
use Rattle.sim_script_law.specs.Ready.{keeps_given, has_room, enters_room, scope_finds_room, can_take, can_do, can_leave, can_ask_in, can_ask}
use Rattle.sim_language_law.proofs.Scenarios.WellFormedParts.{fits_well}
use Rattle.sim_language_law.proofs.Scenarios.SetupParts.{fitting_parts}
use Rattle.sim_script_law.proofs.Scripts.Walking.{Steps, steps}
use Rattle.sim_script_law.proofs.Scripts.WithinVariables.{fits_small}
use Rattle.sim_script_law.proofs.Scripts.Needs.{gives_kept, has_frame, finds_room}
use Rattle.sim_script_law.proofs.Scripts.Standing.{Stands}
use Rattle.sim_script_law.proofs.Turns.Taking.{Takes, takes, answered_by_number, answered_by_event}

-- ---- what its code takes for granted

-- a script of the scenario keeps what a statement gives that fits
keeps : (x : ScenarioOf) (kind : Kind) (b : Script) (n : ℕ) → b.scenario ≡ x → statement_fits x kind (stmt_at x.code n) ≡ true
    → keeps_given b (stmt_at x.code n) ≡ true
keeps x kind b n is fits = rw is (le-leb (last_given (stmt_at x.code n)) (last_variable x) (gives_kept x kind n fits))

-- and has room for so many frames
roomy : (x : ScenarioOf) (b : Script) → b.scenario ≡ x → length b.frames < most_frames x.code → has_room b ≡ true
roomy x b is few = rw is (lt-ltb (length b.frames) (most_frames x.code) few)

-- ---- before it takes in what it is told

-- a `with` asked for the request that was made, and its frame finds room
room_for_scope : (x : ScenarioOf) (b : Script) (h : IsSoundScript x b) (asked : Op) (s : Stmt) → b.asked ≡ Some asked
    → is_asked_by s asked ≡ true → scope_finds_room b s ≡ true
room_for_scope x b h (op.Enter res priority preempts) s is by = room s
  where
    few : length b.frames < most_frames x.code
    few = let en = h.enters (rw is refl) in finds_room x h.kind b.place (OpenWith en.variable) h.opens b.variables b.frames en.walks refl h.framed

    room : (s : Stmt) → scope_finds_room b s ≡ true
    room (stmt.With to r p q) = roomy x b h.scenario few
    room _ = refl
room_for_scope x b h asked (stmt.With to r p q) is by = absurd (false≢true by)
room_for_scope x b h asked _ is by = refl

pub ready_to_take : (x : ScenarioOf) (b : Script) (told : Signal) → IsSoundScript x b → may_be_told b.asked told ≡ true
    → tells_within_bound told ≡ true → can_take x.code told b ≡ true
ready_to_take x b (signal.Number n) h may small = by b.asked refl may
  where
    by : (last : Option Op) → b.asked ≡ last → may_be_told last (signal.Number n) ≡ true → keeps_given b (last_stmt x.code b) ≡ true
    by None is may = absurd (false≢true may)
    by (Some asked) is may = keeps x h.kind b (b.place - 1) h.scenario (h.asked asked is (answered_by_number n asked may)).fits
ready_to_take x b (signal.Made e) h may small = by b.asked refl may
  where
    by : (last : Option Op) → b.asked ≡ last → may_be_told last (signal.Made e) ≡ true → can_take x.code (signal.Made e) b ≡ true
    by None is may = absurd (false≢true may)
    by (Some asked) is may =
        let there : IsAskedThere x h.kind asked (last_stmt x.code b) = h.asked asked is (answered_by_event e asked may) in
        and_from _ _ (and_from _ _ (lt-ltb e.0 (2 ^ 63) (omega (arith, ltb-true e.0 (2 ^ 62) small))) (keeps x h.kind b (b.place - 1) h.scenario there.fits)) (room_for_scope x b h asked (last_stmt x.code b) is there.by)
ready_to_take x b _ h may small = refl

-- ---- before it asks

-- the statement at its place
module _ (x : ScenarioOf) (kind : Kind) (opens : List Open) (t : Script) (h : Stands x kind opens t) (is_of : t.scenario ≡ x) where
  -- a block more finds room
  more_room : (n : ℕ) (o : Open) → Walks x kind n (o ∷ opens) → has_frame o ≡ true → has_room t ≡ true
  more_room n o walks more = roomy x t is_of (finds_room x kind n o opens t.variables t.frames walks more h.framed)

  room_for_block : (s : Stmt) → Steps x kind t.place opens s → enters_room t s ≡ true
  room_for_block (stmt.Loop past) st = more_room (t.place + 1) (OpenLoop (suc t.place) past) (st.on refl) refl
  room_for_block (stmt.Repeat times past) st = more_room (t.place + 1) (OpenRepeat (suc t.place) past) (st.on refl) refl
  room_for_block (stmt.Try catch) st = more_room (t.place + 1) (OpenTry catch) (st.on refl) refl
  room_for_block _ st = refl

  ready_to_do : x.setup.events ≤ 1024 → t.mode ≡ Running → can_do x.code t ≡ true
  ready_to_do few is =
      let s : Stmt = stmt_at x.code t.place in
      let st : Steps x kind t.place opens s = steps x kind t.place opens (h.runs (ap is_running is)) in
      and_from _ _ (and_from _ _ (and_from _ _ (lt-ltb _ _ st.within) (keeps x kind t t.place is_of st.fits)) (fits_small x kind t s h.classes h.variables few st.fits)) (room_for_block s st)

-- the innermost block
ready_to_leave : (x : ScenarioOf) (kind : Kind) (t : Script) (vs : List ℤ) (os : List Open) (fs : List Frame) → t.scenario ≡ x
    → Framed x kind vs os fs → can_leave x.code t fs ≡ true
ready_to_leave x kind t vs (OpenTry catch ∷ os) (InTry place ∷ fs) is framed = rw (← framed.0) (keeps x kind t catch is (steps x kind catch (OpenTry catch ∷ os) framed.1).fits)
ready_to_leave x kind t vs (OpenIf place ∷ os) fs is framed = ready_to_leave x kind t vs os fs is framed
ready_to_leave x kind t vs (OpenElse place ∷ os) fs is framed = ready_to_leave x kind t vs os fs is framed
ready_to_leave x kind t vs (OpenCatch place ∷ os) fs is framed = ready_to_leave x kind t vs os fs is framed
ready_to_leave x kind t vs [] (InTry place ∷ fs) is framed = absurd (false≢true framed)
ready_to_leave x kind t vs (_ ∷ os) (InTry place ∷ fs) is framed = absurd (false≢true framed)
ready_to_leave x kind t vs _ _ is framed = refl

-- a script that took in what it was told
module _ (x : ScenarioOf) (kind : Kind) (t : Script) (opens : List Open) (is_of : t.scenario ≡ x) (few : x.setup.events ≤ 1024) (h : Stands x kind opens t) where
  ready_in : (m : Mode) → t.mode ≡ m → can_ask_in x.code t m ≡ true
  ready_in Running is = ready_to_do x kind opens t h is_of few is
  ready_in (Throwing what) is = ready_to_leave x kind t t.variables opens t.frames is_of h.framed
  ready_in Breaking is = ready_to_leave x kind t t.variables opens t.frames is_of h.framed
  ready_in (Finishing value) is = ready_to_leave x kind t t.variables opens t.frames is_of h.framed

pub ready_to_ask : (x : ScenarioOf) (b : Script) (told : Signal) → IsSoundScript x b → may_be_told b.asked told ≡ true
    → can_ask x.code (take_in x.code told b) ≡ true
ready_to_ask x b told h may =
    let t : Script = take_in x.code told b in
    let taken : Takes x h.kind b told t = takes x b h told may in
    let few = (fitting_parts x (fits_well x h.well_formed).setup).events in
    ready_in x h.kind t taken.opens (taken.scenario ∙ h.scenario) few taken.stands t.mode refl
