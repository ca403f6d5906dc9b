-- A script gives no other variables than it keeps, and stands in no more blocks, nor in more scopes, than find room.
use Rattle.std.proofs.Common.{◌≡◌, refl, ap, ℕ, zero, suc, ◌<◌, ◌≤◌, ℤ, Bool, true, false, List, [], ◌∷◌, length, drop, arith}
use Rattle.std.specs.Prelude.{if◌then◌else◌}
use Rattle.std.proofs.Math.Nat.{le-max_left, le-max_right, le-min}
use Rattle.std.proofs.lemmas.Bool.{false≢true}
use Rattle.sim_types.specs.Scenarios.{ScenarioOf}
use Rattle.sim_types.specs.declared.script.Kind.{Kind}
use Rattle.sim_types.specs.declared.script.Stmt.{Stmt}
use Rattle.sim_types.specs.declared.script.Stmt.TheVariants as stmt
use Rattle.sim_machine.specs.MayFollow.{is_enter}
use Rattle.sim_language.specs.FittingBlocks.{Open, OpenWith, OpenLoop, OpenRepeat, OpenIf, OpenElse, OpenTry, OpenCatch, open_then, stands_within, is_end_process, stand_well}
use Rattle.sim_language.specs.FittingStatements.{statement_fits}
use Rattle.sim_script_model.specs.Scripts.{Frame, InScope, InTry, InLoop, InRepeat, Script, requests_in, stmt_at}
use Rattle.sim_script_model.specs.Needs.{last_given, last_given_in, last_variable, most_params, Change, open_around, open_before, most_at_once, frame_change, most_frames, scope_change, most_open_scopes}
use Rattle.sim_script_law.specs.Walks.{Walks}
use Rattle.sim_script_law.specs.Framing.{Framed}
use Rattle.sim_script_law.specs.SoundScripts.{IsSoundScript, IsEntering}
use Rattle.sim_script_law.proofs.Scripts.Walking.{stands_on}
use Rattle.sim_script_law.proofs.Scripts.WithinVariables.{fits_few}

-- ---- variables

given_in : (code : List Stmt) (n : ℕ) → last_given (stmt_at code n) ≤ last_given_in code
given_in [] n = omega arith
given_in (s ∷ code) zero = le-max_left (last_given s) (last_given_in code)
given_in (s ∷ code) (suc n) = omega (arith, given_in code n, le-max_right (last_given s) (last_given_in code))

-- a statement that fits gives no later variable than the last
pub gives_kept : (x : ScenarioOf) (kind : Kind) (n : ℕ) → statement_fits x kind (stmt_at x.code n) ≡ true
    → last_given (stmt_at x.code n) ≤ last_variable x
gives_kept x kind n h = le-min (fits_few x kind (stmt_at x.code n) h) (omega (arith, given_in x.code n, le-max_right (most_params x.kinds) (last_given_in x.code)))

-- ---- open blocks

-- how many of the open blocks count
abbrev pub count_open : (Open → Bool) → List Open → ℕ
count_open counts [] = 0
count_open counts (o ∷ os) = if counts o then suc (count_open counts os) else count_open counts os

-- each statement changes, as this tells, how many open blocks count
abbrev IsChange : (Open → Bool) → (Stmt → Change) → Type 0
IsChange counts change =
    (n : ℕ) (opens : List Open) (s : Stmt) (behind : ℕ) → stands_within n opens s ≡ true
    → (is_end_process s ≡ false → count_open counts (open_then n opens s) ≡ behind) → count_open counts opens ≡ open_around (change s) behind

stand_open : (counts : Open → Bool) (change : Stmt → Change) → IsChange counts change → (n : ℕ) (opens : List Open) (code : List Stmt)
    → stand_well n opens code ≡ true → count_open counts opens ≡ open_before change code
stand_open counts change changes n opens [] h = absurd (false≢true h)
stand_open counts change changes n opens (s ∷ code) h =
    let st = stands_on n opens s code h in
    changes n opens s (open_before change code) st.here (λ on. stand_open counts change changes (suc n) (open_then n opens s) code (st.behind on))

before_few : (change : Stmt → Change) (n : ℕ) (code : List Stmt) → open_before change (drop n code) ≤ most_at_once change code
before_few change zero [] = omega arith
before_few change (suc n) [] = omega arith
before_few change zero (s ∷ code) = le-max_left (open_before change (s ∷ code)) (most_at_once change code)
before_few change (suc n) (s ∷ code) = omega (arith, before_few change n code, le-max_right (open_before change (s ∷ code)) (most_at_once change code))

-- no more are open than where most are
open_few : (counts : Open → Bool) (change : Stmt → Change) → IsChange counts change → (x : ScenarioOf) (kind : Kind) (n : ℕ) (opens : List Open)
    → Walks x kind n opens → count_open counts opens ≤ most_at_once change x.code
open_few counts change changes x kind n opens w =
    omega (arith, stand_open counts change changes n opens (drop n x.code) w.stands, before_few change n x.code)

-- ---- frames

-- whether a script has a frame for the block
abbrev pub has_frame : Open → Bool
has_frame (OpenIf other) = false
has_frame (OpenElse past) = false
has_frame (OpenCatch past) = false
has_frame o = true

frames_change : IsChange has_frame frame_change
frames_change n opens (stmt.With to res priority preempt) behind stands e = omega (arith, e refl)
frames_change n opens (stmt.Loop past) behind stands e = omega (arith, e refl)
frames_change n opens (stmt.Repeat times past) behind stands e = omega (arith, e refl)
frames_change n opens (stmt.Try catch) behind stands e = omega (arith, e refl)
frames_change n (OpenIf other ∷ opens) (stmt.Else past) behind stands e = e refl
frames_change n opens (stmt.Else past) behind stands e = absurd (false≢true stands)
frames_change n (OpenTry catch ∷ opens) (stmt.Catch kind value past) behind stands e = ap suc (e refl)
frames_change n opens (stmt.Catch kind value past) behind stands e = absurd (false≢true stands)
frames_change n (OpenLoop inside past ∷ opens) (stmt.EndLoop first) behind stands e = ap suc (e refl)
frames_change n opens (stmt.EndLoop first) behind stands e = absurd (false≢true stands)
frames_change n (OpenRepeat inside past ∷ opens) (stmt.EndRepeat first) behind stands e = ap suc (e refl)
frames_change n opens (stmt.EndRepeat first) behind stands e = absurd (false≢true stands)
frames_change n (OpenWith v ∷ opens) stmt.EndWith behind stands e = ap suc (e refl)
frames_change n opens stmt.EndWith behind stands e = absurd (false≢true stands)
frames_change n (OpenIf other ∷ opens) stmt.EndPlain behind stands e = e refl
frames_change n (OpenElse past ∷ opens) stmt.EndPlain behind stands e = e refl
frames_change n (OpenCatch past ∷ opens) stmt.EndPlain behind stands e = e refl
frames_change n opens stmt.EndPlain behind stands e = absurd (false≢true stands)
frames_change n [] stmt.EndProcess behind stands e = refl
frames_change n (OpenIf other ∷ opens) stmt.EndProcess behind stands e = absurd (false≢true stands)
frames_change n (o ∷ opens) stmt.EndProcess behind stands e = absurd (false≢true stands)
frames_change n opens s behind stands e = e refl

as_many_frames : (x : ScenarioOf) (kind : Kind) (vs : List ℤ) (os : List Open) (fs : List Frame) → Framed x kind vs os fs
    → length fs ≡ count_open has_frame os
as_many_frames x kind vs [] [] h = refl
as_many_frames x kind vs (OpenWith v ∷ os) (InScope e ∷ fs) h = ap suc (as_many_frames x kind vs os fs h.1)
as_many_frames x kind vs (OpenTry catch ∷ os) (InTry at ∷ fs) h = ap suc (as_many_frames x kind vs os fs h.2)
as_many_frames x kind vs (OpenLoop inside past ∷ os) (InLoop at ∷ fs) h = ap suc (as_many_frames x kind vs os fs h.3)
as_many_frames x kind vs (OpenRepeat inside past ∷ os) (InRepeat count at ∷ fs) h = ap suc (as_many_frames x kind vs os fs h.3)
as_many_frames x kind vs (OpenIf other ∷ os) fs h = as_many_frames x kind vs os fs h
as_many_frames x kind vs (OpenElse past ∷ os) fs h = as_many_frames x kind vs os fs h
as_many_frames x kind vs (OpenCatch past ∷ os) fs h = as_many_frames x kind vs os fs h
as_many_frames x kind vs _ _ h = absurd (false≢true h)

-- where a block more would be open there, its frame finds room
module _ (x : ScenarioOf) (kind : Kind) (n : ℕ) (o : Open) (opens : List Open) (vs : List ℤ) (fs : List Frame) where
  pub finds_room : Walks x kind n (o ∷ opens) → has_frame o ≡ true → Framed x kind vs opens fs → length fs < most_frames x.code
  finds_room w more framed =
      let few : count_open has_frame (o ∷ opens) ≤ most_frames x.code = open_few has_frame frame_change frames_change x kind n (o ∷ opens) w in
      omega (arith, as_many_frames x kind vs opens fs framed, rw more at few)

-- ---- scopes

abbrev is_scope : Open → Bool
is_scope (OpenWith v) = true
is_scope o = false

scopes_change : IsChange is_scope scope_change
scopes_change n opens (stmt.With to res priority preempt) behind stands e = omega (arith, e refl)
scopes_change n (OpenIf other ∷ opens) (stmt.Else past) behind stands e = e refl
scopes_change n opens (stmt.Else past) behind stands e = absurd (false≢true stands)
scopes_change n (OpenTry catch ∷ opens) (stmt.Catch kind value past) behind stands e = e refl
scopes_change n opens (stmt.Catch kind value past) behind stands e = absurd (false≢true stands)
scopes_change n (OpenLoop inside past ∷ opens) (stmt.EndLoop first) behind stands e = e refl
scopes_change n opens (stmt.EndLoop first) behind stands e = absurd (false≢true stands)
scopes_change n (OpenRepeat inside past ∷ opens) (stmt.EndRepeat first) behind stands e = e refl
scopes_change n opens (stmt.EndRepeat first) behind stands e = absurd (false≢true stands)
scopes_change n (OpenWith v ∷ opens) stmt.EndWith behind stands e = ap suc (e refl)
scopes_change n opens stmt.EndWith behind stands e = absurd (false≢true stands)
scopes_change n (OpenIf other ∷ opens) stmt.EndPlain behind stands e = e refl
scopes_change n (OpenElse past ∷ opens) stmt.EndPlain behind stands e = e refl
scopes_change n (OpenCatch past ∷ opens) stmt.EndPlain behind stands e = e refl
scopes_change n opens stmt.EndPlain behind stands e = absurd (false≢true stands)
scopes_change n [] stmt.EndProcess behind stands e = refl
scopes_change n (OpenIf other ∷ opens) stmt.EndProcess behind stands e = absurd (false≢true stands)
scopes_change n (o ∷ opens) stmt.EndProcess behind stands e = absurd (false≢true stands)
scopes_change n opens s behind stands e = e refl

as_many_scopes : (x : ScenarioOf) (kind : Kind) (vs : List ℤ) (os : List Open) (fs : List Frame) → Framed x kind vs os fs
    → length (requests_in fs) ≡ count_open is_scope os
as_many_scopes x kind vs [] [] h = refl
as_many_scopes x kind vs (OpenWith v ∷ os) (InScope e ∷ fs) h = ap suc (as_many_scopes x kind vs os fs h.1)
as_many_scopes x kind vs (OpenTry catch ∷ os) (InTry at ∷ fs) h = as_many_scopes x kind vs os fs h.2
as_many_scopes x kind vs (OpenLoop inside past ∷ os) (InLoop at ∷ fs) h = as_many_scopes x kind vs os fs h.3
as_many_scopes x kind vs (OpenRepeat inside past ∷ os) (InRepeat count at ∷ fs) h = as_many_scopes x kind vs os fs h.3
as_many_scopes x kind vs (OpenIf other ∷ os) fs h = as_many_scopes x kind vs os fs h
as_many_scopes x kind vs (OpenElse past ∷ os) fs h = as_many_scopes x kind vs os fs h
as_many_scopes x kind vs (OpenCatch past ∷ os) fs h = as_many_scopes x kind vs os fs h
as_many_scopes x kind vs _ _ h = absurd (false≢true h)

-- a script that asks for a request has fewer scopes open
pub enters_within : (x : ScenarioOf) (b : Script) → IsSoundScript x b → is_enter b.asked ≡ true
    → length (requests_in b.frames) < most_open_scopes x.code
enters_within x b h entering =
    let en : IsEntering x h.kind h.opens b = h.enters entering in
    let few = open_few is_scope scope_change scopes_change x h.kind b.place (OpenWith en.variable ∷ h.opens) en.walks in
    omega (arith, as_many_scopes x h.kind b.variables h.opens b.frames h.framed, few)
