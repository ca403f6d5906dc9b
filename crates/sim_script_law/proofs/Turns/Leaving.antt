-- A script that does not run leaves its innermost block.
use Rattle.std.proofs.Common.{◌≡◌, refl, sym, subst, ap, ◌∙◌, ℕ, ◌+◌, ◌≤◌, ℤ, pos, true, false, List, [], ◌∷◌, ◌++◌, length, reverse, set, Some, arith}
use Rattle.std.specs.Prelude.{nat_lt, ◌&&◌, nat_le}
use Rattle.std.specs.List.{list_any}
use Rattle.std.proofs.lemmas.Bool.{false≢true, true≢false, and_parts, lt-ltb}
use Rattle.std.proofs.lemmas.List.{length-reverse}
use Rattle.sim_types.specs.Setups.{is_class}
use Rattle.sim_types.specs.Scenarios.{ScenarioOf, facts_of}
use Rattle.sim_types.specs.declared.event.EventId.{EventId}
use Rattle.sim_types.specs.declared.event.Throw.{Throw}
use Rattle.sim_types.specs.declared.op.Op.{Op}
use Rattle.sim_types.specs.declared.op.Op.TheVariants as op
use Rattle.sim_types.specs.declared.setup.Class.TheVariants as class
use Rattle.sim_types.specs.declared.script.Kind.{Kind}
use Rattle.sim_types.specs.declared.script.Stmt.TheVariants as stmt
use Rattle.sim_machine.specs.MayFollow.{is_enter}
use Rattle.sim_machine.specs.MayAsk.{may_ask}
use Rattle.sim_machine.specs.BodyLaw.{may_start, without_last, scopes_asked}
use Rattle.sim_language.specs.FittingBlocks.{Open, OpenWith, OpenLoop, OpenRepeat, OpenIf, OpenElse, OpenTry, OpenCatch, is_open_loop}
use Rattle.sim_language.specs.FittingStatements.{gives, class_of, statement_fits}
use Rattle.sim_script_model.specs.Scripts.{Mode, Running, Throwing, Breaking, Finishing, Frame, InScope, InTry, InLoop, InRepeat, Script, set_frames, requests_in, places_of}
use Rattle.sim_script_model.specs.Polls.{unwind, catch_by, leave_try, leave_loop, end_by_mode}
use Rattle.sim_script_law.specs.Walks.{Walks}
use Rattle.sim_script_law.specs.Framing.{Framed}
use Rattle.sim_script_law.specs.SoundScripts.{is_running, is_breaking, has_ended, is_answered}
use Rattle.sim_script_law.proofs.Scripts.Frames.{reverse_more}
use Rattle.sim_script_law.proofs.Scripts.Walking.{Steps, steps, try_exit}
use Rattle.sim_script_law.proofs.Scripts.Standing.{scopes_of, Asks, Numbers, number_stored, numbers_stored, nothing_stored}
use Rattle.sim_script_law.proofs.Scripts.Variables.{same_class-is}

-- ---- scopes

pub without_last_of : (es : List EventId) (e : EventId) → without_last (es ++ e ∷ []) ≡ es
without_last_of [] e = refl
without_last_of (f ∷ []) e = refl
without_last_of (f ∷ g ∷ es) e = ap (λ (more : List EventId). f ∷ more) (without_last_of (g ∷ es) e)

-- the innermost scope is the last
pub innermost_closed : (e : EventId) (es : List EventId) → reverse es ≡ without_last (reverse (e ∷ es))
innermost_closed e es = sym (ap without_last (reverse_more e es) ∙ without_last_of (reverse es) e)

pub some_scope : (e : EventId) (es : List EventId) → nat_lt 0 (length (reverse (e ∷ es))) ≡ true
some_scope e es = lt-ltb 0 _ (omega (arith, length-reverse (e ∷ es)))

-- ---- what is thrown is caught

pub given_number : (kind : Kind) (v : ℕ) → gives kind v class.Number ≡ true → class_of kind v ≡ class.Number
given_number kind v h = same_class-is class.Number (class_of kind v) (and_parts (nat_le 1 v && nat_lt v 64) (is_class class.Number (class_of kind v)) h).1

-- the variables of a catch line are numbers
caught : (x : ScenarioOf) (kind : Kind) (b : Script) (to value past : ℕ) (t : Throw) → b.classes ≡ kind.classes
    → statement_fits x kind (stmt.Catch to value past) ≡ true
    → Numbers x kind b.classes b.variables (catch_by (stmt.Catch to value past) t b).variables
caught x kind b to value past t is fits =
    let both = and_parts (gives kind to class.Number) (gives kind value class.Number) fits in
    numbers_stored x kind b.classes b.variables (set b.variables to (pos t.kind)) (set (set b.variables to (pos t.kind)) value t.value)
    (number_stored x kind b.classes b.variables to (pos t.kind) is (given_number kind to both.0))
    (number_stored x kind b.classes (set b.variables to (pos t.kind)) value t.value is (given_number kind value both.1))

-- ---- one block is left

module _ (x : ScenarioOf) (kind : Kind) (t : Script) (classes : t.classes ≡ kind.classes) (starts : may_start t.classes t.variables ≡ true) where
  -- it leaves further blocks in the next poll
  leaves_on : (m : Mode) (f : Frame) (fs : List Frame) (os : List Open) → t.mode ≡ m → is_running m ≡ false
      → t.frames ≡ f ∷ fs → requests_in (f ∷ fs) ≡ requests_in fs → length os ≤ 32 → Framed x kind t.variables os fs
      → (is_breaking m ≡ true → list_any is_open_loop os ≡ true) → Asks x kind t op.Nop (set_frames fs t)
  leaves_on m f fs os is other at same few framed breaks =
      record {
        may = refl;
        own = refl;
        kind_same = refl;
        scenario = refl;
        classes = refl;
        places = refl;
        variables = starts;
        scopes = rw at (ap reverse (sym same));
        opens = os;
        few = few;
        framed = framed;
        runs = λ a b running. absurd (true≢false (sym running ∙ ap is_running is ∙ other));
        enters = λ entering. absurd (false≢true entering);
        breaks = λ breaking. breaks (sym (ap is_breaking is) ∙ breaking);
        there = λ answered. absurd (false≢true answered);
      }

  -- it runs on from this place
  runs_on : (place : ℕ) (vs : List ℤ) (f : Frame) (fs : List Frame) (os : List Open) → t.frames ≡ f ∷ fs
      → requests_in (f ∷ fs) ≡ requests_in fs → length os ≤ 32 → Numbers x kind t.classes t.variables vs
      → Framed x kind t.variables os fs → Walks x kind place os
      → Asks x kind t op.Nop (record t { variables = vs; frames = fs; place = place; mode = Running })
  runs_on place vs f fs os at same few stored framed walks =
      record {
        may = refl;
        own = refl;
        kind_same = refl;
        scenario = refl;
        classes = refl;
        places = stored.places;
        variables = stored.starts starts;
        scopes = rw at (ap reverse (sym same));
        opens = os;
        few = few;
        framed = stored.framed os fs framed;
        runs = λ a b running. walks;
        enters = λ entering. absurd (false≢true entering);
        breaks = λ breaking. absurd (false≢true breaking);
        there = λ answered. absurd (false≢true answered);
      }

  -- it leaves a scope
  leaves_scope : (m : Mode) (e : EventId) (fs : List Frame) (os : List Open) → t.mode ≡ m → is_running m ≡ false
      → t.frames ≡ InScope e ∷ fs → length os ≤ 32 → Framed x kind t.variables os fs
      → (is_breaking m ≡ true → list_any is_open_loop os ≡ true) → Asks x kind t op.Leave (set_frames fs t)
  leaves_scope m e fs os is other at few framed breaks =
      record {
        may = rw at (some_scope e (requests_in fs));
        own = refl;
        kind_same = refl;
        scenario = refl;
        classes = refl;
        places = refl;
        variables = starts;
        scopes = rw at (innermost_closed e (requests_in fs));
        opens = os;
        few = few;
        framed = framed;
        runs = λ a b running. absurd (true≢false (sym running ∙ ap is_running is ∙ other));
        enters = λ entering. absurd (false≢true entering);
        breaks = λ breaking. breaks (sym (ap is_breaking is) ∙ breaking);
        there = λ answered. absurd (false≢true answered);
      }

  -- it has no block left, and ends
  ended : (asked : Op) → is_breaking t.mode ≡ false → t.frames ≡ []
      → may_ask (facts_of x) t.me (places_of t.classes t.variables) (scopes_of t) asked ≡ true
      → scopes_asked (scopes_of t) asked ≡ scopes_of t → has_ended (Some asked) ≡ true → is_enter (Some asked) ≡ false
      → is_answered asked ≡ false → Asks x kind t asked t
  ended asked ends at may scopes over no_request no_answer =
      record {
        may = may;
        own = refl;
        kind_same = refl;
        scenario = refl;
        classes = refl;
        places = refl;
        variables = starts;
        scopes = sym scopes;
        opens = [];
        few = omega arith;
        framed = rw at tt;
        runs = λ going b c. absurd (true≢false (sym over ∙ going));
        enters = λ entering. absurd (true≢false (sym entering ∙ no_request));
        breaks = λ breaking. absurd (true≢false (sym breaking ∙ ends));
        there = λ answered. absurd (true≢false (sym answered ∙ no_answer));
      }

  -- the catch line of a try catches what is thrown
  catches : (thrown : Throw) (catch : ℕ) (fs : List Frame) (os : List Open) → t.frames ≡ InTry catch ∷ fs → length os ≤ 32
      → Walks x kind catch (OpenTry catch ∷ os) → Framed x kind t.variables os fs
      → Asks x kind t op.Nop (leave_try x.code catch (Throwing thrown) (set_frames fs t))
  catches thrown catch fs os at few walks framed =
      let exit = try_exit x kind catch catch os walks in
      let there : Steps x kind catch (OpenTry catch ∷ os) (stmt.Catch exit.to exit.value exit.past) = rw exit.is at (steps x kind catch (OpenTry catch ∷ os) walks) in
      rw exit.is (runs_on (catch + 1) (catch_by (stmt.Catch exit.to exit.value exit.past) thrown t).variables (InTry catch) fs (OpenCatch exit.past ∷ os) at refl (there.few refl) (caught x kind t exit.to exit.value exit.past thrown classes there.fits) framed (there.on refl))

  -- what it does by its mode
  end_in : (m : Mode) → t.mode ≡ m → Asks x kind t (end_by_mode m) t → Asks x kind t (end_by_mode t.mode) t
  end_in m is h = let P : Mode → Type 0 = λ k. Asks x kind t (end_by_mode k) t in subst P (sym is) h

  try_in : (m : Mode) (place : ℕ) (fs : List Frame) → t.mode ≡ m
      → Asks x kind t op.Nop (leave_try x.code place m (set_frames fs t))
      → Asks x kind t op.Nop (leave_try x.code place t.mode (set_frames fs t))
  try_in m place fs is h = let P : Mode → Type 0 = λ k. Asks x kind t op.Nop (leave_try x.code place k (set_frames fs t)) in subst P (sym is) h

  loop_in : (m : Mode) (place : ℕ) (fs : List Frame) → t.mode ≡ m
      → Asks x kind t op.Nop (leave_loop place m (set_frames fs t))
      → Asks x kind t op.Nop (leave_loop place t.mode (set_frames fs t))
  loop_in m place fs is h = let P : Mode → Type 0 = λ k. Asks x kind t op.Nop (leave_loop place k (set_frames fs t)) in subst P (sym is) h

  -- the innermost block, by the mode
  pub leaves : (m : Mode) (os : List Open) (fs : List Frame) → t.mode ≡ m → is_running m ≡ false → t.frames ≡ fs
      → length os ≤ 32 → Framed x kind t.variables os fs → (is_breaking m ≡ true → list_any is_open_loop os ≡ true)
      → Asks x kind t (unwind x.code t fs).0 (unwind x.code t fs).1
  leaves Running os fs is other at few framed breaks = absurd (true≢false other)
  leaves m (OpenIf place ∷ os) fs is other at few framed breaks = leaves m os fs is other at (omega (arith, few)) framed breaks
  leaves m (OpenElse place ∷ os) fs is other at few framed breaks = leaves m os fs is other at (omega (arith, few)) framed breaks
  leaves m (OpenCatch place ∷ os) fs is other at few framed breaks = leaves m os fs is other at (omega (arith, few)) framed breaks
  leaves (Throwing w) [] [] is other at few framed breaks = end_in (Throwing w) is (ended (op.Die w) (ap is_breaking is) at (rw at refl) refl refl refl refl)
  leaves (Finishing v) [] [] is other at few framed breaks = end_in (Finishing v) is (ended (op.Finish v) (ap is_breaking is) at (rw at refl) refl refl refl refl)
  leaves Breaking [] [] is other at few framed breaks = absurd (false≢true (breaks refl))
  leaves m (OpenWith v ∷ os) (InScope e ∷ fs) is other at few framed breaks = leaves_scope m e fs os is other at (omega (arith, few)) framed.1 breaks
  leaves (Throwing w) (OpenTry catch ∷ os) (InTry place ∷ fs) is other at few framed breaks = try_in (Throwing w) place fs is (catches w place fs os at (omega (arith, few)) (rw (← framed.0) framed.1) framed.2)
  leaves Breaking (OpenTry catch ∷ os) (InTry place ∷ fs) is other at few framed breaks = try_in Breaking place fs is (leaves_on Breaking (InTry place) fs os is refl at refl (omega (arith, few)) framed.2 breaks)
  leaves (Finishing v) (OpenTry catch ∷ os) (InTry place ∷ fs) is other at few framed breaks = try_in (Finishing v) place fs is (leaves_on (Finishing v) (InTry place) fs os is refl at refl (omega (arith, few)) framed.2 breaks)
  leaves Breaking (OpenLoop inside past ∷ os) (InLoop place ∷ fs) is other at few framed breaks = loop_in Breaking place fs is (runs_on place t.variables (InLoop place) fs os at refl (omega (arith, few)) (nothing_stored x kind t.classes t.variables) framed.3 (rw (← framed.0) framed.2))
  leaves (Throwing w) (OpenLoop inside past ∷ os) (InLoop place ∷ fs) is other at few framed breaks = loop_in (Throwing w) place fs is (leaves_on (Throwing w) (InLoop place) fs os is refl at refl (omega (arith, few)) framed.3 (λ breaking. absurd (false≢true breaking)))
  leaves (Finishing v) (OpenLoop inside past ∷ os) (InLoop place ∷ fs) is other at few framed breaks = loop_in (Finishing v) place fs is (leaves_on (Finishing v) (InLoop place) fs os is refl at refl (omega (arith, few)) framed.3 (λ breaking. absurd (false≢true breaking)))
  leaves Breaking (OpenRepeat inside past ∷ os) (InRepeat count place ∷ fs) is other at few framed breaks = loop_in Breaking place fs is (runs_on place t.variables (InRepeat count place) fs os at refl (omega (arith, few)) (nothing_stored x kind t.classes t.variables) framed.3 (rw (← framed.0) framed.2))
  leaves (Throwing w) (OpenRepeat inside past ∷ os) (InRepeat count place ∷ fs) is other at few framed breaks = loop_in (Throwing w) place fs is (leaves_on (Throwing w) (InRepeat count place) fs os is refl at refl (omega (arith, few)) framed.3 (λ breaking. absurd (false≢true breaking)))
  leaves (Finishing v) (OpenRepeat inside past ∷ os) (InRepeat count place ∷ fs) is other at few framed breaks = loop_in (Finishing v) place fs is (leaves_on (Finishing v) (InRepeat count place) fs os is refl at refl (omega (arith, few)) framed.3 (λ breaking. absurd (false≢true breaking)))
  leaves m _ _ is other at few framed breaks = absurd (false≢true framed)
