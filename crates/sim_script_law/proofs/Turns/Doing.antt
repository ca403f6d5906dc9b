-- A script that runs does the statement at its place.
use Rattle.std.proofs.Common.{◌≡◌, refl, sym, subst, ap, ◌∙◌, ℕ, suc, ◌+◌, ◌-◌, ◌<◌, ◌≤◌, ℤ, pos, Bool, true, false, List, [], ◌∷◌, length, reverse, set, Some, None, arith, add-one, ◌⊎◌, inl, inr}
use Rattle.std.specs.Prelude.{◌&&◌, ◌==◌, map, not, nat_lt, int_lt, ◌-ℤ◌, if◌then◌else◌}
use Rattle.std.specs.List.{list_any}
use Rattle.std.proofs.lemmas.Bool.{false≢true, true≢false, and_parts, eqb-true}
use Rattle.std.proofs.lemmas.List.{length-reverse}
use Rattle.sim_types.specs.Scenarios.{ScenarioOf, facts_of}
use Rattle.sim_types.specs.declared.event.Throw.{Throw}
use Rattle.sim_types.specs.declared.op.Op.{Op}
use Rattle.sim_types.specs.declared.op.Op.TheVariants as op
use Rattle.sim_types.specs.declared.setup.Class.TheVariants as class
use Rattle.sim_types.specs.declared.script.Kind.{Kind}
use Rattle.sim_types.specs.declared.script.Num.{Num}
use Rattle.sim_types.specs.declared.script.Stmt.{Stmt}
use Rattle.sim_types.specs.declared.script.Stmt.TheVariants as stmt
use Rattle.sim_machine.specs.Events.{is_same}
use Rattle.sim_machine.specs.MayFollow.{is_enter}
use Rattle.sim_machine.specs.MayAsk.{may_ask}
use Rattle.sim_machine.specs.BodyLaw.{scopes_asked}
use Rattle.sim_language.specs.FittingBlocks.{Open, OpenWith, OpenLoop, OpenRepeat, OpenIf, OpenElse, OpenTry, OpenCatch, is_open_loop}
use Rattle.sim_language.specs.FittingStatements.{gives, number_fits, statement_fits}
use Rattle.sim_language_law.proofs.Blocks.ClosedBlocks.{break_within, release_within, with_within}
use Rattle.sim_script_model.specs.Arithmetic.{Answer, Number, Error, compute, is_equal}
use Rattle.sim_script_model.specs.Scripts.{Mode, Running, Throwing, Breaking, Finishing, Frame, InScope, InTry, InLoop, InRepeat, Script, set_place, set_mode, set_frames, push_frame, tail_of, event_in, event_of_ref, process_of_ref, value_of_arg, places_of, requests_in, stmt_at, value_of_num}
use Rattle.sim_script_model.specs.Polls.{do_stmt, answer_to, last_stmt, end_repeat}
use Rattle.sim_script_law.specs.Walks.{Walks}
use Rattle.sim_script_law.specs.Framing.{Framed, is_held}
use Rattle.sim_script_law.specs.SoundScripts.{is_asked_by, is_answered, has_ended, is_running, is_breaking}
use Rattle.sim_script_law.proofs.Scripts.Frames.{frames_are_few, requests_are_few, held_is_open, list_any-reverse}
use Rattle.sim_script_law.proofs.Scripts.Walking.{Steps, loop_exit, repeat_exit, else_exit, catch_exit, try_exit, if_exit}
use Rattle.sim_script_law.proofs.Turns.Asking.{ScopesAllow, statement_may_ask}
use Rattle.sim_script_law.proofs.Scripts.Standing.{scopes_of, Stands, Asks, Numbers, number_stored, nothing_stored}
use Rattle.sim_script_law.proofs.Turns.Leaving.{innermost_closed, some_scope, given_number}

one_back : (n : ℕ) → n + 1 - 1 ≡ n
one_back n = omega arith

not_true : (b : Bool) → not b ≡ true → b ≡ false
not_true false h = refl
not_true true h = absurd (false≢true h)

one_on : (x : ScenarioOf) (kind : Kind) (n : ℕ) (os : List Open) → Walks x kind (n + 1) os → Walks x kind (suc n) os
one_on x kind n os h = let P : ℕ → Type 0 = λ m. Walks x kind m os in subst P (add-one n) h

module _ (x : ScenarioOf) (kind : Kind) (opens : List Open) (t : Script) (time : ℤ) (h : Stands x kind opens t) (runs : t.mode ≡ Running) where
  abbrev next : Script
  next = set_place (t.place + 1) t

  not_breaking : is_breaking t.mode ≡ true → list_any is_open_loop opens ≡ true
  not_breaking breaking = absurd (false≢true (sym (ap is_breaking runs) ∙ breaking))

  -- what the statement asks for
  may : (s : Stmt) → statement_fits x kind s ≡ true → ScopesAllow next (scopes_of t) s
      → may_ask (facts_of x) t.me (places_of t.classes t.variables) (scopes_of t) (do_stmt time next s).0 ≡ true
  may s fits allow = statement_may_ask x kind next time s (scopes_of t) h.classes (sym (ap length h.classes) ∙ h.long) h.variables fits allow

  -- an operation whose answer goes nowhere, and the script then
  asks : (asked : Op) (vs : List ℤ) (fs : List Frame) (place : ℕ) (m : Mode) (os : List Open)
      → may_ask (facts_of x) t.me (places_of t.classes t.variables) (scopes_of t) asked ≡ true
      → Numbers x kind t.classes t.variables vs
      → reverse (requests_in fs) ≡ scopes_asked (scopes_of t) asked
      → length os ≤ 32
      → Framed x kind t.variables os fs
      → (has_ended (Some asked) ≡ false → is_running m ≡ true → Walks x kind place os)
      → (is_breaking m ≡ true → list_any is_open_loop os ≡ true)
      → is_enter (Some asked) ≡ false
      → is_answered asked ≡ false
      → Asks x kind t asked (record t { variables = vs; frames = fs; place = place; mode = m })
  asks asked vs fs place m os allowed stored scopes few framed walks breaks no_request no_answer =
      record {
        may = allowed;
        own = refl;
        kind_same = refl;
        scenario = refl;
        classes = refl;
        places = stored.places;
        variables = stored.starts h.variables;
        scopes = scopes;
        opens = os;
        few = few;
        framed = stored.framed os fs framed;
        runs = λ going b running. walks going running;
        enters = λ entering. absurd (true≢false (sym entering ∙ no_request));
        breaks = breaks;
        there = λ answered. absurd (true≢false (sym answered ∙ no_answer));
      }

  stays : Numbers x kind t.classes t.variables t.variables
  stays = nothing_stored x kind t.classes t.variables

  -- the script goes on with the next statement
  goes_on : (asked : Op) → may_ask (facts_of x) t.me (places_of t.classes t.variables) (scopes_of t) asked ≡ true
      → Walks x kind (t.place + 1) opens → scopes_asked (scopes_of t) asked ≡ scopes_of t → is_enter (Some asked) ≡ false
      → is_answered asked ≡ false → Asks x kind t asked next
  goes_on asked allowed on scopes no_request no_answer = asks asked t.variables t.frames (t.place + 1) t.mode opens allowed stays (sym scopes) h.few h.framed (λ a b. on) not_breaking no_request no_answer

  -- the statement is then the last
  last_is : (s : Stmt) → stmt_at x.code t.place ≡ s → last_stmt x.code next ≡ s
  last_is s is = ap (stmt_at x.code) (one_back t.place) ∙ is

  -- and an operation whose answer goes into a variable of the statement
  answers : (s : Stmt) (asked : Op) → stmt_at x.code t.place ≡ s
      → may_ask (facts_of x) t.me (places_of t.classes t.variables) (scopes_of t) asked ≡ true
      → statement_fits x kind s ≡ true → is_asked_by s asked ≡ true → Walks x kind (t.place + 1) opens
      → scopes_asked (scopes_of t) asked ≡ scopes_of t → is_enter (Some asked) ≡ false → Asks x kind t asked next
  answers s asked is allowed fits by on scopes no_request =
      record {
        may = allowed;
        own = refl;
        kind_same = refl;
        scenario = refl;
        classes = refl;
        places = refl;
        variables = h.variables;
        scopes = sym scopes;
        opens = opens;
        few = h.few;
        framed = h.framed;
        runs = λ a b c. on;
        enters = λ entering. absurd (true≢false (sym entering ∙ no_request));
        breaks = not_breaking;
        there = λ answered. rw (last_is s is) (record { by = by; fits = fits });
      }

  -- it stops running, for this reason
  stops : (m : Mode) → is_running m ≡ false → (is_breaking m ≡ true → list_any is_open_loop opens ≡ true) → Asks x kind t op.Nop (set_mode m next)
  stops m other breaks = asks op.Nop t.variables t.frames (t.place + 1) m opens refl stays refl h.few h.framed (λ a running. absurd (true≢false (sym running ∙ other))) breaks refl refl

  throws : (what : Throw) → Asks x kind t op.Nop (set_mode (Throwing what) next)
  throws what = stops (Throwing what) refl (λ breaking. absurd (false≢true breaking))

  -- a number is computed, or an error is thrown
  lets : (to : ℕ) (answer : Answer) → gives kind to class.Number ≡ true → Walks x kind (t.place + 1) opens → Asks x kind t op.Nop (answer_to to answer next)
  lets to (Number n) given on =
      asks op.Nop (set t.variables to n) t.frames (t.place + 1) t.mode opens refl (number_stored x kind t.classes t.variables to n h.classes (given_number kind to given)) refl h.few h.framed (λ a b. on) not_breaking refl refl
  lets to (Error n) given on = throws (record { kind = 4; value = pos n })

  -- it goes on elsewhere, with these blocks open and its frames as they are
  jumps : (place : ℕ) (os : List Open) → length os ≤ 32 → Framed x kind t.variables os t.frames → Walks x kind place os
      → Asks x kind t op.Nop (set_place place next)
  jumps place os few framed walks = asks op.Nop t.variables t.frames place t.mode os refl stays refl few framed (λ a b. walks) (λ breaking. absurd (false≢true (sym (ap is_breaking runs) ∙ breaking))) refl refl

  -- it goes on elsewhere with other frames, but the same scopes
  goes_to : (place : ℕ) (fs : List Frame) (os : List Open) → requests_in fs ≡ requests_in t.frames → length os ≤ 32
      → Framed x kind t.variables os fs → Walks x kind place os
      → Asks x kind t op.Nop (record t { place = place; frames = fs })
  goes_to place fs os same few framed walks = asks op.Nop t.variables fs place t.mode os refl stays (ap reverse same) few framed (λ a b. walks) (λ breaking. absurd (false≢true (sym (ap is_breaking runs) ∙ breaking))) refl refl

  -- there are fewer scopes than open blocks
  few_scopes : length (scopes_of t) ≤ length opens
  few_scopes = omega (arith, length-reverse (requests_in t.frames), requests_are_few t.frames, frames_are_few x kind t.variables opens t.frames h.framed)

  -- ---- blocks

  enters_loop : (past : ℕ) → Steps x kind t.place opens (stmt.Loop past) → Asks x kind t op.Nop (do_stmt time next (stmt.Loop past)).1
  enters_loop past st =
      let on : Walks x kind (t.place + 1) (OpenLoop (suc t.place) past ∷ opens) = st.on refl in
      let inside : Walks x kind (suc t.place) (OpenLoop (suc t.place) past ∷ opens) = one_on x kind t.place _ on in
      goes_to (t.place + 1) (InLoop past ∷ t.frames) (OpenLoop (suc t.place) past ∷ opens) refl (st.few refl) (refl, inside, loop_exit x kind (t.place + 1) (suc t.place) past opens on, h.framed) on

  enters_repeat : (times : Num) (past : ℕ) → Steps x kind t.place opens (stmt.Repeat times past)
      → Asks x kind t op.Nop (do_stmt time next (stmt.Repeat times past)).1
  enters_repeat times past st =
      let on : Walks x kind (t.place + 1) (OpenRepeat (suc t.place) past ∷ opens) = st.on refl in
      let inside : Walks x kind (suc t.place) (OpenRepeat (suc t.place) past ∷ opens) = one_on x kind t.place _ on in
      let behind : Walks x kind past opens = repeat_exit x kind (t.place + 1) (suc t.place) past opens on in
      by on inside behind (int_lt (value_of_num time next times) (pos 1))
    where
      by : Walks x kind (t.place + 1) (OpenRepeat (suc t.place) past ∷ opens)
          → Walks x kind (suc t.place) (OpenRepeat (suc t.place) past ∷ opens) → Walks x kind past opens → (b : Bool)
          → Asks x kind t op.Nop (if b then set_place past next else push_frame (InRepeat (value_of_num time next times) past) next)
      by on inside behind true = jumps past opens h.few h.framed behind
      by on inside behind false = goes_to (t.place + 1) (InRepeat (value_of_num time next times) past ∷ t.frames) (OpenRepeat (suc t.place) past ∷ opens) refl (st.few refl) (refl, inside, behind, h.framed) on

  enters_try : (catch : ℕ) → Steps x kind t.place opens (stmt.Try catch) → Asks x kind t op.Nop (do_stmt time next (stmt.Try catch)).1
  enters_try catch st =
      let on : Walks x kind (t.place + 1) (OpenTry catch ∷ opens) = st.on refl in
      goes_to (t.place + 1) (InTry catch ∷ t.frames) (OpenTry catch ∷ opens) refl (st.few refl) (refl, (try_exit x kind (t.place + 1) catch opens on).walks, h.framed) on

  tests : (test : Num) (other : ℕ) → Steps x kind t.place opens (stmt.If test other) → Asks x kind t op.Nop (do_stmt time next (stmt.If test other)).1
  tests test other st =
      let on : Walks x kind (t.place + 1) (OpenIf other ∷ opens) = st.on refl in
      by on (if_exit x kind (t.place + 1) other opens on) (is_equal (value_of_num time next test) (pos 0))
    where
      by : Walks x kind (t.place + 1) (OpenIf other ∷ opens)
          → (Walks x kind other opens) ⊎ ((past : ℕ) × Walks x kind other (OpenElse past ∷ opens)) → (b : Bool)
          → Asks x kind t op.Nop (if b then set_place other next else next)
      by on exit false = jumps (t.place + 1) (OpenIf other ∷ opens) (st.few refl) h.framed on
      by on (inl behind) true = jumps other opens h.few h.framed behind
      by on (inr (past, behind)) true = jumps other (OpenElse past ∷ opens) (st.few refl) h.framed behind

  -- what stands at an `else` or a `catch` that is reached goes on past the block
  passes_else : (past : ℕ) (os : List Open) → Steps x kind t.place os (stmt.Else past) → length os ≤ 32
      → Framed x kind t.variables os t.frames → Asks x kind t op.Nop (set_place past next)
  passes_else past (OpenIf other ∷ os) st few framed = jumps past os (omega (arith, few)) framed (else_exit x kind (t.place + 1) past os (st.on refl))
  passes_else past [] st few framed = absurd (false≢true st.stands)
  passes_else past (_ ∷ os) st few framed = absurd (false≢true st.stands)

  passes_catch : (to value past : ℕ) (os : List Open) (fs : List Frame) → t.frames ≡ fs
      → Steps x kind t.place os (stmt.Catch to value past) → length os ≤ 32 → Framed x kind t.variables os fs
      → Asks x kind t op.Nop (set_place past (set_frames (tail_of fs) next))
  passes_catch to value past (OpenTry catch ∷ os) (InTry place ∷ fs) at st few framed = goes_to past fs os (sym (ap requests_in at)) (omega (arith, few)) framed.2 (catch_exit x kind (t.place + 1) past os (st.on refl))
  passes_catch to value past (OpenTry catch ∷ os) _ at st few framed = absurd (false≢true framed)
  passes_catch to value past [] fs at st few framed = absurd (false≢true st.stands)
  passes_catch to value past (_ ∷ os) fs at st few framed = absurd (false≢true st.stands)

  -- ---- ends of blocks

  still_framed : (os : List Open) (fs : List Frame) → t.frames ≡ fs → Framed x kind t.variables os fs → Framed x kind t.variables os t.frames
  still_framed os fs at framed = let P : List Frame → Type 0 = λ gs. Framed x kind t.variables os gs in subst P (sym at) framed

  from_there : (os : List Open) (first inside : ℕ) → first ≡ inside → Walks x kind inside os → Walks x kind first os
  from_there os first inside same walks = let P : ℕ → Type 0 = λ m. Walks x kind m os in subst P (sym same) walks

  repeats_loop : (first : ℕ) (os : List Open) (fs : List Frame) → t.frames ≡ fs
      → Steps x kind t.place os (stmt.EndLoop first) → length os ≤ 32 → Framed x kind t.variables os fs
      → Asks x kind t op.Nop (set_place first next)
  repeats_loop first (OpenLoop inside past ∷ os) (InLoop place ∷ fs) at st few framed =
      let same : first ≡ inside = eqb-true first inside (and_parts (first == inside) _ st.stands).0 in
      jumps first (OpenLoop inside past ∷ os) few (still_framed (OpenLoop inside past ∷ os) (InLoop place ∷ fs) at framed) (from_there (OpenLoop inside past ∷ os) first inside same framed.1)
  repeats_loop first (OpenLoop inside past ∷ os) _ at st few framed = absurd (false≢true framed)
  repeats_loop first [] fs at st few framed = absurd (false≢true st.stands)
  repeats_loop first (_ ∷ os) fs at st few framed = absurd (false≢true st.stands)

  counts_down : (first : ℕ) (os : List Open) (fs : List Frame) → t.frames ≡ fs
      → Steps x kind t.place os (stmt.EndRepeat first) → length os ≤ 32 → Framed x kind t.variables os fs
      → Asks x kind t op.Nop (end_repeat first fs next)
  counts_down first (OpenRepeat inside past ∷ os) (InRepeat count place ∷ fs) at st few framed = by (int_lt (pos 1) count)
    where
      by : (b : Bool) → Asks x kind t op.Nop (if b then set_place first (set_frames (InRepeat (count -ℤ pos 1) place ∷ fs) next) else set_frames fs next)
      by true =
          let same : first ≡ inside = eqb-true first inside (and_parts (first == inside) _ st.stands).0 in
          goes_to first (InRepeat (count -ℤ pos 1) place ∷ fs) (OpenRepeat inside past ∷ os) (sym (ap requests_in at)) few framed (from_there (OpenRepeat inside past ∷ os) first inside same framed.1)
      by false = goes_to (t.place + 1) fs os (sym (ap requests_in at)) (omega (arith, few)) framed.3 (st.on refl)
  counts_down first (OpenRepeat inside past ∷ os) _ at st few framed = absurd (false≢true framed)
  counts_down first [] fs at st few framed = absurd (false≢true st.stands)
  counts_down first (_ ∷ os) fs at st few framed = absurd (false≢true st.stands)

  leaves_with : (os : List Open) (fs : List Frame) → t.frames ≡ fs → Steps x kind t.place os stmt.EndWith → length os ≤ 32
      → Framed x kind t.variables os fs → Asks x kind t op.Leave (set_frames (tail_of fs) next)
  leaves_with (OpenWith v ∷ os) (InScope e ∷ fs) at st few framed =
      let some : nat_lt 0 (length (scopes_of t)) ≡ true = rw at (some_scope e (requests_in fs)) in
      let closed : reverse (requests_in fs) ≡ scopes_asked (scopes_of t) op.Leave = rw at (innermost_closed e (requests_in fs)) in
      asks op.Leave t.variables fs (t.place + 1) t.mode os some stays closed (omega (arith, few)) framed.1 (λ a b. st.on refl) (λ breaking. absurd (false≢true (sym (ap is_breaking runs) ∙ breaking))) refl refl
  leaves_with (OpenWith v ∷ os) _ at st few framed = absurd (false≢true framed)
  leaves_with [] fs at st few framed = absurd (false≢true st.stands)
  leaves_with (_ ∷ os) fs at st few framed = absurd (false≢true st.stands)

  leaves_plain : (os : List Open) → Steps x kind t.place os stmt.EndPlain → length os ≤ 32 → Framed x kind t.variables os t.frames → Asks x kind t op.Nop next
  leaves_plain (OpenIf other ∷ os) st few framed = jumps (t.place + 1) os (omega (arith, few)) framed (st.on refl)
  leaves_plain (OpenElse past ∷ os) st few framed = jumps (t.place + 1) os (omega (arith, few)) framed (st.on refl)
  leaves_plain (OpenCatch past ∷ os) st few framed = jumps (t.place + 1) os (omega (arith, few)) framed (st.on refl)
  leaves_plain [] st few framed = absurd (false≢true st.stands)
  leaves_plain (_ ∷ os) st few framed = absurd (false≢true st.stands)

  no_scopes : (os : List Open) (fs : List Frame) → Steps x kind t.place os stmt.EndProcess → Framed x kind t.variables os fs → reverse (requests_in fs) ≡ []
  no_scopes [] [] st framed = refl
  no_scopes [] (f ∷ fs) st framed = absurd (false≢true framed)
  no_scopes (OpenWith v ∷ os) fs st framed = absurd (false≢true st.stands)
  no_scopes (OpenLoop inside past ∷ os) fs st framed = absurd (false≢true st.stands)
  no_scopes (OpenRepeat inside past ∷ os) fs st framed = absurd (false≢true st.stands)
  no_scopes (OpenIf other ∷ os) fs st framed = absurd (false≢true st.stands)
  no_scopes (OpenElse past ∷ os) fs st framed = absurd (false≢true st.stands)
  no_scopes (OpenTry catch ∷ os) fs st framed = absurd (false≢true st.stands)
  no_scopes (OpenCatch past ∷ os) fs st framed = absurd (false≢true st.stands)

  ends_process : Steps x kind t.place opens stmt.EndProcess → Asks x kind t (op.Finish (pos 0)) next
  ends_process st =
      let none : scopes_of t ≡ [] = no_scopes opens t.frames st h.framed in
      asks (op.Finish (pos 0)) t.variables t.frames (t.place + 1) t.mode opens (rw none refl) stays refl h.few h.framed (λ going b. absurd (true≢false going)) not_breaking refl refl

  -- ---- requests

  releases : (v : ℕ) → Steps x kind t.place opens (stmt.Release v) → Asks x kind t (op.Release (event_in next v)) next
  releases v st =
      let held : list_any (is_same (event_in next v)) (scopes_of t) ≡ true = list_any-reverse (is_same (event_in next v)) (requests_in t.frames) ∙ held_is_open x kind t v opens t.frames (sym (release_within t.place v opens) ∙ st.stands) h.framed in
      goes_on (op.Release (event_in next v)) (may (stmt.Release v) st.fits held) (st.on refl) refl refl refl

  requests : (to res : ℕ) (priority : Num) (preempts : Bool) → stmt_at x.code t.place ≡ stmt.With to res priority preempts
      → Steps x kind t.place opens (stmt.With to res priority preempts)
      → Asks x kind t (op.Enter res (value_of_num time next priority) preempts) next
  requests to res priority preempts is st =
      let few : length opens < 32 = omega (arith, st.few refl) in
      let allowed : length (scopes_of t) < 32 = omega (arith, few, few_scopes) in
      record {
        may = may (stmt.With to res priority preempts) st.fits allowed;
        own = refl;
        kind_same = refl;
        scenario = refl;
        classes = refl;
        places = refl;
        variables = h.variables;
        scopes = refl;
        opens = opens;
        few = h.few;
        framed = h.framed;
        runs = λ a other c. absurd (true≢false other);
        enters = λ entering.
            record {
              variable = to;
              resource = res;
              priority = priority;
              preempts = preempts;
              asked_by = last_is (stmt.With to res priority preempts) is;
              some = omega arith;
              within = omega (arith, st.within);
              runs = runs;
              fresh = not_true (is_held to opens) (sym (with_within t.place to res priority preempts opens) ∙ st.stands);
              few = few;
              walks = st.on refl;
            };
        breaks = not_breaking;
        there = λ answered. rw (last_is (stmt.With to res priority preempts) is) (record { by = refl; fits = st.fits });
      }

  -- ---- the statement

  pub does : (s : Stmt) → stmt_at x.code t.place ≡ s → Steps x kind t.place opens s → Asks x kind t (do_stmt time next s).0 (do_stmt time next s).1
  does (stmt.Let to operator a b) is st =
      let parts = and_parts (gives kind to class.Number && number_fits kind a) (number_fits kind b) st.fits in
      lets to (compute operator (value_of_num time next a) (value_of_num time next b)) (and_parts (gives kind to class.Number) (number_fits kind a) parts.0).0 (st.on refl)
  does (stmt.Count to res) is st = answers (stmt.Count to res) (op.Count res) is (may (stmt.Count to res) st.fits tt) st.fits refl (st.on refl) refl refl
  does (stmt.Sleep delay) is st = goes_on (op.Pause (value_of_num time next delay) (pos 0)) (may (stmt.Sleep delay) st.fits tt) (st.on refl) refl refl refl
  does (stmt.Timer to delay value) is st = answers (stmt.Timer to delay value) (op.Timeout (value_of_num time next delay) (value_of_num time next value)) is (may (stmt.Timer to delay value) st.fits tt) st.fits refl (st.on refl) refl refl
  does (stmt.Fresh to) is st = answers (stmt.Fresh to) op.NewEvent is (may (stmt.Fresh to) st.fits tt) st.fits refl (st.on refl) refl refl
  does (stmt.Wait on) is st = goes_on (op.Wait (event_of_ref next on)) (may (stmt.Wait on) st.fits tt) (st.on refl) refl refl refl
  does (stmt.Succeed on value) is st = goes_on (op.Succeed (event_of_ref next on) (value_of_num time next value)) (may (stmt.Succeed on value) st.fits tt) (st.on refl) refl refl refl
  does (stmt.Fail on value) is st = goes_on (op.Fail (event_of_ref next on) (value_of_num time next value)) (may (stmt.Fail on value) st.fits tt) (st.on refl) refl refl refl
  does (stmt.All to members) is st = answers (stmt.All to members) (op.AllOf (map (event_of_ref next) members)) is (may (stmt.All to members) st.fits tt) st.fits refl (st.on refl) refl refl
  does (stmt.Any to members) is st = answers (stmt.Any to members) (op.AnyOf (map (event_of_ref next) members)) is (may (stmt.Any to members) st.fits tt) st.fits refl (st.on refl) refl refl
  does (stmt.Has to cond on) is st = answers (stmt.Has to cond on) (op.Has (event_in next cond) (event_of_ref next on)) is (may (stmt.Has to cond on) st.fits tt) st.fits refl (st.on refl) refl refl
  does (stmt.Spawn to k args) is st = answers (stmt.Spawn to k args) (op.Spawn k (map (value_of_arg time next) args)) is (may (stmt.Spawn to k args) st.fits tt) st.fits refl (st.on refl) refl refl
  does (stmt.Interrupt who value) is st = goes_on (op.Interrupt (process_of_ref next who) (value_of_num time next value)) (may (stmt.Interrupt who value) st.fits tt) (st.on refl) refl refl refl
  does (stmt.Drop who value) is st = goes_on (op.Drop (process_of_ref next who) (value_of_num time next value)) (may (stmt.Drop who value) st.fits tt) (st.on refl) refl refl refl
  does (stmt.Raise code) is st = throws (record { kind = 3; value = value_of_num time next code })
  does (stmt.Finish value) is st = stops (Finishing (value_of_num time next value)) refl (λ breaking. absurd (false≢true breaking))
  does (stmt.With to res priority preempts) is st = requests to res priority preempts is st
  does (stmt.Release on) is st = releases on st
  does (stmt.Put None res a p) is st = goes_on (op.PutWait res (value_of_num time next a) (value_of_num time next p)) (may (stmt.Put None res a p) st.fits tt) (st.on refl) refl refl refl
  does (stmt.Put (Some to) res a p) is st = answers (stmt.Put (Some to) res a p) (op.Put res (value_of_num time next a) (value_of_num time next p)) is (may (stmt.Put (Some to) res a p) st.fits tt) st.fits refl (st.on refl) refl refl
  does (stmt.Get None res lo hi) is st = goes_on (op.GetWait res (value_of_num time next lo) (value_of_num time next hi)) (may (stmt.Get None res lo hi) st.fits tt) (st.on refl) refl refl refl
  does (stmt.Get (Some to) res lo hi) is st = answers (stmt.Get (Some to) res lo hi) (op.Get res (value_of_num time next lo) (value_of_num time next hi)) is (may (stmt.Get (Some to) res lo hi) st.fits tt) st.fits refl (st.on refl) refl refl
  does (stmt.Cancel on) is st = goes_on (op.Cancel (event_in next on)) (may (stmt.Cancel on) st.fits tt) (st.on refl) refl refl refl
  does (stmt.Loop past) is st = enters_loop past st
  does (stmt.Repeat times past) is st = enters_repeat times past st
  does (stmt.If test other) is st = tests test other st
  does (stmt.Else past) is st = passes_else past opens st h.few h.framed
  does (stmt.Try catch) is st = enters_try catch st
  does (stmt.Catch to value past) is st = passes_catch to value past opens t.frames refl st h.few h.framed
  does (stmt.EndLoop first) is st = repeats_loop first opens t.frames refl st h.few h.framed
  does (stmt.EndRepeat first) is st = counts_down first opens t.frames refl st h.few h.framed
  does stmt.EndWith is st = leaves_with opens t.frames refl st h.few h.framed
  does stmt.EndPlain is st = leaves_plain opens st h.few h.framed
  does stmt.EndProcess is st = ends_process st
  does stmt.Break is st = stops Breaking refl (λ breaking. sym (break_within t.place opens) ∙ st.stands)
  does (stmt.Log value) is st = goes_on (op.Log (value_of_num time next value)) (may (stmt.Log value) st.fits tt) (st.on refl) refl refl refl
  does (stmt.Draw to lo hi) is st = answers (stmt.Draw to lo hi) (op.Draw (value_of_num time next lo) (value_of_num time next hi)) is (may (stmt.Draw to lo hi) st.fits tt) st.fits refl (st.on refl) refl refl
  does (stmt.Chain on to) is st = goes_on (op.Chain (event_of_ref next on) (event_of_ref next to)) (may (stmt.Chain on to) st.fits tt) (st.on refl) refl refl refl
