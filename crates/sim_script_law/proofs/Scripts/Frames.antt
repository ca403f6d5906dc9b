-- The frames of a script, as its variables change and its blocks are left.
use Rattle.std.proofs.Common.{◌≡◌, refl, sym, ap, ◌∙◌, ℕ, ◌≤◌, ℤ, pos, Bool, true, false, ◌||◌, List, [], ◌∷◌, ◌++◌, length, reverse, get_or, set, arith}
use Rattle.std.specs.Prelude.{nat_abs, ◌==◌}
use Rattle.std.specs.List.{list_any}
use Rattle.std.proofs.lemmas.Bool.{false≢true, true≢false, or_left, or_right, eqb-true, eqb-false, eq-eqb}
use Rattle.std.proofs.lemmas.List.{get_or-set_other, reverse-append}
use Rattle.std.proofs.lemmas.List.Folds.{list_any-append}
use Rattle.sim_types.specs.Setups.{is_class}
use Rattle.sim_types.specs.Scenarios.{ScenarioOf}
use Rattle.sim_types.specs.declared.event.EventId.{EventId}
use Rattle.sim_types.specs.declared.setup.Class.TheVariants as class
use Rattle.sim_types.specs.declared.script.Kind.{Kind}
use Rattle.sim_machine.specs.Events.{is_same}
use Rattle.sim_language.specs.FittingBlocks.{Open, OpenWith, OpenLoop, OpenRepeat, OpenIf, OpenElse, OpenTry, OpenCatch}
use Rattle.sim_language.specs.FittingStatements.{class_of}
use Rattle.sim_script_model.specs.Scripts.{Frame, InScope, InTry, InLoop, InRepeat, Script, requests_in, event_in}
use Rattle.sim_script_law.specs.Framing.{Framed, IsScope, is_held}

-- ---- no more frames than open blocks

pub frames_are_few : (x : ScenarioOf) (kind : Kind) (vs : List ℤ) (os : List Open) (fs : List Frame) → Framed x kind vs os fs → length fs ≤ length os
frames_are_few x kind vs [] [] h = omega arith
frames_are_few x kind vs (OpenWith v ∷ os) (InScope e ∷ fs) h = omega (arith, frames_are_few x kind vs os fs h.1)
frames_are_few x kind vs (OpenTry catch ∷ os) (InTry at ∷ fs) h = omega (arith, frames_are_few x kind vs os fs h.2)
frames_are_few x kind vs (OpenLoop inside past ∷ os) (InLoop at ∷ fs) h = omega (arith, frames_are_few x kind vs os fs h.3)
frames_are_few x kind vs (OpenRepeat inside past ∷ os) (InRepeat count at ∷ fs) h = omega (arith, frames_are_few x kind vs os fs h.3)
frames_are_few x kind vs (OpenIf other ∷ os) fs h = omega (arith, frames_are_few x kind vs os fs h)
frames_are_few x kind vs (OpenElse past ∷ os) fs h = omega (arith, frames_are_few x kind vs os fs h)
frames_are_few x kind vs (OpenCatch past ∷ os) fs h = omega (arith, frames_are_few x kind vs os fs h)
frames_are_few x kind vs _ _ h = absurd (false≢true h)

pub requests_are_few : (fs : List Frame) → length (requests_in fs) ≤ length fs
requests_are_few [] = omega arith
requests_are_few (InScope e ∷ fs) = omega (arith, requests_are_few fs)
requests_are_few (InTry at ∷ fs) = omega (arith, requests_are_few fs)
requests_are_few (InLoop at ∷ fs) = omega (arith, requests_are_few fs)
requests_are_few (InRepeat count at ∷ fs) = omega (arith, requests_are_few fs)

-- ---- a variable that no open `with` has

-- another variable gets a value: the scope's is as before
scope_stays : (x : ScenarioOf) (kind : Kind) (vs : List ℤ) (to : ℕ) (value : ℤ) (v : ℕ) (e : EventId) (os : List Open)
    → (to == v) ≡ false → IsScope x kind vs v e os → IsScope x kind (set vs to value) v e os
scope_stays x kind vs to value v e os other h =
    record {
      place = h.place;
      within = h.within;
      resource = h.resource;
      priority = h.priority;
      preempts = h.preempts;
      opened = h.opened;
      class = h.class;
      held = ap nat_abs (get_or-set_other vs to v value (pos 0) (λ same. eqb-false to v other (sym same))) ∙ h.held;
      fresh = h.fresh;
    }

no_others : (a b : Bool) → (a || b) ≡ false → (a ≡ false) × (b ≡ false)
no_others false b h = (refl, h)
no_others true b h = absurd (true≢false h)

pub framed_set : (x : ScenarioOf) (kind : Kind) (vs : List ℤ) (to : ℕ) (value : ℤ) (os : List Open) (fs : List Frame)
    → is_held to os ≡ false → Framed x kind vs os fs → Framed x kind (set vs to value) os fs
framed_set x kind vs to value [] [] none h = h
framed_set x kind vs to value (OpenWith v ∷ os) (InScope e ∷ fs) none h =
    let others = no_others (to == v) (is_held to os) none in
    (scope_stays x kind vs to value v e os others.0 h.0, framed_set x kind vs to value os fs others.1 h.1)
framed_set x kind vs to value (OpenTry catch ∷ os) (InTry at ∷ fs) none h = (h.0, h.1, framed_set x kind vs to value os fs none h.2)
framed_set x kind vs to value (OpenLoop inside past ∷ os) (InLoop at ∷ fs) none h = (h.0, h.1, h.2, framed_set x kind vs to value os fs none h.3)
framed_set x kind vs to value (OpenRepeat inside past ∷ os) (InRepeat count at ∷ fs) none h = (h.0, h.1, h.2, framed_set x kind vs to value os fs none h.3)
framed_set x kind vs to value (OpenIf other ∷ os) fs none h = framed_set x kind vs to value os fs none h
framed_set x kind vs to value (OpenElse past ∷ os) fs none h = framed_set x kind vs to value os fs none h
framed_set x kind vs to value (OpenCatch past ∷ os) fs none h = framed_set x kind vs to value os fs none h
framed_set x kind vs to value _ _ none h = absurd (false≢true h)

-- a variable of another class than requests is that of no open `with`
pub other_class_not_held : (x : ScenarioOf) (kind : Kind) (vs : List ℤ) (to : ℕ) (os : List Open) (fs : List Frame)
    → is_class class.Request (class_of kind to) ≡ false → Framed x kind vs os fs → is_held to os ≡ false
other_class_not_held x kind vs to [] [] other h = refl
other_class_not_held x kind vs to (OpenWith v ∷ os) (InScope e ∷ fs) other h = by (to == v) refl (other_class_not_held x kind vs to os fs other h.1)
  where
    by : (b : Bool) → (to == v) ≡ b → is_held to os ≡ false → (b || is_held to os) ≡ false
    by false e rest = rest
    by true e rest =
        let same : class_of kind to ≡ class.Request = ap (class_of kind) (eqb-true to v e) ∙ h.0.class in
        absurd (true≢false (rw same at other))
other_class_not_held x kind vs to (OpenTry catch ∷ os) (InTry at ∷ fs) other h = other_class_not_held x kind vs to os fs other h.2
other_class_not_held x kind vs to (OpenLoop inside past ∷ os) (InLoop at ∷ fs) other h = other_class_not_held x kind vs to os fs other h.3
other_class_not_held x kind vs to (OpenRepeat inside past ∷ os) (InRepeat count at ∷ fs) other h = other_class_not_held x kind vs to os fs other h.3
other_class_not_held x kind vs to (OpenIf o ∷ os) fs other h = other_class_not_held x kind vs to os fs other h
other_class_not_held x kind vs to (OpenElse past ∷ os) fs other h = other_class_not_held x kind vs to os fs other h
other_class_not_held x kind vs to (OpenCatch past ∷ os) fs other h = other_class_not_held x kind vs to os fs other h
other_class_not_held x kind vs to _ _ other h = absurd (false≢true h)

-- ---- a variable that an open `with` has

same_event : (b : Script) (v w : ℕ) (e : EventId) → v ≡ w → nat_abs (get_or b.variables w (pos 0)) ≡ e.0 → is_same (event_in b v) e ≡ true
same_event b v w e same held = eq-eqb _ _ (ap (λ (n : ℕ). nat_abs (get_or b.variables n (pos 0))) same ∙ held)

-- it holds one of the requests
pub held_is_open : (x : ScenarioOf) (kind : Kind) (b : Script) (v : ℕ) (os : List Open) (fs : List Frame)
    → is_held v os ≡ true → Framed x kind b.variables os fs → list_any (is_same (event_in b v)) (requests_in fs) ≡ true
held_is_open x kind b v [] [] some h = absurd (false≢true some)
held_is_open x kind b v (OpenWith w ∷ os) (InScope e ∷ fs) some h = by (v == w) refl some (λ rest. held_is_open x kind b v os fs rest h.1)
  where
    by : (t : Bool) → (v == w) ≡ t → (t || is_held v os) ≡ true
        → (is_held v os ≡ true → list_any (is_same (event_in b v)) (requests_in fs) ≡ true)
        → (is_same (event_in b v) e || list_any (is_same (event_in b v)) (requests_in fs)) ≡ true
    by true same some rest = or_left (is_same (event_in b v) e) _ (same_event b v w e (eqb-true v w same) h.0.held)
    by false other some rest = or_right (is_same (event_in b v) e) _ (rest some)
held_is_open x kind b v (OpenTry catch ∷ os) (InTry at ∷ fs) some h = held_is_open x kind b v os fs some h.2
held_is_open x kind b v (OpenLoop inside past ∷ os) (InLoop at ∷ fs) some h = held_is_open x kind b v os fs some h.3
held_is_open x kind b v (OpenRepeat inside past ∷ os) (InRepeat count at ∷ fs) some h = held_is_open x kind b v os fs some h.3
held_is_open x kind b v (OpenIf o ∷ os) fs some h = held_is_open x kind b v os fs some h
held_is_open x kind b v (OpenElse past ∷ os) fs some h = held_is_open x kind b v os fs some h
held_is_open x kind b v (OpenCatch past ∷ os) fs some h = held_is_open x kind b v os fs some h
held_is_open x kind b v _ _ some h = absurd (false≢true h)

-- ---- the requests, the outermost first

pub reverse_more : {X : Type 0} (x : X) (xs : List X) → reverse (x ∷ xs) ≡ reverse xs ++ x ∷ []
reverse_more x xs = reverse-append (x ∷ []) xs

or_swap : (a b : Bool) → (a || (b || false)) ≡ (b || a)
or_swap true true = refl
or_swap true false = refl
or_swap false true = refl
or_swap false false = refl

pub list_any-reverse : {X : Type 0} (p : X → Bool) (xs : List X) → list_any p (reverse xs) ≡ list_any p xs
list_any-reverse p [] = refl
list_any-reverse p (x ∷ xs) = rw (reverse_more x xs, list_any-append p (reverse xs) (x ∷ []), list_any-reverse p xs) (or_swap (list_any p xs) (p x))
