-- What a store into a variable does to the places of a script, and what the variables then hold.
use Rattle.std.proofs.Common.{◌≡◌, ℕ, zero, suc, ◌<◌, ◌≤◌, ℤ, pos, negsuc, Bool, true, false, List, [], ◌∷◌, length, refl, sym, ◌∙◌, arith, lit≤, Option, Some, None}
use Rattle.std.specs.Prelude.{◌==◌, slice_index_or, slice_set, if◌then◌else◌}
use Rattle.std.proofs.lemmas.Bool.{false≢true, and_parts, and_from, or_right, eqb-false}
use Rattle.std.proofs.lemmas.List.{get_or-set_same, get_or-set_other}
use Rattle.std.proofs.lemmas.Option.{unwrap_or-slice_get}
use Rattle.sim_types.specs.declared.event.EventId.{EventId}
use Rattle.sim_types.specs.declared.event.Signal.{Signal}
use Rattle.sim_types.specs.declared.event.Signal.TheVariants as signal
use Rattle.sim_types.specs.declared.op.Op.{Op}
use Rattle.sim_types.specs.declared.op.Op.TheVariants as op
use Rattle.sim_types.specs.declared.setup.Class.{Class}
use Rattle.sim_types.specs.declared.setup.Class.TheVariants as class
use Rattle.sim_types.specs.declared.script.Kind.{Kind}
use Rattle.sim_machine.specs.Tellings.{Place, is_class}
use Rattle.sim_machine.specs.BodyLaw.{makes_class, places_kept, changed_places, may_start}
use Rattle.sim_machine_law.proofs.Events.EventLaws.{is_same-self}
use Rattle.sim_language.specs.FittingStatements.{class_of}
use Rattle.sim_script_model.specs.Scripts.{places_of}

-- ---- classes

-- the class of a variable stands in the kind's list
pub class_of-is : (kind : Kind) (v : ℕ) → class_of kind v ≡ slice_index_or kind.classes v class.Number
class_of-is kind v = unwrap_or-slice_get kind.classes v class.Number

pub own_class : (c : Class) → is_class c c ≡ true
own_class class.Number = refl
own_class class.Event = refl
own_class class.Cond = refl
own_class class.Proc = refl
own_class class.Request = refl
own_class class.Move = refl

-- two classes that are the same are one
pub same_class-is : (c d : Class) → is_class c d ≡ true → d ≡ c
same_class-is class.Number class.Number h = refl
same_class-is class.Event class.Event h = refl
same_class-is class.Cond class.Cond h = refl
same_class-is class.Proc class.Proc h = refl
same_class-is class.Request class.Request h = refl
same_class-is class.Move class.Move h = refl
same_class-is _ _ h = absurd (false≢true h)

-- a class that passes a test that numbers fail is no number
pub not_number : (test : Class → Bool) → test class.Number ≡ false → (c : Class) → test c ≡ true → is_class c class.Number ≡ false
not_number test fails class.Number h = absurd (false≢true (sym fails ∙ h))
not_number test fails _ h = refl

makes_no_number : (last : Option Op) → makes_class last class.Number ≡ false
makes_no_number None = refl
makes_no_number (Some (op.Timeout delay value)) = refl
makes_no_number (Some op.NewEvent) = refl
makes_no_number (Some (op.Spawn k args)) = refl
makes_no_number (Some (op.AllOf members)) = refl
makes_no_number (Some (op.AnyOf members)) = refl
makes_no_number (Some (op.Enter res priority preempts)) = refl
makes_no_number (Some (op.Put res amount priority)) = refl
makes_no_number (Some (op.Get res least greatest)) = refl
makes_no_number (Some _) = refl

-- the event that was made goes into no number
pub made_not_number : (last : Option Op) (c : Class) → makes_class last c ≡ true → is_class c class.Number ≡ false
made_not_number last = not_number (makes_class last) (makes_no_number last)

-- ---- as many variables as classes, and events are not negative

-- the same of all variables but the first
pub may_start-rest : (c : Class) (cs : List Class) (v : ℤ) (vs : List ℤ) → may_start (c ∷ cs) (v ∷ vs) ≡ true → may_start cs vs ≡ true
may_start-rest c cs (pos n) vs h = h
may_start-rest c cs (negsuc n) vs h = (and_parts (is_class c class.Number) _ h).1

pub may_start-length : (cs : List Class) (vs : List ℤ) → may_start cs vs ≡ true → length vs ≡ length cs
may_start-length [] [] h = refl
may_start-length [] (v ∷ vs) h = absurd (false≢true h)
may_start-length (c ∷ cs) [] h = absurd (false≢true h)
may_start-length (c ∷ cs) (v ∷ vs) h = omega (arith, may_start-length cs vs (may_start-rest c cs v vs h))

pub may_start-number : (cs : List Class) (vs : List ℤ) (at : ℕ) (v : ℤ) → slice_index_or cs at class.Number ≡ class.Number
    → may_start cs vs ≡ true → may_start cs (slice_set vs at v) ≡ true
may_start-number [] [] at v number h = refl
may_start-number [] (w ∷ vs) at v number h = absurd (false≢true h)
may_start-number (c ∷ cs) [] at v number h = absurd (false≢true h)
may_start-number (c ∷ cs) (w ∷ vs) zero (pos n) number h = may_start-rest c cs w vs h
may_start-number (c ∷ cs) (w ∷ vs) zero (negsuc n) number h = rw number (may_start-rest c cs w vs h)
may_start-number (c ∷ cs) (pos n ∷ vs) (suc at) v number h = may_start-number cs vs at v number h
may_start-number (c ∷ cs) (negsuc n ∷ vs) (suc at) v number h =
    let parts = and_parts (is_class c class.Number) (may_start cs vs) h in
    and_from (is_class c class.Number) _ parts.0 (may_start-number cs vs at v number parts.1)

pub may_start-event : (cs : List Class) (vs : List ℤ) (at n : ℕ) → may_start cs vs ≡ true → may_start cs (slice_set vs at (pos n)) ≡ true
may_start-event [] [] at n h = refl
may_start-event [] (w ∷ vs) at n h = absurd (false≢true h)
may_start-event (c ∷ cs) [] at n h = absurd (false≢true h)
may_start-event (c ∷ cs) (w ∷ vs) zero n h = may_start-rest c cs w vs h
may_start-event (c ∷ cs) (pos m ∷ vs) (suc at) n h = may_start-event cs vs at n h
may_start-event (c ∷ cs) (negsuc m ∷ vs) (suc at) n h =
    let parts = and_parts (is_class c class.Number) (may_start cs vs) h in
    and_from (is_class c class.Number) _ parts.0 (may_start-event cs vs at n parts.1)

-- ---- places

-- a number that is stored changes no place
pub places_of-number : (cs : List Class) (vs : List ℤ) (at : ℕ) (v : ℤ) → slice_index_or cs at class.Number ≡ class.Number
    → places_of cs (slice_set vs at v) ≡ places_of cs vs
places_of-number [] vs at v number = refl
places_of-number (c ∷ cs) [] at v number = refl
places_of-number (c ∷ cs) (w ∷ vs) zero v number = rw number refl
places_of-number (c ∷ cs) (w ∷ vs) (suc at) v number = rw (places_of-number cs vs at v number) refl

-- places that stay are kept
pub places_kept-same : (last : Option Op) (told : Signal) (ps : List Place) → places_kept last told ps ps ≡ true
places_kept-same last told [] = refl
places_kept-same last told (p ∷ ps) = rw (own_class p.class, is_same-self p.event) (places_kept-same last told ps)

pub changed_places-same : (ps : List Place) → changed_places ps ps ≡ 0
changed_places-same [] = refl
changed_places-same (p ∷ ps) = rw (is_same-self p.event) (changed_places-same ps)

-- an event that was made and is stored in a variable of its class keeps the places
pub places_kept-made : (last : Option Op) (e : EventId) (cs : List Class) (vs : List ℤ) (at : ℕ)
    → makes_class last (slice_index_or cs at class.Number) ≡ true
    → places_kept last (signal.Made e) (places_of cs vs) (places_of cs (slice_set vs at (pos e.0))) ≡ true
places_kept-made last e [] vs at made = refl
places_kept-made last e (c ∷ cs) [] at made = refl
places_kept-made last e (c ∷ cs) (w ∷ vs) zero made = rw (own_class c, made_not_number last c made, is_same-self e, made) (and_from _ _ (or_right _ true refl) (places_kept-same last (signal.Made e) (places_of cs vs)))
places_kept-made last e (c ∷ cs) (w ∷ vs) (suc at) made = rw (own_class c, is_same-self _) (places_kept-made last e cs vs at made)

one_at_most : (same : Bool) → (if same then 0 else 1) ≤ 1
one_at_most true = lit≤ tt
one_at_most false = lit≤ tt

-- a store changes one place at most
pub changed_places-stored : (cs : List Class) (vs : List ℤ) (at : ℕ) (v : ℤ) → changed_places (places_of cs vs) (places_of cs (slice_set vs at v)) ≤ 1
changed_places-stored [] vs at v = lit≤ tt
changed_places-stored (c ∷ cs) [] at v = lit≤ tt
changed_places-stored (c ∷ cs) (w ∷ vs) zero v = rw (changed_places-same (places_of cs vs)) (one_at_most _)
changed_places-stored (c ∷ cs) (w ∷ vs) (suc at) v = rw (is_same-self _) (changed_places-stored cs vs at v)

-- ---- reading

pub stored : (vs : List ℤ) (at : ℕ) (v d : ℤ) → at < length vs → slice_index_or (slice_set vs at v) at d ≡ v
stored vs at v d within = get_or-set_same vs at v d within

pub others_stay : (vs : List ℤ) (at other : ℕ) (v d : ℤ) → (other == at) ≡ false → slice_index_or (slice_set vs at v) other d ≡ slice_index_or vs other d
others_stay vs at other v d differ = get_or-set_other vs at other v d (eqb-false other at differ)
