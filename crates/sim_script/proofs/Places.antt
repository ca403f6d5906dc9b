-- The event in a place of a script.
use Rattle.std.proofs.Common.{◌≡◌, ◌≢◌, ℕ, zero, suc, ◌-◌, ◌<◌, ◌≤◌, ◌⊎◌, inl, inr, ℤ, pos, Bool, true, false, List, [], ◌∷◌, length, get_or, map, replicate, refl, sym, ◌∙◌, arith}
use Rattle.std.proofs.lemmas.Bool.{cases_lt}
use Rattle.std.proofs.lemmas.List.{get_or-append_right}
use Rattle.std.specs.Int.{bit_at}
use Rattle.std.specs.Prelude.{nat_abs, if◌then◌else◌, slice_index_or}
use Rattle.sim_types.specs.declared.event.EventId.{EventId}
use Rattle.sim_types.specs.declared.setup.Class.{Class}
use Rattle.sim_types.specs.declared.setup.Class.TheVariants as class
use Rattle.sim_machine.specs.Tellings.{Place, is_class}
use Rattle.sim_script_model.specs.Scripts.{places_of}
use Rattle.sim_script.specs.Kept.{variables_with, MarksNumbers}
use Rattle.sim_script.proofs.Marks.{marks_true, marks_false}

-- the event that a variable of this class holds
abbrev held_by : Class → ℤ → EventId
held_by c v = record { 0 = if is_class c class.Number then 0 else nat_abs v }

-- the event at a place, or event 0 past the last
abbrev event_at : List Class → List ℤ → ℕ → EventId
event_at cs vs at = slice_index_or (map (λ (p : Place). p.event) (places_of cs vs)) at (record { 0 = 0 })

none_held : (c : Class) → record { 0 = 0 } ≡ held_by c (pos 0)
none_held c = by (is_class c class.Number)
  where
    by : (b : Bool) → ◌≡◌ {A = EventId} (record { 0 = 0 }) (record { 0 = if b then 0 else 0 })
    by true = refl
    by false = refl

event_held : (cs : List Class) (vs : List ℤ) (at : ℕ) → event_at cs vs at ≡ held_by (get_or cs at class.Number) (get_or vs at (pos 0))
event_held [] vs at = refl
event_held (c ∷ cs) [] zero = none_held c
event_held (c ∷ cs) [] (suc at) = none_held (get_or cs at class.Number)
event_held (c ∷ cs) (v ∷ vs) zero = refl
event_held (c ∷ cs) (v ∷ vs) (suc at) = event_held cs vs at

-- the place of a number holds no event
number_holds_none : (cs : List Class) (vs : List ℤ) (at : ℕ) → is_class (get_or cs at class.Number) class.Number ≡ true
    → record { 0 = 0 } ≡ event_at cs vs at
number_holds_none cs vs at number = rw (event_held cs vs at, number) refl

-- any other place holds the event whose number stands in the variable
other_holds : (cs : List Class) (vs : List ℤ) (at : ℕ) → is_class (get_or cs at class.Number) class.Number ≡ false
    → (n : ℕ) → n ≡ nat_abs (get_or vs at (pos 0)) → record { 0 = n } ≡ event_at cs vs at
other_holds cs vs at other n is = rw (event_held cs vs at, other, is) refl

-- a place whose variable is 0 holds event 0, whichever class it has
zero_holds_none : (cs : List Class) (vs : List ℤ) (at : ℕ) → get_or vs at (pos 0) ≡ pos 0 → event_at cs vs at ≡ record { 0 = 0 }
zero_holds_none cs vs at is = rw (event_held cs vs at, is) (sym (none_held (get_or cs at class.Number)))

-- 0 stands in each variable past those that are kept
zero_past : (last : ℕ) (kept : List ℤ) (at : ℕ) → length kept ≤ at → get_or (variables_with last kept) at (pos 0) ≡ pos 0
zero_past last kept at past =
    get_or-append_right kept (replicate (63 - last) (pos 0)) (length kept) at (pos 0) refl past ∙ zeros (63 - last) (at - length kept)
  where
    zeros : (n i : ℕ) → get_or (replicate n (pos 0)) i (pos 0) ≡ pos 0
    zeros zero i = refl
    zeros (suc n) zero = refl
    zeros (suc n) (suc i) = zeros n i

-- and so no event is held there
pub none_past : (last : ℕ) (cs : List Class) (kept : List ℤ) (at : ℕ) → length kept ≤ at
    → event_at cs (variables_with last kept) at ≡ record { 0 = 0 }
none_past last cs kept at past = zero_holds_none cs (variables_with last kept) at (zero_past last kept at past)

-- ---- what the bits say, where those of the variables that are kept are marked

module _ (last : ℕ) (cs : List Class) (kept : List ℤ) (n bits at : ℕ) (long : length kept ≡ n) (marks : MarksNumbers n bits cs) where
  -- a variable whose bit is set holds no event: it is a number, or is not kept
  pub marked_holds_none : bit_at bits at ≡ 1 → record { 0 = 0 } ≡ event_at cs (variables_with last kept) at
  marked_holds_none one = by (cases_lt at n)
    where
      by : (at < n) ⊎ (n ≤ at) → record { 0 = 0 } ≡ event_at cs (variables_with last kept) at
      by (inl lt) = number_holds_none cs (variables_with last kept) at (marks_true _ _ (marks at lt) one)
      by (inr past) = sym (none_past last cs kept at (omega (arith, long, past)))

  -- any other holds the event whose number stands in it, which is 0 where it is not kept
  pub unmarked_holds : bit_at bits at ≢ 1
      → record { 0 = nat_abs (get_or (variables_with last kept) at (pos 0)) } ≡ event_at cs (variables_with last kept) at
  unmarked_holds other = by (cases_lt at n)
    where
      by : (at < n) ⊎ (n ≤ at) → record { 0 = nat_abs (get_or (variables_with last kept) at (pos 0)) } ≡ event_at cs (variables_with last kept) at
      by (inl lt) = other_holds cs (variables_with last kept) at (marks_false _ _ (marks at lt) other) _ refl
      by (inr past) =
          let beyond : length kept ≤ at = omega (arith, long, past) in
          rw (zero_past last kept at beyond) (sym (none_past last cs kept at beyond))
