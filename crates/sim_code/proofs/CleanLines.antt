-- A line without faults is within the limits.
use Rattle.std.proofs.Common.{◌≡◌, refl, sym, ap, ◌∙◌, Bool, true, false, ◌||◌, List, [], ◌∷◌, ◌++◌, find, nat_lt, None}
use Rattle.std.proofs.lemmas.Bool.{false≢true}
use Rattle.std.proofs.lemmas.Option.{none-some}
use Rattle.sim_types.specs.declared.fault.FaultKind.{FaultKind}
use Rattle.sim_types.specs.declared.fault.FaultKind.TheVariants as fault
use Rattle.sim_language.specs.declared.form.Form.{Form}
use Rattle.sim_language.specs.Shapes.{Operand}
use Rattle.sim_language.specs.AnywhereInText.{ProcessLines}
use Rattle.sim_language.specs.Sayings as sayings
use Rattle.sim_language.specs.Sayings.{Saying}
use Rattle.sim_language.specs.Forms.{declares_sort}
use Rattle.sim_language.specs.Places.{LineInText}
use Rattle.sim_language.specs.LimitFaults.{form_is_full, sort_is_full, gives_too_many, too_many}
use Rattle.sim_language.specs.Faults.{applies, of_form, fault_at, fault_by}
use Rattle.sim_lines.specs.declared.line.Saying.TheVariants as what
use Rattle.sim_lines.specs.LineOf.{operands_of, without_operands}

none_found : (test : FaultKind → Bool) (kind : FaultKind) (behind : List FaultKind) → find test (kind ∷ behind) ≡ None
    → (test kind ≡ false) × (find test behind ≡ None)
none_found test kind behind none = by (test kind) refl
  where
    by : (b : Bool) → test kind ≡ b → (test kind ≡ false) × (find test behind ≡ None)
    by true t = absurd (none-some kind (sym none ∙ rw t refl))
    by false t = (t, rw t at none)

none_applies : (test : FaultKind → Bool) (before : List FaultKind) (kind : FaultKind) (behind : List FaultKind)
    → find test (before ++ kind ∷ behind) ≡ None → test kind ≡ false
none_applies test [] kind behind none = (none_found test kind behind none).0
none_applies test (first ∷ before) kind behind none = none_applies test before kind behind (none_found test first (before ++ kind ∷ behind) none).1

or_left : (a b : Bool) → (a || b) ≡ false → a ≡ false
or_left true b h = h
or_left false b h = refl

or_right : (a b : Bool) → (a || b) ≡ false → b ≡ false
or_right true b h = absurd (false≢true (sym h))
or_right false b h = h

-- the kinds that are tried in front of TooMany, and behind it
abbrev tried_before : List FaultKind
tried_before = fault.NotText ∷ fault.LineTooLong ∷ fault.BadHeader ∷ fault.UnknownWord ∷ fault.BadShape ∷ fault.BadNumber ∷ fault.BadName ∷ fault.Duplicate ∷ fault.UnknownName ∷ fault.WrongKind ∷ fault.Misplaced ∷ []

abbrev tried_behind : List FaultKind
tried_behind = fault.ClassClash ∷ fault.Unset ∷ fault.BadOrder ∷ []

module _ (heads : ProcessLines) (place : LineInText) (f : Form) where
  limits : (slots : List Operand) → place.line.saying ≡ sayings.Says f slots → fault_at heads place ≡ None → form_is_full place.above f slots ≡ false
  limits slots e clean = or_right (nat_lt 65536 place.number || sort_is_full place.above (declares_sort f)) (form_is_full place.above f slots) (or_left _ (gives_too_many place.variables slots) few)
    where
      none : fault_by (sayings.Says f slots) heads place ≡ None
      none = sym (ap (λ s. fault_by s heads place) e) ∙ clean

      few : too_many place f slots ≡ false
      few = sym (ap (of_form (too_many place)) e) ∙ none_applies (λ kind. applies kind heads place) tried_before fault.TooMany tried_behind none

  pub not_full : fault_at heads place ≡ None → what.Says f ≡ without_operands place.line.saying
      → form_is_full place.above f (operands_of place.line.saying) ≡ false
  not_full clean says = by place.line.saying refl
    where
      by : (s : Saying) → place.line.saying ≡ s → form_is_full place.above f (operands_of place.line.saying) ≡ false
      by sayings.Blank e = absurd (cc (says, ap without_operands e))
      by (sayings.Wrong kind) e = absurd (cc (says, ap without_operands e))
      by (sayings.Says g slots) e =
          let same : f ≡ g = cc (says, ap without_operands e) in
          ap (λ s. form_is_full place.above f (operands_of s)) e ∙ limits slots (e ∙ ap (λ h. sayings.Says h slots) (sym same)) clean
