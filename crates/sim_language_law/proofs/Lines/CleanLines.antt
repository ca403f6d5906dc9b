-- A line of a faultless text, with all that it is not, fact by fact.
--     clean_line      of a line that says a form and is not faulty
use Rattle.std.specs.Prelude.{◌≡◌, Bool, false, ◌&&◌, nat_lt, List, [], ◌∷◌}
use Rattle.std.specs.List.{list_any, AllByRecursion}
use Rattle.std.proofs.Common.{subst}
use Rattle.std.proofs.lemmas.Bool.{or_parts}
use Rattle.sim_language.specs.declared.form.Form.{Form}
use Rattle.sim_language.specs.Forms.{declares_sort}
use Rattle.sim_language.specs.Shapes.{Operand, shape}
use Rattle.sim_language.specs.AnywhereInText.{WholeText}
use Rattle.sim_language.specs.Sayings.{is_bad_number, is_bad_name}
use Rattle.sim_language.specs.Said.{Fits}
use Rattle.sim_language.specs.Places.{LineInText}
use Rattle.sim_language.specs.NameFaults.{declares_again, repeats_parameter, hides_event, gives_again, names_unknown, names_other, not_taken, arguments_wrong}
use Rattle.sim_language.specs.OrderFaults.{misplaced, bad_order}
use Rattle.sim_language.specs.LimitFaults.{sort_is_full, form_is_full, gives_too_many}
use Rattle.sim_language.specs.VariableFaults.{is_variable, clashes, is_unset}
use Rattle.sim_language_law.proofs.Lines.Faultless.{Faultless}
use Rattle.sim_language_law.proofs.Operands.ByShape.{Rule, by_shape}

-- none of a list passes the test
pub none_of : {X : Type 0} (test : X → Bool) (xs : List X) → list_any test xs ≡ false → AllByRecursion (λ x. test x ≡ false) xs
none_of test [] h = tt
none_of test (x ∷ xs) h = let parts = or_parts (test x) (list_any test xs) h in (parts.0, none_of test xs parts.1)

-- an operand of a faultless line
pub record GoodSlot (whole : WholeText) (place : LineInText) (slot : Operand) : Type 0 where
  pub number : is_bad_number slot ≡ false
  pub name : is_bad_name whole.version slot ≡ false
  pub known : names_unknown whole.heads place.above slot ≡ false
  pub sort : names_other whole.heads place.above slot ≡ false
  pub clash : (is_variable place.above slot && clashes place.variables slot) ≡ false
  pub unset : (is_variable place.above slot && is_unset place.variables slot) ≡ false

abbrev pub GoodSlots : WholeText → LineInText → List Operand → Type 0
GoodSlots whole place slots = AllByRecursion (GoodSlot whole place) slots

good_slots : (whole : WholeText) (place : LineInText) (slots : List Operand)
    → list_any is_bad_number slots ≡ false → list_any (is_bad_name whole.version) slots ≡ false
    → list_any (names_unknown whole.heads place.above) slots ≡ false → list_any (names_other whole.heads place.above) slots ≡ false
    → list_any (λ slot. is_variable place.above slot && clashes place.variables slot) slots ≡ false
    → list_any (λ slot. is_variable place.above slot && is_unset place.variables slot) slots ≡ false → GoodSlots whole place slots
good_slots whole place [] numbers names known sorts clash unset = tt
good_slots whole place (slot ∷ slots) numbers names known sorts clash unset =
    let n = or_parts (is_bad_number slot) _ numbers in
    let m = or_parts (is_bad_name whole.version slot) _ names in
    let k = or_parts (names_unknown whole.heads place.above slot) _ known in
    let s = or_parts (names_other whole.heads place.above slot) _ sorts in
    let c = or_parts (is_variable place.above slot && clashes place.variables slot) _ clash in
    let u = or_parts (is_variable place.above slot && is_unset place.variables slot) _ unset in
    (record { number = n.0; name = m.0; known = k.0; sort = s.0; clash = c.0; unset = u.0 }, good_slots whole place slots n.1 m.1 k.1 s.1 c.1 u.1)

-- the context in which the operands of a line have the shape of its form takes this from the text
pub record FitsAmong (whole : WholeText) (f : Form) (slots : List Operand) : Type 0 where
  pub fits : Fits f slots
  pub among : fits.context.whole ≡ whole

pub record CleanLine (whole : WholeText) (place : LineInText) (f : Form) (slots : List Operand) : Type 0 where
  pub fits : FitsAmong whole f slots
  pub good : GoodSlots whole place slots
  pub again : list_any (declares_again place.above) slots ≡ false
  pub repeats : repeats_parameter f slots ≡ false
  pub hides : hides_event place.above slots ≡ false
  pub taken : not_taken place.above f slots ≡ false
  pub arguments : arguments_wrong whole.heads f slots ≡ false
  pub placed : misplaced place.above f slots ≡ false
  pub number : nat_lt 65536 place.number ≡ false
  pub sorts : sort_is_full place.above (declares_sort f) ≡ false
  pub form : form_is_full place.above f slots ≡ false
  pub variables : gives_too_many place.variables slots ≡ false
  pub order : bad_order place.above f slots ≡ false

pub clean_line : (whole : WholeText) (place : LineInText) (f : Form) (slots : List Operand)
    → FitsAmong whole f slots → Faultless whole.heads place f slots → CleanLine whole place f slots
clean_line whole place f slots fits none =
    let d = or_parts _ (gives_again place.above f slots) none.duplicate in
    let e = or_parts _ (hides_event place.above slots) d.0 in
    let g = or_parts _ (repeats_parameter f slots) e.0 in
    let k = or_parts _ (arguments_wrong whole.heads f slots) none.kind in
    let l = or_parts _ (not_taken place.above f slots) k.0 in
    let m = or_parts _ (gives_too_many place.variables slots) none.many in
    let n = or_parts _ (form_is_full place.above f slots) m.0 in
    let names = subst (λ w. list_any (is_bad_name w.version) slots ≡ false) fits.among fits.fits.names in
    let o = or_parts (nat_lt 65536 place.number) (sort_is_full place.above (declares_sort f)) n.0 in
    record {
      fits = fits;
      good = good_slots whole place slots fits.fits.numbers names none.unknown l.0 none.clash none.unset;
      again = g.0;
      repeats = g.1;
      hides = e.1;
      taken = l.1;
      arguments = k.1;
      placed = none.misplaced;
      number = o.0;
      sorts = o.1;
      form = n.1;
      variables = m.1;
      order = none.order;
    }

-- what holds by the rule of the form holds of the line's operands
pub of_shape : (whole : WholeText) (place : LineInText) (f : Form) (slots : List Operand) (clean : CleanLine whole place f slots) (P : List Operand → Type 0)
    → Rule clean.fits.fits.context [] (shape f) P → P slots
of_shape whole place f slots clean P rule = by_shape clean.fits.fits.context [] (shape f) clean.fits.fits.words slots P clean.fits.fits.shape rule
