-- What a faultless line adds fits by itself: numbers in their ranges, names spelled.
--     fits_alone      so it is for operands that have the shape of the form
use Rattle.std.specs.Prelude.{◌≡◌, refl, ℕ, suc, ◌^◌, ◌-◌, ◌≤◌, true, false, not, nat_le, nat_lt, List, [], ◌∷◌, ◌++◌, map, length, take, replicate, pos, Option, Some, None, unwrap_or, is_none}
use Rattle.std.specs.Int.Signed.{le_z}
use Rattle.std.proofs.Common.{arith, ap, ◌∙◌, subst, lit≤}
use Rattle.std.proofs.lemmas.Bool.{and_parts, and_from, not-false, ltb-false as le-from_lt, le-leb, eq-eqb}
use Rattle.std.proofs.lemmas.Bool.Decides.{nat_tests}
use Rattle.std.proofs.lemmas.List.{length-map, length-take-le, length-append, length-replicate}
use Rattle.sim_types.specs.declared.setup.Class.{Class}
use Rattle.sim_types.specs.declared.setup.Class.TheVariants as class
use Rattle.sim_types.specs.declared.script.Stmt.{Stmt}
use Rattle.sim_language.specs.declared.form.Form.{Form}
use Rattle.sim_language.specs.declared.form.Form.TheVariants as form
use Rattle.sim_language.specs.declared.form.Version.{Version}
use Rattle.sim_language.specs.declared.shape.Role.TheVariants.{Declares, Parameter}
use Rattle.sim_language.specs.Lines.{Word}
use Rattle.sim_language.specs.Names.{is_spelled, is_name, is_reserved}
use Rattle.sim_language.specs.Numbers.{literal_within, greatest}
use Rattle.sim_language.specs.Named.{Named}
use Rattle.sim_language.specs.Parameters.{parameter_name, parameter_class}
use Rattle.sim_language.specs.Shapes.{Context, shape, slot_of, capacity}
use Rattle.sim_language.specs.AnywhereInText.{WholeText}
use Rattle.sim_language.specs.Variables.{given_by}
use Rattle.sim_language.specs.Places.{LineInText}
use Rattle.sim_language.specs.Statements.{literal_of, statement}
use Rattle.sim_language.specs.Reads.{natural_of, capacity_of, classes_of, kind_of}
use Rattle.sim_types.specs.Setups.{is_within, resource_fits}
use Rattle.sim_language.specs.WellFormed.{kind_fits}
use Rattle.sim_language_law.proofs.Operands.ByShape.{Rule, rule_all}
use Rattle.sim_language_law.proofs.Lines.Additions.{Added, TheSeed, AResource, APort, AKind, AnArrival, by_statement, added}
use Rattle.sim_language_law.proofs.Lines.CleanLines.{CleanLine}
use Rattle.sim_language_law.proofs.Operands.Literals.{le_z_trans, literal_in, capacity_in, capacity_most, natural_in}

-- ---- numbers

below : (n m : ℕ) → nat_le n m ≡ true → nat_lt n (suc m) ≡ true
below n m h = grind (arith, nat_tests)

-- a natural number of a range from 0 on
natural_to : (m : ℕ) (w : Word) → le_z (pos m) greatest ≡ true → is_none (literal_within (pos 0) (pos m) w) ≡ false → nat_le (natural_of w) m ≡ true
natural_to m w g h = natural_in m (literal_of w) (literal_in (pos 0) (pos m) w refl g h)

opening_in : (c o : Word) → is_none (capacity (pos (2 ^ 62)) c) ≡ false
    → is_none (literal_within (pos 0) (unwrap_or (capacity (pos (2 ^ 62)) c) greatest) o) ≡ false
    → is_within (pos 0) (capacity_of (pos (2 ^ 62)) c) (literal_of o) ≡ true
opening_in c o capacity_good opening_good =
    let e = capacity_most (pos (2 ^ 62)) greatest c refl capacity_good in
    let few = and_parts (le_z (pos 1) (capacity_of (pos (2 ^ 62)) c)) (le_z (capacity_of (pos (2 ^ 62)) c) (pos (2 ^ 62))) (capacity_in (pos (2 ^ 62)) c refl capacity_good) in
    literal_in (pos 0) (capacity_of (pos (2 ^ 62)) c) o refl (le_z_trans (capacity_of (pos (2 ^ 62)) c) (pos (2 ^ 62)) greatest few.1 refl) (subst (λ most. is_none (literal_within (pos 0) most o) ≡ false) e opening_good)

-- ---- kinds

-- a parameter
abbrev pub parameter_of : Word → Named Class
parameter_of w = record { name = parameter_name w; value = parameter_class w }

pub given_by_parameters : (ws : List Word) → given_by (map (slot_of Parameter) ws) ≡ map parameter_of ws
given_by_parameters [] = refl
given_by_parameters (w ∷ ws) = ap (λ rest. parameter_of w ∷ rest) (given_by_parameters ws)

pub length_parameters : (ws : List Word) → length (given_by (map (slot_of Parameter) ws)) ≡ length ws
length_parameters ws = ap length (given_by_parameters ws) ∙ length-map ws parameter_of

long_enough : (xs : List Class) (n m : ℕ) (c : Class) → n ≤ m → length (take n (xs ++ replicate m c)) ≡ n
long_enough xs n m c h = length-take-le n (xs ++ replicate m c) (omega (arith, length-append xs (replicate m c), length-replicate m c))

-- as many classes as there are numbers of variables, the first that of `val`
kind_fits_by : (params first : ℕ) (variables : List (Named Class)) → params ≤ 8
    → kind_fits (record { params = params; first = first; classes = classes_of variables }) ≡ true
kind_fits_by params first variables few =
    let as_many : length (classes_of variables) ≡ 64 = ap suc (long_enough (map (λ v. v.value) variables) 63 64 class.Number (lit≤ tt)) in
    and_from _ _ (and_from _ _ (le-leb params 8 few) (eq-eqb (length (classes_of variables)) 64 as_many)) refl

kind_fits_alone : (place : LineInText) (n : Word) (ws : List Word)
    → nat_lt 9 (length (slot_of Declares n ∷ map (slot_of Parameter) ws)) ≡ false
    → kind_fits (kind_of place (slot_of Declares n ∷ map (slot_of Parameter) ws)) ≡ true
kind_fits_alone place n ws few = kind_fits_by (length (given_by (map (slot_of Parameter) ws))) place.above.statements place.variables (rw length_parameters (as_few ws few))
  where
    as_few : (vs : List Word) → nat_lt 9 (suc (length (map (slot_of Parameter) vs))) ≡ false → length vs ≤ 8
    as_few vs h = omega (arith, length-map vs (slot_of Parameter), le-from_lt 9 (suc (length (map (slot_of Parameter) vs))) h)

-- ---- each form

abbrev pub FitsAlone : Added → Type 0
FitsAlone (TheSeed n) = nat_lt n (2 ^ 63) ≡ true
FitsAlone (AResource kind c o) = resource_fits (record { kind = kind; capacity = c; opening = o }) ≡ true
FitsAlone (APort name kind) = is_spelled name ≡ true
FitsAlone (AKind kind) = kind_fits kind ≡ true
FitsAlone (AnArrival a) = (nat_le a.after (2 ^ 62) ≡ true) × (nat_lt a.poster 16 ≡ true) × (nat_lt a.serial 65536 ≡ true)
FitsAlone a = Unit {0}

alone_by_statement : (o : Option Stmt) → FitsAlone (by_statement o)
alone_by_statement None = tt
alone_by_statement (Some statement) = tt

spelled : (version : Version) (w : Word) → not (is_name version w) ≡ false → is_spelled w ≡ true
spelled version w h = (and_parts (is_spelled w) (not (is_reserved version w)) (not-false (is_name version w) h)).0

pub fits_alone : (context : Context) (whole : WholeText) (place : LineInText) (f : Form)
    → Rule context [] (shape f) (λ slots. CleanLine whole place f slots → FitsAlone (added whole.heads place f slots))
fits_alone context whole place form.UntilTime = λ t clean. tt
fits_alone context whole place form.UntilEvent = λ e n clean. tt
fits_alone context whole place form.Seed = λ n clean. below (natural_of n) (2 ^ 63 - 1) (natural_to (2 ^ 63 - 1) n refl clean.good.0.number)
fits_alone context whole place form.Resource = λ n c clean. and_from _ _ (literal_in (pos 1) (pos (2 ^ 32 - 1)) c refl refl clean.good.1.0.number) refl
fits_alone context whole place form.Priority = λ n c clean. and_from _ _ (literal_in (pos 1) (pos (2 ^ 32 - 1)) c refl refl clean.good.1.0.number) refl
fits_alone context whole place form.Preemptive = λ n c clean. and_from _ _ (literal_in (pos 1) (pos (2 ^ 32 - 1)) c refl refl clean.good.1.0.number) refl
fits_alone context whole place form.Container = λ n c o clean. and_from _ _ (capacity_in (pos (2 ^ 62)) c refl clean.good.1.0.number) (opening_in c o clean.good.1.0.number clean.good.1.1.0.number)
fits_alone context whole place form.Store = λ n c clean. and_from _ _ (capacity_in (pos (2 ^ 32)) c refl clean.good.1.0.number) refl
fits_alone context whole place form.PStore = λ n c clean. and_from _ _ (capacity_in (pos (2 ^ 32)) c refl clean.good.1.0.number) refl
fits_alone context whole place form.FStore = λ n c clean. and_from _ _ (capacity_in (pos (2 ^ 32)) c refl clean.good.1.0.number) refl
fits_alone context whole place form.Event = λ n clean. tt
fits_alone context whole place form.Port = λ n p clean. spelled whole.version n clean.good.0.name
fits_alone context whole place form.Process = λ n ws clean. kind_fits_alone place n ws clean.form
fits_alone context whole place form.Start = λ p args clean. tt
fits_alone context whole place form.After = λ k p n port v clean. (natural_to (2 ^ 62) k refl clean.good.0.number, below (natural_of p) 15 (natural_to 15 p refl clean.good.1.0.number), below (natural_of n) 65535 (natural_to 65535 n refl clean.good.1.1.0.number))
fits_alone context whole place form.Poster = λ n clean. tt
fits_alone context whole place form.Post = λ port v clean. tt
fits_alone context whole place f = rule_all context [] (shape f) (λ slots. CleanLine whole place f slots → FitsAlone (added whole.heads place f slots)) (λ slots clean. alone_by_statement (statement whole.heads place f slots))
