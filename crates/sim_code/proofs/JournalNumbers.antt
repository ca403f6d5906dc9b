-- The numbers of a journal entry are as small as its shape says.
use Rattle.std.proofs.Common.{◌≡◌, refl, sym, ap, ◌∙◌, ℕ, ◌^◌, ◌<◌, ◌≤◌, Bool, true, false, List, [], ◌∷◌, length, get_or, ℤ, pos, negsuc, nat_abs, Option, Some, None, lit<, is_none, unwrap_or, nat_le, arith}
use Rattle.std.proofs.lemmas.Bool.{false≢true}
use Rattle.std.proofs.lemmas.Bool.Decides.{nat_tests}
use Rattle.std.proofs.lemmas.Option.{same_Some}
use Rattle.std.proofs.lemmas.List.Folds.{list_any_at}
use Rattle.std.specs.List.{list_any}
use Rattle.sim_language.specs.declared.form.Form.{Form}
use Rattle.sim_language.specs.declared.form.Form.TheVariants as form
use Rattle.sim_language.specs.declared.shape.Role.TheVariants.{Within, Names}
use Rattle.sim_language.specs.declared.form.Sort.TheVariants as sort
use Rattle.sim_language.specs.Lines.{Word}
use Rattle.sim_language.specs.Numbers.{between, signed, least, greatest}
use Rattle.sim_language.specs.Shapes.{Operand, Context, shape, fit, slot_of, any_literal}
use Rattle.sim_language.specs.AnywhereInText.{ProcessLines}
use Rattle.sim_language.specs.Sayings.{is_bad_number}
use Rattle.sim_language.specs.Said.{Fits}
use Rattle.sim_language.specs.Reads.{natural_of, with_arrival}
use Rattle.sim_language.specs.Statements.{literal_of, number_declared}
use Rattle.sim_language.specs.Places.{LineInText}
use Rattle.sim_types.specs.Scenarios.{ScenarioOf}
use Rattle.sim_types.specs.declared.setup.Arrival.{Arrival}
use Rattle.sim_code.specs.LineGroups.{add_of, is_of_entries}

within_low : (m : ℕ) (o : Option ℤ) → m < 2 ^ 63 → is_none (between (pos 0) (pos m) o) ≡ false → nat_abs (unwrap_or (between least greatest o) (pos 0)) ≤ m
within_low m None b h = absurd (cc)
within_low m (Some (negsuc n)) b h = absurd (cc)
within_low m (Some (pos n)) b h = by (nat_le n m) refl
  where
    by : (t : Bool) → nat_le n m ≡ t → nat_abs (unwrap_or (between least greatest (Some (pos n))) (pos 0)) ≤ m
    by true e =
        let l : n ≤ m = grind (arith, nat_tests) in
        let t : nat_le n 9223372036854775807 ≡ true = grind (arith, nat_tests) in
        rw t l
    by false e = let z : nat_le 0 n ≡ true = grind (arith, nat_tests) in absurd (false≢true (sym (rw (z, e) at h)))

none_at : {A : Type 0} (test : A → Bool) (xs : List A) (i : ℕ) (x : A) → i < length xs → x ≡ get_or xs i x → list_any test xs ≡ false → test x ≡ false
none_at test xs i x h e none = by (test x) refl
  where
    by : (b : Bool) → test x ≡ b → test x ≡ false
    by true t = absurd (false≢true (sym none ∙ list_any_at test xs i x h (ap test (sym e) ∙ t)))
    by false t = t

-- a good number of a place that takes those from 0 to m
natural_small : (m : ℕ) (w : Word) → m < 2 ^ 63 → is_bad_number (record { role = Within (pos 0) (pos m); word = w }) ≡ false → natural_of w ≤ m
natural_small m w b h = within_low m (signed w) b h

-- the second and the third operand of an entry, where it has its shape and its numbers are good
abbrev Small : List Operand → Type 0
Small slots = ((p : Operand) → p ≡ get_or slots 1 p → natural_of p.word ≤ 15) × ((n : Operand) → n ≡ get_or slots 2 n → natural_of n.word ≤ 65535)

-- the operands that these words are in an entry
abbrev entry_slots : (k p n port v : Word) → List Operand
entry_slots k p n port v =
    slot_of (Within (pos 0) (pos (2 ^ 62))) k
    ∷ slot_of (Within (pos 0) (pos 15)) p
    ∷ slot_of (Within (pos 0) (pos 65535)) n
    ∷ slot_of (Names sort.Port) port
    ∷ slot_of any_literal v ∷ []

small_by : (context : Context) (words : List Word) (slots : List Operand) → fit context [] (shape form.After) words ≡ Some slots
    → list_any is_bad_number slots ≡ false → Small slots
small_by context (k ∷ p ∷ n ∷ port ∷ v ∷ []) slots e h = (second, third)
  where
    is : entry_slots k p n port v ≡ slots
    is = same_Some _ slots e

    second : (q : Operand) → q ≡ get_or slots 1 q → natural_of q.word ≤ 15
    second q is_q =
        let r : q ≡ record { role = Within (pos 0) (pos 15); word = p } = is_q ∙ rw (← is) refl in
        rw r (natural_small 15 p (lit< tt) (rw r at (none_at is_bad_number slots 1 q (rw (← is) (lit< tt)) is_q h)))

    third : (q : Operand) → q ≡ get_or slots 2 q → natural_of q.word ≤ 65535
    third q is_q =
        let r : q ≡ record { role = Within (pos 0) (pos 65535); word = n } = is_q ∙ rw (← is) refl in
        rw r (natural_small 65535 n (lit< tt) (rw r at (none_at is_bad_number slots 2 q (rw (← is) (lit< tt)) is_q h)))
small_by context words slots e h = absurd (cc)

small : (f : Form) (slots : List Operand) → Fits f slots → f ≡ form.After → Small slots
small f slots fits e = small_by fits.context fits.words slots (rw e at fits.shape) fits.numbers

pub poster_small : (f : Form) (slots : List Operand) → Fits f slots → f ≡ form.After → (p : Operand) (r : ℕ) → p ≡ get_or slots 1 p
    → r ≡ natural_of p.word → r < 2 ^ 32
poster_small f slots fits e p r is_p is_r = omega (arith, (small f slots fits e).0 p is_p)

pub serial_small : (f : Form) (slots : List Operand) → Fits f slots → f ≡ form.After → (n : Operand) (r : ℕ) → n ≡ get_or slots 2 n
    → r ≡ natural_of n.word → r < 2 ^ 32
serial_small f slots fits e n r is_n is_r = omega (arith, (small f slots fits e).1 n is_n)

-- ---- what an entry adds

pub five_items : {A : Type 0} (xs : List A) (a b c d e : A) → 5 ≤ length xs → length xs < 6 → a ≡ get_or xs 0 a → b ≡ get_or xs 1 b
    → c ≡ get_or xs 2 c → d ≡ get_or xs 3 d → e ≡ get_or xs 4 e → xs ≡ a ∷ b ∷ c ∷ d ∷ e ∷ []
five_items (v ∷ w ∷ x ∷ y ∷ z ∷ []) a b c d e l h is_a is_b is_c is_d is_e = rw (is_a, is_b, is_c, is_d, is_e) refl
five_items (v ∷ w ∷ x ∷ y ∷ z ∷ u ∷ xs) a b c d e l h is_a is_b is_c is_d is_e = absurd (omega arith)
five_items (v ∷ w ∷ x ∷ y ∷ []) a b c d e l h is_a is_b is_c is_d is_e = absurd (omega arith)
five_items (v ∷ w ∷ x ∷ []) a b c d e l h is_a is_b is_c is_d is_e = absurd (omega arith)
five_items (v ∷ w ∷ []) a b c d e l h is_a is_b is_c is_d is_e = absurd (omega arith)
five_items (v ∷ []) a b c d e l h is_a is_b is_c is_d is_e = absurd (omega arith)
five_items [] a b c d e l h is_a is_b is_c is_d is_e = absurd (omega arith)

abbrev arrival_of : LineInText → (k p n port v : Operand) → Arrival
arrival_of place k p n port v = record {
  after = natural_of k.word;
  poster = natural_of p.word;
  serial = natural_of n.word;
  port = number_declared place.above.declared port.word;
  value = literal_of v.word;
}

pub arrival_added : (heads : ProcessLines) (place : LineInText) (f : Form) (slots : List Operand) (s : ScenarioOf)
    (k p n port v : Operand) (arrival : Arrival) → f ≡ form.After → slots ≡ k ∷ p ∷ n ∷ port ∷ v ∷ []
    → arrival ≡ arrival_of place k p n port v → with_arrival s arrival ≡ add_of is_of_entries heads place f slots s
arrival_added heads place f slots s k p n port v arrival is_after five is_arrival = rw (is_after, five, is_arrival) refl
