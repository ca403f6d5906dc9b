-- The ports of a faultless text: each name of the scenario is declared as a port, by its number.
--     ports_named      so it is at the end of the lines
use Rattle.std.proofs.Common.{◌≡◌, refl, sym, ap, subst, ◌∙◌, ℕ, zero, suc, Bool, true, false, not, List, [], ◌∷◌, ◌++◌, length, Option, Some, None, slice_get, ◌⊎◌, inl, inr}
use Rattle.std.specs.List.{list_any}
use Rattle.std.proofs.lemmas.Bool.{true≢false, or_parts, not-false}
use Rattle.std.proofs.lemmas.Option.{none-some, same_Some}
use Rattle.sim_types.specs.Scenarios.{ScenarioOf}
use Rattle.sim_language.specs.declared.form.Form.{Form}
use Rattle.sim_language.specs.declared.form.Form.TheVariants as form
use Rattle.sim_language.specs.declared.form.Meaning.{Meaning}
use Rattle.sim_language.specs.declared.form.Sort.TheVariants as sort
use Rattle.sim_language.specs.declared.form.Version.{Version}
use Rattle.sim_language.specs.Lines.{Word}
use Rattle.sim_language.specs.Names.{is_name}
use Rattle.sim_language.specs.Named.{Named, value_of, is_named}
use Rattle.sim_language.specs.Forms.{declares_sort}
use Rattle.sim_language.specs.Shapes.{Operand}
use Rattle.sim_language.specs.AnywhereInText.{WholeText}
use Rattle.sim_language.specs.Sayings.{TextLine, Blank, Wrong, Says, is_bad_name}
use Rattle.sim_language.specs.Declarations.{count_of, declared, with_declared}
use Rattle.sim_language.specs.Places.{LineInText, places, above_of}
use Rattle.sim_language.specs.Faults.{first_fault}
use Rattle.sim_language.specs.Reads.{nothing_said, with_lines}
use Rattle.sim_types.specs.declared.fault.Fault.{Fault}
use Rattle.sim_language_law.proofs.Lines.Walking.{place_at, passed}
use Rattle.sim_language_law.proofs.Names.NamedLists.{value_of_behind, with_one_new, same_self, value_of_kept}
use Rattle.sim_language_law.proofs.Lines.CleanLines.{CleanLine, of_shape}
use Rattle.sim_language_law.proofs.Lines.LineByLine.{line, AllAmong, Passing, Steps, by_lines}
use Rattle.sim_language_law.proofs.Lines.Additions.{Added, APort, put_in, added}
use Rattle.sim_language_law.proofs.Lines.AdditionsByForm.{sort_added}
use Rattle.sim_language_law.proofs.Names.DeclaredNames.{Grown, grown_kept}
use Rattle.sim_language_law.proofs.Lines.LinesSoFar.{SoFar, so_far_nothing, so_far_quiet, so_far_line, told_line, grown_line}
use Rattle.std.specs.Prelude.{is_some}
use Rattle.sim_language.specs.NameFaults.{declares_again}

-- the i-th port
abbrev pub port_meaning : ℕ → Meaning
port_meaning i = record { form = form.Port; number = i }

pub record PortsNamed (version : Version) (ds : List (Named Meaning)) (names : List Word) : Type 0 where
  pub named : (i : ℕ) (w : Word) → slice_get names i ≡ Some w → value_of w ds ≡ Some (port_meaning i)
  pub good : (i : ℕ) (w : Word) → slice_get names i ≡ Some w → is_name version w ≡ true

none_named : (version : Version) → PortsNamed version [] []
none_named version = record { named = λ i w h. absurd (none-some w h); good = λ i w h. absurd (none-some w h) }

-- ---- a line of another form

port_form : (f : Form) → declares_sort f ≡ Some sort.Port → f ≡ form.Port
port_form form.Port h = refl
port_form f h = absurd cc

abbrev is_port : Form → Bool
is_port form.Port = true
is_port f = false

same_names : (f : Form) (a : Added) (s : ScenarioOf) → is_port f ≡ false → sort_added a ≡ declares_sort f → (put_in a s).port_names ≡ s.port_names
same_names f (APort name kind) s other h = absurd (true≢false (ap is_port (sym (port_form f (sym h))) ∙ other))
same_names f a s other h = refl

other_line : (version : Version) (f : Form) (a : Added) (ds es : List (Named Meaning)) (s : ScenarioOf) → is_port f ≡ false
    → sort_added a ≡ declares_sort f → Grown f (declares_sort f) ds es → PortsNamed version ds s.port_names
    → PortsNamed version es (put_in a s).port_names
other_line version f a ds es s other sorted grown h = rw (same_names f a s other sorted) (record {
  named = λ i w e. grown_kept f (declares_sort f) ds es w (port_meaning i) grown (h.named i w e);
  good = h.good;
})

-- ---- a port

-- the last of a list, and those before it
pushed : (ws : List Word) (v w : Word) (i : ℕ) → slice_get (ws ++ v ∷ []) i ≡ Some w → (slice_get ws i ≡ Some w) ⊎ ((i ≡ length ws) × (v ≡ w))
pushed [] v w zero h = inr (refl, same_Some v w h)
pushed [] v w (suc i) h = absurd (none-some w h)
pushed (u ∷ ws) v w zero h = inl h
pushed (u ∷ ws) v w (suc i) h = by (pushed ws v w i h)
  where
    by : (slice_get ws i ≡ Some w) ⊎ ((i ≡ length ws) × (v ≡ w)) → (slice_get ws i ≡ Some w) ⊎ ((suc i ≡ suc (length ws)) × (v ≡ w))
    by (inl old) = inl old
    by (inr new) = inr (ap suc new.0, new.1)

one_named : (n w : Word) (ds : List (Named Meaning)) (d : Meaning) → is_named n ds ≡ false → n ≡ w
    → value_of w (ds ++ record { name = n; value = d } ∷ []) ≡ Some d
one_named n w ds d new e = subst (λ v. value_of v (ds ++ record { name = n; value = d } ∷ []) ≡ Some d) e (by (value_of n ds) refl new)
  where
    by : (o : Option Meaning) → value_of n ds ≡ o → is_some o ≡ false → value_of n (ds ++ record { name = n; value = d } ∷ []) ≡ Some d
    by None f free = value_of_behind n ds (record { name = n; value = d } ∷ []) f ∙ (rw (same_self n) refl)
    by (Some c) f free = absurd (true≢false free)

old_named : (w : Word) (ds ms : List (Named Meaning)) (d : Meaning) → value_of w ds ≡ Some d → value_of w (ds ++ ms) ≡ Some d
old_named w ds ms d h = value_of_kept w ds ms d h

port_line : (version : Version) (n : Word) (ds : List (Named Meaning)) (names : List Word) (i : ℕ) → i ≡ length names → is_named n ds ≡ false
    → is_name version n ≡ true → PortsNamed version ds names
    → PortsNamed version (ds ++ record { name = n; value = port_meaning i } ∷ []) (names ++ n ∷ [])
port_line version n ds names i last new good h = record {
  named = λ j w e. named j w (pushed names n w j e);
  good = λ j w e. all_good j w (pushed names n w j e);
}
  where
    named : (j : ℕ) (w : Word) → (slice_get names j ≡ Some w) ⊎ ((j ≡ length names) × (n ≡ w))
        → value_of w (ds ++ record { name = n; value = port_meaning i } ∷ []) ≡ Some (port_meaning j)
    named j w (inl old) = old_named w ds _ (port_meaning j) (h.named j w old)
    named j w (inr one) = one_named n w ds (port_meaning i) new one.1 ∙ ap (λ k. Some (port_meaning k)) (last ∙ sym one.0)

    all_good : (j : ℕ) (w : Word) → (slice_get names j ≡ Some w) ⊎ ((j ≡ length names) × (n ≡ w)) → is_name version w ≡ true
    all_good j w (inl old) = h.good j w old
    all_good j w (inr one) = subst (λ v. is_name version v ≡ true) one.1 good

-- ---- the lines

module _ (whole : WholeText) (end : Option Fault) (final : ScenarioOf) where
  record PortsSoFar (n : ℕ) (above : List TextLine) (s : ScenarioOf) : Type 0 where
    so_far : SoFar final n above s
    ports : PortsNamed whole.version (declared above) s.port_names

  -- a port's line has its name and that of its process
  ports_behind : (n : ℕ) (above : List TextLine) (ws : List Word) (slots : List Operand) (below : List TextLine) (s : ScenarioOf)
      → CleanLine whole (place_at n above (line ws (Says form.Port slots)) below) form.Port slots → PortsSoFar n above s
      → PortsNamed whole.version (declared (line ws (Says form.Port slots) ∷ above))
      (put_in (added whole.heads (place_at n above (line ws (Says form.Port slots)) below) form.Port slots) s).port_names
  ports_behind n above ws slots below s clean q =
      of_shape whole (place_at n above (line ws (Says form.Port slots)) below) form.Port slots clean
      (λ more. list_any (declares_again (above_of above)) more ≡ false
      → list_any (is_bad_name whole.version) more ≡ false
      → PortsNamed whole.version (with_declared (declared above) form.Port (Some sort.Port) more)
      (put_in (added whole.heads (place_at n above (line ws (Says form.Port slots)) below) form.Port more) s).port_names)
      (λ name process again bad.
      let new = (or_parts (is_named name (declared above)) _ again).0 in
      let good = not-false (is_name whole.version name) (or_parts (not (is_name whole.version name)) _ bad).0 in
      let count = q.so_far.declared.sizes sort.Port in
      rw (with_one_new (declared above) (record { name = name; value = port_meaning (count_of sort.Port (declared above)) }) new)
      (port_line whole.version name (declared above) s.port_names (count_of sort.Port (declared above))
      (sym (q.so_far.alone.named ∙ count)) new good q.ports))
      clean.again (subst (λ w. list_any (is_bad_name w.version) slots ≡ false) clean.fits.among clean.fits.fits.names)

  says : (n : ℕ) (above : List TextLine) (ws : List Word) (f : Form) (slots : List Operand) (below : List TextLine) (s : ScenarioOf)
      → Passing whole end final n above ws f slots below s → PortsSoFar n above s
      → PortsNamed whole.version (declared (line ws (Says f slots) ∷ above))
      (put_in (added whole.heads (place_at n above (line ws (Says f slots)) below) f slots) s).port_names
  says n above ws form.Port slots below s passing q = ports_behind n above ws slots below s passing.clean q
  says n above ws f slots below s passing q =
      let place : LineInText = place_at n above (line ws (Says f slots)) below in
      other_line whole.version f (added whole.heads place f slots) (declared above) _ s refl (told_line whole place f slots passing.clean).sort
      (grown_line whole place f slots passing.clean) q.ports

  steps : Steps whole end final (λ n above below s. PortsSoFar n above s)
  steps = record {
    blank = λ n above ws below s q. record { so_far = so_far_quiet final n above ws Blank s tt q.so_far; ports = q.ports };
    wrong = λ n above ws kind below s q. record { so_far = so_far_quiet final n above ws (Wrong kind) s tt q.so_far; ports = q.ports };
    says = λ n above ws f slots below s passing q. record {
      so_far = so_far_line whole end final n above ws f slots below s passing q.so_far;
      ports = says n above ws f slots below s passing q;
    };
  }

  pub ports_named : (ls : List TextLine) → AllAmong whole ls → first_fault whole.heads (places 1 [] ls) end ≡ None
      → with_lines whole.heads nothing_said (places 1 [] ls) ≡ final → PortsNamed whole.version (declared (passed [] ls)) final.port_names
  ports_named ls among clean ahead =
      (by_lines whole end final (λ n above below s. PortsSoFar n above s) steps ls 1 [] nothing_said among clean ahead
      (record { so_far = so_far_nothing final; ports = none_named whole.version })).ports
