-- What the entries of a journal and of the posters have: ports that are there, and times that do not fall.
--     port_there, order_fits      so it is for operands that have the shape of the form
use Rattle.std.specs.Prelude.{◌≡◌, refl, ℕ, ◌≤◌, ◌^◌, true, false, nat_lt, nat_le, List, [], length, ℤ, pos, Option, Some, None, is_none}
use Rattle.std.specs.Int.Signed.{le_z}
use Rattle.std.proofs.Common.{arith, sym, ap, ◌∙◌, subst}
use Rattle.std.proofs.lemmas.Bool.{and_parts, lt-ltb}
use Rattle.sim_types.specs.Scenarios.{ScenarioOf}
use Rattle.sim_types.specs.declared.script.Stmt.{Stmt}
use Rattle.sim_language.specs.declared.form.Form.{Form}
use Rattle.sim_language.specs.declared.form.Form.TheVariants as form
use Rattle.sim_language.specs.declared.form.Sort.TheVariants as sort
use Rattle.sim_language.specs.declared.form.Meaning.{Meaning}
use Rattle.sim_language.specs.declared.shape.Role.TheVariants.{Names}
use Rattle.sim_language.specs.Lines.{Word}
use Rattle.sim_language.specs.Numbers.{literal, literal_within}
use Rattle.sim_language.specs.Named.{Named, value_of}
use Rattle.sim_language.specs.Shapes.{Context, shape}
use Rattle.sim_language.specs.AnywhereInText.{WholeText}
use Rattle.sim_language.specs.Sayings.{Says}
use Rattle.sim_language.specs.Places.{LineInText, after_then}
use Rattle.sim_language.specs.OrderFaults.{falls}
use Rattle.sim_language.specs.Statements.{literal_of, number_declared, statement}
use Rattle.sim_language.specs.Reads.{natural_of}
use Rattle.sim_language_law.proofs.Operands.ByShape.{Rule, rule_all}
use Rattle.sim_language_law.proofs.Operands.Literals.{literal_in, literal_is, pos_nat_abs, not_below}
use Rattle.sim_language_law.proofs.Lines.Additions.{Added, AnArrival, APost, by_statement, added}
use Rattle.sim_language_law.proofs.Lines.CleanLines.{GoodSlot, CleanLine}
use Rattle.sim_language_law.proofs.Names.DeclaredNames.{Declared}
use Rattle.sim_language_law.proofs.Names.GoodNames.{sort_is, declared_is}

-- ---- numbers of declared names

pub number_is : (ds : List (Named Meaning)) (w : Word) (d : Meaning) → value_of w ds ≡ Some d → number_declared ds w ≡ d.number
number_is ds w d h = rw h refl

-- ---- ports

abbrev pub PortThere : ℕ → Added → Type 0
PortThere n (AnArrival arrival) = nat_lt arrival.port n ≡ true
PortThere n (APost post) = nat_lt post.port n ≡ true
PortThere n a = Unit {0}

there_by_statement : (n : ℕ) (o : Option Stmt) → PortThere n (by_statement o)
there_by_statement n None = tt
there_by_statement n (Some statement) = tt

port_number : (whole : WholeText) (place : LineInText) (w : Word) (s : ScenarioOf) (n : ℕ) → GoodSlot whole place (record { role = Names sort.Port; word = w })
    → Declared place.above.declared s → length s.setup.ports ≤ n → nat_lt (number_declared place.above.declared w) n ≡ true
port_number whole place w s n good h fits =
    let found = declared_is whole.heads place.above.declared sort.Port w refl (sort_is whole place sort.Port w good) in
    let few = h.numbers w found.0 sort.Port found.1 found.2 in
    let all = h.sizes sort.Port in
    rw (number_is place.above.declared w found.0 found.1) (lt-ltb found.0.number n (omega arith))

module _ (context : Context) (whole : WholeText) (place : LineInText) where
  -- the port of an entry is one of n, where the lines above declare no more
  pub port_there : (s : ScenarioOf) (n : ℕ) (f : Form)
      → Rule context [] (shape f) (λ slots. CleanLine whole place f slots → Declared place.above.declared s → length s.setup.ports ≤ n
      → PortThere n (added whole.heads place f slots))
  port_there s n form.UntilTime = λ t clean h fits. tt
  port_there s n form.UntilEvent = λ e m clean h fits. tt
  port_there s n form.Seed = λ t clean h fits. tt
  port_there s n form.Resource = λ r c clean h fits. tt
  port_there s n form.Priority = λ r c clean h fits. tt
  port_there s n form.Preemptive = λ r c clean h fits. tt
  port_there s n form.Container = λ r c o clean h fits. tt
  port_there s n form.Store = λ r c clean h fits. tt
  port_there s n form.PStore = λ r c clean h fits. tt
  port_there s n form.FStore = λ r c clean h fits. tt
  port_there s n form.Event = λ e clean h fits. tt
  port_there s n form.Port = λ p k clean h fits. tt
  port_there s n form.Process = λ p ps clean h fits. tt
  port_there s n form.Start = λ p args clean h fits. tt
  port_there s n form.After = λ k p m port v clean h fits. port_number whole place port s n clean.good.1.1.1.0 h fits
  port_there s n form.Poster = λ p clean h fits. tt
  port_there s n form.Post = λ port v clean h fits. port_number whole place port s n clean.good.0 h fits
  port_there s n f = rule_all context [] (shape f) (λ slots. CleanLine whole place f slots → Declared place.above.declared s → length s.setup.ports ≤ n → PortThere n (added whole.heads place f slots)) (λ slots clean h fits. there_by_statement n (statement whole.heads place f slots))

-- ---- the order of a journal

-- a journal entry tells its time, and falls not behind the one above it; another line leaves the time as it is
abbrev pub OrderFits : Option ℤ → Option ℤ → Added → Type 0
OrderFits last next (AnArrival arrival) = (next ≡ Some (pos arrival.after)) × ((m : ℕ) → last ≡ Some (pos m) → nat_le m arrival.after ≡ true)
OrderFits last next a = next ≡ last

order_by_statement : (last : Option ℤ) (o : Option Stmt) → OrderFits last last (by_statement o)
order_by_statement last None = refl
order_by_statement last (Some statement) = refl

order_after : (last : Option ℤ) (w : Word) → is_none (literal_within (pos 0) (pos (2 ^ 62)) w) ≡ false
    → falls last (literal w) ≡ false
    → (literal w ≡ Some (pos (natural_of w))) × ((m : ℕ) → last ≡ Some (pos m) → nat_le m (natural_of w) ≡ true)
order_after last w some order =
    let parts = and_parts (le_z (pos 0) (literal_of w)) (le_z (literal_of w) (pos (2 ^ 62))) (literal_in (pos 0) (pos (2 ^ 62)) w refl refl some) in
    let is : literal w ≡ Some (pos (natural_of w)) = literal_is (pos 0) (pos (2 ^ 62)) w refl refl some ∙ ap Some (sym (pos_nat_abs (literal_of w) parts.0)) in
    (is, λ m e. not_below m (natural_of w) (subst (λ o. falls o (Some (pos (natural_of w))) ≡ false) e (subst (λ o. falls last o ≡ false) is order)))

pub order_fits : (context : Context) (whole : WholeText) (place : LineInText) (f : Form)
    → Rule context [] (shape f) (λ slots. CleanLine whole place f slots
    → OrderFits place.above.after (after_then (Says f slots) place.above.after) (added whole.heads place f slots))
order_fits context whole place form.UntilTime = λ t clean. refl
order_fits context whole place form.UntilEvent = λ e n clean. refl
order_fits context whole place form.Seed = λ n clean. refl
order_fits context whole place form.Resource = λ n c clean. refl
order_fits context whole place form.Priority = λ n c clean. refl
order_fits context whole place form.Preemptive = λ n c clean. refl
order_fits context whole place form.Container = λ n c o clean. refl
order_fits context whole place form.Store = λ n c clean. refl
order_fits context whole place form.PStore = λ n c clean. refl
order_fits context whole place form.FStore = λ n c clean. refl
order_fits context whole place form.Event = λ n clean. refl
order_fits context whole place form.Port = λ n p clean. refl
order_fits context whole place form.Process = λ n ws clean. refl
order_fits context whole place form.Start = λ p args clean. refl
order_fits context whole place form.After = λ k p n port v clean. order_after place.above.after k clean.good.0.number clean.order
order_fits context whole place form.Poster = λ n clean. refl
order_fits context whole place form.Post = λ port v clean. refl
order_fits context whole place f = rule_all context [] (shape f) (λ slots. CleanLine whole place f slots → OrderFits place.above.after (after_then (Says f slots) place.above.after) (added whole.heads place f slots)) (λ slots clean. order_by_statement place.above.after (statement whole.heads place f slots))
