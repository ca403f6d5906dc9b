-- The setups of the tests fit the bodies of the tests.
use Rattle.std.proofs.Common.{ℕ, zero, suc, ℤ, ◌<◌, ◌≤◌, arith, lit≤, refl, List, [], ◌∷◌, length, IsTrue}
use Rattle.std.specs.List.{AllPass}
use Rattle.std.proofs.lemmas.List.Elements.{All-nil}
use Rattle.sim_types.specs.declared.setup.Start.{Start}
use Rattle.sim_types.specs.declared.setup.Until.{Until}
use Rattle.sim_types.specs.declared.setup.Until.TheVariants as until
use Rattle.sim_machine.specs.Setups.{FitsCode, start_fits, until_fits, resource_fits, port_fits}
use Rattle.sim_plain.specs.PlainTurns.{plain_facts}
use Rattle.sim_bodies.specs.Travellers.{traveller_facts}
use Rattle.sim_bodies.proofs.FitsByTest.{fits_by}

-- a traveller of each kind is given two numbers
pub traveller_start_fits : (kind : ℕ) (first second : ℤ) → kind < 3 →
    IsTrue (start_fits traveller_facts (record { kind = kind; args = first ∷ second ∷ [] }))
traveller_start_fits zero first second h = refl
traveller_start_fits (suc zero) first second h = refl
traveller_start_fits (suc (suc zero)) first second h = refl
traveller_start_fits (suc (suc (suc kind))) first second h = absurd (omega (arith, h))

-- a setup with such starts
pub land_fits : (until : Until) (starts : List Start) → IsTrue (until_fits 0 until) → length starts ≤ 65536 → AllPass (start_fits traveller_facts) starts →
    FitsCode traveller_facts (record { until = until; events = 0; resources = []; ports = []; starts = starts })
land_fits until starts fits few pass =
    record {
      until = fits;
      events = refl;
      few_events = lit≤ tt;
      resources = refl;
      few_resources = lit≤ tt;
      capacities = All-nil (λ r. IsTrue (resource_fits r));
      few_ports = lit≤ tt;
      ports = All-nil (λ k. IsTrue (port_fits traveller_facts k));
      few_starts = few;
      starts = pass;
    }

-- a setup with one start and one port, by which travellers of kind 3 set out
pub land_with_port_fits : (start : Start) → IsTrue (start_fits traveller_facts start) →
    FitsCode traveller_facts (record { until = until.Never; events = 0; resources = []; ports = 3 ∷ []; starts = start ∷ [] })
land_with_port_fits start h = fits_by traveller_facts _ (rw h refl)

-- a setup with one clock
pub clock_start_fits :
    FitsCode (plain_facts ([] ∷ [])) (record { until = until.Never; events = 0; resources = []; ports = []; starts = record { kind = 0; args = [] } ∷ [] })
clock_start_fits = fits_by (plain_facts ([] ∷ [])) _ refl
