-- What is measured of facilities at a resource is the same where the same is measured there.
use Rattle.std.proofs.Common.{◌≡◌, ◌⊎◌, inl, inr, ℕ, ◌<◌, ◌≤◌, List, length, get_or, Some, None, sym, ap, ◌∙◌, subst, slice_get, false, arith}
use Rattle.std.specs.Option.{option_map}
use Rattle.std.proofs.lemmas.Option.{same_Some, slice_get_cases}
use Rattle.sim_machine.specs.State.{Facilities}
use Rattle.sim_machine.specs.Measures.{measure_at}
use Rattle.sim_shared_model.specs.AnyShared.{SharedResource}
use Rattle.sim_shared_model.specs.Measuring.{measure_of, measured, is_one_of, ChangesOnlyAt}
use Rattle.sim_shared_model.specs.SharedOf.{SharedOf}
use Rattle.sim_shared_model.specs.ShowsAll.{ShowsAll}
use Rattle.sim_shared_law.proofs.Shown.ResourcePlaces.{same_length}
use Rattle.sim_shared_law.proofs.Shown.ShownMeasures.{measure_shown}

-- what is measured at a place is what the facilities have there
pub measured_shown : (h : SharedOf) (f : Facilities) (res : ℕ) → ShowsAll h f → res < length h.setup
    → measured res h ≡ Some (measure_at h.setup res f)
measured_shown h f res shown within =
    by (slice_get_cases h.resources res).1
  where
    by : ((x : SharedResource) × (res < length h.resources) × (slice_get h.resources res ≡ Some x) × (get_or h.resources res x ≡ x))
        ⊎ ((length h.resources ≤ res) × (slice_get h.resources res ≡ None)) → measured res h ≡ Some (measure_at h.setup res f)
    by (inl there) = ap (option_map measure_of) there.2 ∙ ap Some (measure_shown h f res there.0 there.2 shown)
    by (inr past) = absurd (omega (arith, past.0, within, same_length h.resources h.setup shown.opened))

pub measures_kept : (places : List ℕ) (h k : SharedOf) (f g : Facilities) (res : ℕ) → ShowsAll h f → ShowsAll k g → k.setup ≡ h.setup
    → ChangesOnlyAt places h k → res < length h.setup → is_one_of res places ≡ false → measure_at h.setup res g ≡ measure_at h.setup res f
measures_kept places h k f g res shows shown setup changes within other =
    let after : measured res k ≡ Some (measure_at h.setup res g) =
    subst (λ rs. measured res k ≡ Some (measure_at rs res g)) setup
    (measured_shown k g res shown (subst (λ rs. res < length rs) (sym setup) within)) in
    same_Some (measure_at h.setup res g) (measure_at h.setup res f)
    (sym after ∙ (changes.others res other ∙ measured_shown h f res shows within))
