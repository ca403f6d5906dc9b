use Rattle.std.proofs.Common.{◌-◌, ◌/◌, ◌≤◌, ◌∙◌, ap, inr, refl, arith, rules, length, vec_capacity}
use Rattle.std.proofs.lemmas.List.Sums.{length-filter}
use Rattle.sim_index.specs.Entries.{entries_per_number, is_live}
use Rattle.sim_index.proofs.Keeping.{places_same, sound_with_room}
use Rattle.sim_index.proofs.index.Index.reserve.Goals as goal

-- ---- there is no memory for the entries

pub invariant_of-self : goal.invariant_of-self
invariant_of-self c =
    sound_with_room _ _ _ _ _ c.self.invariant _ (inr (c.reserve.ensures.items ∙ c.compact.ensures.items)) (omega arith)

pub returns-in_err-reserve-clause-places : goal.returns-in_err-reserve-clause-places
returns-in_err-reserve-clause-places c =
    rw (places_same _ _ _ _ _ c.self.invariant (inr (c.reserve.ensures.items ∙ c.compact.ensures.items)), ← c.self.view_is) refl

-- ---- there is, and the hints are as many

pub invariant_of-self-2 : goal.invariant_of-self-2
invariant_of-self-2 c =
    sound_with_room _ _ _ _ _ c.self.invariant _ (inr (c.reserve.ensures.items ∙ c.compact.ensures.items)) (omega arith)

pub returns-clause-ok : goal.returns-clause-ok
returns-clause-ok c =
    let room : c.args.more ≤ vec_capacity c.reserve.new.self / entries_per_number - c.self.inside.live = omega (arith, ap length c.compact.ensures.items, length-filter is_live c.self.inside.entries.items, c.self.invariant.counted, c.in_ok-reserve.ensures.ok) in
    search rules

pub returns-clause-places : goal.returns-clause-places
returns-clause-places c =
    rw (places_same _ _ _ _ _ c.self.invariant (inr (c.reserve.ensures.items ∙ c.compact.ensures.items)), ← c.self.view_is) refl
