use Rattle.std.proofs.Common.{w64, ◌<◌, ◌&&◌, pos, sym, ap, ◌∙◌, length}
use Rattle.std.specs.Prelude.{int_lt}
use Rattle.std.proofs.lemmas.Int.{to_z-of_z}
use Rattle.sim_types.specs.declared.setup.Resource.{Resource}
use Rattle.sim_machine.specs.Attempts.{is_container}
use Rattle.sim_shared_law.proofs.Shown.ResourcePlaces.{declared_at, got_is, same_length}
use Rattle.sim_shared.proofs.shared.Shared.is_refused_amount.Goals as goal

pub returns-then-is_container : goal.returns-then-is_container
returns-then-is_container c =
    let x = c.index.result.now in
    let asked : c.args.res < length c.self.inside.setup.value = rw (← c.self.view_is) at c.requires.res in
    let within : c.args.res < length c.self.inside.resources.items = rw (same_length c.self.inside.resources.items c.self.inside.setup.value c.self.invariant.opened) asked in
    let there = got_is c.self.inside.resources.items c.args.res x within c.index.ensures in
    let same = declared_at c.self.inside.resources.items c.self.inside.setup.value c.args.res x c.self.invariant.opened there in
    let is = sym c.if-is_container.true ∙ (c.is_container.ensures ∙ ap (λ (r : Resource). is_container r.kind) same) in
    rw (← c.self.view_is) (ap (λ n. int_lt n (pos 1)) (to_z-of_z w64 c.args.amount c.ranges.amount) ∙ ap (λ b. b && int_lt c.args.amount (pos 1)) is)

pub returns-else-is_container : goal.returns-else-is_container
returns-else-is_container c =
    let x = c.index.result.now in
    let asked : c.args.res < length c.self.inside.setup.value = rw (← c.self.view_is) at c.requires.res in
    let within : c.args.res < length c.self.inside.resources.items = rw (same_length c.self.inside.resources.items c.self.inside.setup.value c.self.invariant.opened) asked in
    let there = got_is c.self.inside.resources.items c.args.res x within c.index.ensures in
    let same = declared_at c.self.inside.resources.items c.self.inside.setup.value c.args.res x c.self.invariant.opened there in
    let is = sym c.if-is_container.false ∙ (c.is_container.ensures ∙ ap (λ (r : Resource). is_container r.kind) same) in
    rw (← c.self.view_is) (c.if-is_container.false ∙ ap (λ b. b && int_lt c.args.amount (pos 1)) is)
