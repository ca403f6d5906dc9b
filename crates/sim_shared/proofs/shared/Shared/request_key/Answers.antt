use Rattle.std.proofs.Common.{w64, FitsSigned, rules, ◌<◌, ◌&&◌, not, sym, ap, ◌∙◌, length}
use Rattle.std.proofs.lemmas.Int.{to_z-of_z}
use Rattle.sim_types.specs.declared.setup.Resource.{Resource}
use Rattle.sim_machine.specs.Requests.{is_preemptive}
use Rattle.sim_machine.specs.Users.{resource_at}
use Rattle.sim_shared_law.proofs.Shown.ResourcePlaces.{declared_at, got_is, same_length}
use Rattle.sim_shared_law.proofs.Waiters.RequestsAndAmounts.{key_shown}
use Rattle.sim_shared.proofs.shared.Shared.request_key.Goals as goal

pub returns-then-is_preemptive : goal.returns-then-is_preemptive
returns-then-is_preemptive c = λ f shown.
    let x = c.index.result.now in
    let asked : c.args.res < length c.self.inside.setup.value = rw (← c.self.view_is) at c.requires.res in
    let within : c.args.res < length c.self.inside.resources.items = rw (same_length c.self.inside.resources.items c.self.inside.setup.value c.self.invariant.opened) asked in
    let there = got_is c.self.inside.resources.items c.args.res x within c.index.ensures in
    let kind = (resource_at c.self.inside.setup.value c.args.res).kind in
    let same = declared_at c.self.inside.resources.items c.self.inside.setup.value c.args.res x c.self.invariant.opened there in
    let is = sym c.if-is_preemptive.true ∙ (c.is_preemptive.ensures ∙ ap (λ (r : Resource). is_preemptive r.kind) same) in
    let fits : FitsSigned w64 c.now.result = search rules in
    let h = rw (← c.self.view_is) at shown in
    rw (← c.self.view_is) (key_shown _ f kind c.args.priority _ _ c.now.result c.args.preempts (not c.args.preempts)
    (to_z-of_z w64 c.args.priority c.ranges.priority) (to_z-of_z w64 c.now.result fits) c.now.ensures (ap (λ b. b && not c.args.preempts) is) h)

pub returns-else-is_preemptive : goal.returns-else-is_preemptive
returns-else-is_preemptive c = λ f shown.
    let x = c.index.result.now in
    let asked : c.args.res < length c.self.inside.setup.value = rw (← c.self.view_is) at c.requires.res in
    let within : c.args.res < length c.self.inside.resources.items = rw (same_length c.self.inside.resources.items c.self.inside.setup.value c.self.invariant.opened) asked in
    let there = got_is c.self.inside.resources.items c.args.res x within c.index.ensures in
    let kind = (resource_at c.self.inside.setup.value c.args.res).kind in
    let same = declared_at c.self.inside.resources.items c.self.inside.setup.value c.args.res x c.self.invariant.opened there in
    let is = sym c.if-is_preemptive.false ∙ (c.is_preemptive.ensures ∙ ap (λ (r : Resource). is_preemptive r.kind) same) in
    let fits : FitsSigned w64 c.now.result = search rules in
    let h = rw (← c.self.view_is) at shown in
    rw (← c.self.view_is) (key_shown _ f kind c.args.priority _ _ c.now.result c.args.preempts (c.is_preemptive.result)
    (to_z-of_z w64 c.args.priority c.ranges.priority) (to_z-of_z w64 c.now.result fits) c.now.ensures (c.if-is_preemptive.false ∙ ap (λ b. b && not c.args.preempts) is) h)
