use Rattle.std.proofs.Common.{rules, ◌≡◌, ◌<◌, ◌+◌, ◌∙◌, length, get_or, pos, sym, ap, subst, refl, arith, to_z, of_z, w64}
use Rattle.sim_types.specs.declared.setup.Arrival.{Arrival}
use Rattle.sim_machine.specs.Units.{arrive}
use Rattle.sim_steps_model.specs.PartsOf.{plan_of}
use Rattle.sim_script_law.specs.ScriptMembers.{script_body}
use Rattle.sim_engine.specs.Sessions.{IsAt}
use Rattle.sim_engine.specs.declared.runs.Next.TheVariants as next
use Rattle.sim_host.specs.Hosting.{HostedOf, IsHosted, course_in, next_in}
use Rattle.sim_host.proofs.HostedRuns.{entry_left, entry_is, entry_port, arrived_one}
use Rattle.sim_host.proofs.hosted.Hosted.arrive.Goals as goal

pub arrive-requires-clause-port : goal.arrive-requires-clause-port
arrive-requires-clause-port c =
    let s = c.args.scenario.now in
    let old : HostedOf = record { session = c.self.inside.session; arrived = c.self.inside.arrived } in
    let h = subst (IsHosted s) (sym c.self.view_is) c.requires.hosted in
    let comes = subst (λ x. (a : Arrival) × (next_in s x ≡ next.Arrival a)) (sym c.self.view_is) c.requires.next in
    let there = ap (λ j. get_or j old.arrived (record { after = 0; poster = 0; serial = 0; port = 0; value = pos 0 })) c.journal.ensures.journal ∙ entry_is s old h comes.0 _ comes.1 in
    subst (λ (a : Arrival). a.port < length old.session.parts.setup.ports) (sym there) (entry_port s old h comes.0 comes.1 c.journal.ensures.well_formed)

pub overflow_add-self : goal.overflow_add-self
overflow_add-self c =
    let s = c.args.scenario.now in
    let old : HostedOf = record { session = c.self.inside.session; arrived = c.self.inside.arrived } in
    let h = subst (IsHosted s) (sym c.self.view_is) c.requires.hosted in
    let comes = subst (λ x. (a : Arrival) × (next_in s x ≡ next.Arrival a)) (sym c.self.view_is) c.requires.next in
    let below : old.arrived < length s.journal = entry_left s old h comes.0 comes.1 in
    let same : length c.journal.result.now ≡ length s.journal = ap length c.journal.ensures.journal in
    let few = c.journal.type_inv.0 in
    omega (arith, below, same, few)

pub returns-in-Ok-clause-hosted : goal.returns-in-Ok-clause-hosted
returns-in-Ok-clause-hosted c =
    let s = c.args.scenario.now in
    let old : HostedOf = record { session = c.self.inside.session; arrived = c.self.inside.arrived } in
    let new : HostedOf = record { session = c.arrive.new.self; arrived = c.self.inside.arrived + 1 } in
    let h = subst (IsHosted s) (sym c.self.view_is) c.requires.hosted in
    let comes = subst (λ x. (a : Arrival) × (next_in s x ≡ next.Arrival a)) (sym c.self.view_is) c.requires.next in
    let e = get_or c.journal.result.now old.arrived (record { after = 0; poster = 0; serial = 0; port = 0; value = pos 0 }) in
    let there : e ≡ comes.0 = ap (λ j. get_or j old.arrived (record { after = 0; poster = 0; serial = 0; port = 0; value = pos 0 })) c.journal.ensures.journal ∙ entry_is s old h comes.0 _ comes.1 in
    let made = c.in-Ok.ensures in
    let g = plan_of script_body old.session.parts in
    let t = (course_in s old).state in
    let units = c.units.ensures in
    let limit = c.limit.ensures in
    let within = h.within in
    let differ = c.if-units-limit.false in
    let below : old.session.units < old.session.limit = omega (arith, units, limit, within, differ) in
    let more : old.session.units < new.session.units = omega (arith, made.units below) in
    let same : to_z w64 (of_z w64 e.value) ≡ e.value = search rules in
    let at = subst (λ (a : Arrival). IsAt new.session (arrive g a.port a.value t)) there (subst (λ v. IsAt new.session (arrive g e.port v t)) same (made.arrives t h.stands.at more)) in
    arrived_one s old new h made.goes_on comes.0 comes.1 refl (made.units below) made.within (made.none_refused below) (made.settled t h.stands.at) at
