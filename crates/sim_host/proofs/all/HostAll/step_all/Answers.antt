use Rattle.std.proofs.Common.{◌≡◌, ◌≤◌, length, vec_capacity, sym, subst, arith}
use Rattle.std.proofs.lemmas.List.Elements.{length_all_zip}
use Rattle.sim_host.specs.Hosting.{IsStep}
use Rattle.sim_host.specs.HostedTogether.{HasRoom}
use Rattle.sim_host.proofs.Stepping.{still_hosted}
use Rattle.sim_host.proofs.all.HostAll.step_all.Goals as goal

pub returns-in-Ok-false-clause-can_poll : goal.returns-in-Ok-false-clause-can_poll
returns-in-Ok-false-clause-can_poll c =
    let s = c.args.self.now.scenario.now in
    let old = c.args.self.now.runs.now in
    let new = c.step_each.new.runs in
    let same : length old ≡ length new = length_all_zip (IsStep s) old new c.in-Ok-false.ensures.stepped in
    let had : length old ≤ vec_capacity c.in-Some.room = subst (HasRoom (length old)) (sym c.in-Some.ensures.value) c.requires.room in
    let kept : vec_capacity c.step_each.new.room ≡ vec_capacity c.in-Some.room = c.in-Ok-false.ensures.room in
    record { hosted = still_hosted s old new c.in-Ok-false.ensures.stepped; room = omega (arith, same, had, kept) }
