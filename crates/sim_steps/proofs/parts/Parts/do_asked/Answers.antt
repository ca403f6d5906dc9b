use Rattle.std.proofs.Common.{[], ◌∷◌, rules, w64, FitsSigned, ◌∙◌, ap, refl, arith, true}
use Rattle.std.proofs.lemmas.Int.{to_z-of_z}
use Rattle.std.specs.Option.{option_to_list}
use Rattle.sim_types.specs.declared.event.Signal.TheVariants as signal
use Rattle.sim_types.specs.declared.op.Op.TheVariants as op
use Rattle.sim_steps_model.specs.declared.mode.Unit.TheVariants as unit
use Rattle.sim_steps_model.specs.Opening.{most_begun}
use Rattle.sim_steps_model.specs.PartsOf.{PartsOf}
use Rattle.sim_steps_model.specs.QuietUnits.{with_live}
use Rattle.sim_steps_model.specs.Touching.{touched_places}
use Rattle.sim_steps_law.proofs.Polls.AskedPlaces.{all_stand}
use Rattle.sim_steps_law.proofs.Kernels.Becoming.{becomes_told}
use Rattle.sim_shared_law.proofs.Shown.ShownMeasures.{nothing_changes}
use Rattle.sim_steps_law.proofs.Kernels.TouchedPlaces.{touched_after}
use Rattle.sim_steps_law.proofs.Ends.DroppableProcesses.{polled_droppable}
use Rattle.sim_steps_law.proofs.Ends.EndedProcesses.{ended_scopes, polled_open}
use Rattle.sim_steps_law.proofs.Scopes.HeldScopes.{releases_at}
use Rattle.sim_steps_law.proofs.Polls.Polls.{ReadsPlaces}
use Rattle.sim_steps_law.proofs.Polls.QuietPolls.{does_at_last, logs_at_last}
use Rattle.sim_steps_law.proofs.Polls.Naming.{first_cancelled, first_named, second_named, first_triggered}
use Rattle.sim_steps_law.proofs.Starts.SpawnedProcesses.{polled_time, spawned_can_begin, spawned_kept, spawned_none}
use Rattle.sim_steps_law.proofs.Resources.AskedResources.{polled_may, polled_moves_at, polled_requests_at, polled_within}
use Rattle.sim_steps_law.proofs.Scopes.AskedScopes.{entered_at, found_now, has_scope, polled_scopes}
use Rattle.sim_steps.proofs.parts.Parts.do_asked.Goals as goal

pub wait-requires-clause-kept : goal.wait-requires-clause-kept
wait-requires-clause-kept g c =
    first_named (g.B.LawfulBody.body.facts c.args.code.now) c.ask-made.new.self (op.Wait c.in-Wait.on) c.in-Wait.on [] refl
    (rw c.in-Wait.is at c.ask-made.ensures.names)

pub succeed-requires-clause-kept : goal.succeed-requires-clause-kept
succeed-requires-clause-kept g c =
    first_named (g.B.LawfulBody.body.facts c.args.code.now) c.ask-made.new.self (op.Succeed c.in-Succeed.triggered c.in-Succeed.value)
    c.in-Succeed.triggered [] refl (rw c.in-Succeed.is at c.ask-made.ensures.names)

pub succeed-requires-clause-not_cancelled : goal.succeed-requires-clause-not_cancelled
succeed-requires-clause-not_cancelled g c =
    first_triggered (g.B.LawfulBody.body.facts c.args.code.now) c.ask-made.new.self (op.Succeed c.in-Succeed.triggered c.in-Succeed.value)
    c.in-Succeed.triggered [] refl (rw c.in-Succeed.is at c.ask-made.ensures.names)

pub fail-requires-clause-kept : goal.fail-requires-clause-kept
fail-requires-clause-kept g c =
    first_named (g.B.LawfulBody.body.facts c.args.code.now) c.ask-made.new.self (op.Fail c.in-Fail.triggered c.in-Fail.value) c.in-Fail.triggered []
    refl (rw c.in-Fail.is at c.ask-made.ensures.names)

pub fail-requires-clause-not_cancelled : goal.fail-requires-clause-not_cancelled
fail-requires-clause-not_cancelled g c =
    first_triggered (g.B.LawfulBody.body.facts c.args.code.now) c.ask-made.new.self (op.Fail c.in-Fail.triggered c.in-Fail.value)
    c.in-Fail.triggered [] refl (rw c.in-Fail.is at c.ask-made.ensures.names)

pub chain-requires-clause-source : goal.chain-requires-clause-source
chain-requires-clause-source g c =
    first_named (g.B.LawfulBody.body.facts c.args.code.now) c.ask-made.new.self (op.Chain c.in-Chain.source c.in-Chain.other) c.in-Chain.source
    (c.in-Chain.other ∷ []) refl (rw c.in-Chain.is at c.ask-made.ensures.names)

pub chain-requires-clause-other : goal.chain-requires-clause-other
chain-requires-clause-other g c =
    second_named (g.B.LawfulBody.body.facts c.args.code.now) c.ask-made.new.self (op.Chain c.in-Chain.source c.in-Chain.other) c.in-Chain.source
    c.in-Chain.other [] refl (rw c.in-Chain.is at c.ask-made.ensures.names)

pub chain-requires-clause-not_cancelled : goal.chain-requires-clause-not_cancelled
chain-requires-clause-not_cancelled g c =
    first_triggered (g.B.LawfulBody.body.facts c.args.code.now) c.ask-made.new.self (op.Chain c.in-Chain.source c.in-Chain.other) c.in-Chain.other []
    refl (rw c.in-Chain.is at c.ask-made.ensures.names)

pub has-requires-clause-kept : goal.has-requires-clause-kept
has-requires-clause-kept g c =
    first_named (g.B.LawfulBody.body.facts c.args.code.now) c.ask-made.new.self (op.Has c.in-Has.condition c.in-Has.other) c.in-Has.condition
    (c.in-Has.other ∷ []) refl (rw c.in-Has.is at c.ask-made.ensures.names)

pub spawn-requires-clause-can : goal.spawn-requires-clause-can
spawn-requires-clause-can g c =
    let a = rw c.in-Spawn.is at c.ask-made.ensures.asked in
    let old = with_live a.before.live a.before.control c.args.self.now in
    rw c.requires.code (spawned_can_begin g.B.LawfulBody.body old c.ask-made.new.self c.args.event c.args.process a.before.told c.in-Spawn.kind
    c.in-Spawn.args a.before.stands c.requires.needed (rw (← c.requires.code) c.requires.fits) (g.B.LawfulBody.lawful old.code)
    (omega (arith, c.requires.events)) a.before.running a.last.asks (rw (← c.requires.code) (rw c.in-Spawn.is at c.ask-made.ensures.names)))

pub spawn-requires-clause-time : goal.spawn-requires-clause-time
spawn-requires-clause-time g c =
    let a = rw c.in-Spawn.is at c.ask-made.ensures.asked in
    let old = with_live a.before.live a.before.control c.args.self.now in
    polled_time g.B.LawfulBody.body old c.ask-made.new.self c.args.process a.before.told (op.Spawn c.in-Spawn.kind c.in-Spawn.args) a.before.stands
    a.last.asks

pub spawn-requires-clause-not_alive : goal.spawn-requires-clause-not_alive
spawn-requires-clause-not_alive g c =
    let a = rw c.in-Spawn.is at c.ask-made.ensures.asked in
    let old = with_live a.before.live a.before.control c.args.self.now in
    spawned_none g.B.LawfulBody.body old c.ask-made.new.self c.args.process a.before.told (op.Spawn c.in-Spawn.kind c.in-Spawn.args) a.before.stands
    a.last.asks

pub finish-requires-clause-alive : goal.finish-requires-clause-alive
finish-requires-clause-alive g c =
    let a = rw c.in-Finish.is at c.ask-made.ensures.asked in
    let old = with_live a.before.live a.before.control c.args.self.now in
    ended_scopes g.B.LawfulBody.body old c.ask-made.new.self c.args.process a.before.told (op.Finish c.in-Finish.value) c.args.event
    (λ own places scopes h. h) (g.B.LawfulBody.lawful old.code) a.before.stands (omega (arith, c.requires.events)) a.before.running a.last.asks

pub finish-requires-clause-is_open : goal.finish-requires-clause-is_open
finish-requires-clause-is_open g c =
    let a = rw c.in-Finish.is at c.ask-made.ensures.asked in
    let old = with_live a.before.live a.before.control c.args.self.now in
    polled_open g.B.LawfulBody.body old c.ask-made.new.self c.args.process a.before.told _ a.before.stands c.requires.needed a.last.asks

pub die-requires-clause-alive : goal.die-requires-clause-alive
die-requires-clause-alive g c =
    let a = rw c.in-Die.is at c.ask-made.ensures.asked in
    let old = with_live a.before.live a.before.control c.args.self.now in
    ended_scopes g.B.LawfulBody.body old c.ask-made.new.self c.args.process a.before.told (op.Die c.in-Die.what) c.args.event
    (λ own places scopes h. h) (g.B.LawfulBody.lawful old.code) a.before.stands (omega (arith, c.requires.events)) a.before.running a.last.asks

pub die-requires-clause-is_open : goal.die-requires-clause-is_open
die-requires-clause-is_open g c =
    let a = rw c.in-Die.is at c.ask-made.ensures.asked in
    let old = with_live a.before.live a.before.control c.args.self.now in
    polled_open g.B.LawfulBody.body old c.ask-made.new.self c.args.process a.before.told _ a.before.stands c.requires.needed a.last.asks

pub returns-in-Nop-clause-does : goal.returns-in-Nop-clause-does
returns-in-Nop-clause-does g c =
    does_at_last g.B.LawfulBody.body c.args.event c.args.process _ _ c.args.self.now c.ask-made.new.self _ 0 op.Nop unit.Quiet
    (rw c.in-Nop.is at c.ask-made.ensures.asked) refl (omega arith) (rw c.tell_done.ensures (becomes_told signal.Done c.ask-made.new.self))

pub returns-in-Log-clause-does : goal.returns-in-Log-clause-does
returns-in-Log-clause-does g c =
    let value : FitsSigned w64 c.in-Log.value = search rules in
    let time : FitsSigned w64 c.now-time.result = search rules in
    let now = to_z-of_z w64 c.now-time.result time ∙ (c.now-time.ensures ∙ ap (λ h. h.time) c.happen.ensures ∙ ap
    (λ (v : PartsOf g.row.B.Denot g.row.B-Code.Denot). v.shared.happen.time) c.self.view_is) in
    logs_at_last g.B.LawfulBody.body c.args.event c.args.process _ _ c.args.self.now c.ask-made.new.self c.tell_done-in-Log.new.self c.in-Log.value _ _
    (rw c.in-Log.is at c.ask-made.ensures.asked) now (to_z-of_z w64 c.in-Log.value value) c.tell_done-in-Log.ensures

pub returns-in-Draw-clause-does : goal.returns-in-Draw-clause-does
returns-in-Draw-clause-does g c =
    let lo : FitsSigned w64 c.in-Draw.lo = search rules in
    let hi : FitsSigned w64 c.in-Draw.hi = search rules in
    does_at_last g.B.LawfulBody.body c.args.event c.args.process _ _ c.args.self.now c.ask-made.new.self _ 0 (op.Draw c.in-Draw.lo c.in-Draw.hi)
    unit.Quiet (rw c.in-Draw.is at c.ask-made.ensures.asked) refl (omega arith)
    (rw (to_z-of_z w64 c.in-Draw.lo lo, to_z-of_z w64 c.in-Draw.hi hi) at c.draw.ensures.becomes)

pub returns-in-Pause-clause-does : goal.returns-in-Pause-clause-does
returns-in-Pause-clause-does g c =
    let delay : FitsSigned w64 c.in-Pause.delay = search rules in
    let value : FitsSigned w64 c.in-Pause.value = search rules in
    does_at_last g.B.LawfulBody.body c.args.event c.args.process _ _ c.args.self.now c.ask-made.new.self _ 1
    (op.Pause c.in-Pause.delay c.in-Pause.value) unit.Quiet (rw c.in-Pause.is at c.ask-made.ensures.asked) refl (omega arith) (rw
    (to_z-of_z w64 c.in-Pause.delay delay, to_z-of_z w64 c.in-Pause.value value) at c.pause.ensures.becomes)

pub returns-in-Finish-clause-does : goal.returns-in-Finish-clause-does
returns-in-Finish-clause-does g c =
    let value : FitsSigned w64 c.in-Finish.value = search rules in
    does_at_last g.B.LawfulBody.body c.args.event c.args.process _ _ c.args.self.now c.ask-made.new.self _ 0 (op.Finish c.in-Finish.value) unit.Quiet
    (rw c.in-Finish.is at c.ask-made.ensures.asked) refl (omega arith) (rw (to_z-of_z w64 c.in-Finish.value value) at c.finish.ensures.becomes)

pub returns-in-Die-clause-does : goal.returns-in-Die-clause-does
returns-in-Die-clause-does g c =
    does_at_last g.B.LawfulBody.body c.args.event c.args.process _ _ c.args.self.now c.ask-made.new.self _ 0 (op.Die c.in-Die.what) unit.Quiet
    (rw c.in-Die.is at c.ask-made.ensures.asked) refl (omega arith) c.die.ensures.becomes

pub returns-in-Timeout-clause-does : goal.returns-in-Timeout-clause-does
returns-in-Timeout-clause-does g c =
    let delay : FitsSigned w64 c.in-Timeout.delay = search rules in
    let value : FitsSigned w64 c.in-Timeout.value = search rules in
    let becomes = rw (to_z-of_z w64 c.in-Timeout.delay delay, to_z-of_z w64 c.in-Timeout.value value) at c.timeout.ensures.becomes in
    does_at_last g.B.LawfulBody.body c.args.event c.args.process _ _ c.args.self.now c.ask-made.new.self _ 0
    (op.Timeout c.in-Timeout.delay c.in-Timeout.value) unit.Quiet (rw c.in-Timeout.is at c.ask-made.ensures.asked) refl (omega arith) becomes

pub returns-in-Wait-clause-does : goal.returns-in-Wait-clause-does
returns-in-Wait-clause-does g c =
    does_at_last g.B.LawfulBody.body c.args.event c.args.process _ _ c.args.self.now c.ask-made.new.self _ 1 (op.Wait c.in-Wait.on) unit.Quiet
    (rw c.in-Wait.is at c.ask-made.ensures.asked) refl (omega arith) c.wait.ensures.becomes

pub returns-in-NewEvent-clause-does : goal.returns-in-NewEvent-clause-does
returns-in-NewEvent-clause-does g c =
    does_at_last g.B.LawfulBody.body c.args.event c.args.process _ _ c.args.self.now c.ask-made.new.self _ 0 op.NewEvent unit.Quiet
    (rw c.in-NewEvent.is at c.ask-made.ensures.asked) refl (omega arith) c.new_event.ensures.becomes

pub returns-in-Succeed-clause-does : goal.returns-in-Succeed-clause-does
returns-in-Succeed-clause-does g c =
    let value : FitsSigned w64 c.in-Succeed.value = search rules in
    let becomes = rw (to_z-of_z w64 c.in-Succeed.value value) at c.succeed.ensures.becomes in
    does_at_last g.B.LawfulBody.body c.args.event c.args.process _ _ c.args.self.now c.ask-made.new.self _ 0
    (op.Succeed c.in-Succeed.triggered c.in-Succeed.value) unit.Quiet (rw c.in-Succeed.is at c.ask-made.ensures.asked) refl (omega arith) becomes

pub returns-in-Fail-clause-does : goal.returns-in-Fail-clause-does
returns-in-Fail-clause-does g c =
    let value : FitsSigned w64 c.in-Fail.value = search rules in
    let becomes = rw (to_z-of_z w64 c.in-Fail.value value) at c.fail.ensures.becomes in
    does_at_last g.B.LawfulBody.body c.args.event c.args.process _ _ c.args.self.now c.ask-made.new.self _ 0
    (op.Fail c.in-Fail.triggered c.in-Fail.value) unit.Quiet (rw c.in-Fail.is at c.ask-made.ensures.asked) refl (omega arith) becomes

pub returns-in-Spawn-clause-does : goal.returns-in-Spawn-clause-does
returns-in-Spawn-clause-does g c =
    does_at_last g.B.LawfulBody.body c.args.event c.args.process _ _ c.args.self.now c.ask-made.new.self _ most_begun
    (op.Spawn c.in-Spawn.kind c.in-Spawn.args) unit.Quiet (rw c.in-Spawn.is at c.ask-made.ensures.asked) refl (omega arith) c.spawn.ensures.becomes

pub returns-in-Interrupt-clause-does : goal.returns-in-Interrupt-clause-does
returns-in-Interrupt-clause-does g c =
    let cause : FitsSigned w64 c.in-Interrupt.cause = search rules in
    let becomes = rw (to_z-of_z w64 c.in-Interrupt.cause cause) at c.interrupt.ensures.becomes in
    does_at_last g.B.LawfulBody.body c.args.event c.args.process _ _ c.args.self.now c.ask-made.new.self _ 0
    (op.Interrupt c.in-Interrupt.other c.in-Interrupt.cause) unit.Quiet (rw c.in-Interrupt.is at c.ask-made.ensures.asked) refl (omega arith) becomes

pub returns-in-Chain-clause-does : goal.returns-in-Chain-clause-does
returns-in-Chain-clause-does g c =
    does_at_last g.B.LawfulBody.body c.args.event c.args.process _ _ c.args.self.now c.ask-made.new.self _ 1
    (op.Chain c.in-Chain.source c.in-Chain.other) unit.Quiet (rw c.in-Chain.is at c.ask-made.ensures.asked) refl (omega arith) c.chain.ensures.becomes

pub returns-in-Drop-clause-does : goal.returns-in-Drop-clause-does
returns-in-Drop-clause-does g c =
    let value : FitsSigned w64 c.in-Drop.value = search rules in
    let becomes = rw (to_z-of_z w64 c.in-Drop.value value) at c.drop_process-touched.ensures.becomes in
    does_at_last g.B.LawfulBody.body c.args.event c.args.process _ _ c.args.self.now c.ask-made.new.self _ 0 (op.Drop c.in-Drop.other c.in-Drop.value)
    unit.Quiet (rw c.in-Drop.is at c.ask-made.ensures.asked) refl (omega arith) becomes

pub make_condition-requires-clause-members : goal.make_condition-requires-clause-members
make_condition-requires-clause-members g c =
    let names = rw c.in-AllOf.is at c.ask-made.ensures.names in
    names.kept

pub returns-in-AllOf-clause-does : goal.returns-in-AllOf-clause-does
returns-in-AllOf-clause-does g c =
    does_at_last g.B.LawfulBody.body c.args.event c.args.process _ _ c.args.self.now c.ask-made.new.self _ 16 (op.AllOf c.in-AllOf.members) unit.Quiet
    (rw c.in-AllOf.is at c.ask-made.ensures.asked) refl (omega arith) c.make_condition.ensures.becomes

pub make_condition-requires-in-AnyOf-clause-members : goal.make_condition-requires-in-AnyOf-clause-members
make_condition-requires-in-AnyOf-clause-members g c =
    let names = rw c.in-AnyOf.is at c.ask-made.ensures.names in
    names.kept

pub returns-in-AnyOf-clause-does : goal.returns-in-AnyOf-clause-does
returns-in-AnyOf-clause-does g c =
    does_at_last g.B.LawfulBody.body c.args.event c.args.process _ _ c.args.self.now c.ask-made.new.self _ 16 (op.AnyOf c.in-AnyOf.members) unit.Quiet
    (rw c.in-AnyOf.is at c.ask-made.ensures.asked) refl (omega arith) c.make_condition-in-AnyOf.ensures.becomes

pub returns-in-Has-clause-does : goal.returns-in-Has-clause-does
returns-in-Has-clause-does g c =
    does_at_last g.B.LawfulBody.body c.args.event c.args.process _ _ c.args.self.now c.ask-made.new.self _ 0
    (op.Has c.in-Has.condition c.in-Has.other) unit.Quiet (rw c.in-Has.is at c.ask-made.ensures.asked) refl (omega arith) c.has.ensures.becomes

pub put-requires-clause-resource : goal.put-requires-clause-resource
put-requires-clause-resource g c =
    let a = rw c.in-Put.is at c.ask-made.ensures.asked in
    let old = with_live a.before.live a.before.control c.args.self.now in
    polled_moves_at g.B.LawfulBody.body old c.ask-made.new.self c.args.process a.before.told (op.Put c.in-Put.res c.in-Put.amount c.in-Put.priority)
    a.last.asks a.before.stands c.args.event (g.B.LawfulBody.lawful old.code) (rw c.requires.code at c.requires.fits)
    (omega (arith, c.requires.events)) a.before.running c.in-Put.res (λ own places scopes h. h)

pub returns-in-Put-clause-does : goal.returns-in-Put-clause-does
returns-in-Put-clause-does g c =
    let amount : FitsSigned w64 c.in-Put.amount = search rules in
    let priority : FitsSigned w64 c.in-Put.priority = search rules in
    let becomes = rw (to_z-of_z w64 c.in-Put.amount amount, to_z-of_z w64 c.in-Put.priority priority) at c.put.ensures.becomes in
    does_at_last g.B.LawfulBody.body c.args.event c.args.process _ _ c.args.self.now c.ask-made.new.self _ 0
    (op.Put c.in-Put.res c.in-Put.amount c.in-Put.priority) unit.Quiet (rw c.in-Put.is at c.ask-made.ensures.asked) refl (omega arith) becomes

pub put_wait-requires-clause-resource : goal.put_wait-requires-clause-resource
put_wait-requires-clause-resource g c =
    let a = rw c.in-PutWait.is at c.ask-made.ensures.asked in
    let old = with_live a.before.live a.before.control c.args.self.now in
    polled_moves_at g.B.LawfulBody.body old c.ask-made.new.self c.args.process a.before.told
    (op.PutWait c.in-PutWait.res c.in-PutWait.amount c.in-PutWait.priority) a.last.asks a.before.stands c.args.event (g.B.LawfulBody.lawful old.code)
    (rw c.requires.code at c.requires.fits) (omega (arith, c.requires.events)) a.before.running c.in-PutWait.res (λ own places scopes h. h)

pub returns-in-PutWait-clause-does : goal.returns-in-PutWait-clause-does
returns-in-PutWait-clause-does g c =
    let amount : FitsSigned w64 c.in-PutWait.amount = search rules in
    let priority : FitsSigned w64 c.in-PutWait.priority = search rules in
    let becomes = rw (to_z-of_z w64 c.in-PutWait.amount amount, to_z-of_z w64 c.in-PutWait.priority priority) at c.put_wait.ensures.becomes in
    does_at_last g.B.LawfulBody.body c.args.event c.args.process _ _ c.args.self.now c.ask-made.new.self _ 1
    (op.PutWait c.in-PutWait.res c.in-PutWait.amount c.in-PutWait.priority) unit.Quiet (rw c.in-PutWait.is at c.ask-made.ensures.asked) refl
    (omega arith) becomes

pub get-requires-clause-resource : goal.get-requires-clause-resource
get-requires-clause-resource g c =
    let a = rw c.in-Get.is at c.ask-made.ensures.asked in
    let old = with_live a.before.live a.before.control c.args.self.now in
    polled_moves_at g.B.LawfulBody.body old c.ask-made.new.self c.args.process a.before.told (op.Get c.in-Get.res c.in-Get.least c.in-Get.greatest)
    a.last.asks a.before.stands c.args.event (g.B.LawfulBody.lawful old.code) (rw c.requires.code at c.requires.fits)
    (omega (arith, c.requires.events)) a.before.running c.in-Get.res (λ own places scopes h. h)

pub returns-in-Get-clause-does : goal.returns-in-Get-clause-does
returns-in-Get-clause-does g c =
    let least : FitsSigned w64 c.in-Get.least = search rules in
    let greatest : FitsSigned w64 c.in-Get.greatest = search rules in
    let becomes = rw (to_z-of_z w64 c.in-Get.least least, to_z-of_z w64 c.in-Get.greatest greatest) at c.get.ensures.becomes in
    does_at_last g.B.LawfulBody.body c.args.event c.args.process _ _ c.args.self.now c.ask-made.new.self _ 0
    (op.Get c.in-Get.res c.in-Get.least c.in-Get.greatest) unit.Quiet (rw c.in-Get.is at c.ask-made.ensures.asked) refl (omega arith) becomes

pub get_wait-requires-clause-resource : goal.get_wait-requires-clause-resource
get_wait-requires-clause-resource g c =
    let a = rw c.in-GetWait.is at c.ask-made.ensures.asked in
    let old = with_live a.before.live a.before.control c.args.self.now in
    polled_moves_at g.B.LawfulBody.body old c.ask-made.new.self c.args.process a.before.told
    (op.GetWait c.in-GetWait.res c.in-GetWait.least c.in-GetWait.greatest) a.last.asks a.before.stands c.args.event (g.B.LawfulBody.lawful old.code)
    (rw c.requires.code at c.requires.fits) (omega (arith, c.requires.events)) a.before.running c.in-GetWait.res (λ own places scopes h. h)

pub returns-in-GetWait-clause-does : goal.returns-in-GetWait-clause-does
returns-in-GetWait-clause-does g c =
    let least : FitsSigned w64 c.in-GetWait.least = search rules in
    let greatest : FitsSigned w64 c.in-GetWait.greatest = search rules in
    let becomes = rw (to_z-of_z w64 c.in-GetWait.least least, to_z-of_z w64 c.in-GetWait.greatest greatest) at c.get_wait.ensures.becomes in
    does_at_last g.B.LawfulBody.body c.args.event c.args.process _ _ c.args.self.now c.ask-made.new.self _ 1
    (op.GetWait c.in-GetWait.res c.in-GetWait.least c.in-GetWait.greatest) unit.Quiet (rw c.in-GetWait.is at c.ask-made.ensures.asked) refl
    (omega arith) becomes

pub count-requires-clause-within : goal.count-requires-clause-within
count-requires-clause-within g c =
    let a = rw c.in-Count.is at c.ask-made.ensures.asked in
    let old = with_live a.before.live a.before.control c.args.self.now in
    polled_within g.B.LawfulBody.body old c.ask-made.new.self c.args.process a.before.told (op.Count c.in-Count.res) a.last.asks a.before.stands
    c.args.event (g.B.LawfulBody.lawful old.code) (rw c.requires.code at c.requires.fits) (omega (arith, c.requires.events)) a.before.running
    (λ k. true) c.in-Count.res (λ own places scopes h. h)

pub returns-in-Count-clause-does : goal.returns-in-Count-clause-does
returns-in-Count-clause-does g c =
    does_at_last g.B.LawfulBody.body c.args.event c.args.process _ _ c.args.self.now c.ask-made.new.self _ 0 (op.Count c.in-Count.res) unit.Quiet
    (rw c.in-Count.is at c.ask-made.ensures.asked) refl (omega arith) c.count.ensures.becomes

pub cancel-requires-clause-kept : goal.cancel-requires-clause-kept
cancel-requires-clause-kept g c =
    first_named (g.B.LawfulBody.body.facts c.args.code.now) c.ask-made.new.self (op.Cancel c.in-Cancel.cancelled) c.in-Cancel.cancelled [] refl
    (rw c.in-Cancel.is at c.ask-made.ensures.names)

pub returns-in-Cancel-clause-does : goal.returns-in-Cancel-clause-does
returns-in-Cancel-clause-does g c =
    does_at_last g.B.LawfulBody.body c.args.event c.args.process _ _ c.args.self.now c.ask-made.new.self _ 0 (op.Cancel c.in-Cancel.cancelled)
    unit.Quiet (rw c.in-Cancel.is at c.ask-made.ensures.asked) refl (omega arith) c.cancel.ensures.becomes

pub enter-requires-clause-scopes : goal.enter-requires-clause-scopes
enter-requires-clause-scopes g c =
    let a = rw c.in-Enter.is at c.ask-made.ensures.asked in
    let old = with_live a.before.live a.before.control c.args.self.now in
    polled_scopes g.B.LawfulBody.body old c.ask-made.new.self c.args.process a.before.told
    (op.Enter c.in-Enter.res c.in-Enter.priority c.in-Enter.preempts) a.last.asks a.before.stands c.args.event (g.B.LawfulBody.lawful old.code)
    (rw c.requires.code at c.requires.fits) (omega (arith, c.requires.events)) a.before.running (g.B.Body.most_open old.code) c.in-Enter.res _
    c.in-Enter.preempts (g.met.B.Body.enters_within old.code) refl (rw c.requires.code at c.ask-made.ensures.scopes)

pub enter-requires-clause-resource : goal.enter-requires-clause-resource
enter-requires-clause-resource g c =
    let a = rw c.in-Enter.is at c.ask-made.ensures.asked in
    let old = with_live a.before.live a.before.control c.args.self.now in
    polled_requests_at g.B.LawfulBody.body old c.ask-made.new.self c.args.process a.before.told
    (op.Enter c.in-Enter.res c.in-Enter.priority c.in-Enter.preempts) a.last.asks a.before.stands c.args.event (g.B.LawfulBody.lawful old.code)
    (rw c.requires.code at c.requires.fits) (omega (arith, c.requires.events)) a.before.running c.in-Enter.res (entered_at
    (g.B.LawfulBody.body.facts old.code) c.in-Enter.res c.in-Enter.priority c.in-Enter.preempts)

pub returns-in-Enter-clause-does : goal.returns-in-Enter-clause-does
returns-in-Enter-clause-does g c =
    let priority : FitsSigned w64 c.in-Enter.priority = search rules in
    let becomes = rw (to_z-of_z w64 c.in-Enter.priority priority) at c.enter.ensures.becomes in
    does_at_last g.B.LawfulBody.body c.args.event c.args.process _ _ c.args.self.now c.ask-made.new.self _ 1
    (op.Enter c.in-Enter.res c.in-Enter.priority c.in-Enter.preempts) unit.Quiet (rw c.in-Enter.is at c.ask-made.ensures.asked) refl (omega arith)
    becomes

pub returns-in-Leave-clause-does : goal.returns-in-Leave-clause-does
returns-in-Leave-clause-does g c =
    does_at_last g.B.LawfulBody.body c.args.event c.args.process _ _ c.args.self.now c.ask-made.new.self _ 0 op.Leave unit.Quiet
    (rw c.in-Leave.is at c.ask-made.ensures.asked) refl (omega arith) c.leave.ensures.becomes

pub returns-in-Release-clause-does : goal.returns-in-Release-clause-does
returns-in-Release-clause-does g c =
    does_at_last g.B.LawfulBody.body c.args.event c.args.process _ _ c.args.self.now c.ask-made.new.self _ 0 (op.Release c.in-Release.request)
    unit.Quiet (rw c.in-Release.is at c.ask-made.ensures.asked) refl (omega arith) c.release.ensures.becomes

pub spawn-requires-clause-kept : goal.spawn-requires-clause-kept
spawn-requires-clause-kept g c =
    let a = rw c.in-Spawn.is at c.ask-made.ensures.asked in
    let old = with_live a.before.live a.before.control c.args.self.now in
    rw c.requires.code (spawned_kept g.B.LawfulBody.body old c.ask-made.new.self c.args.process a.before.told c.in-Spawn.kind c.in-Spawn.args
    a.before.stands c.requires.needed a.last.asks (rw (← c.requires.code) (rw c.in-Spawn.is at c.ask-made.ensures.names)))

pub cancel-requires-clause-plain : goal.cancel-requires-clause-plain
cancel-requires-clause-plain g c =
    first_cancelled (g.B.LawfulBody.body.facts c.args.code.now) c.ask-made.new.self (op.Cancel c.in-Cancel.cancelled) c.in-Cancel.cancelled [] refl
    (rw c.in-Cancel.is at c.ask-made.ensures.names)

pub release-requires-clause-scope : goal.release-requires-clause-scope
release-requires-clause-scope g c =
    let a = rw c.in-Release.is at c.ask-made.ensures.asked in
    let old = with_live a.before.live a.before.control c.args.self.now in
    let mid = c.ask-made.new.self in
    let asks = a.last.asks in
    let asked = op.Release c.in-Release.request in
    let law = g.B.LawfulBody.lawful old.code in
    let fits = rw c.requires.code at c.requires.fits in
    let may = polled_may g.B.LawfulBody.body old mid c.args.process a.before.told asked asks a.before.stands c.args.event law fits
    (omega (arith, c.requires.events)) a.before.running in
    let some = has_scope g.B.LawfulBody.body old mid c.args.process a.before.told asked asks a.before.stands c.args.event law fits
    (omega (arith, c.requires.events)) a.before.running c.in-Release.request may in
    let found = found_now g.B.LawfulBody.body old mid c.args.process a.before.told asked asks a.before.stands c.args.event law fits
    (omega (arith, c.requires.events)) a.before.running in
    releases_at mid c.args.process _ c.in-Release.request found some c.ask-made.ensures.can

pub finish-requires-clause-places : goal.finish-requires-clause-places
finish-requires-clause-places g c =
    let a = rw c.in-Finish.is at c.ask-made.ensures.asked in
    let old = with_live a.before.live a.before.control c.args.self.now in
    let place = g.B.Body.told_place old.code in
    let reads : ReadsPlaces g.B.LawfulBody.body old.code g.B.Body.events_held place =
    record { places = g.met.B.Body.places old.code; others = g.met.B.Body.other_places_stay old.code } in
    all_stand g.B.LawfulBody.body g.B.Body.events_held place old c.args.process c.args.event a.before.told reads (g.B.LawfulBody.lawful old.code)
    a.before.stands (omega (arith, c.requires.events)) a.before.running c.ask-made.new.self _ a.last.asks c.args.process

pub die-requires-clause-places : goal.die-requires-clause-places
die-requires-clause-places g c =
    let a = rw c.in-Die.is at c.ask-made.ensures.asked in
    let old = with_live a.before.live a.before.control c.args.self.now in
    let place = g.B.Body.told_place old.code in
    let reads : ReadsPlaces g.B.LawfulBody.body old.code g.B.Body.events_held place =
    record { places = g.met.B.Body.places old.code; others = g.met.B.Body.other_places_stay old.code } in
    all_stand g.B.LawfulBody.body g.B.Body.events_held place old c.args.process c.args.event a.before.told reads (g.B.LawfulBody.lawful old.code)
    a.before.stands (omega (arith, c.requires.events)) a.before.running c.ask-made.new.self _ a.last.asks c.args.process

pub drop_process-touched-requires-clause-places : goal.drop_process-touched-requires-clause-places
drop_process-touched-requires-clause-places g c =
    let a = rw c.in-Drop.is at c.ask-made.ensures.asked in
    let old = with_live a.before.live a.before.control c.args.self.now in
    let place = g.B.Body.told_place old.code in
    let reads : ReadsPlaces g.B.LawfulBody.body old.code g.B.Body.events_held place =
    record { places = g.met.B.Body.places old.code; others = g.met.B.Body.other_places_stay old.code } in
    all_stand g.B.LawfulBody.body g.B.Body.events_held place old c.args.process c.args.event a.before.told reads (g.B.LawfulBody.lawful old.code)
    a.before.stands (omega (arith, c.requires.events)) a.before.running c.ask-made.new.self _ a.last.asks c.in-Drop.other

pub drop_process-touched-requires-clause-can : goal.drop_process-touched-requires-clause-can
drop_process-touched-requires-clause-can g c =
    let a = rw c.in-Drop.is at c.ask-made.ensures.asked in
    let old = with_live a.before.live a.before.control c.args.self.now in
    polled_droppable g.B.LawfulBody.body old c.ask-made.new.self c.args.process a.last.asks.later a.before.stands a.last.owes c.in-Drop.other

pub returns-in-Timeout-clause-touched : goal.returns-in-Timeout-clause-touched
returns-in-Timeout-clause-touched g c =
    nothing_changes [] c.args.self.now.shared c.timeout.new.self.shared (c.timeout.ensures.resources ∙ c.ask-made.ensures.same_resources)

pub returns-in-Pause-clause-touched : goal.returns-in-Pause-clause-touched
returns-in-Pause-clause-touched g c =
    nothing_changes [] c.args.self.now.shared c.pause.new.self.shared (c.pause.ensures.resources ∙ c.ask-made.ensures.same_resources)

pub returns-in-Succeed-clause-touched : goal.returns-in-Succeed-clause-touched
returns-in-Succeed-clause-touched g c =
    nothing_changes [] c.args.self.now.shared c.succeed.new.self.shared (c.succeed.ensures.resources ∙ c.ask-made.ensures.same_resources)

pub returns-in-Fail-clause-touched : goal.returns-in-Fail-clause-touched
returns-in-Fail-clause-touched g c =
    nothing_changes [] c.args.self.now.shared c.fail.new.self.shared (c.fail.ensures.resources ∙ c.ask-made.ensures.same_resources)

pub returns-in-Interrupt-clause-touched : goal.returns-in-Interrupt-clause-touched
returns-in-Interrupt-clause-touched g c =
    nothing_changes [] c.args.self.now.shared c.interrupt.new.self.shared (c.interrupt.ensures.resources ∙ c.ask-made.ensures.same_resources)

pub returns-in-Draw-clause-touched : goal.returns-in-Draw-clause-touched
returns-in-Draw-clause-touched g c =
    nothing_changes [] c.args.self.now.shared c.draw.new.self.shared (c.draw.ensures.resources ∙ c.ask-made.ensures.same_resources)

pub returns-in-Finish-clause-touched : goal.returns-in-Finish-clause-touched
returns-in-Finish-clause-touched g c =
    nothing_changes [] c.args.self.now.shared c.finish.new.self.shared (c.finish.ensures.resources ∙ c.ask-made.ensures.same_resources)

pub returns-in-Drop-clause-touched : goal.returns-in-Drop-clause-touched
returns-in-Drop-clause-touched g c =
    touched_after (touched_places c.drop_process-touched.result c.drop_process-touched.new.listed) c.args.self.now.shared c.ask-made.new.self.shared
    c.drop_process-touched.new.self.shared c.ask-made.ensures.same_resources c.drop_process-touched.ensures.touched

pub returns-in-Enter-clause-touched : goal.returns-in-Enter-clause-touched
returns-in-Enter-clause-touched g c =
    touched_after (c.in-Enter.res ∷ []) c.args.self.now.shared c.ask-made.new.self.shared c.enter.new.self.shared c.ask-made.ensures.same_resources
    c.enter.ensures.touched

pub returns-in-Put-clause-touched : goal.returns-in-Put-clause-touched
returns-in-Put-clause-touched g c =
    touched_after (c.in-Put.res ∷ []) c.args.self.now.shared c.ask-made.new.self.shared c.put.new.self.shared c.ask-made.ensures.same_resources
    c.put.ensures.touched

pub returns-in-PutWait-clause-touched : goal.returns-in-PutWait-clause-touched
returns-in-PutWait-clause-touched g c =
    touched_after (c.in-PutWait.res ∷ []) c.args.self.now.shared c.ask-made.new.self.shared c.put_wait.new.self.shared c.ask-made.ensures.same_resources
    c.put_wait.ensures.touched

pub returns-in-Get-clause-touched : goal.returns-in-Get-clause-touched
returns-in-Get-clause-touched g c =
    touched_after (c.in-Get.res ∷ []) c.args.self.now.shared c.ask-made.new.self.shared c.get.new.self.shared c.ask-made.ensures.same_resources
    c.get.ensures.touched

pub returns-in-GetWait-clause-touched : goal.returns-in-GetWait-clause-touched
returns-in-GetWait-clause-touched g c =
    touched_after (c.in-GetWait.res ∷ []) c.args.self.now.shared c.ask-made.new.self.shared c.get_wait.new.self.shared c.ask-made.ensures.same_resources
    c.get_wait.ensures.touched

pub returns-in-Release-clause-touched : goal.returns-in-Release-clause-touched
returns-in-Release-clause-touched g c =
    touched_after (c.release.result ∷ []) c.args.self.now.shared c.ask-made.new.self.shared c.release.new.self.shared
    c.ask-made.ensures.same_resources c.release.ensures.touched

pub returns-in-Leave-clause-touched : goal.returns-in-Leave-clause-touched
returns-in-Leave-clause-touched g c =
    rw c.touched_at-touched.ensures (touched_after (option_to_list c.leave.result) c.args.self.now.shared c.ask-made.new.self.shared c.leave.new.self.shared
    c.ask-made.ensures.same_resources c.leave.ensures.touched)

pub returns-in-Cancel-clause-touched : goal.returns-in-Cancel-clause-touched
returns-in-Cancel-clause-touched g c =
    rw c.touched_at-touched-in-Cancel.ensures (touched_after (option_to_list c.cancel.result) c.args.self.now.shared c.ask-made.new.self.shared c.cancel.new.self.shared
    c.ask-made.ensures.same_resources c.cancel.ensures.touched)
