use Rattle.std.proofs.Common.{rules, arith, ◌<◌, refl, sym, subst, ap, ◌∙◌, length}
use Rattle.sim_shared_model.specs.Waiting.{waits_in}
use Rattle.sim_shared_law.proofs.Shown.ResourcePlaces.{same_length}
use Rattle.sim_shared_law.proofs.Waiters.CancelledEvents.{anywhere_shown, found_anywhere, nowhere_seen, nowhere_there, nowhere_more, cancelled_nowhere}
use Rattle.sim_shared.proofs.shared.Shared.cancel_anywhere.Goals as goal

pub loop-at-init : goal.loop-at-init
loop-at-init c = record {
  same = refl;
  end = rw (← c.self.view_is) (search rules);
  none = λ n x below. absurd (omega (arith, below));
}

pub cancel_at-requires-clause-at : goal.cancel_at-requires-clause-at
cancel_at-requires-clause-at c =
    let below : c.loop-at.at < length c.args.self.now.resources = subst (λ n. c.loop-at.at < n) c.loop-at.invariant.end c.loop-at-test.true in
    let here : c.loop-at.at < length c.self.inside.resources.items = rw (← c.self.view_is) at below in
    rw c.loop-at.invariant.same (rw (← c.self.view_is) (rw (← same_length c.self.inside.resources.items c.self.inside.setup.value c.self.invariant.opened) here))

pub cancel_at-requires-clause-open : goal.cancel_at-requires-clause-open
cancel_at-requires-clause-open c = rw c.loop-at.invariant.same c.requires.open

-- what was found at the place
pub returns-then-cancel_at-clause-waited : goal.returns-then-cancel_at-clause-waited
returns-then-cancel_at-clause-waited c =
    let below : c.loop-at.at < length c.args.self.now.resources = subst (λ n. c.loop-at.at < n) c.loop-at.invariant.end c.loop-at-test.true in
    let found = rw c.loop-at.invariant.same at c.if-cancel_at.ensures.waited in
    found_anywhere c.args.event c.args.self.now.resources c.loop-at.at below (λ x there. found ∙ ap (waits_in c.args.event) there)

pub returns-then-cancel_at-clause-shown : goal.returns-then-cancel_at-clause-shown
returns-then-cancel_at-clause-shown c f shown =
    let below : c.loop-at.at < length c.args.self.now.resources = subst (λ n. c.loop-at.at < n) c.loop-at.invariant.end c.loop-at-test.true in
    let found = rw c.loop-at.invariant.same at c.if-cancel_at.ensures.waited in
    found_anywhere c.args.event c.args.self.now.resources c.loop-at.at below (λ x there. found ∙ ap (waits_in c.args.event) there) ∙ anywhere_shown c.args.self.now f c.args.event shown

pub returns-then-cancel_at-clause-cancelled : goal.returns-then-cancel_at-clause-cancelled
returns-then-cancel_at-clause-cancelled c = rw (← c.loop-at.invariant.same) (c.if-cancel_at.ensures.cancelled refl)

pub returns-then-cancel_at-clause-used : goal.returns-then-cancel_at-clause-used
returns-then-cancel_at-clause-used c = rw (← c.loop-at.invariant.same) c.if-cancel_at.ensures.used

pub returns-then-cancel_at-clause-room : goal.returns-then-cancel_at-clause-room
returns-then-cancel_at-clause-room c = rw (← c.loop-at.invariant.same) c.if-cancel_at.ensures.room

pub returns-then-cancel_at-clause-never_less : goal.returns-then-cancel_at-clause-never_less
returns-then-cancel_at-clause-never_less c = rw (← c.loop-at.invariant.same) c.if-cancel_at.ensures.never_less

pub loop-at-preserved : goal.loop-at-preserved
loop-at-preserved c = record {
  same = c.if-cancel_at.ensures.same refl ∙ c.loop-at.invariant.same;
  end = c.loop-at.invariant.end;
  none = nowhere_more c.args.event c.args.self.now.resources c.loop-at.at c.loop-at.invariant.none (λ x there. (rw c.loop-at.invariant.same at c.if-cancel_at.ensures.waited) ∙ ap (waits_in c.args.event) there);
}

pub returns-clause-waited : goal.returns-clause-waited
returns-clause-waited c =
    sym (nowhere_seen c.args.event c.args.self.now.resources (λ n x below. c.loop-at.invariant.none n x (omega (arith, below, c.loop-at-test.false, c.loop-at.invariant.end))))

pub returns-clause-shown : goal.returns-clause-shown
returns-clause-shown c f shown =
    sym (nowhere_seen c.args.event c.args.self.now.resources (λ n x below. c.loop-at.invariant.none n x (omega (arith, below, c.loop-at-test.false, c.loop-at.invariant.end)))) ∙ anywhere_shown c.args.self.now f c.args.event shown

pub returns-clause-cancelled : goal.returns-clause-cancelled
returns-clause-cancelled c =
    let nowhere = nowhere_seen c.args.event c.args.self.now.resources (λ n x below. c.loop-at.invariant.none n x (omega (arith, below, c.loop-at-test.false, c.loop-at.invariant.end))) in
    rw c.loop-at.invariant.same (cancelled_nowhere c.args.self.now c.args.event (nowhere_there c.args.event c.args.self.now.resources nowhere))

pub returns-clause-same : goal.returns-clause-same
returns-clause-same c = c.loop-at.invariant.same

pub returns-clause-used : goal.returns-clause-used
returns-clause-used c = rw c.loop-at.invariant.same refl

pub returns-clause-room : goal.returns-clause-room
returns-clause-room c = rw c.loop-at.invariant.same (record { events = refl; callbacks = search rules; conditions = search rules })

pub returns-clause-never_less : goal.returns-clause-never_less
returns-clause-never_less c = rw c.loop-at.invariant.same (omega arith)

pub returns-then-cancel_at-clause-place : goal.returns-then-cancel_at-clause-place
returns-then-cancel_at-clause-place c =
    let i = c.self.inside in
    let below : c.loop-at.at < length c.args.self.now.resources = subst (λ n. c.loop-at.at < n) c.loop-at.invariant.end c.loop-at-test.true in
    let here : c.loop-at.at < length i.resources.items = rw (← c.self.view_is) at below in
    record {
      within = rw (← c.self.view_is) (subst (λ n. c.loop-at.at < n) (same_length i.resources.items i.setup.value c.self.invariant.opened) here);
      waits = sym (rw c.loop-at.invariant.same at c.if-cancel_at.ensures.waited);
    }

pub returns-then-cancel_at-clause-touched : goal.returns-then-cancel_at-clause-touched
returns-then-cancel_at-clause-touched c = rw (← c.loop-at.invariant.same) c.if-cancel_at.ensures.touched
