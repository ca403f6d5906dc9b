use Rattle.std.proofs.Common.{◌≡◌, ◌<◌, ◌+◌, ◌↔◌, length, get_or, set, IsSome, IfSome, vec_len, vec_capacity, false, refl, sym, ap, ◌∙◌, subst, arith}
use Rattle.std.proofs.lemmas.Bool.{false≢true}
use Rattle.sim_engine.specs.Counting.{IsWithin}
use Rattle.sim_host.specs.Hosting.{IsOver, summary_in}
use Rattle.sim_host.proofs.Stepping.{HaveStepped, one_over, one_left}
use Rattle.sim_host.proofs.all.step_each.Goals as goal
use Rattle.sim_host.proofs.all.step_each.Goals.{in-Some, in-None}

pub loop-run-preserved : goal.loop-run-preserved
loop-run-preserved c =
    let s = c.args.scenario.now in
    let first = c.args.runs.now in
    let now = c.loop-run.runs in
    let k = c.loop-run.run-index in
    let old = get_or now k c.run-item.result in
    let read : old ≡ get_or now k old = ap (λ d. get_or now k d) c.run-item.is in
    let same : length now ≡ length first = c.loop-run.auto.runs in
    let in_first : k < length first = c.loop-run-test.true in
    let below : k < length now = omega (arith, same, in_first) in
    let new = c.step.new.self in
    let h = c.loop-run.invariant in
    let made = c.in_ok-summary.ensures in
    elim c.match-branch-2.branch [
      | in-Some w ↦
          let t = w.in-Some.summary in
          let ends = (subst (λ o. IsSome o ↔ IsOver s new) w.in-Some.is made.over).0 refl in
          let told = subst (λ o. IfSome o (λ x. x ≡ summary_in s old)) w.in-Some.is made.summary in
          let within = subst (λ o. IfSome o (IsWithin old.session.limit)) w.in-Some.is made.counts in
          let on = one_over s first now k c.loop-run.over c.loop-run.room.items h.so_far below same old new read made.step t ends told within in
          let items = ap (λ r. r.items) w.room-is ∙ w.push_reserved.ensures.items in
          let len = ap vec_len w.room-is ∙ w.push_reserved.ensures.len in
          let few = h.few in
          record {
            so_far =
                subst (λ o. HaveStepped s first (set now k new) (k + 1) o c.match-branch-2.room.items) (sym w.over-is)
                (subst (HaveStepped s first (set now k new) (k + 1) c.loop-run.over) (sym items) on);
            few = omega (arith, len, few);
            room = ap vec_capacity w.room-is ∙ (w.push_reserved.ensures.capacity ∙ h.room);
          }
      | in-None w ↦
          let goes : IsOver s new → ⊥ = λ over. absurd (false≢true ((subst (λ o. IsSome o ↔ IsOver s new) w.in-None.is made.over).1 over)) in
          let on = one_left s first now k c.loop-run.over c.loop-run.room.items h.so_far below same old new read made.step goes in
          let few = h.few in
          let len = ap vec_len w.room-is in
          record {
            so_far =
                subst (λ o. HaveStepped s first (set now k new) (k + 1) o c.match-branch-2.room.items) (sym w.over-is)
                (subst (HaveStepped s first (set now k new) (k + 1) false) (sym (ap (λ r. r.items) w.room-is)) on);
            few = omega (arith, len, few);
            room = ap vec_capacity w.room-is ∙ h.room;
          }
    ]
