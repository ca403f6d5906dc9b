use Rattle.std.proofs.lemmas.Int.{to_z-of_z}
use Rattle.std.proofs.Common.{◌≡◌, ℤ, FitsSigned, to_z, of_z, w64, arith, rules, sym, ◌∙◌, drop}
use Rattle.sim_shared_model.proofs.Attempting.{first_is, attempt_free, attempt_preempts}
use Rattle.sim_resource.proofs.desk.Desk.attempt.Goals as goal

in_range : (time : ℤ) → FitsSigned w64 time → to_z w64 (of_z w64 time) ≡ time
in_range time h = to_z-of_z w64 time h

pub returns-then-has_free_slot-clause-desk : goal.returns-then-has_free_slot-clause-desk
returns-then-has_free_slot-clause-desk c =
    let d = c.args.self.now in
    let w = c.in-Some.first in
    let first = first_is d.queue w (sym c.first.ensures ∙ c.in-Some.is) in
    rw (attempt_free c.args.now d w (drop 1 d.queue) first (sym c.has_free_slot.ensures ∙ c.if-has_free_slot.true)) (rw (in_range c.args.now (search rules)) at (c.serve_first.ensures.serves w (drop 1 d.queue) first))

pub serve_first-requires-2-clause-waits : goal.serve_first-requires-2-clause-waits
serve_first-requires-2-clause-waits c =
    let d = c.args.self.now in
    let w = c.in-Some.first in
    let first = first_is d.queue w (sym c.first.ensures ∙ c.in-Some.is) in
    let kept = c.preempt.ensures.others c.in-Some-victim_of.victim c.in-Some-victim_of.ensures.last in
    rw (kept, first) (omega arith)

pub serve_first-requires-2-clause-slot : goal.serve_first-requires-2-clause-slot
serve_first-requires-2-clause-slot c = c.preempt.ensures.slot

pub returns-clause-desk : goal.returns-clause-desk
returns-clause-desk c =
    let d = c.args.self.now in
    let w = c.in-Some.first in
    let u = c.in-Some-victim_of.victim in
    let first = first_is d.queue w (sym c.first.ensures ∙ c.in-Some.is) in
    let kept = c.preempt.ensures.others u c.in-Some-victim_of.ensures.last in
    rw (attempt_preempts c.args.now d w (drop 1 d.queue) u first (sym c.victim_of.ensures.victim ∙ c.in-Some-victim_of.is))
    (rw (kept, in_range c.args.now (search rules)) at (c.serve_first-2.ensures.serves w (drop 1 d.queue) (rw kept first)))
