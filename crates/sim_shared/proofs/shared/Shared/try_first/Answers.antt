use Rattle.std.proofs.Common.{rules, ap, ◌∙◌, w64, FitsSigned}
use Rattle.std.specs.Prelude.{Some}
use Rattle.std.proofs.lemmas.Int.{to_z-of_z}
use Rattle.sim_machine.specs.MayAsk.{takes_requests}
use Rattle.sim_shared_law.proofs.Shown.ResourcePlaces.{sound_set, got_asked, declared_at}
use Rattle.sim_shared_law.proofs.Desks.TriedDesks.{no_other, tried_declared, tries_desk}
use Rattle.sim_shared.proofs.shared.Shared.try_first.Goals as goal

pub invariant_of-self : goal.invariant_of-self
invariant_of-self c =
    let asked = rw (← c.self.view_is) at c.requires.res in
    let there = got_asked c.self.inside.resources.items c.self.inside.setup.value c.args.res c.index_mut.result.now c.self.invariant.opened asked c.index_mut.ensures.value in
    sound_set c.self.inside.used c.self.inside.resources.items c.self.inside.setup.value c.args.res _ _ (there ∙ ap Some c.in-Desk.is)
    (tried_declared _ c.in-Desk.desk c.attempt.new.self c.attempt.ensures.desk) (search rules) c.self.invariant

pub returns-in-Desk-clause-tried : goal.returns-in-Desk-clause-tried
returns-in-Desk-clause-tried c =
    let asked = rw (← c.self.view_is) at c.requires.res in
    let there = got_asked c.self.inside.resources.items c.self.inside.setup.value c.args.res c.index_mut.result.now c.self.invariant.opened asked c.index_mut.ensures.value in
    let fits : FitsSigned w64 c.now-now.result = search rules in
    rw (← c.self.view_is) (tries_desk _ c.args.res c.attempt.result c.in-Desk.desk c.attempt.new.self _ (to_z-of_z w64 c.now-now.result fits ∙ c.now-now.ensures)
    (there ∙ ap Some c.in-Desk.is) c.attempt.ensures.answer c.attempt.ensures.desk)

pub returns : goal.returns
returns c =
    let asked = rw (← c.self.view_is) at c.requires.res in
    let slots = rw (← c.self.view_is) at c.requires.slots in
    let there = got_asked c.self.inside.resources.items c.self.inside.setup.value c.args.res c.index_mut.result.now c.self.invariant.opened asked c.index_mut.ensures.value in
    let kind = declared_at c.self.inside.resources.items c.self.inside.setup.value c.args.res c.index_mut.result.now c.self.invariant.opened there in
    absurd (no_other c.index_mut.result.now (ap (λ r. takes_requests r.kind) kind ∙ slots) c.in_default.not-Desk)
