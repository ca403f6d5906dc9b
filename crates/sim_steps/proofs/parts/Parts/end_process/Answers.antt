use Rattle.std.proofs.Common.{◌≡◌, [], refl, sym, subst}
use Rattle.std.specs.Prelude.{IfSome, IsSomeAnd}
use Rattle.sim_steps_model.specs.Holding.{StandInPlaces}
use Rattle.sim_steps_law.proofs.Ends.EndedProcesses.{ended_owing, ended_becomes, owes_places, owes_target}
use Rattle.sim_steps.proofs.parts.Parts.end_process.Goals as goal

pub unhold-requires : goal.unhold-requires
unhold-requires g c =
    let body = g.B.LawfulBody.body in
    let events = g.B.Body.events_held in
    let r = c.in-Some.record in
    let found = sym c.in-Some.ensures.taken in
    let code = c.self.inside.code.value in
    let none = subst (λ o. IsSomeAnd o (λ r. r.scopes ≡ [])) found (rw (← c.self.view_is) at c.requires.alive) in
    let stand = subst (λ o. IfSome o (λ r. StandInPlaces (body.tell code) (events r.body) r.body)) found (rw (← c.self.view_is) at c.requires.places) in
    let owing = rw (← c.self.view_is) at c.requires.owing in
    let ended = ended_owing body _ c.args.process c.args.outcome r found c.trigger.new.self c.trigger.new.self.shared.happen c.take.new.self.live c.take.new.self.spare none c.in-Some.ensures.live c.in-Ok.ensures.ok (rw (c.in-Ok.ensures.rest, c.in-Ok.ensures.ok.left) refl) in
    record { owed = rw c.target.ensures (owes_target body _ c.args.process c.args.outcome r found c.trigger.new.self (events r.body) ended stand owing) }

pub unhold_places-requires : goal.unhold_places-requires
unhold_places-requires g c =
    let body = g.B.LawfulBody.body in
    let events = g.B.Body.events_held in
    let r = c.in-Some.record in
    let found = sym c.in-Some.ensures.taken in
    let code = c.self.inside.code.value in
    let none = subst (λ o. IsSomeAnd o (λ r. r.scopes ≡ [])) found (rw (← c.self.view_is) at c.requires.alive) in
    let stand = subst (λ o. IfSome o (λ r. StandInPlaces (body.tell code) (events r.body) r.body)) found (rw (← c.self.view_is) at c.requires.places) in
    let owing = rw (← c.self.view_is) at c.requires.owing in
    let ended = ended_owing body _ c.args.process c.args.outcome r found c.trigger.new.self c.trigger.new.self.shared.happen c.take.new.self.live c.take.new.self.spare none c.in-Some.ensures.live c.in-Ok.ensures.ok (rw (c.in-Ok.ensures.rest, c.in-Ok.ensures.ok.left) refl) in
    let first = rw c.target.ensures at c.unhold.ensures.owes in
    let owed = owes_places body _ c.args.process c.args.outcome r found c.trigger.new.self (events r.body) ended stand owing c.unhold.new.self first in
    record { owed = rw c.body.ensures owed }

pub returns-clause-becomes : goal.returns-clause-becomes
returns-clause-becomes g c =
    let body = g.B.LawfulBody.body in
    let events = g.B.Body.events_held in
    let r = c.in-Some.record in
    let found = sym c.in-Some.ensures.taken in
    let code = c.self.inside.code.value in
    let none = subst (λ o. IsSomeAnd o (λ r. r.scopes ≡ [])) found (rw (← c.self.view_is) at c.requires.alive) in
    let stand = subst (λ o. IfSome o (λ r. StandInPlaces (body.tell code) (events r.body) r.body)) found (rw (← c.self.view_is) at c.requires.places) in
    let owing = rw (← c.self.view_is) at c.requires.owing in
    let ended = ended_owing body _ c.args.process c.args.outcome r found c.trigger.new.self c.trigger.new.self.shared.happen c.take.new.self.live c.take.new.self.spare none c.in-Some.ensures.live c.in-Ok.ensures.ok (rw (c.in-Ok.ensures.rest, c.in-Ok.ensures.ok.left) refl) in
    let first = rw c.target.ensures at c.unhold.ensures.owes in
    let last = rw c.body.ensures at c.unhold_places.ensures.owes in
    rw (← c.self.view_is) (ended_becomes body _ c.args.process c.args.outcome r found c.trigger.new.self (events r.body) ended stand owing c.unhold.new.self first c.unhold_places.new.self last)
