use Rattle.std.proofs.Common.{ap, refl, [], ◌∷◌, ◌++◌}
use Rattle.sim_procs.specs.RecordOf.{RecordOf}
use Rattle.sim_procs.proofs.Places.{changed_stored, changed_live}
use Rattle.sim_procs.proofs.procs.Procs.push_scope.Goals as goal

pub invariant_of-self : goal.invariant_of-self
invariant_of-self g c = changed_stored c.self.inside.records.items c.in-Some.at c.index_mut.result.now c.push_scope.new.self c.index_mut.ensures.value c.self.inside.index.places c.self.inside.room.value c.self.invariant (rw (← c.self.view_is) at c.in-Some.ensures).below (ap (λ (r : RecordOf _). r.id.0) c.push_scope.ensures) (ap (λ (r : RecordOf _). r.room) c.push_scope.ensures)

pub returns : goal.returns
returns g c = rw (← c.self.view_is) (rw (changed_live c.self.inside.records.items c.in-Some.at c.index_mut.result.now c.push_scope.new.self c.index_mut.ensures.value c.args.id (λ r. record r { scopes = r.scopes ++ c.args.scope ∷ [] }) (rw (← c.self.view_is) at c.in-Some.ensures) c.push_scope.ensures) refl)
