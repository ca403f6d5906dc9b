use Rattle.std.proofs.Common.{◌<◌, FitsSigned, Fits, w32, w64, refl, sym, subst, rules, add-zero}
use Rattle.std.proofs.Math.IntN.{+ℤ_idr}
use Rattle.sim_language_law.proofs.Scenarios.PostsOfScenarios.{posts_of_scenario}
use Rattle.sim_engine.proofs.SessionLaws.{none_logged, counted, sum_is}
use Rattle.sim_engine.proofs.session.Session.tell.Goals as goal
use Rattle.sim_engine.proofs.session.Session.tell.Goals.{in-Log, in_default}

pub write_line-requires : goal.write_line-requires
write_line-requires g c =
    record { names = rw c.port_names.ensures.names (posts_of_scenario c.args.scenario.now c.port_names.ensures.well_formed).names }

pub invariant_of-self : goal.invariant_of-self
invariant_of-self g c =
    let x = c.self.inside in
    let kept = c.self.invariant in
    let less : x.logs < x.units = subst (λ y. y.logs < y.units) (sym c.self.view_is) c.requires.one_less in
    let few : Fits w32 x.units = search rules in
    elim c.match-line.branch [
      | in-Log w ↦
          let fits : FitsSigned w64 w.in-Log.value = search rules in
          let sum = sum_is x.units x.logs x.total w.in-Log.value w.from.result kept.counts less few.fits fits w.from.ensures in
          let counts = counted x.units x.logs x.total w.in-Log.value kept.counts less fits in
          rw (w.self-inside-is, sum) (record { until = kept.until; made = kept.made; within = kept.within; counts = counts })
      | in_default w ↦ rw w.self-inside-is kept
    ]

pub returns-clause-logs : goal.returns-clause-logs
returns-clause-logs g c =
    let x = c.self.inside in
    let kept = c.self.invariant in
    let less : x.logs < x.units = subst (λ y. y.logs < y.units) (sym c.self.view_is) c.requires.one_less in
    let few : Fits w32 x.units = search rules in
    elim c.match-line.branch [
      | in-Log w ↦
          let fits : FitsSigned w64 w.in-Log.value = search rules in
          let sum = sum_is x.units x.logs x.total w.in-Log.value w.from.result kept.counts less few.fits fits w.from.ensures in
          rw (w.self-inside-is, ← c.self.view_is, w.in-Log.is, sum, +ℤ_idr w.in-Log.value) refl
      | in_default w ↦
          rw (w.self-inside-is, ← c.self.view_is, none_logged c.args.line.now w.in_default.not-Log, add-zero, +ℤ_idr x.total) refl
    ]
