use Rattle.std.proofs.Common.{◌≡◌, refl, sym, subst}
use Rattle.sim_engine.specs.declared.runs.Next.TheVariants as next
use Rattle.sim_host.specs.Hosting.{HostedOf, IsHosted, course_in, next_in}
use Rattle.sim_host.proofs.HostedRuns.{turned}
use Rattle.sim_host.proofs.hosted.Hosted.turn.Goals as goal
use Rattle.sim_host.proofs.hosted.Hosted.turn.Goals.{in-Ok, in-Err}

pub returns-clause-hosted : goal.returns-clause-hosted
returns-clause-hosted c =
    elim c.match-turn.branch [
      | in-Ok w ↦
          let s = c.args.scenario.now in
          let old : HostedOf = record { session = c.self.inside.session; arrived = c.self.inside.arrived } in
          let h = subst (IsHosted s) (sym c.self.view_is) c.requires.hosted in
          let comes = subst (λ x. next_in s x ≡ next.Turn) (sym c.self.view_is) c.requires.next in
          let t = (course_in s old).state in
          let made = w.in-Ok.ensures in
          rw w.result-is
          (turned s old (record { session = c.turn.new.self; arrived = c.self.inside.arrived }) h made.goes_on comes refl made.never_fewer made.within
          made.none_refused made.settled (made.busy t h.stands.at) (made.steps t h.stands.at))
      | in-Err w ↦ rw w.result-is (tt {0})
    ]
