use Rattle.std.proofs.Common.{◌≡◌, ◌<◌, ℕ, Some, sym, subst, ◌∙◌, take}
use Rattle.std.proofs.lemmas.Option.{same_Some}
use Rattle.sim_resource.specs.GrantOrder.{IsNextGrant}
use Rattle.sim_resource.proofs.NewNumbers.{kept_least, passed_over, new_least, one_further}
use Rattle.sim_resource.proofs.users.least_from.Goals as goal
use Rattle.sim_resource.proofs.users.least_from.Goals.{in-Some, in_default, in_default-via-in-Some+else-grant-numbered, in_default-via-in_default, in_default-2}

pub loop-numbered-preserved : goal.loop-numbered-preserved
loop-numbered-preserved c =
    let next = c.args.next in
    let gs = c.args.users.now in
    let i = c.loop-numbered.numbered-index in
    let g = c.numbered-item.result in
    let before = take i gs in
    let found = c.loop-numbered.invariant in
    one_further next gs i g c.match-least.least c.loop-numbered-test.true c.numbered-item.is
    (elim c.match-least.branch [
      | in-Some w ↦
          subst (IsNextGrant next _) (sym w.least-is) (kept_least next before g w.in-Some.grant (subst (IsNextGrant next before) w.in-Some.is found) w.if-grant-numbered.true)
      | in_default w ↦
          subst (IsNextGrant next _) (sym w.least-is)
          (passed_over next before g w.in_default.least
          (elim w.in_default.branch [
            | in_default-via-in-Some+else-grant-numbered v ↦ subst (IsNextGrant next before) (v.in-Some.is ∙ sym v.least-is) found
            | in_default-via-in_default v ↦ subst (IsNextGrant next before) (sym v.least-is) found
          ])
          w.if-numbered-next.true)
      | in_default-2 w ↦
          let lower : (n : ℕ) → c.loop-numbered.least ≡ Some n → g.grant < n = λ n is.
          elim w.in_default.branch [
            | in_default-via-in-Some+else-grant-numbered v ↦ subst (λ m. g.grant < m) (same_Some v.in-Some.grant n (sym v.in-Some.is ∙ is)) v.if-grant-numbered.false
            | in_default-via-in_default v ↦ absurd (v.in_default.not-Some n is)
          ] in
          subst (IsNextGrant next _) (sym w.least-is) (new_least next before g c.loop-numbered.least found w.if-numbered-next.false lower)
    ])
