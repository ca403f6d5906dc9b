use Rattle.std.proofs.Common.{refl}
use Rattle.sim_code.proofs.LastPoster.{onto_last_set, onto_none}
use Rattle.sim_code.proofs.draft.Draft.push_post.Goals as goal
use Rattle.sim_code.proofs.draft.Draft.push_post.Goals.{in-Some+in_ok-push, in_default}

pub returns : goal.returns
returns c =
    let posters = c.self.inside.posters in
    elim c.match-last_mut.branch [
      | in-Some+in_ok-push w ↦
          let e = onto_last_set c.args.post posters.len posters.items w.in-Some.posts.now w.push.new.self posters.ok.0 (w.in-Some.ensures.variant.0 refl) w.in-Some.ensures.value w.in_ok-push.ensures.ok in
          rw (w.self-inside-is, ← c.self.view_is, e) refl
      | in_default w ↦
          let e = onto_none c.args.post posters.items w.in_default.ensures.item.3 in
          rw (w.self-inside-is, ← c.self.view_is, ← e) refl
    ]
