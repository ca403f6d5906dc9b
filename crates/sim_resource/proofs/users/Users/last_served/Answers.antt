use Rattle.std.proofs.Common.{sym, ◌∙◌, ap, length, ◌-◌}
use Rattle.std.specs.Option.{option_map}
use Rattle.std.proofs.lemmas.Option.{slice_get-map}
use Rattle.sim_resource.specs.declared.user.NumberedUser.{NumberedUser}
use Rattle.sim_resource.proofs.LastElements.{last_of_ranked}
use Rattle.sim_resource.proofs.LastElements.{back_at}
use Rattle.std.specs.VecDeque.{deque_len}
use Rattle.sim_resource.proofs.users.Users.last_served.Goals as goal

pub returns : goal.returns
returns c =
    let a = c.self.inside in
    let is_ranked = rw (← c.self.view_is) at c.requires.ranked in
    let value = back_at a.users.items (deque_len a.users) c.back.result a.users.ok.0 c.back.ensures.item in
    let last = sym c.in_ok-last.was ∙ (c.copied.ensures ∙ value) in
    let ranked = sym (last_of_ranked a.ranked a.next a.users.items is_ranked c.self.invariant.0) in
    rw (← c.self.view_is)
    (ap (option_map (λ (g : NumberedUser). g.user)) last
    ∙ (sym (slice_get-map (λ (g : NumberedUser). g.user) a.users.items (length a.users.items - 1)) ∙ ranked))
