use Rattle.std.proofs.Common.{◌≡◌, ◌∙◌, sym, ap}
use Rattle.std.specs.Arc.{arc_value}
use Rattle.sim_lanes.specs.Ends.{PosterOf, TakerOf}
use Rattle.sim_lanes.proofs.Seats.{joins}
use Rattle.sim_lanes.proofs.Joining.{one_table, some_words}
use Rattle.sim_lanes.proofs.taker.LaneTaker.join.Goals as goal

pub join_seat-requires : goal.join_seat-requires
join_seat-requires c =
    let h = c.self.invariant in let q = c.poster.invariant in
    let same : c.poster.inside.seat.table_id ≡ c.self.inside.seat.table_id =
    one_table _ _ (ap (λ (x : PosterOf). x.inbox) c.poster.view_is ∙ c.requires.inbox ∙ sym (ap (λ (t : TakerOf). t.inbox) c.self.view_is)) in
    rw c.deref.ensures (
      h.seated.same_table,
      same ∙ h.seated.same_table,
      q.no_slots,
      some_words h,
      joins (arc_value c.self.inside.table).shared.key
          c.self.inside.seat.id c.poster.inside.seat.id c.self.inside.seat.me.0 c.poster.inside.seat.me.0 h.is_taker q.is_poster,
    )
