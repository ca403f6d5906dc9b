use Rattle.std.proofs.Common.{rules, ◌≡◌, ℕ, List, length, get_or, replicate, sym, ap, ◌∙◌}
use Rattle.std.specs.Prelude.{slice_get}
use Rattle.std.specs.Arc.{arc_value}
use Rattle.sim_lanes.specs.Places.{end_of}
use Rattle.sim_lanes.specs.Ends.{PosterOf}
use Rattle.sim_lanes.specs.Opening.{fresh_posters}
use Rattle.sim_lanes.specs.declared.lane_end.LaneEnd.{LaneEnd}
use Rattle.sim_lanes.proofs.Seats.{opens}
use Rattle.sim_lanes.proofs.Laying.{is_taking, nothing_taken, many_lanes, length_fresh, posters_own, posters_fresh}
use Rattle.sim_lanes.proofs.opening.new_lanes.Goals as goal

pub of_words-requires : goal.of_words-requires
of_words-requires c =
    let about : c.from_vec-about.result ≡ c.args.capacities.now = c.from_vec-about.ensures ∙ c.in_ok-from_slice.ensures.items in
    let zeros : c.as_slice.result.now ≡ replicate (end_of 1 c.args.capacities.now) 0 =
    c.as_slice.ensures.value ∙ c.in_ok-zeros.ensures.items_if_clones_equal (search rules) ∙ ap (λ (n : ℕ). replicate n 0) c.in_ok-ends.ensures.words in
    rw (about, zeros) (opens c.args.capacities.now c.requires.each)

pub invariant_of-result : goal.invariant_of-result
invariant_of-result c =
    let about : c.from_vec-about.result ≡ c.args.capacities.now = c.from_vec-about.ensures ∙ c.in_ok-from_slice.ensures.items in
    let table = (arc_value c.in_ok-table-2.table).shared in
    let key : table.key ≡ c.args.capacities.now = search rules in
    is_taking table.key table.table_id c.split_posters.new.seat.table_id c.split_posters.new.seat.me (length c.as_slice-2.result.now) c.in_ok-posters.ensures.last c.in_ok-ends.ends.items
    (c.in_ok-ends.ensures.many ∙ ap (λ (l : List ℕ). length l) (sym key)) (rw key c.requires.few) (rw key c.in_ok-ends.ensures.ends)

pub returns-clause-count : goal.returns-clause-count
returns-clause-count c =
    let about : c.from_vec-about.result ≡ c.args.capacities.now = c.from_vec-about.ensures ∙ c.in_ok-from_slice.ensures.items in
    let table = (arc_value c.in_ok-table-2.table).shared in
    let key : table.key ≡ c.args.capacities.now = search rules in
    many_lanes table.key table.table_id c.split_posters.new.seat.table_id c.split_posters.new.seat.me (length c.as_slice-2.result.now) c.in_ok-posters.ensures.last ∙ ap (λ (l : List ℕ). length l) key

pub returns-clause-taken : goal.returns-clause-taken
returns-clause-taken c =
    let table = (arc_value c.in_ok-table-2.table).shared in
    λ p. nothing_taken table.key table.table_id c.split_posters.new.seat.table_id c.split_posters.new.seat.me (length c.as_slice-2.result.now) c.in_ok-posters.ensures.last p

pub returns-clause-many : goal.returns-clause-many
returns-clause-many c =
    let table = (arc_value c.in_ok-table-2.table).shared in let n = length c.as_slice-2.result.now in
    let posters : c.from_vec.result ≡ fresh_posters table.table_id table.key n = c.from_vec.ensures ∙ c.in_ok-posters.ensures.posters in
    ap (λ (l : List PosterOf). length l) posters ∙ length_fresh table.table_id table.key n ∙ ap (λ (l : List LaneEnd). length l) c.as_slice-2.ensures.value ∙ c.in_ok-ends.ensures.many

pub returns-clause-own : goal.returns-clause-own
returns-clause-own c =
    let table = (arc_value c.in_ok-table-2.table).shared in let n = length c.as_slice-2.result.now in let seat = c.split_posters.new.seat.table_id in
    let posters : c.from_vec.result ≡ fresh_posters table.table_id table.key n = c.from_vec.ensures ∙ c.in_ok-posters.ensures.posters in
    λ p x e. posters_own table.table_id seat table.key n c.in_ok-posters.ensures.last.seated.same_table p x (ap (λ (l : List PosterOf). slice_get l p) (sym posters) ∙ e)

pub returns-clause-fresh : goal.returns-clause-fresh
returns-clause-fresh c =
    let about : c.from_vec-about.result ≡ c.args.capacities.now = c.from_vec-about.ensures ∙ c.in_ok-from_slice.ensures.items in
    let table = (arc_value c.in_ok-table-2.table).shared in let n = length c.as_slice-2.result.now in
    let key : table.key ≡ c.args.capacities.now = search rules in
    let posters : c.from_vec.result ≡ fresh_posters table.table_id table.key n = c.from_vec.ensures ∙ c.in_ok-posters.ensures.posters in
    λ p x e. let f = posters_fresh table.table_id table.key n p x (ap (λ (l : List PosterOf). slice_get l p) (sym posters) ∙ e) in (f.0, f.1 ∙ ap (λ (l : List ℕ). get_or l p 0) key)
