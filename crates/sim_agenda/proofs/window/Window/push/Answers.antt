use Rattle.std.proofs.Common.{◌≡◌, pos, ◌+ℤ◌, ◌<◌, [], ◌∷◌, ◌++◌, map, length, get_or, sym, ap, subst, ◌∙◌, arith, rules}
use Rattle.std.specs.List.Sorted.{IsPermutation}
use Rattle.sim_agenda.specs.Series.{Rises}
use Rattle.sim_agenda.specs.Windows.{joined, turned}
use Rattle.sim_agenda.proofs.Queues.{read_at, written_at, same_at, as_many, none_joined}
use Rattle.sim_agenda.proofs.Turning.{ring_within, ring_reads, ring_put, ring_joined}
use Rattle.sim_agenda.proofs.window.Window.push.Goals as goal

pub put_behind-requires-clause-rises : goal.put_behind-requires-clause-rises
put_behind-requires-clause-rises c =
    let inside = c.self.inside in
    let number = c.in-Some.number in
    let few : number < length inside.queues.items = search rules in
    subst Rises (ring_reads inside.queues.items inside.turn inside.start inside.first inside.len c.self.invariant number _ few c.place_in_ring-place.ensures
    c.index_mut.result.now c.index_mut.ensures.value) (c.self.invariant.window.rises number)

pub invariant_of-self : goal.invariant_of-self
invariant_of-self c =
    let kept : c.put_behind.new.series.items ≡ c.index_mut.result.now.items = search rules in
    rw (same_at c.self.inside.queues.items c.place_in_ring-place.result c.index_mut.result.now c.put_behind.new.series c.index_mut.ensures.value kept)
    c.self.invariant

pub returns-then-not-put_behind-clause-kept : goal.returns-then-not-put_behind-clause-kept
returns-then-not-put_behind-clause-kept c =
    let inside = c.self.inside in
    let kept : c.put_behind.new.series.items ≡ c.index_mut.result.now.items = search rules in
    λ _. ap (λ us. joined (turned inside.turn us))
    (same_at inside.queues.items c.place_in_ring-place.result c.index_mut.result.now c.put_behind.new.series c.index_mut.ensures.value kept) ∙ c.self.view_is

pub returns-then-not-put_behind-clause-alone : goal.returns-then-not-put_behind-clause-alone
returns-then-not-put_behind-clause-alone c =
    let inside = c.self.inside in
    let number = c.in-Some.number in
    let few : number < length inside.queues.items = search rules in
    λ none. c.put_behind.ensures.alone (sym (ring_reads inside.queues.items inside.turn inside.start inside.first inside.len c.self.invariant number _ few
    c.place_in_ring-place.ensures c.index_mut.result.now c.index_mut.ensures.value)
    ∙ none_joined (turned inside.turn (map (λ q. q.items) inside.queues.items)) number (ap length (c.self.view_is ∙ none)))

pub returns-clause-alone : goal.returns-clause-alone
returns-clause-alone c =
    let inside = c.self.inside in
    let number = c.in-Some.number in
    let few : number < length inside.queues.items = search rules in
    λ none. c.put_behind.ensures.alone (sym (ring_reads inside.queues.items inside.turn inside.start inside.first inside.len c.self.invariant number _ few
    c.place_in_ring-place.ensures c.index_mut.result.now c.index_mut.ensures.value)
    ∙ none_joined (turned inside.turn (map (λ q. q.items) inside.queues.items)) number (ap length (c.self.view_is ∙ none)))

pub invariant_of-self-2 : goal.invariant_of-self-2
invariant_of-self-2 c =
    let inside = c.self.inside in
    let qs = inside.queues.items in
    let xss = map (λ q. q.items) qs in
    let number = c.in-Some.number in
    let place = c.place_in_ring-place.result in
    let x = c.args.entry.now in
    let few : number < length qs = search rules in
    let within : place < length qs =
    ring_within qs inside.turn inside.start inside.first inside.len c.self.invariant number _ few c.place_in_ring-place.ensures in
    let put : c.put_behind.new.series.items ≡ c.index_mut.result.now.items ++ x ∷ [] = search rules in
    let is : c.put_behind.new.series.items ≡ get_or xss place [] ++ x ∷ [] =
    put ∙ ap (λ us. us ++ x ∷ []) (sym (read_at qs place c.index_mut.result.now within c.index_mut.ensures.value)) in
    let at : x.key.time ≡ inside.start +ℤ pos number = search rules in
    rw (written_at qs place c.put_behind.new.series, c.min-self-inside.ensures)
    (ring_put xss inside.turn inside.start inside.first inside.len c.self.invariant number place x c.put_behind.new.series.items
    (omega (arith, few, as_many qs))
    c.place_in_ring-place.ensures is at c.put_behind.ensures.rises)

pub returns-clause-entries : goal.returns-clause-entries
returns-clause-entries c =
    let inside = c.self.inside in
    let qs = inside.queues.items in
    let xss = map (λ q. q.items) qs in
    let number = c.in-Some.number in
    let place = c.place_in_ring-place.result in
    let x = c.args.entry.now in
    let few : number < length qs = search rules in
    let within : place < length qs =
    ring_within qs inside.turn inside.start inside.first inside.len c.self.invariant number _ few c.place_in_ring-place.ensures in
    let put : c.put_behind.new.series.items ≡ c.index_mut.result.now.items ++ x ∷ [] = search rules in
    let is : c.put_behind.new.series.items ≡ get_or xss place [] ++ x ∷ [] =
    put ∙ ap (λ us. us ++ x ∷ []) (sym (read_at qs place c.index_mut.result.now within c.index_mut.ensures.value)) in
    λ _. rw (← c.self.view_is) (subst (λ us. IsPermutation (x ∷ joined (turned inside.turn xss)) (joined (turned inside.turn us)))
    (sym (written_at qs place c.put_behind.new.series))
    (ring_joined xss inside.turn inside.start inside.first inside.len c.self.invariant number place x c.put_behind.new.series.items
    (omega (arith, few, as_many qs))
    c.place_in_ring-place.ensures is))
