use Rattle.std.proofs.Common.{rules, ◌≡◌, List, [], ◌++◌, length, map, sym, ap, ◌∙◌, subst}
use Rattle.std.proofs.lemmas.List.{length-map}
use Rattle.sim_inbox.specs.declared.taken.Taken.{Taken}
use Rattle.sim_inbox.specs.Lists.{untaken}
use Rattle.sim_lanes.specs.Ends.{PosterOf, taken_of, posted_of}
use Rattle.sim_lanes.specs.Closing.{wholes_of, AllJoined}
use Rattle.sim_lanes.proofs.Joining.{all_left, each_joined, begins_each}
use Rattle.sim_lanes.proofs.taker.LaneTakerTaking.close.Goals as goal

pub drain_all-requires-clause-joined : goal.drain_all-requires-clause-joined
drain_all-requires-clause-joined c =
    let lists = map posted_of c.args.posters in
    let joined = subst (λ (l : List PosterOf). AllJoined c.args.self c.join_all.new.self (map posted_of l)) c.into_vec.ensures c.join_all.ensures in
    each_joined c.args.self c.join_all.new.self lists (length-map c.args.posters posted_of ∙ c.requires.all) joined

pub drain_all-requires-clause-room : goal.drain_all-requires-clause-room
drain_all-requires-clause-room c =
    let lists = map posted_of c.args.posters in
    let joined = subst (λ (l : List PosterOf). AllJoined c.args.self c.join_all.new.self (map posted_of l)) c.into_vec.ensures c.join_all.ensures in
    let left = all_left c.args.self c.join_all.new.self lists (length-map c.args.posters posted_of ∙ c.requires.all) joined in
    let count : c.left_count-count.result ≡ length (untaken (taken_of c.args.self) 0 lists) =
    c.left_count-count.ensures ∙ ap (λ (l : List PosterOf). length (untaken (taken_of c.args.self) 0 (map posted_of l))) c.as_slice.ensures in
    let same : length (untaken (taken_of c.join_all.new.self) 0 (wholes_of c.join_all.new.self)) ≡ c.left_count-count.result = ap (λ (l : List Taken). length l) left ∙ sym count in
    rw same (search rules)

pub returns-clause-left : goal.returns-clause-left
returns-clause-left c =
    let lists = map posted_of c.args.posters in
    let joined = subst (λ (l : List PosterOf). AllJoined c.args.self c.join_all.new.self (map posted_of l)) c.into_vec.ensures c.join_all.ensures in
    let left = all_left c.args.self c.join_all.new.self lists (length-map c.args.posters posted_of ∙ c.requires.all) joined in
    let items : c.reserve.new.self.items ≡ [] = c.reserve.ensures.items ∙ c.new-left.ensures.items in
    c.from_vec.ensures ∙ c.drain_all.ensures.left ∙ (λ k. items k ++ untaken (taken_of c.join_all.new.self) 0 (wholes_of c.join_all.new.self)) ∙ left

pub returns-clause-whole : goal.returns-clause-whole
returns-clause-whole c =
    let joined = subst (λ (l : List PosterOf). AllJoined c.args.self c.join_all.new.self (map posted_of l)) c.into_vec.ensures c.join_all.ensures in
    begins_each c.args.self c.join_all.new.self c.args.posters c.requires.all joined c.drain_all.ensures.whole
