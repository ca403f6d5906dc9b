-- What is measured at a resource, as it is shown, and where it changes.
use Rattle.std.proofs.Common.{◌≡◌, ℕ, List, [], ◌∷◌, ◌++◌, false, length, refl, sym, ap, ◌∙◌, Option, Some, None, map, slice_get, slice_set}
use Rattle.std.specs.Prelude.{◌==◌}
use Rattle.std.specs.Option.{option_map}
use Rattle.std.proofs.lemmas.Bool.{eqb-false, or_parts}
use Rattle.std.proofs.lemmas.List.{length-map}
use Rattle.std.proofs.lemmas.List.Folds.{list_any-append}
use Rattle.std.proofs.lemmas.Option.{slice_get-map}
use Rattle.sim_types.specs.declared.setup.Resource.{Resource}
use Rattle.sim_machine.specs.State.{Facilities, Waiter}
use Rattle.sim_machine.specs.Users.{put_queue, get_queue}
use Rattle.sim_machine.specs.Measures.{measure_at}
use Rattle.sim_shared_model.specs.declared.desk.Grant.{Grant}
use Rattle.sim_shared_model.specs.declared.stock.Served.{Served}
use Rattle.sim_shared_model.specs.DeskOf.{waiter_at}
use Rattle.sim_shared_model.specs.AnyShared.{SharedResource}
use Rattle.sim_shared_model.specs.declared.resource.AnyResource.TheVariants.{Desk, Tank, Shelf}
use Rattle.sim_shared_model.specs.Resources.{without_room}
use Rattle.sim_shared_model.specs.Granting.{TriesDesk}
use Rattle.sim_shared_model.specs.Joining.{IsJoinedAt}
use Rattle.sim_shared_model.specs.Measuring.{puts_waiting, gets_waiting, measure_of, is_one_of, ChangesOnlyAt}
use Rattle.sim_shared_model.specs.Serving.{TriesAt}
use Rattle.sim_shared_model.specs.SharedOf.{SharedOf, IsSameButRoom}
use Rattle.sim_shared_model.specs.ShowsAll.{ShowsAt, ShowsAll, amount_for, amount_waiting, put_waiting, get_waiting}
use Rattle.sim_shared_law.proofs.Shown.ResourcePlaces.{got_other}
use Rattle.sim_shared_law.proofs.Shown.ShownCounts.{count_shown}

-- lists that are mapped alike are of one length
mapped_alike : {X Y Z : Type 0} (f : X → Z) (g : Y → Z) (xs : List X) (ys : List Y) → map f xs ≡ map g ys → length xs ≡ length ys
mapped_alike f g xs ys h = sym (length-map xs f) ∙ (ap length h ∙ length-map ys g)

puts_are : (rs : List Resource) (res : ℕ) (x : SharedResource) (f : Facilities) → ShowsAt rs res x f
    → puts_waiting x ≡ length (put_queue rs res f.waiters)
puts_are rs res (Desk d) f s = sym (length-map d.queue (waiter_at res)) ∙ ap length s.queue
puts_are rs res (Tank t) f s = mapped_alike amount_waiting amount_for t.puts (put_queue rs res f.waiters) s.puts
puts_are rs res (Shelf x) f s = sym (length-map x.puts (put_waiting res)) ∙ ap length s.puts

gets_are : (rs : List Resource) (res : ℕ) (x : SharedResource) (f : Facilities) → ShowsAt rs res x f
    → gets_waiting x ≡ length (get_queue res f.waiters)
gets_are rs res (Desk d) f s = sym (ap length s.gets)
gets_are rs res (Tank t) f s = mapped_alike amount_waiting amount_for t.gets (get_queue res f.waiters) s.gets
gets_are rs res (Shelf x) f s = sym (length-map x.gets (get_waiting res)) ∙ ap length s.gets

pub measure_shown : (h : SharedOf) (f : Facilities) (res : ℕ) (x : SharedResource) → slice_get h.resources res ≡ Some x → ShowsAll h f
    → measure_of x ≡ measure_at h.setup res f
measure_shown h f res x there shown =
    let puts = puts_are h.setup res x f (shown.resources res x there) in
    let gets = gets_are h.setup res x f (shown.resources res x there) in
    let held = count_shown h f res x there shown in
    rw (puts, gets, held) refl

-- ---- where it changes

-- where the resources are as before, nothing that is measured changes
pub nothing_changes : (places : List ℕ) (a b : SharedOf) → b.resources ≡ a.resources → ChangesOnlyAt places a b
nothing_changes places a b h = record { others = λ at other. ap (λ xs. option_map measure_of (slice_get xs at)) h }

-- where one of them becomes another, it changes at its place alone
pub one_changes : (res : ℕ) (y : SharedResource) (a b : SharedOf) → b.resources ≡ slice_set a.resources res y → ChangesOnlyAt (res ∷ []) a b
one_changes res y a b h = record {
  others = λ at other.
      let differ = eqb-false res at (or_parts (res == at) false other).0 in
      ap (λ xs. option_map measure_of (slice_get xs at)) h ∙ ap (option_map measure_of) (got_other a.resources res at y (λ same. differ (sym same)));
}

pub joined_changes : (w : Waiter) (a b : SharedOf) → IsJoinedAt w a b → ChangesOnlyAt (w.res ∷ []) a b
joined_changes w a b h = one_changes w.res h.after a b (ap (λ x. x.resources) h.rest)

pub desk_changes : (res : ℕ) (answer : Grant) (a b : SharedOf) → TriesDesk res answer a b → ChangesOnlyAt (res ∷ []) a b
desk_changes res answer a b h = one_changes res (Desk h.after) a b (ap (λ x. x.resources) h.rest)

pub tried_changes : (tries : ℕ → Option Served → SharedResource → SharedResource → Type 0) (res : ℕ) (answer : Option Served) (a b : SharedOf)
    → TriesAt tries res answer a b → ChangesOnlyAt (res ∷ []) a b
tried_changes tries res answer a b h = one_changes res h.after a b (ap (λ x. x.resources) h.rest)

pub changes_then : (places : List ℕ) (a b c : SharedOf) → ChangesOnlyAt places a b → ChangesOnlyAt places b c → ChangesOnlyAt places a c
changes_then places a b c h k = record { others = λ at other. k.others at other ∙ h.others at other }

-- what happens beside it is nothing to the resources
pub happens_first : (places : List ℕ) (a b c : SharedOf) → b ≡ record a { happen = b.happen } → ChangesOnlyAt places b c → ChangesOnlyAt places a c
happens_first places a b c rest h = changes_then places a b c (nothing_changes places a b (ap (λ x. x.resources) rest)) h

pub happens_then : (places : List ℕ) (a b c : SharedOf) → ChangesOnlyAt places a b → c ≡ record b { happen = c.happen } → ChangesOnlyAt places a c
happens_then places a b c h rest = changes_then places a b c h (nothing_changes places b c (ap (λ x. x.resources) rest))

-- what changes at some places alone does so at these and more
pub changes_more : (ps qs : List ℕ) (a b : SharedOf) → ChangesOnlyAt ps a b → ChangesOnlyAt (ps ++ qs) a b
changes_more ps qs a b h = record {
  others = λ at other. h.others at (or_parts (is_one_of at ps) (is_one_of at qs) (sym (list_any-append (λ place. place == at) ps qs) ∙ other)).0;
}

pub more_change : (qs ps : List ℕ) (a b : SharedOf) → ChangesOnlyAt ps a b → ChangesOnlyAt (qs ++ ps) a b
more_change qs ps a b h = record {
  others = λ at other. h.others at (or_parts (is_one_of at qs) (is_one_of at ps) (sym (list_any-append (λ place. place == at) qs ps) ∙ other)).1;
}

-- room is not measured
measured_without : (o : Option SharedResource) → option_map measure_of (option_map without_room o) ≡ option_map measure_of o
measured_without None = refl
measured_without (Some (Desk d)) = refl
measured_without (Some (Tank t)) = refl
measured_without (Some (Shelf s)) = refl

measured_by_rest : (at : ℕ) (xs : List SharedResource) → option_map measure_of (slice_get (map without_room xs) at) ≡ option_map measure_of (slice_get xs at)
measured_by_rest at xs = ap (option_map measure_of) (slice_get-map without_room xs at) ∙ measured_without (slice_get xs at)

pub room_changes_nothing : (a b : SharedOf) → IsSameButRoom a b → ChangesOnlyAt [] a b
room_changes_nothing a b h = record {
  others = λ at other.
      sym (measured_by_rest at b.resources) ∙ (ap (λ xs. option_map measure_of (slice_get xs at)) h.resources ∙ measured_by_rest at a.resources);
}
