-- How much is in use at a resource, or stands in it, as it is shown.
use Rattle.std.proofs.Common.{◌≡◌, ℕ, ◌<◌, pos, ◌≤ℤ◌, List, length, refl, ap, ◌∙◌, Some, map, slice_get, IsTrue}
use Rattle.std.specs.List.{AllPass}
use Rattle.std.proofs.lemmas.List.Elements.{All-get_or}
use Rattle.std.proofs.lemmas.Option.{slice_get_within}
use Rattle.sim_types.specs.Limits.{most_level}
use Rattle.sim_types.specs.Setups.{resource_fits}
use Rattle.sim_types.specs.declared.setup.Resource.{Resource}
use Rattle.sim_machine.specs.State.{Facilities}
use Rattle.sim_machine.specs.Users.{resource_at, users, items}
use Rattle.sim_machine.specs.Requests.{held, held_of}
use Rattle.sim_machine_law.proofs.Stocks.HeldNumbers.{capacity_to_most}
use Rattle.sim_shared_model.specs.declared.desk.DeskKind.{DeskKind}
use Rattle.sim_shared_model.specs.declared.desk.DeskKind.TheVariants as desk
use Rattle.sim_shared_model.specs.DeskOf.{resource_kind}
use Rattle.sim_shared_model.specs.declared.stock.ShelfKind.{ShelfKind}
use Rattle.sim_shared_model.specs.declared.stock.ShelfKind.TheVariants as shelf
use Rattle.sim_shared_model.specs.Shelves.{store_kind}
use Rattle.sim_shared_model.specs.AnyShared.{SharedResource}
use Rattle.sim_shared_model.specs.declared.resource.AnyResource.TheVariants.{Desk, Tank, Shelf}
use Rattle.sim_shared_model.specs.Resources.{declared_as, without_opening, count_at}
use Rattle.sim_shared_model.specs.SharedOf.{SharedOf}
use Rattle.sim_shared_model.specs.ShowsAll.{ShowsAt, ShowsAll}
use Rattle.sim_shared_law.proofs.Shown.ResourcePlaces.{declared_at, same_length}

held_at_desk : (k : DeskKind) (rs : List Resource) (res : ℕ) (f : Facilities) → pos (length (users res f.ledger)) ≡ held_of (resource_kind k) rs res f
held_at_desk desk.Plain rs res f = refl
held_at_desk desk.Priority rs res f = refl
held_at_desk desk.Preemptive rs res f = refl

held_at_shelf : (k : ShelfKind) (rs : List Resource) (res : ℕ) (f : Facilities) → pos (length (items res f.ledger)) ≡ held_of (store_kind k) rs res f
held_at_shelf shelf.Fifo rs res f = refl
held_at_shelf shelf.Priority rs res f = refl
held_at_shelf shelf.Filter rs res f = refl

-- by the kind that the setup says
count_is : (rs : List Resource) (res : ℕ) (x : SharedResource) (f : Facilities) → declared_as x ≡ without_opening (resource_at rs res) →
    ShowsAt rs res x f → count_at x ≡ held rs res f
count_is rs res (Desk d) f h s =
    ap (λ us. pos (length us)) s.users ∙ (held_at_desk d.kind rs res f ∙ ap (λ (r : Resource). held_of r.kind rs res f) h)
count_is rs res (Tank t) f h s = s.level ∙ ap (λ (r : Resource). held_of r.kind rs res f) h
count_is rs res (Shelf x) f h s =
    ap (λ xs. pos (length xs)) s.items ∙ (held_at_shelf x.kind rs res f ∙ ap (λ (r : Resource). held_of r.kind rs res f) h)

pub count_shown : (h : SharedOf) (f : Facilities) (res : ℕ) (x : SharedResource) → slice_get h.resources res ≡ Some x → ShowsAll h f →
    count_at x ≡ held h.setup res f
count_shown h f res x there shown =
    count_is h.setup res x f (declared_at h.resources h.setup res x shown.opened there) (shown.resources res x there)

-- ---- no capacity is greater than what a container may hold

pub capacity_fits : (xs : List SharedResource) (rs : List Resource) (n : ℕ) (x : SharedResource) → map declared_as xs ≡ map without_opening rs →
    AllPass resource_fits rs → slice_get xs n ≡ Some x → (declared_as x).capacity ≤ℤ most_level
capacity_fits xs rs n x opened fit there =
    let r : Resource = resource_at rs n in
    let within : n < length rs = rw (← same_length xs rs opened) (slice_get_within xs n x there) in
    let fits : IsTrue (resource_fits r) = All-get_or (λ (y : Resource). IsTrue (resource_fits y)) rs n _ within fit in
    rw (declared_at xs rs n x opened there) (capacity_to_most r fits)
