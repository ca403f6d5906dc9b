-- A callback that is not there is not taken out: the table stays as it was.
use Rattle.std.proofs.Common.{◌≡◌, ℕ, ◌+◌, false, Bool, List, Option, Some, None, set, refl, sym, ap, ◌∙◌, arith}
use Rattle.std.specs.List.{list_any}
use Rattle.std.proofs.lemmas.List.{set-get_or}
use Rattle.sim_types.specs.declared.event.EventId.{EventId}
use Rattle.sim_types.specs.declared.event.Callback.{Callback}
use Rattle.sim_machine.specs.Standing.{one_if}
use Rattle.sim_machine.specs.Callbacks.{is_same_callback}
use Rattle.sim_callbacks.proofs.Links.{without_none}
use Rattle.sim_happen_model.specs.TableOf.{Kept, TableOf, IsKept, kept_at}
use Rattle.sim_happen_model.specs.Changes.{change_kept, without_callback}
use Rattle.sim_events.proofs.KeptLists.{kept_is}

abbrev parted : List (Option Kept) → List Callback → ℕ → ℕ → ℕ → TableOf
parted events left spare callbacks conditions =
    record { events = events; left = left; spare = record { events = spare; callbacks = callbacks; conditions = conditions } }

pub same_table : (new old : TableOf) (result : Bool) → result ≡ false → new.events ≡ old.events → new.left ≡ old.left
    → new.spare.events ≡ old.spare.events → new.spare.callbacks ≡ old.spare.callbacks + one_if result → new.spare.conditions ≡ old.spare.conditions → new ≡ old
same_table new old result absent events left spare callbacks conditions =
    let none : old.spare.callbacks + 0 ≡ old.spare.callbacks = omega arith in
    let room : new.spare.callbacks ≡ old.spare.callbacks = callbacks ∙ ap (λ b. old.spare.callbacks + one_if b) absent ∙ none in
    let same : parted new.events new.left new.spare.events new.spare.callbacks new.spare.conditions ≡ parted old.events old.left old.spare.events old.spare.callbacks old.spare.conditions =
    rw (events, left, spare, room, conditions) refl in
    same

pub without_absent : (events : List (Option Kept)) (e : EventId) (c : Callback) → IsKept events e
    → list_any (is_same_callback c) (kept_at events e).callbacks ≡ false → change_kept e (without_callback c) events ≡ events
without_absent events e c kept none =
    ap (λ (cs : List Callback). set events e.0 (let o : Option Kept = Some (record (kept_at events e) { callbacks = cs }) in o)) (without_none (is_same_callback c) (kept_at events e).callbacks none)
    ∙ ap (λ (o : Option Kept). set events e.0 o) (sym (kept_is events e kept)) ∙ set-get_or events e.0 None
