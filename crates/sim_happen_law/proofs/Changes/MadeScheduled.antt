-- An event that is made with its outcome and an entry: as one that is made and then put.
use Rattle.std.proofs.Common.{◌≡◌, ℕ, ◌+◌, ◌<◌, ◌^◌, ℤ, List, [], ◌∷◌, ◌++◌, length, refl, sym, ap, ◌∙◌, arith, Option, Some, None}
use Rattle.std.specs.Prelude.{min, slice_index_or, slice_set}
use Rattle.std.specs.List.{sum_by}
use Rattle.std.specs.List.Sorted.{IsPermutation}
use Rattle.std.proofs.Math.Seq.{set-append_seam}
use Rattle.sim_types.specs.declared.event.Entry.{Entry}
use Rattle.sim_types.specs.declared.event.EventId.{EventId}
use Rattle.sim_types.specs.declared.event.EventKind.{EventKind}
use Rattle.sim_types.specs.declared.event.Outcome.{Outcome}
use Rattle.sim_machine.specs.Events.{pending_event, next_event}
use Rattle.sim_machine.specs.Triggering.{make, schedule}
use Rattle.sim_happen_model.specs.Agendas.{AgendaOf}
use Rattle.sim_happen_model.specs.TableOf.{Kept, Spare, TableOf, kept_at, kept_or_new, new_kept}
use Rattle.sim_happen_model.specs.Changes.{more_events, with_outcome}
use Rattle.sim_happen_model.specs.HappenOf.{HappenOf, unheld_event}
use Rattle.sim_happen_model.specs.Shows.{Turns}
use Rattle.sim_happen_model.specs.Sound.{IsSound, IsTime, kept_one, places_for, spare_in}
use Rattle.sim_happen_law.proofs.Shown.KeptPlaces.{at_end}
use Rattle.sim_happen_law.proofs.Shown.Shown.{entry_after}
use Rattle.sim_happen_law.proofs.Changes.Following.{follows_put, turns_made}
use Rattle.sim_happen_law.proofs.Changes.Soundness.{place_found, sound_made, sound_put}
use Rattle.sim_happen_law.proofs.Changes.NewEvents.{IsNew, is_new, turns_scheduled}

-- the list with the event, once it is made and once it has its outcome
module _ (es : List (Option Kept)) (kind : EventKind) (x : Outcome) (e : EventId) (here : e.0 ≡ length es) where
  abbrev pub with_made : List (Option Kept)
  with_made = es ++ Some (new_kept (pending_event kind)) ∷ []

  made_at : kept_at with_made e ≡ new_kept (pending_event kind)
  made_at = ap kept_or_new (ap (λ n. slice_index_or with_made n None) here ∙ at_end es (Some (new_kept (pending_event kind))))

  pub set_made : slice_set with_made e.0 (Some (with_outcome x (kept_at with_made e))) ≡ es ++ Some (with_outcome x (new_kept (pending_event kind))) ∷ []
  set_made =
      let set : ℕ → Kept → List (Option Kept) = λ n k. slice_set with_made n (Some (with_outcome x k)) in
      ap (λ n. set n (kept_at with_made e)) here ∙ ap (set (length es)) made_at
      ∙ set-append_seam es (Some (new_kept (pending_event kind))) [] (Some (with_outcome x (new_kept (pending_event kind))))

module _ (h : HappenOf) (room : ℕ) (kind : EventKind) (x : Outcome) (e : EventId) (here : e.0 ≡ length h.events)
    (few : length h.events < 2 ^ 62) (places : sum_by kept_one h.events < length h.agenda + room) (s : IsSound h room) where
  -- the event is made, and has no outcome yet
  abbrev made : HappenOf
  made = record h { events = with_made h.events kind x e here }

  made_turns : Turns (make kind) unheld_event h made
  made_turns = turns_made h made kind (record { time = refl; scheduled = refl; agenda = refl; left = refl }) refl

  made_sound : IsSound made room
  made_sound = sound_made h made room kind (record { time = refl; scheduled = refl; agenda = refl; left = refl }) refl few places s

  made_new : IsNew made e
  made_new = is_new kind h made e made_turns here

  pub place_made : 0 < room
  place_made = place_found made room e made_new.kept made_new.pending made_sound

  -- it has its outcome, and an entry
  module _ (n : HappenOf) (time : n.time ≡ h.time) (scheduled : n.scheduled ≡ h.scheduled + 1) (is : n.events ≡ h.events ++ Some (with_outcome x (new_kept (pending_event kind))) ∷ []) where
    pub sound_scheduled : (left : ℕ) (y : Entry) → y.event ≡ e → y.key.number ≡ h.scheduled → IsTime y.key.time → IsPermutation (y ∷ h.agenda) n.agenda
        → left + 1 ≡ room → IsSound n left
    sound_scheduled left y at number due agenda one =
        sound_put made n room left e x y made_new.kept made_new.pending made_new.uncancelled at number due time scheduled agenda
        (is ∙ sym (set_made h.events kind x e here)) one made_sound

    pub turns_made_scheduled : (priority : ℕ) (delay given : ℤ) → given ≡ delay → IsPermutation (entry_after h.time given priority h.scheduled e ∷ h.agenda) n.agenda
        → n.left ≡ h.left → Turns (λ c. schedule (next_event c) x priority delay (make kind c)) unheld_event h n
    turns_made_scheduled priority delay given same agenda left =
        turns_scheduled kind x priority delay h made n e made_turns here
        (follows_put made n e x priority delay given same made_new.kept time scheduled agenda (is ∙ sym (set_made h.events kind x e here)) left)

-- it takes the room of one event
pub spare_scheduled : (a b : AgendaOf) (t u : TableOf) → more_events 1 u.spare ≡ t.spare → sum_by kept_one u.events ≡ sum_by kept_one t.events + 1
    → length b.entries + b.spare ≡ length a.entries + a.spare → 0 < (spare_in a t).events → more_events 1 (spare_in b u) ≡ spare_in a t
spare_scheduled a b t u more kept places some =
    let P : ℕ → Spare → Spare = λ n s. record s { events = n } in
    let one : u.spare.events + 1 ≡ t.spare.events = ap (λ (s : Spare). s.events) more in
    let fewer : min u.spare.events (places_for b u.events) + 1 ≡ min t.spare.events (places_for a t.events) = omega (arith, one, kept, places, some) in
    ap (λ n. P n u.spare) fewer ∙ ap (P (min t.spare.events (places_for a t.events))) more
