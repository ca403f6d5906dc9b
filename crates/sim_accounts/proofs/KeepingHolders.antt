-- What keeps all holders: an event more that nobody holds, and one that goes where nobody holds it.
use Rattle.std.proofs.Common.{◌≡◌, ◌≢◌, ℕ, ◌+◌, ◌<◌, true, List, [], ◌∷◌, length, refl, sym, ap, subst, ◌∙◌, arith, ◌⊎◌, inl, inr, ⊎_elim, zero, suc, Option, Some, None, length-append}
use Rattle.std.specs.Prelude.{slice_index_or}
use Rattle.std.proofs.lemmas.Bool.{cases_eq, ne_eqb}
use Rattle.std.proofs.lemmas.List.{get_or-set_same, get_or-set_other}
use Rattle.std.proofs.Math.ListN.{length-set}
use Rattle.sim_types.specs.declared.event.EventId.{EventId}
use Rattle.sim_machine.specs.State.{Calendar}
use Rattle.sim_machine.specs.Conditions.{members_of}
use Rattle.sim_machine.specs.KeptEvents.{is_closed}
use Rattle.sim_machine_law.proofs.Events.EventLaws.{same_event}
use Rattle.sim_happen_model.specs.HappenOf.{HappenOf, held, unheld_event, none_if_unheld, gone_if_unheld}
use Rattle.sim_happen_law.proofs.Shown.KeptPlaces.{at_end, at_before}
use Rattle.sim_machine.specs.Events.{is_same}
use Rattle.std.specs.Prelude.{count_by, slice_set}
use Rattle.sim_happen_model.specs.Accounts.{Balanced}
use Rattle.sim_happen_model.specs.HolderChanges.{GoesUnheld, KeepsHolders}
use Rattle.sim_accounts.proofs.Balancing.{holders_told, number_of}

abbrev read_at : List (Option ℕ) → EventId → Option ℕ
read_at hs e = slice_index_or hs e.0 None

pub keeps_all : (d : Calendar) (hs : List (Option ℕ)) → KeepsHolders d hs hs
keeps_all d hs = record { longer = omega arith; old = λ e made. inl refl; new = λ e past made. absurd (omega (arith, past, made)) }

-- and then an event more
pub keeps_made : (d : Calendar) (hs gs : List (Option ℕ)) → KeepsHolders d hs gs → KeepsHolders d hs (unheld_event gs)
keeps_made d hs gs k =
    let more : length (unheld_event gs) ≡ length gs + 1 = length-append gs (Some 0 ∷ []) in
    let before : (e : EventId) → e.0 ≢ length gs → read_at (unheld_event gs) e ≡ read_at gs e = λ e differ. at_before gs (Some 0) e.0 differ in
    record {
      longer = omega (arith, k.longer, more);
      old = λ e made.
          let same : read_at (unheld_event gs) e ≡ read_at gs e = before e (λ is. omega (arith, is, made, k.longer)) in
          ⊎_elim (λ stays. inl (same ∙ stays)) (λ goes. inr (record { unheld = goes.unheld; gone = same ∙ goes.gone; closed = goes.closed; plain = goes.plain })) (k.old e made);
      new = λ e past made. ⊎_elim
          (λ is. ap (λ i. slice_index_or (unheld_event gs) i None) is ∙ at_end gs (Some 0))
          (λ differ. before e differ ∙ k.new e past (omega (arith, made, more, differ))) (cases_eq e.0 (length gs));
    }

-- and then one goes that was made before, where nobody holds it
pub keeps_gone : (d : Calendar) (e : EventId) (hs gs : List (Option ℕ)) → e.0 < length hs → is_closed d e ≡ true → members_of d e ≡ []
    → KeepsHolders d hs gs → KeepsHolders d hs (gone_if_unheld e gs)
keeps_gone d e hs gs below closed plain k =
    let o : Option ℕ = none_if_unheld (read_at gs e) in
    let same : length (gone_if_unheld e gs) ≡ length gs = length-set gs e.0 o in
    let here : read_at (gone_if_unheld e gs) e ≡ o = get_or-set_same gs e.0 o None (omega (arith, below, k.longer)) in
    let others : (f : EventId) → f.0 ≢ e.0 → read_at (gone_if_unheld e gs) f ≡ read_at gs f = λ f differ. get_or-set_other gs e.0 f.0 o None differ in
    let Keeps : EventId → Type 0 = λ f. (read_at (gone_if_unheld e gs) f ≡ read_at hs f) ⊎ GoesUnheld d f hs (gone_if_unheld e gs) in
    record {
      longer = omega (arith, k.longer, same);
      old = λ f made. ⊎_elim
          (λ is. subst Keeps (sym (same_event f e is)) (⊎_elim
          (λ stays. may_go (read_at hs e) refl (here ∙ ap none_if_unheld stays))
          (λ goes. inr (record { unheld = goes.unheld; gone = here ∙ ap none_if_unheld goes.gone; closed = closed; plain = plain }))
          (k.old e below)))
          (λ differ. ⊎_elim (λ stays. inl (others f differ ∙ stays)) (λ goes. inr (record { unheld = goes.unheld; gone = others f differ ∙ goes.gone; closed = goes.closed; plain = goes.plain })) (k.old f made))
          (cases_eq f.0 e.0);
      new = λ f past made. others f (λ is. omega (arith, is, past, below)) ∙ k.new f past (omega (arith, made, same));
    }
  where
    -- it had no holder and goes, or stays as it was
    may_go : (x : Option ℕ) → read_at hs e ≡ x → read_at (gone_if_unheld e gs) e ≡ none_if_unheld x
        → (read_at (gone_if_unheld e gs) e ≡ x) ⊎ GoesUnheld d e hs (gone_if_unheld e gs)
    may_go None was is = inl is
    may_go (Some zero) was is = inr (record { unheld = was; gone = is; closed = closed; plain = plain })
    may_go (Some (suc n)) was is = inl (is ∙ rw (ne_eqb (suc n) 0 (λ same. omega (arith, same))) refl)

-- what is held does not go
held_stay : (hs : List (Option ℕ)) (i : ℕ) → (slice_index_or hs i None ≡ Some 0 → ⊥) → slice_set hs i (none_if_unheld (slice_index_or hs i None)) ≡ hs
held_stay [] i h = refl
held_stay (None ∷ hs) zero h = refl
held_stay (Some zero ∷ hs) zero h = absurd (h refl)
held_stay (Some (suc n) ∷ hs) zero h = ap (λ o. o ∷ hs) (rw (ne_eqb (suc n) 0 (λ same. omega (arith, same))) refl)
held_stay (o ∷ hs) (suc i) h = ap (λ gs. o ∷ gs) (held_stay hs i h)

pub held_stays : (alone : EventId → ℕ) (e : EventId) (todo : List EventId) (h : HappenOf) → Balanced alone todo h.events
    → 0 < alone e + count_by (is_same e) todo → gone_if_unheld e (held h) ≡ held h
held_stays alone e todo h b some =
    held_stay (held h) e.0 (λ (none : slice_index_or (held h) e.0 None ≡ Some 0). omega (arith, some, b.each e, holders_told h e, ap number_of none))
