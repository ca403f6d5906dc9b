-- A holder of an event is taken, and one is given back.
use Rattle.std.proofs.Common.{◌≡◌, ◌≢◌, ◌+◌, ◌≤◌, ◌||◌, true, false, Bool, ℕ, zero, suc, map, List, [], ◌∷◌, ◌++◌, length, refl, sym, ap, subst, ◌∙◌, arith, Option, Some, None}
use Rattle.std.specs.Prelude.{slice_index_or, slice_set, IsSome, is_some}
use Rattle.sim_machine.specs.Standing.{one_if}
use Rattle.std.proofs.lemmas.Bool.{false≢true}
use Rattle.std.proofs.lemmas.List.Elements.{All-set}
use Rattle.std.specs.List.Sorted.{IsPermutation}
use Rattle.std.proofs.Math.ListN.{length-set}
use Rattle.sim_types.specs.declared.event.EventId.{EventId}
use Rattle.sim_machine.specs.State.{Calendar, State}
use Rattle.sim_machine.specs.Effect.{calendar}
use Rattle.sim_machine_law.proofs.Events.CallbackLaws.{count_by-cons}
use Rattle.sim_happen_model.specs.Changes.{without_holder}
use Rattle.sim_happen_model.specs.TableOf.{Kept, IsKept, kept_at, kept_count, kept_or_new}
use Rattle.sim_happen_model.specs.HappenOf.{HappenOf, KeepsRoom, held, one_more}
use Rattle.sim_happen_model.specs.Shows.{IsShown, Shows, Turns}
use Rattle.sim_happen_model.specs.Holders.{unheld}
use Rattle.sim_happen_law.proofs.Changes.Following.{event_then, time_then}
use Rattle.sim_happen_law.proofs.Changes.Held.{held_at, holders_at, kept_of, of_kept}
use Rattle.sim_happen_law.proofs.Shown.KeptPlaces.{at_set, kept_made}
use Rattle.sim_happen_law.proofs.Shown.SeenShown.{event_seen, shows_seen}
use Rattle.sim_happen_model.specs.Seen.{seen}
use Rattle.sim_happen_model.specs.Accounts.{Balanced}
use Rattle.sim_happen_model.specs.Naming.{but_zero, held_alone}
use Rattle.sim_accounts.proofs.Balancing.{held_balanced, held_gone}
use Rattle.sim_accounts.proofs.CalendarChanges.{after_same, none_events}
use Rattle.sim_accounts.proofs.GivenBack.{StaysTrue, unheld_balanced, unheld_with}
use Rattle.sim_accounts.proofs.ShownUnheld.{open_stays, unheld_gone}
use Rattle.sim_steps_model.specs.PartsOf.{PartsOf, with_happen}
use Rattle.sim_steps_model.specs.StandsFor.{Balances}
use Rattle.sim_steps_model.specs.Becoming.{AreFew, Stands, BecomesOwing, IsOwing}
use Rattle.sim_steps_model.specs.Holding.{TakesHolder, ReturnsHolder}
use Rattle.sim_steps_law.proofs.Kernels.Keeping.{AtMost, adds_one_more, few_by, few_here, few_weaker}
use Rattle.sim_steps_law.proofs.Kernels.Accounting.{other_is}
use Rattle.sim_steps_law.proofs.Kernels.Becoming.{shown_with, turned_stands_for}
use Rattle.sim_machine.specs.Bodies.{BodyOf}

-- ---- a holder is taken

more_there : (hs : List (Option ℕ)) (i j : ℕ) → IsSome (slice_index_or hs j None) → IsSome (slice_index_or (one_more (record { 0 = i }) hs) j None)
more_there [] i j h = h
more_there (None ∷ hs) zero zero h = h
more_there (Some n ∷ hs) zero zero h = refl
more_there (x ∷ hs) zero (suc j) h = h
more_there (x ∷ hs) (suc i) zero h = h
more_there (x ∷ hs) (suc i) (suc j) h = more_there hs i j h

-- what is kept stays so
pub kept_held : (a x : HappenOf) (e d : EventId) → Turns (λ c. c) (one_more e) a x → IsKept a.events d → IsKept x.events d
kept_held a x e d t kept =
    let there : IsSome (slice_index_or (held a) d.0 None) = subst IsSome (sym (held_at a d)) (of_kept (slice_index_or a.events d.0 None) kept) in
    kept_of (slice_index_or x.events d.0 None)
    (subst IsSome (ap (λ (hs : List (Option ℕ)). slice_index_or hs d.0 None) (sym t.held) ∙ held_at x d) (more_there (held a) e.0 d.0 there))

pub takes_holder : (a x : HappenOf) (e : EventId) → Turns (λ c. c) (one_more e) a x → x.spare ≡ a.spare → TakesHolder a x
takes_holder a x e t spare = record {
  kept = λ d kept. kept_held a x e d t kept;
  event = λ d kept. event_then (λ c. c) (one_more e) a x d t (kept_held a x e d t kept) ∙ sym (event_seen a d);
  made = (t.each (seen a) (shows_seen a)).made ∙ sym (shows_seen a).made;
  time = time_then (λ c. c) (one_more e) a x t;
  left = t.left;
  spare = spare;
}

-- nothing is done for event 0
pub takes_none : (a : HappenOf) → TakesHolder a a
takes_none a = record { kept = λ d kept. kept; event = λ d kept. refl; made = refl; time = refl; left = refl; spare = refl }

-- ---- a holder is given back: what was as a table had it stays so

-- so many events were made; and what is kept of them is shown by c
record StillShown (c : Calendar) (made : ℕ) (es : List (Option Kept)) : Type 0 where
  count : length es ≡ made
  kept : (e : EventId) → IsKept es e → IsShown c e (kept_at es e)

still_shown : (c : Calendar) (made : ℕ) → StaysTrue (StillShown c made)
still_shown c made = record {
  fewer = λ e es kept s.
      let shown = s.kept e kept in
      placed e (Some (without_holder (kept_at es e))) es kept (λ some. record { event = shown.event; callbacks = shown.callbacks }) s;
  gone = λ e es kept off s. placed e None es kept (λ some. absurd (false≢true some)) s;
}
  where
    placed : (e : EventId) (o : Option Kept) (es : List (Option Kept)) → IsKept es e → (IsSome o → IsShown c e (kept_or_new o)) →
        StillShown c made es → StillShown c made (slice_set es e.0 o)
    placed e o es kept here s =
        let P : EventId → Option Kept → Type 0 = λ f x. IsSome x → IsShown c f (kept_or_new x) in
        record { count = length-set es e.0 o ∙ s.count; kept = at_set P es e o (kept_made es e kept) here (λ g differ. s.kept g) }

-- each has so many holders at most
few_still : (most : ℕ) → StaysTrue (λ es. AreFew most (map holders_at es))
few_still most = record {
  fewer = λ e es kept h. changed e es (Some (without_holder (kept_at es e))) (fewer e es h) h;
  gone = λ e es kept off h. changed e es None tt h;
}
  where
    mapped : (es : List (Option Kept)) (i : ℕ) (o : Option Kept) → map holders_at (slice_set es i o) ≡ slice_set (map holders_at es) i (holders_at o)
    mapped [] i o = refl
    mapped (x ∷ es) zero o = refl
    mapped (x ∷ es) (suc i) o = ap (λ hs. holders_at x ∷ hs) (mapped es i o)

    changed : (e : EventId) (es : List (Option Kept)) (o : Option Kept) → AtMost most (holders_at o) → AreFew most (map holders_at es) →
        AreFew most (map holders_at (slice_set es e.0 o))
    changed e es o here h =
        subst (AreFew most) (sym (mapped es e.0 o)) (record { each = All-set (AtMost most) (map holders_at es) e.0 (holders_at o) here h.each })

    fewer : (e : EventId) (es : List (Option Kept)) → AreFew most (map holders_at es) →
        AtMost most (holders_at (Some (without_holder (kept_at es e))))
    fewer e es h = omega (arith, few_here most es e h)

at_most_one : (b : Bool) → one_if b ≤ 1
at_most_one true = omega arith
at_most_one false = omega arith

-- no more are kept
fewer_kept : (most : ℕ) → StaysTrue (λ es. kept_count es ≤ most)
fewer_kept most = record {
  fewer = λ e es kept h. omega (arith, h, counted es e.0 (Some (without_holder (kept_at es e))) kept);
  gone = λ e es kept off h. omega (arith, h, counted es e.0 None kept);
}
  where
    counted : (es : List (Option Kept)) (i : ℕ) (o : Option Kept) → IsSome (slice_index_or es i None) → kept_count (slice_set es i o) ≤ kept_count es
    counted [] i o h = absurd (false≢true h)
    counted (None ∷ es) zero o h = absurd (false≢true h)
    counted (Some k ∷ es) zero o h = omega (arith, count_by-cons is_some o es, count_by-cons is_some (Some k) es, at_most_one (is_some o))
    counted (x ∷ es) (suc i) o h = omega (arith, counted es i o h, count_by-cons is_some x es, count_by-cons is_some x (slice_set es i o))

-- ---- what of the kernel

module _ {B Code : Type 0} {body : BodyOf B Code} (e : EventId) (a : PartsOf B Code) (x : HappenOf) where
  -- any event but event 0 is held
  pub holding_owes : e.0 ≢ 0 → IsKept a.shared.happen.events e → Turns (λ c. c) (one_more e) a.shared.happen x →
      BecomesOwing body [] (but_zero (e ∷ [])) 1 (λ s. s) a (with_happen x a)
  holding_owes other kept t =
      let stands : (s : State B) → Stands a s → Stands (with_happen x a) s = turned_stands_for 1 (λ d. d) (one_more e) a x (adds_one_more e) t in
      record {
        each = stands;
        accounts = λ todo s h k.
            let c : Calendar = calendar s in
            let old : Shows a.shared.happen c = h.stands.facilities.calendar in
            let new : Shows x c = (stands s h).stands.facilities.calendar in
            subst (λ xs. Balances body (xs ++ todo) (with_happen x a) s) (sym (other_is e other))
            (record {
              holders = held_balanced a.shared.happen x c c old new (after_same c)
                  (none_events c c refl) e kept t.held (held_alone a.setup.events (body.tell a.code) s) todo k.holders;
              gone = held_gone a.shared.happen x c c old new (after_same c) (none_events c c refl) e kept t.held k.gone;
            });
        opened = record { code = refl; setup = refl; seed = refl };
        few = few_by 1 (one_more e) a (with_happen x a) (adds_one_more e) t.held;
      }

  -- some accounts balance with e to be given back
  module _ (owing : IsOwing body (e ∷ []) a) (is : x.events ≡ unheld e a.shared.happen.events)
      (others : x ≡ record a.shared.happen { events = x.events; spare = x.spare }) where
    abbrev alone : EventId → ℕ
    alone = held_alone a.setup.events (body.tell a.code) owing.state

    balanced : Balanced alone (e ∷ owing.others) a.shared.happen.events
    balanced = owing.balances.holders

    -- what stays true is true then
    still : (P : List (Option Kept) → Type 0) → StaysTrue P → P a.shared.happen.events → P x.events
    still P stays h = subst P (sym is)
        (unheld_with P stays alone e owing.others a.shared.happen.events (record { balanced = balanced; besides = h })).besides

    shown_still : (c : Calendar) → Shows a.shared.happen c → Shows x c
    shown_still c s =
        let made : ℕ = length a.shared.happen.events in
        let after : StillShown c made x.events = still (StillShown c made) (still_shown c made) (record { count = refl; kept = s.kept }) in
        record {
          time = ap (λ (h : HappenOf). h.time) others ∙ s.time;
          scheduled = ap (λ (h : HappenOf). h.scheduled) others ∙ s.scheduled;
          agenda = subst (λ (h : HappenOf). IsPermutation c.agenda h.agenda) (sym others) s.agenda;
          made = after.count ∙ s.made;
          kept = after.kept;
          unmade = s.unmade;
        }

    stands_still : (s : State B) → Stands a s → Stands (with_happen x a) s
    stands_still s h =
        let c : Calendar = calendar s in
        let new : Shows x c = shown_still c h.stands.facilities.calendar in
        record {
          stands = record {
            facilities = shown_with a.shared x s.facilities c (omega (arith, new.made, h.stands.facilities.calendar.made)) new h.stands.facilities;
            processed = h.stands.processed;
            generator = h.stands.generator;
            processes = h.stands.processes;
            scopes = h.stands.scopes;
            control = h.stands.control;
          };
          distinct = h.distinct;
          owned = h.owned;
          apart = h.apart;
          entered = h.entered;
        }

    pub returning_any : BecomesOwing body (e ∷ []) [] 0 (λ s. s) a (with_happen x a)
    returning_any = record {
      each = stands_still;
      accounts = λ todo s h k.
          let here : EventId → ℕ = held_alone a.setup.events (body.tell a.code) s in
          record {
            holders = subst (Balanced here todo) (sym is) (unheld_balanced here e todo a.shared.happen.events k.holders);
            gone = unheld_gone a.shared.happen x (calendar s) e here todo h.stands.facilities.calendar k.gone k.holders is;
          };
      opened = record { code = refl; setup = refl; seed = refl };
      few = record {
        few = λ most h. few_weaker most (most + 0) (held x) (omega arith)
            (still (λ es. AreFew most (map holders_at es)) (few_still most) h);
      };
    }

    pub returns_any : KeepsRoom a.shared.happen x → ReturnsHolder a.shared.happen x
    returns_any room =
        let es : List (Option Kept) = a.shared.happen.events in
        let Still : EventId → Type 0 = λ f. let y = (kept_at es f).event in IsKept (unheld e es) f × ((kept_at (unheld e es) f).event ≡ y) in
        let opens : (f : EventId) → IsKept es f → let y = (kept_at es f).event in (y.processed || y.cancelled) ≡ false → Still f =
        λ f kept unclosed. open_stays alone e f owing.others es balanced kept unclosed in
        record {
          kept = λ f kept unclosed. subst (λ gs. IsKept gs f) (sym is) (opens f kept unclosed).0;
          event = λ f kept unclosed. ap (λ gs. (kept_at gs f).event) is ∙ (opens f kept unclosed).1;
          made = still (λ gs. length gs ≡ length es)
              (record { fewer = λ f gs kept h. length-set gs f.0 _ ∙ h; gone = λ f gs kept off h. length-set gs f.0 _ ∙ h }) refl;
          events = omega (arith, room.events, still (λ gs. kept_count gs ≤ kept_count es) (fewer_kept (kept_count es)) (omega arith));
          callbacks = room.callbacks;
          conditions = room.conditions;
          others = others;
        }

  -- so it is with an event that is held by being named
  module _ (other : e.0 ≢ 0) (owing : IsOwing body (but_zero (e ∷ [])) a) (is : x.events ≡ unheld e a.shared.happen.events)
      (others : x ≡ record a.shared.happen { events = x.events; spare = x.spare }) where
    owing_it : IsOwing body (e ∷ []) a
    owing_it = subst (λ xs. IsOwing body xs a) (other_is e other) owing

    pub returning_owes : BecomesOwing body (but_zero (e ∷ [])) [] 0 (λ s. s) a (with_happen x a)
    returning_owes = subst (λ xs. BecomesOwing body xs [] 0 (λ s. s) a (with_happen x a)) (sym (other_is e other)) (returning_any owing_it is others)

    pub returns_holder : KeepsRoom a.shared.happen x → ReturnsHolder a.shared.happen x
    returns_holder room = returns_any owing_it is others room

-- as calls have it
module _ {B Code : Type 0} {body : BodyOf B Code} (e : EventId) (a n : PartsOf B Code)
    (x : HappenOf) (other : e.0 ≢ 0) (is : n ≡ with_happen x a) where
  pub holds_owes : IsKept a.shared.happen.events e → Turns (λ c. c) (one_more e) a.shared.happen x →
      BecomesOwing body [] (but_zero (e ∷ [])) 1 (λ s. s) a n
  holds_owes kept t =
      subst (λ (m : PartsOf B Code). BecomesOwing body [] (but_zero (e ∷ [])) 1 (λ s. s) a m) (sym is) (holding_owes e a x other kept t)

  pub returns_owes : IsOwing body (but_zero (e ∷ [])) a → x.events ≡ unheld e a.shared.happen.events →
      x ≡ record a.shared.happen { events = x.events; spare = x.spare } → BecomesOwing body (but_zero (e ∷ [])) [] 0 (λ s. s) a n
  returns_owes owing events others =
      subst (λ (m : PartsOf B Code). BecomesOwing body (but_zero (e ∷ [])) [] 0 (λ s. s) a m)
      (sym is) (returning_owes e a x other owing events others)
