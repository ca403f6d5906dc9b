-- The accounts once a condition is made, which holds its members.
use Rattle.std.proofs.Common.{◌≡◌, ◌≢◌, ℕ, ◌+◌, ◌<◌, true, List, [], ◌∷◌, ◌++◌, length, refl, sym, ap, subst, ◌∙◌, arith, ⊎_elim, zero, suc, Option, Some, None, get_or, length-append}
use Rattle.std.specs.Prelude.{is_some, slice_index_or, count_by, All}
use Rattle.std.specs.Option.{option_map}
use Rattle.std.proofs.lemmas.Bool.{cases_eq, false≢true, ne_eqb}
use Rattle.std.proofs.lemmas.List.{get_or-set_same, get_or-set_other}
use Rattle.std.proofs.Math.ListN.{length-set}
use Rattle.std.proofs.lemmas.List.Sums.{sum_by_push}
use Rattle.std.proofs.lemmas.List.Elements.{All-head, All-tail, All-weaker}
use Rattle.sim_types.specs.declared.event.EventId.{EventId}
use Rattle.sim_machine.specs.State.{AllOrAny, EventOf, Calendar}
use Rattle.sim_machine.specs.Events.{is_same, next_event}
use Rattle.sim_machine.specs.Conditions.{condition_of, members_of, make_condition}
use Rattle.sim_machine_law.proofs.Events.EventLaws.{same_event, is_same-self}
use Rattle.sim_machine_law.proofs.Events.CallbackLaws.{count_by-cons, counts_one, counts_none}
use Rattle.sim_lawful.proofs.ConditionLaws.NewConditions.{with_fresh, fresh_event}
use Rattle.sim_happen_model.specs.TableOf.{Kept, IsKept, kept_at, kept_or_new}
use Rattle.sim_happen_model.specs.HappenOf.{HappenOf, held, one_more, one_more_each, holding}
use Rattle.sim_happen_model.specs.Shows.{Shows}
use Rattle.sim_happen_model.specs.Holders.{members_in, member_count, memberships}
use Rattle.sim_happen_law.proofs.Shown.KeptPlaces.{kept_made, at_end, at_before}
use Rattle.sim_happen_law.proofs.Changes.Soundness.{past_is}
use Rattle.sim_happen_law.proofs.Changes.Held.{holders_at, held_at}
use Rattle.sim_happen_model.specs.Accounts.{Balanced, AreGoneClosed}
use Rattle.sim_happen_model.specs.HolderChanges.{ComesAfter}
use Rattle.sim_accounts.proofs.CalendarChanges.{members_joined}
use Rattle.sim_accounts.proofs.Balancing.{counts_alike, holders_told, kept_told, length_held, members_told, none_by, number_of, some_or_none}

-- a condition that was made has these members
pub made_members : (sort : AllOrAny) (ms : List EventId) (c : Calendar) → members_of (make_condition sort ms c) (next_event c) ≡ ms
made_members sort ms c =
    (members_joined (next_event c) ms (with_fresh sort ms c)).none.members (next_event c) ∙ ap (λ (x : EventOf). (condition_of x.condition).members) (fresh_event sort ms c)

-- ---- one holder more for each of these

abbrev read_at : List (Option ℕ) → EventId → Option ℕ
read_at hs e = slice_index_or hs e.0 None

abbrev IsThere : List (Option ℕ) → EventId → Type 0
IsThere hs e = is_some (read_at hs e) ≡ true

there_below : (hs : List (Option ℕ)) (e : EventId) → IsThere hs e → e.0 < length hs
there_below hs e h = below hs e.0 h
  where
    below : (hs : List (Option ℕ)) (n : ℕ) → is_some (get_or hs n None) ≡ true → n < length hs
    below [] n h = absurd (false≢true h)
    below (o ∷ hs) zero h = omega arith
    below (o ∷ hs) (suc n) h = omega (arith, below hs n h)

record MoreAt (ms : List EventId) (hs gs : List (Option ℕ)) : Type 0 where
  number : (e : EventId) → number_of (read_at gs e) ≡ number_of (read_at hs e) + count_by (is_same e) ms
  there : (e : EventId) → is_some (read_at gs e) ≡ is_some (read_at hs e)
  same : length gs ≡ length hs

one_more_at : (m : EventId) (hs : List (Option ℕ)) → IsThere hs m → MoreAt (m ∷ []) hs (one_more m hs)
one_more_at m hs h =
    let o : Option ℕ = option_map (λ n. n + 1) (read_at hs m) in
    let here : read_at (one_more m hs) m ≡ o = get_or-set_same hs m.0 o None (there_below hs m h) in
    record {
      number = λ e. ⊎_elim
          (λ same. subst (λ f. number_of (read_at (one_more m hs) f) ≡ number_of (read_at hs f) + count_by (is_same f) (m ∷ [])) (sym (same_event e m same))
          (omega (arith, ap number_of here, more_number (read_at hs m) h, count_by-cons (is_same m) m [], counts_one (is_same m m) (is_same-self m))))
          (λ differ. omega (arith, ap number_of (get_or-set_other hs m.0 e.0 o None differ), count_by-cons (is_same e) m [], counts_none (is_same e m) (ne_eqb e.0 m.0 differ)))
          (cases_eq e.0 m.0);
      there = λ e. ⊎_elim
          (λ same. subst (λ f. is_some (read_at (one_more m hs) f) ≡ is_some (read_at hs f)) (sym (same_event e m same)) (ap is_some here ∙ mapped_some (read_at hs m)))
          (λ differ. ap is_some (get_or-set_other hs m.0 e.0 o None differ))
          (cases_eq e.0 m.0);
      same = length-set hs m.0 o;
    }
  where
    mapped_some : (x : Option ℕ) → is_some (option_map (λ n. n + 1) x) ≡ is_some x
    mapped_some None = refl
    mapped_some (Some n) = refl

    more_number : (x : Option ℕ) → is_some x ≡ true → number_of (option_map (λ n. n + 1) x) ≡ number_of x + 1
    more_number None h = absurd (false≢true h)
    more_number (Some n) h = refl

more_each : (ms : List EventId) (hs : List (Option ℕ)) → All (IsThere hs) ms → MoreAt ms hs (one_more_each ms hs)
more_each [] hs h = record { number = λ e. omega arith; there = λ e. refl; same = refl }
more_each (m ∷ ms) hs h =
    let first : MoreAt (m ∷ []) hs (one_more m hs) = one_more_at m hs (All-head (IsThere hs) m ms h) in
    let later : MoreAt ms (one_more m hs) (one_more_each ms (one_more m hs)) =
    more_each ms (one_more m hs) (All-weaker (IsThere hs) (IsThere (one_more m hs)) (λ e k. first.there e ∙ k) ms (All-tail (IsThere hs) m ms h)) in
    record {
      number = λ e. omega (arith, first.number e, later.number e, count_by-cons (is_same e) m [], count_by-cons (is_same e) m ms);
      there = λ e. later.there e ∙ first.there e;
      same = later.same ∙ first.same;
    }

-- ---- the new condition

none_counted : (e : EventId) (ms : List EventId) → All (λ m. m.0 < e.0) ms → count_by (is_same e) ms ≡ 0
none_counted e [] h = refl
none_counted e (m ∷ ms) h =
    let below : m.0 < e.0 = All-head (λ n. n.0 < e.0) m ms h in
    omega (arith, count_by-cons (is_same e) m ms, counts_none (is_same e m) (ne_eqb e.0 m.0 (λ same. omega (arith, same, below))), none_counted e ms (All-tail (λ n. n.0 < e.0) m ms h))

module _ (h n : HappenOf) (c d : Calendar) (ms : List EventId) (s : Shows h c) (t : Shows n d) (after : ComesAfter c d) (members : members_of d (next_event c) ≡ ms) (kept : All (IsKept h.events) ms) (is : held n ≡ holding ms (held h)) where
  abbrev hs : List (Option ℕ)
  hs = held h

  abbrev new : EventId
  new = record { 0 = length h.events }

  more : MoreAt ms hs (one_more_each ms hs)
  more = more_each ms hs (All-weaker (IsKept h.events) (IsThere hs) (λ e k. sym (kept_told h e) ∙ k) ms kept)

  long : length (one_more_each ms hs) ≡ length h.events
  long = more.same ∙ length_held h

  longer : length n.events ≡ length h.events + 1
  longer = omega (arith, length_held n, ap (λ (gs : List (Option ℕ)). length gs) is, length-append (one_more_each ms hs) (Some 0 ∷ []), long)

  read_new : read_at (held n) new ≡ Some 0
  read_new = ap (λ (gs : List (Option ℕ)). read_at gs new) is ∙ (ap (λ i. get_or (one_more_each ms hs ++ Some 0 ∷ []) i None) (sym long) ∙ at_end (one_more_each ms hs) (Some 0))

  read_old : (e : EventId) → e.0 ≢ length h.events → read_at (held n) e ≡ read_at (one_more_each ms hs) e
  read_old e differ = ap (λ (gs : List (Option ℕ)). read_at gs e) is ∙ at_before (one_more_each ms hs) (Some 0) e.0 (λ same. differ (same ∙ long))

  new_kept : is_some (slice_index_or n.events new.0 None) ≡ true
  new_kept = kept_told n new ∙ ap is_some read_new

  old_kept : (e : EventId) → e.0 ≢ length h.events → is_some (slice_index_or n.events e.0 None) ≡ is_some (slice_index_or h.events e.0 None)
  old_kept e differ = kept_told n e ∙ (ap is_some (read_old e differ) ∙ (more.there e ∙ sym (kept_told h e)))

  next : new ≡ next_event c
  next = same_event new (next_event c) s.made

  new_members : members_in (kept_at n.events new) ≡ ms
  new_members = members_told n d new t new_kept ∙ (ap (members_of d) next ∙ members)

  old_members : (e : EventId) → e.0 ≢ length h.events → members_in (kept_at n.events e) ≡ members_in (kept_at h.events e)
  old_members e differ =
      ⊎_elim
      (λ now. let before : IsKept h.events e = sym (old_kept e differ) ∙ now in
      members_told n d e t now ∙ (after.members e (omega (arith, kept_made h.events e before, s.made)) ∙ sym (members_told h c e s before)))
      (λ off. ap (λ o. members_in (kept_or_new o)) (off ∙ sym (none_by (slice_index_or h.events e.0 None) (sym (old_kept e differ) ∙ ap is_some off))))
      (some_or_none (slice_index_or n.events e.0 None))

  older_members : All (λ m. m.0 < length h.events) ms
  older_members = All-weaker (IsKept h.events) (λ m. m.0 < length h.events) (λ e k. kept_made h.events e k) ms kept

  abbrev last : Option Kept
  last = slice_index_or n.events (length h.events) None

  counted : (e : EventId) → memberships n.events e ≡ memberships h.events e + count_by (is_same e) ms
  counted e =
      let at : (i : ℕ) → member_count e (get_or n.events i None) ≡ member_count e (get_or (h.events ++ last ∷ []) i None) = λ i. ⊎_elim
      (λ (same : i ≡ length h.events). ap (λ j. member_count e (get_or n.events j None)) same ∙ sym (ap (λ j. member_count e (get_or (h.events ++ last ∷ []) j None)) same ∙ ap (member_count e) (at_end h.events last)))
      (λ (differ : i ≢ length h.events). ap (count_by (is_same e)) (old_members (record { 0 = i }) differ) ∙ sym (ap (member_count e) (at_before h.events last i differ)))
      (cases_eq i (length h.events)) in
      omega (arith, counts_alike e (h.events ++ last ∷ []) n.events at, sum_by_push (member_count e) h.events last, ap (count_by (is_same e)) new_members)

  -- a number that no event had
  unheld_before : number_of (read_at hs new) ≡ 0
  unheld_before = ap number_of (held_at h new ∙ ap holders_at (past_is h.events (length h.events) (omega arith)))

  holders_more : (e : EventId) → (kept_at n.events e).holders ≡ (kept_at h.events e).holders + count_by (is_same e) ms
  holders_more e =
      ⊎_elim
      (λ same. subst (λ f. (kept_at n.events f).holders ≡ (kept_at h.events f).holders + count_by (is_same f) ms) (sym (same_event e new same))
      (omega (arith, holders_told n new, holders_told h new, ap number_of read_new, unheld_before, none_counted new ms older_members)))
      (λ differ. omega (arith, holders_told n e, holders_told h e, ap number_of (read_old e differ), more.number e)) (cases_eq e.0 (length h.events))

  pub condition_balanced : (alone : EventId → ℕ) (todo : List EventId) → Balanced alone todo h.events → Balanced alone todo n.events
  condition_balanced alone todo b = record {
    each = λ e. omega (arith, b.each e, holders_more e, counted e);
    older = λ e. ⊎_elim
        (λ same. subst (λ f. All (λ m. m.0 < f.0) (members_in (kept_at n.events f))) (sym (same_event e new same)) (subst (All (λ m. m.0 < length h.events)) (sym new_members) older_members))
        (λ differ. subst (All (λ m. m.0 < e.0)) (sym (old_members e differ)) (b.older e)) (cases_eq e.0 (length h.events));
  }

  pub condition_gone : AreGoneClosed h.events c → AreGoneClosed n.events d
  condition_gone g = record {
    each = λ e made off. ⊎_elim
        (λ same. absurd (false≢true (sym (ap is_some off) ∙ subst (λ f. is_some (slice_index_or n.events f.0 None) ≡ true) (sym (same_event e new same)) new_kept)))
        (λ differ. after.closed e (g.each e (omega (arith, made, longer, differ)) (none_by (slice_index_or h.events e.0 None) (sym (old_kept e differ) ∙ ap is_some off))))
        (cases_eq e.0 (length h.events));
  }
