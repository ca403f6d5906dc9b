-- The accounts after each call on what happens.
use Rattle.std.proofs.Common.{◌≡◌, ◌≢◌, ℕ, ◌+◌, ◌<◌, ◌≤◌, true, false, List, [], ◌∷◌, ◌++◌, length, refl, sym, ap, subst, ◌∙◌, arith, ◌⊎◌, inl, inr, ⊎_elim, suc, Option, Some, None, get_or}
use Rattle.std.specs.Prelude.{is_some, slice_index_or, count_by, All}
use Rattle.std.specs.Option.{option_map}
use Rattle.std.proofs.lemmas.Bool.{cases_eq, cases_lt, false≢true}
use Rattle.std.proofs.lemmas.List.{length-map, get_or-set_same, get_or-set_other}
use Rattle.std.proofs.Math.ListN.{length-set}
use Rattle.std.proofs.lemmas.List.Sums.{sum_by-cons}
use Rattle.sim_types.specs.declared.event.EventId.{EventId}
use Rattle.sim_machine.specs.State.{EventOf, Calendar}
use Rattle.sim_machine.specs.Events.{is_same}
use Rattle.sim_machine.specs.Conditions.{condition_of, members_of}
use Rattle.sim_machine_law.proofs.Events.EventLaws.{same_event}
use Rattle.sim_machine_law.proofs.KeptParts.KeptProcessesParts.{unmade_at}
use Rattle.sim_happen_model.specs.TableOf.{Kept, IsKept, kept_at, kept_or_new}
use Rattle.sim_happen_model.specs.HappenOf.{HappenOf, held, one_more}
use Rattle.sim_happen_model.specs.Shows.{Shows}
use Rattle.sim_happen_model.specs.Holders.{members_in, member_count, memberships}
use Rattle.sim_happen_law.proofs.Shown.KeptPlaces.{kept_made}
use Rattle.sim_happen_law.proofs.Changes.Soundness.{past_is}
use Rattle.sim_happen_law.proofs.Changes.Held.{holders_at, held_at}
use Rattle.sim_happen_model.specs.Accounts.{Balanced, AreGoneClosed}
use Rattle.sim_happen_model.specs.HolderChanges.{Trades, ComesAfter, MakesNoCondition, KeepsHolders}
use Rattle.sim_accounts.proofs.GivenBack.{same_counts, other_counts}
use Rattle.sim_machine_law.proofs.Events.CallbackLaws.{count_by-append}

-- ---- from one count of holders to another

-- what was held beforehand is held now, and what is held no more is to be given back
pub trades_balanced : (gained lost todo : List EventId) (old new : EventId → ℕ) (es : List (Option Kept)) → Trades gained lost old new
    → Balanced old (gained ++ todo) es → Balanced new (lost ++ todo) es
trades_balanced gained lost todo old new es t b = record {
  each = λ e. omega (arith, b.each e, t.each e, count_by-append (is_same e) gained todo, count_by-append (is_same e) lost todo);
  older = b.older;
}

-- ---- members

-- what is kept has the same members
record SameMembers (xs ys : List (Option Kept)) : Type 0 where
  each : (e : EventId) → members_in (kept_at ys e) ≡ members_in (kept_at xs e)

pub counts_alike : (e : EventId) (xs ys : List (Option Kept)) → ((i : ℕ) → member_count e (get_or ys i None) ≡ member_count e (get_or xs i None))
    → memberships ys e ≡ memberships xs e
counts_alike e [] [] same = refl
counts_alike e [] (y ∷ ys) same =
    let rest : memberships ys e ≡ memberships [] e = counts_alike e [] ys (λ i. same (suc i)) in
    omega (arith, rest, same 0, sum_by-cons (member_count e) y ys)
counts_alike e (x ∷ xs) [] same =
    let rest : memberships [] e ≡ memberships xs e = counts_alike e xs [] (λ i. same (suc i)) in
    omega (arith, rest, same 0, sum_by-cons (member_count e) x xs)
counts_alike e (x ∷ xs) (y ∷ ys) same =
    omega (arith, counts_alike e xs ys (λ i. same (suc i)), same 0, sum_by-cons (member_count e) x xs, sum_by-cons (member_count e) y ys)

same_memberships : (xs ys : List (Option Kept)) (e : EventId) → SameMembers xs ys → memberships ys e ≡ memberships xs e
same_memberships xs ys e same = counts_alike e xs ys (λ i. ap (count_by (is_same e)) (same.each (record { 0 = i })))

balanced_by : (alone : EventId → ℕ) (todo later : List EventId) (xs ys : List (Option Kept)) → SameMembers xs ys
    → ((e : EventId) → (kept_at ys e).holders + count_by (is_same e) todo ≡ (kept_at xs e).holders + count_by (is_same e) later)
    → Balanced alone todo xs → Balanced alone later ys
balanced_by alone todo later xs ys same holders b = record {
  each = λ e. omega (arith, holders e, b.each e, same_memberships xs ys e same);
  older = λ e. subst (All (λ m. m.0 < e.0)) (sym (same.each e)) (b.older e);
}

-- ---- what is held tells what is kept

abbrev pub number_of : Option ℕ → ℕ
number_of None = 0
number_of (Some n) = n

pub number_held : (o : Option Kept) → (kept_or_new o).holders ≡ number_of (holders_at o)
number_held None = refl
number_held (Some k) = refl

some_held : (o : Option Kept) → is_some (holders_at o) ≡ is_some o
some_held None = refl
some_held (Some k) = refl

module _ (h : HappenOf) where
  abbrev held_here : EventId → Option ℕ
  held_here e = slice_index_or (held h) e.0 None

  pub holders_told : (e : EventId) → (kept_at h.events e).holders ≡ number_of (held_here e)
  holders_told e = number_held (slice_index_or h.events e.0 None) ∙ ap number_of (sym (held_at h e))

  pub kept_told : (e : EventId) → is_some (slice_index_or h.events e.0 None) ≡ is_some (held_here e)
  kept_told e = sym (some_held (slice_index_or h.events e.0 None)) ∙ ap is_some (sym (held_at h e))

  pub length_held : length (held h) ≡ length h.events
  length_held = length-map h.events holders_at

  -- members of what is kept are those that a calendar tells
  pub members_told : (c : Calendar) (e : EventId) → Shows h c → IsKept h.events e → members_in (kept_at h.events e) ≡ members_of c e
  members_told c e s kept = ap (λ (x : EventOf). (condition_of x.condition).members) (s.kept e kept).event

pub none_by : (o : Option Kept) → is_some o ≡ false → o ≡ None
none_by None h = refl
none_by (Some k) h = absurd (false≢true (sym h))

pub some_or_none : (o : Option Kept) → (is_some o ≡ true) ⊎ (o ≡ None)
some_or_none None = inr refl
some_or_none (Some k) = inl refl

-- no condition has its number yet
no_members : (c : Calendar) (e : EventId) → length c.events ≤ e.0 → members_of c e ≡ []
no_members c e unmade = ap (λ (x : EventOf). (condition_of x.condition).members) (unmade_at c e unmade)

-- ---- nobody has a holder more or fewer

-- in both, what is kept of an event has these members
members_kept : (h n : HappenOf) (c d : Calendar) → Shows h c → Shows n d → MakesNoCondition c d
    → ((e : EventId) → is_some (slice_index_or n.events e.0 None) ≡ true → (is_some (slice_index_or h.events e.0 None) ≡ true) ⊎ (length c.events ≤ e.0))
    → ((e : EventId) → slice_index_or n.events e.0 None ≡ None → is_some (slice_index_or h.events e.0 None) ≡ true → members_of d e ≡ [])
    → SameMembers h.events n.events
members_kept h n c d s t none later gone = record {
  each = λ e. ⊎_elim
      (λ now. ⊎_elim
      (λ before. members_told n d e t now ∙ (none.members e ∙ sym (members_told h c e s before)))
      (λ unmade. members_told n d e t now ∙ (none.members e ∙ (no_members c e unmade ∙ sym (ap (λ o. members_in (kept_or_new o)) (past_is h.events e.0 (omega (arith, unmade, s.made)))))))
      (later e now))
      (λ off. ap (λ o. members_in (kept_or_new o)) off ∙ sym (⊎_elim
      (λ before. members_told h c e s before ∙ (sym (none.members e) ∙ gone e off before))
      (λ never. ap (λ o. members_in (kept_or_new o)) never)
      (some_or_none (slice_index_or h.events e.0 None))))
      (some_or_none (slice_index_or n.events e.0 None));
}

module _ (h n : HappenOf) (c d : Calendar) (s : Shows h c) (t : Shows n d) (after : ComesAfter c d) (none : MakesNoCondition c d) where
  made_before : (e : EventId) → (e.0 < length (held h)) ⊎ (length c.events ≤ e.0)
  made_before e = ⊎_elim (λ made. inl made) (λ past. inr (omega (arith, past, length_held h, s.made))) (cases_lt e.0 (length (held h)))

  past_held : (m : HappenOf) (e : EventId) → length (held m) ≤ e.0 → slice_index_or (held m) e.0 None ≡ None
  past_held m e past = held_at m e ∙ ap holders_at (past_is m.events e.0 (omega (arith, past, length_held m)))

  module _ (k : KeepsHolders d (held h) (held n)) where
    abbrev was : EventId → Option ℕ
    was e = slice_index_or (held h) e.0 None

    abbrev is_now : EventId → Option ℕ
    is_now e = slice_index_or (held n) e.0 None

    same_number : (e : EventId) → number_of (is_now e) ≡ number_of (was e)
    same_number e =
        ⊎_elim
        (λ made. ⊎_elim (λ same. ap number_of same) (λ goes. ap number_of goes.gone ∙ sym (ap number_of goes.unheld)) (k.old e made))
        (λ past. let before : number_of (was e) ≡ 0 = ap number_of (past_held h e past) in
        ⊎_elim (λ new. ap number_of (k.new e past new) ∙ sym before) (λ never. ap number_of (past_held n e never) ∙ sym before) (cases_lt e.0 (length (held n))))
        (cases_lt e.0 (length (held h)))

    later_kept : (e : EventId) → is_some (slice_index_or n.events e.0 None) ≡ true
        → (is_some (slice_index_or h.events e.0 None) ≡ true) ⊎ (length c.events ≤ e.0)
    later_kept e now =
        ⊎_elim
        (λ made. inl (kept_told h e ∙ (⊎_elim (λ same. ap is_some (sym same)) (λ goes. absurd (false≢true (sym (ap is_some goes.gone) ∙ (sym (kept_told n e) ∙ now)))) (k.old e made) ∙ (sym (kept_told n e) ∙ now))))
        (λ unmade. inr unmade) (made_before e)

    gone_plain : (e : EventId) → slice_index_or n.events e.0 None ≡ None → is_some (slice_index_or h.events e.0 None) ≡ true → members_of d e ≡ []
    gone_plain e off before =
        ⊎_elim
        (λ made. ⊎_elim (λ same. absurd (false≢true (sym (ap is_some off) ∙ (kept_told n e ∙ (ap is_some same ∙ (sym (kept_told h e) ∙ before)))))) (λ goes. goes.plain) (k.old e made))
        (λ unmade. none.members e ∙ no_members c e unmade) (made_before e)

    pub kept_balanced : (alone : EventId → ℕ) (todo : List EventId) → Balanced alone todo h.events → Balanced alone todo n.events
    kept_balanced alone todo b =
        balanced_by alone todo todo h.events n.events (members_kept h n c d s t none later_kept gone_plain)
        (λ e. omega (arith, holders_told n e, holders_told h e, same_number e)) b

    pub kept_gone : AreGoneClosed h.events c → AreGoneClosed n.events d
    kept_gone g = record {
      each = λ e made off.
          ⊎_elim
          (λ before. ⊎_elim
          (λ same. after.closed e (g.each e (omega (arith, before, length_held h)) (none_by (slice_index_or h.events e.0 None) (kept_told h e ∙ (ap is_some (sym same) ∙ (sym (kept_told n e) ∙ ap is_some off))))))
          (λ goes. goes.closed) (k.old e before))
          (λ past. absurd (false≢true (sym (ap is_some off) ∙ (kept_told n e ∙ ap is_some (k.new e past (omega (arith, made, length_held n)))))))
          (cases_lt e.0 (length (held h)));
    }

  -- ---- one holder more

  module _ (x : EventId) (kept : IsKept h.events x) (is : held n ≡ one_more x (held h)) where
    more_here : slice_index_or (held n) x.0 None ≡ option_map (λ m. m + 1) (slice_index_or (held h) x.0 None)
    more_here = ap (λ (hs : List (Option ℕ)). slice_index_or hs x.0 None) is ∙ get_or-set_same (held h) x.0 (option_map (λ m. m + 1) (slice_index_or (held h) x.0 None)) None (omega (arith, kept_made h.events x kept, length_held h))

    others_same : (e : EventId) → e.0 ≢ x.0 → slice_index_or (held n) e.0 None ≡ slice_index_or (held h) e.0 None
    others_same e differ = ap (λ (hs : List (Option ℕ)). slice_index_or hs e.0 None) is ∙ get_or-set_other (held h) x.0 e.0 (option_map (λ m. m + 1) (slice_index_or (held h) x.0 None)) None differ

    mapped_some : (o : Option ℕ) → is_some (option_map (λ m. m + 1) o) ≡ is_some o
    mapped_some None = refl
    mapped_some (Some m) = refl

    kept_alike : (e : EventId) → is_some (slice_index_or n.events e.0 None) ≡ is_some (slice_index_or h.events e.0 None)
    kept_alike e =
        kept_told n e ∙ (⊎_elim
        (λ (same : e.0 ≡ x.0). subst (λ f. is_some (slice_index_or (held n) f.0 None) ≡ is_some (slice_index_or (held h) f.0 None)) (sym (same_event e x same)) (ap is_some more_here ∙ mapped_some (slice_index_or (held h) x.0 None)))
        (λ differ. ap is_some (others_same e differ)) (cases_eq e.0 x.0) ∙ sym (kept_told h e))

    mapped_number : (o : Option ℕ) → is_some o ≡ true → number_of (option_map (λ m. m + 1) o) ≡ number_of o + 1
    mapped_number None h = absurd (false≢true h)
    mapped_number (Some m) h = refl

    more_number : (todo : List EventId) (e : EventId)
        → (kept_at n.events e).holders + count_by (is_same e) todo ≡ (kept_at h.events e).holders + count_by (is_same e) (x ∷ todo)
    more_number todo e =
        ⊎_elim
        (λ (same : e.0 ≡ x.0). subst (λ f. (kept_at n.events f).holders + count_by (is_same f) todo ≡ (kept_at h.events f).holders + count_by (is_same f) (x ∷ todo)) (sym (same_event e x same))
        (omega (arith, holders_told n x, holders_told h x, ap number_of more_here, mapped_number (slice_index_or (held h) x.0 None) (sym (kept_told h x) ∙ kept), same_counts x todo)))
        (λ differ. omega (arith, holders_told n e, holders_told h e, ap number_of (others_same e differ), other_counts x e todo differ)) (cases_eq e.0 x.0)

    pub held_balanced : (alone : EventId → ℕ) (todo : List EventId) → Balanced alone todo h.events → Balanced alone (x ∷ todo) n.events
    held_balanced alone todo b =
        balanced_by alone todo (x ∷ todo) h.events n.events
        (members_kept h n c d s t none (λ e now. inl (sym (kept_alike e) ∙ now)) (λ e off before. absurd (false≢true (sym (ap is_some off) ∙ (kept_alike e ∙ before)))))
        (more_number todo) b

    pub held_gone : AreGoneClosed h.events c → AreGoneClosed n.events d
    held_gone g = record {
      each = λ e made off.
          let longer : length n.events ≡ length h.events = omega (arith, length_held n, length_held h, ap (λ (hs : List (Option ℕ)). length hs) is, length-set (held h) x.0 (option_map (λ m. m + 1) (slice_index_or (held h) x.0 None))) in
          after.closed e (g.each e (omega (arith, made, longer)) (none_by (slice_index_or h.events e.0 None) (sym (kept_alike e) ∙ ap is_some off)));
    }
