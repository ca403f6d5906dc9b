-- The names that the lines so far declare, and those of what is left.
--     so_far names n w a      what w is declared as: by the lines so far, with n events, or else as those left declare it
use Rattle.std.proofs.Common.{◌≡◌, refl, sym, ap, ◌∙◌, ℕ, suc, ◌+◌, Bool, true, false, ◌&&◌, if◌then◌else◌, List, [], ◌∷◌, ◌++◌, Option, Some, None, is_some, codes, arith}
use Rattle.std.specs.Prelude.{unwrap_or}
use Rattle.std.specs.List.{cons_option}
use Rattle.std.specs.Option.{option_or}
use Rattle.std.proofs.lemmas.Bool.{false≢true}
use Rattle.std.proofs.lemmas.Option.{none-some}
use Rattle.sim_language.specs.declared.form.Sort.{Sort}
use Rattle.sim_language.specs.declared.form.Version.{Version}
use Rattle.sim_language.specs.declared.form.Sort.TheVariants as sort
use Rattle.sim_language.specs.declared.shape.Ahead.{Ahead}
use Rattle.sim_language.specs.declared.shape.Ahead.TheVariants.{NoEvent, EventAt}
use Rattle.sim_language.specs.Lines.{Word, same, cut, words}
use Rattle.sim_language.specs.Named.{Named, is_named, value_of, with_one}
use Rattle.sim_language.specs.Forms.{same_sort}
use Rattle.sim_language.specs.AnywhereInText.{ahead, ahead_behind, ahead_here, declaration, declarations, head_of, sort_begun}
use Rattle.sim_language.specs.Names.{is_name}
use Rattle.sim_lines.specs.Spans.{head_by}
use Rattle.sim_words.proofs.SameWords.{same_is}

-- ---- what a line declares

-- a first word that declares nothing makes a line that declares nothing
pub no_declaration : (line : List Word) (first : Word) (rest : List Word) → line ≡ first ∷ rest → None ≡ sort_begun first
    → None ≡ declaration line
no_declaration line first [] is none = rw is refl
no_declaration line first (name ∷ rest) is none = rw (is, ← none) refl

-- and a line that declares nothing is no process line
pub no_head : (version : Version) (line : List Word) → None ≡ declaration line → None ≡ head_of version line
no_head version [] none = refl
no_head version (first ∷ []) none = refl
no_head version (first ∷ name ∷ rest) none = by (same first (codes "process")) refl
  where
    by : (b : Bool) → same first (codes "process") ≡ b → None ≡ (if b && is_name version name then Some (head_by name rest) else None)
    by false e = refl
    by true e =
        let process = ap (λ w. declaration (w ∷ name ∷ rest)) (same_is first (codes "process") e) in
        absurd (none-some (record { name = name; value = sort.Process }) (none ∙ process))

-- ---- one more name

module _ {A : Type 0} (w : Word) where
  abbrev value_by : Named A → Option A
  value_by n = if same w n.name then Some n.value else None

  value_behind : (ns : List (Named A)) (n : Named A) → value_of w (ns ++ n ∷ []) ≡ option_or (value_of w ns) (value_by n)
  value_behind [] n = refl
  value_behind (m ∷ ns) n = by (same w m.name) (value_behind ns n)
    where
      by : (b : Bool) → value_of w (ns ++ n ∷ []) ≡ option_or (value_of w ns) (value_by n)
          → (if b then Some m.value else value_of w (ns ++ n ∷ [])) ≡ option_or (if b then Some m.value else value_of w ns) (value_by n)
      by true rest = refl
      by false rest = rest

  -- a name that is there keeps its value
  value_kept : (ns : List (Named A)) (n : Named A) → is_named n.name ns ≡ true → value_of w ns ≡ option_or (value_of w ns) (value_by n)
  value_kept ns n known = by (value_of w ns) refl (same w n.name) refl
    where
      by : (o : Option A) → value_of w ns ≡ o → (b : Bool) → same w n.name ≡ b → o ≡ option_or o (if b then Some n.value else None)
      by (Some v) e b f = refl
      by None e false f = refl
      by None e true f = absurd (false≢true (sym (ap is_some (ap (λ v. value_of v ns) (sym (same_is w n.name f)) ∙ e)) ∙ known))

  value_with_one : (ns : List (Named A)) (n : Named A) → value_of w (with_one ns n) ≡ option_or (value_of w ns) (value_by n)
  value_with_one ns n = by (is_named n.name ns) refl
    where
      by : (b : Bool) → is_named n.name ns ≡ b → value_of w (if b then ns else ns ++ n ∷ []) ≡ option_or (value_of w ns) (value_by n)
      by true e = value_kept ns n e
      by false e = value_behind ns n

-- ---- the names so far

-- n events further down
abbrev pub below_events : ℕ → Ahead → Ahead
below_events n (EventAt m) = EventAt (n + m)
below_events n a = a

abbrev pub so_far : List (Named Ahead) → ℕ → Word → Ahead → Ahead
so_far names n w a = unwrap_or (value_of w names) (below_events n a)

pub none_so_far : (w : Word) (a : Ahead) → so_far [] 0 w a ≡ a
none_so_far w (EventAt m) = let same : 0 + m ≡ m = omega arith in ap EventAt same
none_so_far w a = refl

-- an event here, and behind it one more
event_here : (n : ℕ) → EventAt n ≡ below_events n (ahead_here sort.Event)
event_here n = let same : n ≡ n + 0 = omega arith in ap EventAt same

event_behind : (n : ℕ) (a : Ahead) → below_events (n + 1) a ≡ below_events n (ahead_behind sort.Event a)
event_behind n (EventAt m) = let same : n + 1 + m ≡ n + suc m = omega arith in ap EventAt same
event_behind n a = refl

module _ (w : Word) (names more : List (Named Ahead)) (d : Named Sort) (ds : List (Named Sort)) where
  further : (here : Ahead) (n m : ℕ) → more ≡ with_one names (record { name = d.name; value = here }) → here ≡ below_events n (ahead_here d.value)
      → below_events m (ahead w ds) ≡ below_events n (ahead_behind d.value (ahead w ds)) → so_far more m w (ahead w ds) ≡ so_far names n w (ahead w (d ∷ ds))
  further here n m added is behind =
      ap (λ o. unwrap_or o (below_events m (ahead w ds))) (ap (value_of w) added ∙ value_with_one w names (record { name = d.name; value = here }))
      ∙ by (value_of w names) (same w d.name)
    where
      by : (o : Option Ahead) (b : Bool) → unwrap_or (option_or o (if b then Some here else None)) (below_events m (ahead w ds))
          ≡ unwrap_or o (below_events n (if b then ahead_here d.value else ahead_behind d.value (ahead w ds)))
      by (Some a) b = refl
      by None true = is
      by None false = behind

  event_further : (n : ℕ) → same_sort sort.Event d.value ≡ true → more ≡ with_one names (record { name = d.name; value = EventAt n })
      → so_far more (n + 1) w (ahead w ds) ≡ so_far names n w (ahead w (d ∷ ds))
  event_further n event added = by d.value refl
    where
      by : (s : Sort) → d.value ≡ s → so_far more (n + 1) w (ahead w ds) ≡ so_far names n w (ahead w (d ∷ ds))
      by sort.Event e =
          further (EventAt n) n (n + 1) added (event_here n ∙ ap (λ s. below_events n (ahead_here s)) (sym e))
          (event_behind n (ahead w ds) ∙ ap (λ s. below_events n (ahead_behind s (ahead w ds))) (sym e))
      by s e = absurd (cc (event, ap (same_sort sort.Event) e))

  other_further : (n : ℕ) → same_sort sort.Event d.value ≡ false → more ≡ with_one names (record { name = d.name; value = NoEvent })
      → so_far more n w (ahead w ds) ≡ so_far names n w (ahead w (d ∷ ds))
  other_further n other added = by d.value refl
    where
      by : (s : Sort) → d.value ≡ s → so_far more n w (ahead w ds) ≡ so_far names n w (ahead w (d ∷ ds))
      by sort.Event e = absurd (cc (other, ap (same_sort sort.Event) e))
      by s e = further NoEvent n n added (ap (λ s. below_events n (ahead_here s)) (sym e)) (ap (λ s. below_events n (ahead_behind s (ahead w ds))) (sym e))

-- ---- one line further

module _ (names more : List (Named Ahead)) (n : ℕ) (d : Named Sort) (l : Word) (ls before : List Word) (all : List (Named Sort))
    (lines_are : before ≡ l ∷ ls)
    (declared : Some d ≡ declaration (words (cut l)))
    (so_far_are : (w : Word) → so_far names n w (ahead w (declarations before)) ≡ ahead w all) where
  with_this : (w : Word) → so_far names n w (ahead w (d ∷ declarations ls)) ≡ ahead w all
  with_this w =
      let are : declarations before ≡ d ∷ declarations ls = ap declarations lines_are ∙ ap (λ o. cons_option o (declarations ls)) (sym declared) in
      sym (ap (λ ds. so_far names n w (ahead w ds)) are) ∙ so_far_are w

  pub event_line : same_sort sort.Event d.value ≡ true → more ≡ with_one names (record { name = d.name; value = EventAt n })
      → (w : Word) → so_far more (n + 1) w (ahead w (declarations ls)) ≡ ahead w all
  event_line event added w = event_further w names more d (declarations ls) n event added ∙ with_this w

  pub other_line : same_sort sort.Event d.value ≡ false → more ≡ with_one names (record { name = d.name; value = NoEvent })
      → (w : Word) → so_far more n w (ahead w (declarations ls)) ≡ ahead w all
  other_line other added w = other_further w names more d (declarations ls) n other added ∙ with_this w
