-- A live run whose journal tells what was taken.
--     fronts_told      its journal has a front of each section
--     told_same        nothing was taken
--     told_more        one post more was taken, which its poster has to post
--     fronts_more      the journal with it, or without
use Rattle.std.proofs.Common.{◌≡◌, ◌⊎◌, inl, inr, ℕ, List, [], ◌∷◌, ◌++◌, Some, refl, sym, ap, ◌∙◌, subst}
use Rattle.std.specs.Prelude.{slice_get, IsTrue}
use Rattle.sim_types.specs.Scenarios.{ScenarioOf}
use Rattle.sim_types.specs.declared.setup.Arrival.{Arrival}
use Rattle.sim_types.specs.declared.setup.Post.{Post}
use Rattle.sim_language.specs.WellFormed.{never_falls}
use Rattle.sim_inbox.specs.declared.taken.Taken.{Taken}
use Rattle.sim_inbox.specs.Lists.{Begins, IsTaken, numbered}
use Rattle.sim_live.specs.Journals.{KeepsFronts, arrival_of, posts_by, section}
use Rattle.sim_live.specs.LiveRuns.{LiveOf, IsLive, IsTold}
use Rattle.sim_live.proofs.Journals.{begins_more, fronts_of, told_next}

pub fronts_told : (s : ScenarioOf) (taken : ℕ → List Post) (x : LiveOf) → IsTold s taken x → KeepsFronts s x.journal
fronts_told s taken x h = record { posts = fronts_of s taken x.journal h.posts h.fronts; falls = h.live.falls }

-- nothing came yet
pub told_nothing : (s : ScenarioOf) (taken : ℕ → List Post) (x : LiveOf) → IsLive s x → x.journal ≡ [] → ((p : ℕ) → taken p ≡ []) → IsTold s taken x
told_nothing s taken x live none nothing =
    record {
      live = live;
      posts = λ p. ap (posts_by p) none ∙ ap (numbered p 0) (sym (nothing p));
      fronts = λ p. subst (λ l. Begins l (section s p)) (sym (nothing p)) refl;
    }

pub told_same : (s : ScenarioOf) (taken same : ℕ → List Post) (x : LiveOf) → ((p : ℕ) → same p ≡ taken p) → IsTold s taken x → IsTold s same x
told_same s taken same x is h =
    record {
      live = h.live;
      posts = λ p. h.posts p ∙ ap (numbered p 0) (sym (is p));
      fronts = λ p. subst (λ l. Begins l (section s p)) (sym (is p)) (h.fronts p);
    }

module _ (s : ScenarioOf) (taken more : ℕ → List Post) (x : LiveOf) (n : ℕ) (t : Taken) (h : IsTold s taken x) (took : IsTaken taken more t)
    (at : slice_get (section s t.poster) t.serial ≡ Some t.item) where
  abbrev grown : List Arrival
  grown = x.journal ++ arrival_of n t ∷ []

  pub told_more : (y : LiveOf) → IsLive s y → y.journal ≡ grown → IsTold s more y
  told_more y live is =
      record {
        live = live;
        posts = λ p. ap (posts_by p) is ∙ told_next taken more x.journal n t took h.posts p;
        fronts = begins_more taken more x.journal n t took s h.fronts at;
      }

  pub fronts_more : (journal : List Arrival) → (journal ≡ x.journal) ⊎ (journal ≡ grown) → IsTrue (never_falls journal) → KeepsFronts s journal
  fronts_more journal (inl same) falls = subst (KeepsFronts s) (sym same) (fronts_told s taken x h)
  fronts_more journal (inr is) falls =
      record {
        posts = fronts_of s more journal (λ p. ap (posts_by p) is ∙ told_next taken more x.journal n t took h.posts p)
            (begins_more taken more x.journal n t took s h.fronts at);
        falls = falls;
      }
