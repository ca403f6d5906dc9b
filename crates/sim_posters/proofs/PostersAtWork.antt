-- Posters before, at and after their work.
use Rattle.std.proofs.Common.{◌≡◌, ℕ, ◌+◌, ◌-◌, ◌^◌, ◌<◌, ◌≤◌, Bool, true, List, [], ◌∷◌, ◌++◌, length, get_or, map, Some, sym, refl, ap, ◌∙◌, subst, arith}
use Rattle.std.proofs.lemmas.List.{length-map, ext_get_or}
use Rattle.std.proofs.lemmas.Option.{slice_get_within}
use Rattle.std.specs.Prelude.{slice_get}
use Rattle.sim_types.specs.declared.setup.Post.{Post}
use Rattle.sim_inbox.specs.declared.posting.Posting.{Ghosts}
use Rattle.sim_inbox.specs.Lists.{Begins}
use Rattle.sim_posters.specs.Posters.{IsFresh, IsWorker, IsBack, IsPostedBy, WorkerOf}
use Rattle.sim_posters.proofs.Places.{none_there, one_more, each_of_more, each_of_fewer, last_of_each, element_at}

-- ---- on their way to work

-- some posters are still fresh, and those behind them are at their work, the last one first
pub record AreSetToWork {P : Type 0} (posting : Ghosts P) (box : List ℕ) (sections : List (List Post)) (posters : List P)
    (workers : List (WorkerOf P)) : Type 0 where
  pub count : length workers + length posters ≡ length sections
  pub fresh : (p : ℕ) (x : P) → slice_get posters p ≡ Some x → IsFresh posting box sections p x
  pub at_work : (j : ℕ) (w : WorkerOf P) → slice_get workers j ≡ Some w → IsWorker posting box sections (length sections) j w

module _ {P : Type 0} {posting : Ghosts P} {box : List ℕ} {sections : List (List Post)} where
  -- posters that an inbox opens with such capacities are fresh
  pub fresh_from : (asked given : List ℕ) (posters : List P) → length posters ≡ length sections
      → ((p : ℕ) (x : P) → slice_get posters p ≡ Some x → (posting.number x ≡ p) × (posting.inbox x ≡ box))
      → ((p : ℕ) (x : P) → slice_get posters p ≡ Some x → (posting.posted x ≡ []) × (get_or asked p 0 ≤ posting.capacity x))
      → ((p : ℕ) → length (get_or sections p []) < 2 ^ 32 - 1) → asked ≡ given
      → ((p : ℕ) → p < length sections → (0 < get_or given p 0) × (length (get_or sections p []) ≤ get_or given p 0))
      → (p : ℕ) (x : P) → slice_get posters p ≡ Some x → IsFresh posting box sections p x
  fresh_from asked given posters many own fresh small same each p x at =
      let within = slice_get_within posters p x at in
      let room = (each p (omega (arith, within, many))).1 in
      let capacity = (fresh p x at).1 in
      let is : get_or asked p 0 ≡ get_or given p 0 = ap (λ (l : List ℕ). get_or l p 0) same in
      record {
        number_is = (own p x at).0;
        nothing = (fresh p x at).0;
        own = (own p x at).1;
        room = omega (arith, room, capacity, is);
        few = small p;
      }

  pub none_set_to_work : (all posters : List P) (workers : List (WorkerOf P)) → length all ≡ length sections
      → ((p : ℕ) (x : P) → slice_get all p ≡ Some x → IsFresh posting box sections p x) → posters ≡ all → workers ≡ []
      → AreSetToWork posting box sections posters workers
  none_set_to_work all posters workers many fresh same none =
      record {
        count = omega (arith, ap length none, ap length same, many);
        fresh = λ p x at. fresh p x (sym (ap (λ l. slice_get l p) same) ∙ at);
        at_work = λ j w at. absurd (none_there workers none j w at);
      }

  module _ {posters : List P} {workers : List (WorkerOf P)} (h : AreSetToWork posting box sections posters workers)
      (rest : List P) (x : P) (p : ℕ) (last : posters ≡ rest ++ x ∷ []) (is : p ≡ length rest) where
    last_is_fresh : IsFresh posting box sections p x
    last_is_fresh = last_of_each posters rest x p is h.fresh last

    pub next_is_fresh : IsFresh posting (posting.inbox x) sections p x
    next_is_fresh =
        record {
          number_is = last_is_fresh.number_is;
          nothing = last_is_fresh.nothing;
          own = refl;
          room = last_is_fresh.room;
          few = last_is_fresh.few;
        }

    last_at_work : (w : WorkerOf P) → w.posts ≡ get_or sections p [] → w.before ≡ x → IsWorker posting box sections (length sections) (length workers) w
    last_at_work w posts before =
        let number : posting.number w.before ≡ p = ap posting.number before ∙ last_is_fresh.number_is in
        record {
          place = omega (arith, number, h.count, one_more rest posters x last, is);
          section = posts ∙ ap (λ (k : ℕ). get_or sections k []) (sym number);
          same_inbox = ap posting.inbox before ∙ last_is_fresh.own;
        }

    pub one_more_set_to_work : (more : List (WorkerOf P)) (w : WorkerOf P) → w.posts ≡ get_or sections p [] → w.before ≡ x → more ≡ workers ++ w ∷ []
        → AreSetToWork posting box sections rest more
    one_more_set_to_work more w posts before grown =
        record {
          count = omega (arith, h.count, one_more rest posters x last, one_more workers more w grown);
          fresh = each_of_fewer posters rest x h.fresh last;
          at_work = each_of_more workers more w h.at_work grown (last_at_work w posts before);
        }

-- ---- on their way back

-- some posters are still at their work, the last one first, and those in front of them are back
pub record AreComingBack {P : Type 0} (posting : Ghosts P) (box : List ℕ) (sections : List (List Post))
    (workers : List (WorkerOf P)) (posters : List P) : Type 0 where
  pub count : length posters + length workers ≡ length sections
  pub at_work : (j : ℕ) (w : WorkerOf P) → slice_get workers j ≡ Some w → IsWorker posting box sections (length sections) j w
  pub back : (p : ℕ) (x : P) → slice_get posters p ≡ Some x → IsBack posting box sections p x

module _ {P : Type 0} {posting : Ghosts P} {box : List ℕ} {sections : List (List Post)} where
  module _ {workers : List (WorkerOf P)} {posters : List P} (h : AreComingBack posting box sections workers posters) (rest : List (WorkerOf P)) (w : WorkerOf P)
      (last : workers ≡ rest ++ w ∷ []) where
    next_is_back : (x : P) (whole : Bool) → IsPostedBy posting w.before w.posts x whole → whole ≡ true → IsBack posting box sections (length posters) x
    next_is_back x whole posted is =
        let worker : IsWorker posting box sections (length sections) (length rest) w = last_of_each workers rest w (length rest) refl h.at_work last in
        let number : posting.number w.before ≡ length posters = omega (arith, worker.place, h.count, one_more rest workers w last) in
        record {
          number_is = posted.same_number ∙ number;
          same_inbox = posted.same_inbox ∙ worker.same_inbox;
          section = posted.all is ∙ (worker.section ∙ ap (λ (k : ℕ). get_or sections k []) number);
        }

    pub one_more_back : (more : List P) (x : P) (whole : Bool) → IsPostedBy posting w.before w.posts x whole → whole ≡ true → more ≡ posters ++ x ∷ []
        → AreComingBack posting box sections rest more
    one_more_back more x whole posted is grown =
        record {
          count = omega (arith, h.count, one_more rest workers w last, one_more posters more x grown);
          at_work = each_of_fewer workers rest w h.at_work last;
          back = each_of_more posters more x h.back grown (next_is_back x whole posted is);
        }

  -- ---- back

  -- what posters posted that are back are the sections
  pub back_lists : (posters : List P) → length posters ≡ length sections
      → ((p : ℕ) (x : P) → slice_get posters p ≡ Some x → IsBack posting box sections p x) → map posting.posted posters ≡ sections
  back_lists posters many back =
      ext_get_or [] (map posting.posted posters) sections (length-map posters posting.posted ∙ many)
      (λ p less. let at = element_at posting.posted posters [] p (omega (arith, less, length-map posters posting.posted)) in at.2 ∙ (back p at.0 at.1).section)

  -- so each section begins with what was taken of its poster's list
  pub begin_each : (taken : ℕ → List Post) (posters : List P) → length posters ≡ length sections
      → ((p : ℕ) (x : P) → slice_get posters p ≡ Some x → IsBack posting box sections p x)
      → ((p : ℕ) (x : P) → slice_get posters p ≡ Some x → Begins (taken p) (posting.posted x))
      → (p : ℕ) → p < length sections → Begins (taken p) (get_or sections p [])
  begin_each taken posters many back begins p less =
      let at = element_at posting.posted posters [] p (omega (arith, less, many)) in
      subst (λ (l : List Post). Begins (taken p) l) (back p at.0 at.1).section (begins p at.0 at.1)
