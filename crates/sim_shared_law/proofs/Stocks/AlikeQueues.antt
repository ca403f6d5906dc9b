-- A queue as it is kept and as the machine has it, and how far a try goes along it (SimPy's "Shared resources").
use Rattle.std.proofs.Common.{◌≡◌, ◌≢◌, ◌<◌, Bool, true, false, not, List, [], ◌∷◌, ◌++◌, length, refl, sym, subst, ap, ◌∙◌, Option, None, filter, if◌then◌else◌, arith}
use Rattle.std.specs.Prelude.{All, AllPairs}
use Rattle.std.specs.List.{list_any}
use Rattle.std.proofs.lemmas.List.Elements.{All-nil, All-cons, All-head, All-tail, All-weaker}
use Rattle.sim_types.specs.declared.event.EventId.{EventId}
use Rattle.sim_types.specs.declared.setup.Resource.{Resource}
use Rattle.sim_machine.specs.State.{Waiter, Facilities}
use Rattle.sim_machine.specs.Events.{is_same}
use Rattle.sim_machine.specs.Attempts.{Served}
use Rattle.sim_machine.specs.Trying.{Reach, First, WhileServed, serve, serve_if_any, attempt, still_waits, goes_on, try_along}
use Rattle.sim_machine.specs.Trying as trying
use Rattle.sim_machine_law.proofs.Events.EventLaws.{is_same-self}
use Rattle.sim_machine_law.proofs.Ledger.TriedQueues.{AreApart}
use Rattle.sim_shared_model.proofs.LeftOut.{same_no}
use Rattle.sim_shared_model.specs.StoreQueues.{looked_at, ServesNone}
use Rattle.sim_shared_law.proofs.Desks.LeavingWaiters.{apart_others, one_left_out}

-- ---- alike

module _ {W : Type 0} (R : W → Waiter → Type 0) where
  -- two queues are alike, one waiter after another
  abbrev pub AreAlike : List W → List Waiter → Type 0
  AreAlike [] [] = Unit {0}
  AreAlike (w ∷ ws) (v ∷ vs) = R w v × AreAlike ws vs
  AreAlike _ _ = ⊥

  -- the machine's queue has the same waiter between alike ones
  pub record IsBetween (passed : List W) (w : W) (queue : List Waiter) : Type 0 where
    pub before : List Waiter
    pub waiter : Waiter
    pub behind : List Waiter
    pub stood : queue ≡ before ++ waiter ∷ behind
    pub first : AreAlike passed before
    pub alike : R w waiter

  between_more : (p w : W) (ps : List W) (v : Waiter) (vs : List Waiter) → R p v → IsBetween ps w vs → IsBetween (p ∷ ps) w (v ∷ vs)
  between_more p w ps v vs r b = record {
    before = v ∷ b.before;
    waiter = b.waiter;
    behind = b.behind;
    stood = ap (λ us. v ∷ us) b.stood;
    first = (r, b.first);
    alike = b.alike;
  }

  pub between : (passed : List W) (w : W) (behind : List W) (queue : List Waiter) → AreAlike (passed ++ w ∷ behind) queue → IsBetween passed w queue
  between [] w behind [] h = absurd h
  between [] w behind (v ∷ vs) h = record { before = []; waiter = v; behind = vs; stood = refl; first = tt; alike = h.0 }
  between (p ∷ ps) w behind [] h = absurd h
  between (p ∷ ps) w behind (v ∷ vs) h = between_more p w ps v vs h.0 (between ps w behind vs h.1)

-- ---- attempts that answer nothing

-- to each of these the machine's attempt answers nothing
abbrev pub AttemptNothing : List Resource → Facilities → List Waiter → Type 0
AttemptNothing rs f vs = All (λ v. attempt rs v f ≡ f) vs

-- what the machine's attempt answers to waiters that are alike
abbrev pub AnswersAs : {W : Type 0} → List Resource → (W → Waiter → Type 0) → (W → Option Served) → Facilities → Type 0
AnswersAs {W} rs R answer f = (w : W) (v : Waiter) → R w v → attempt rs v f ≡ serve_if_any v (answer w) f

module _ (rs : List Resource) {W : Type 0} (R : W → Waiter → Type 0) (answer : W → Option Served) (f : Facilities) where
  pub nothing_alike : AnswersAs rs R answer f → (ws : List W) (vs : List Waiter) → AreAlike R ws vs → All (λ w. answer w ≡ None) ws
      → AttemptNothing rs f vs
  nothing_alike told [] [] h none = All-nil (λ v. attempt rs v f ≡ f)
  nothing_alike told [] (v ∷ vs) h none = absurd h
  nothing_alike told (w ∷ ws) [] h none = absurd h
  nothing_alike told (w ∷ ws) (v ∷ vs) h none =
      All-cons (λ u. attempt rs u f ≡ f) v vs (told w v h.0 ∙ ap (λ o. serve_if_any v o f) (All-head (λ x. answer x ≡ None) w ws none))
      (nothing_alike told ws vs h.1 (All-tail (λ x. answer x ≡ None) w ws none))

-- a try along all passes these over
pub all_past : (rs : List Resource) (f : Facilities) (before behind : List Waiter) → AttemptNothing rs f before
    → try_along rs trying.All (before ++ behind) f ≡ try_along rs trying.All behind f
all_past rs f [] behind h = refl
all_past rs f (v ∷ vs) behind h =
    ap (λ g. try_along rs trying.All (vs ++ behind) g) (All-head (λ u. attempt rs u f ≡ f) v vs h)
    ∙ all_past rs f vs behind (All-tail (λ u. attempt rs u f ≡ f) v vs h)

all_nothing : (rs : List Resource) (f : Facilities) (vs : List Waiter) → AttemptNothing rs f vs → try_along rs trying.All vs f ≡ f
all_nothing rs f [] h = refl
all_nothing rs f (v ∷ vs) h =
    ap (λ g. try_along rs trying.All vs g) (All-head (λ u. attempt rs u f ≡ f) v vs h) ∙ all_nothing rs f vs (All-tail (λ u. attempt rs u f ≡ f) v vs h)

-- who stands in the queue waits
abbrev pub AllWaitIn : Facilities → List Waiter → Type 0
AllWaitIn f queue = (p : Waiter → Bool) → list_any p queue ≡ true → list_any p f.waiters ≡ true

stops_at : (rs : List Resource) (f : Facilities) (v : Waiter) (vs : List Waiter) → attempt rs v f ≡ f → still_waits v f ≡ true
    → try_along rs WhileServed (v ∷ vs) f ≡ f
stops_at rs f v vs is waits =
    ap (λ a. if goes_on WhileServed v a then try_along rs WhileServed vs a else a) is ∙ ap (λ b. if not b then try_along rs WhileServed vs f else f) waits

first_waits : (v : Waiter) (vs : List Waiter) → list_any (λ u. is_same u.event v.event) (v ∷ vs) ≡ true
first_waits v vs = rw (is_same-self v.event) refl

-- where nobody that a try looks at can be served, nothing happens
pub nobody_served : (rs : List Resource) {W : Type 0} (R : W → Waiter → Type 0) (answer : W → Option Served) (f : Facilities) (reach : Reach)
    (ws : List W) (queue : List Waiter) → AnswersAs rs R answer f → AreAlike R ws queue → AllWaitIn f queue → ServesNone reach answer ws
    → try_along rs reach queue f ≡ f
nobody_served rs R answer f reach [] [] told h waits none = refl
nobody_served rs R answer f reach [] (v ∷ vs) told h waits none = absurd h
nobody_served rs R answer f reach (w ∷ ws) [] told h waits none = absurd h
nobody_served rs R answer f First (w ∷ ws) (v ∷ vs) told h waits none =
    told w v h.0 ∙ ap (λ o. serve_if_any v o f) (All-head (λ x. answer x ≡ None) w [] none)
nobody_served rs R answer f WhileServed (w ∷ ws) (v ∷ vs) told h waits none =
    stops_at rs f v vs (told w v h.0 ∙ ap (λ o. serve_if_any v o f) (All-head (λ x. answer x ≡ None) w [] none))
    (waits (λ u. is_same u.event v.event) (first_waits v vs))
nobody_served rs R answer f trying.All (w ∷ ws) (v ∷ vs) told h waits none =
    all_nothing rs f (v ∷ vs) (nothing_alike rs R answer f told (w ∷ ws) (v ∷ vs) h none)

-- ---- one is served

-- a try that looks at the first alone passes nobody over
pub none_passed : {W : Type 0} (reach : Reach) (passed ws : List W) → reach ≢ trying.All → length passed < length (looked_at reach ws) → passed ≡ []
none_passed First [] ws some below = refl
none_passed First (p ∷ ps) [] some below = absurd (omega (arith, below))
none_passed First (p ∷ ps) (w ∷ ws) some below = absurd (omega (arith, below))
none_passed WhileServed [] ws some below = refl
none_passed WhileServed (p ∷ ps) [] some below = absurd (omega (arith, below))
none_passed WhileServed (p ∷ ps) (w ∷ ws) some below = absurd (omega (arith, below))
none_passed trying.All passed ws some below = absurd (some refl)

-- and ends with it, if it does not go on
pub first_tried : (rs : List Resource) (f g : Facilities) (v : Waiter) (vs queue : List Waiter) → queue ≡ v ∷ vs → attempt rs v f ≡ g
    → try_along rs First queue f ≡ g
first_tried rs f g v vs queue stood is = ap (λ us. try_along rs First us f) stood ∙ is

-- goes on behind it
pub next_tried : (rs : List Resource) (f g : Facilities) (v : Waiter) (vs queue : List Waiter) → queue ≡ v ∷ vs → attempt rs v f ≡ g
    → still_waits v g ≡ false → try_along rs WhileServed queue f ≡ try_along rs WhileServed vs g
next_tried rs f g v vs queue stood is served =
    ap (λ us. try_along rs WhileServed us f) stood
    ∙ (ap (λ a. if goes_on WhileServed v a then try_along rs WhileServed vs a else a) is ∙ ap (λ b. if not b then try_along rs WhileServed vs g else g) served)

-- or, where it goes along all, as well from the front, since those passed over have nothing afterwards either
pub again_tried : (rs : List Resource) (f g : Facilities) (before : List Waiter) (v : Waiter) (behind queue : List Waiter)
    → queue ≡ before ++ v ∷ behind → attempt rs v f ≡ g → AttemptNothing rs f before → AttemptNothing rs g before
    → try_along rs trying.All queue f ≡ try_along rs trying.All (before ++ behind) g
again_tried rs f g before v behind queue stood is passed after =
    ap (λ us. try_along rs trying.All us f) stood ∙ (all_past rs f before (v ∷ behind) passed
    ∙ (ap (λ a. try_along rs trying.All behind a) is ∙ sym (all_past rs g before behind after)))

-- ---- a try, whichever way it goes on

-- whether a try goes on once one was served
abbrev pub goes_on_by : Reach → Bool
goes_on_by First = false
goes_on_by _ = true

-- what is left to try comes to the same, where it goes on; else this is what it comes to
abbrev pub TriesTo : (Facilities → Facilities) → Bool → Facilities → Facilities → Type 0
TriesTo tries true f g = tries g ≡ tries f
TriesTo tries false f g = tries f ≡ g

none_before : {W : Type 0} (R : W → Waiter → Type 0) (passed : List W) (before : List Waiter) → passed ≡ [] → AreAlike R passed before → before ≡ []
none_before R [] [] none h = refl
none_before R [] (v ∷ vs) none h = absurd h
none_before R (p ∷ ps) before none h = absurd (some_not p ps none)
  where
    some_not : {X : Type 0} (x : X) (xs : List X) → x ∷ xs ≡ [] → ⊥
    some_not x xs h = cc

-- what is left of a queue, after one was served
pub queue_left : (before : List Waiter) (v : Waiter) (behind : List Waiter) (e : EventId) → v.event ≡ e → AllPairs AreApart (before ++ v ∷ behind)
    → filter (λ u. not (is_same u.event e)) (before ++ v ∷ behind) ≡ before ++ behind
queue_left before v behind e same apart =
    one_left_out (λ u. is_same u.event e) before v behind (subst (λ g. is_same v.event g ≡ true) same (is_same-self v.event))
    (All-weaker (AreApart v) (λ u. is_same u.event e ≡ false) (λ u differ. same_no u.event e (λ is. differ (same ∙ sym is))) (before ++ behind)
    (apart_others AreApart (λ u w h is. h (sym is)) before v behind apart))

-- the one that is served, in the machine's queue, and what the attempt at it comes to
pub record IsServedIn {W : Type 0} (rs : List Resource) (R : W → Waiter → Type 0) (passed : List W) (w : W) (queue : List Waiter) (e : EventId)
    (f g : Facilities) : Type 0 where
  pub place : IsBetween R passed w queue
  pub event : place.waiter.event ≡ e
  pub done : attempt rs place.waiter f ≡ g

pub first_not_all : First ≡ trying.All → ⊥
first_not_all h = cc

pub while_not_all : WhileServed ≡ trying.All → ⊥
while_not_all h = cc

module _ (rs : List Resource) {W : Type 0} (R : W → Waiter → Type 0) (queue : List Waiter → List Waiter) (passed ws : List W) (w : W) (e : EventId)
    (f g : Facilities) (s : IsServedIn rs R passed w (queue f.waiters) e f g) where
  pub tries_to : (reach : Reach) → length passed < length (looked_at reach ws) → AttemptNothing rs f s.place.before
      → (reach ≡ trying.All → AttemptNothing rs g s.place.before) → queue g.waiters ≡ s.place.before ++ s.place.behind
      → still_waits s.place.waiter g ≡ false → TriesTo (λ h. try_along rs reach (queue h.waiters) h) (goes_on_by reach) f g
  tries_to First reached nothing after left served =
      let p = s.place in
      let empty : p.before ≡ [] = none_before R passed p.before (none_passed First passed ws first_not_all reached) p.first in
      first_tried rs f g p.waiter p.behind (queue f.waiters) (p.stood ∙ ap (λ us. us ++ p.waiter ∷ p.behind) empty) s.done
  tries_to WhileServed reached nothing after left served =
      let p = s.place in
      let empty : p.before ≡ [] = none_before R passed p.before (none_passed WhileServed passed ws while_not_all reached) p.first in
      ap (λ q. try_along rs WhileServed q g) (left ∙ ap (λ us. us ++ p.behind) empty)
      ∙ sym (next_tried rs f g p.waiter p.behind (queue f.waiters) (p.stood ∙ ap (λ us. us ++ p.waiter ∷ p.behind) empty) s.done served)
  tries_to trying.All reached nothing after left served =
      let p = s.place in
      ap (λ q. try_along rs trying.All q g) left
      ∙ sym (again_tried rs f g p.before p.waiter p.behind (queue f.waiters) p.stood s.done nothing (after refl))
