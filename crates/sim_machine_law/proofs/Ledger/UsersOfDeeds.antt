-- The users of a resource after each deed, and after an attempt at a request.
use Rattle.std.proofs.Common.{◌≡◌, ◌≢◌, ℕ, Bool, true, ◌&&◌, List, [], ◌∷◌, ◌++◌, refl, ap, ◌∙◌, if◌then◌else◌}
use Rattle.std.proofs.lemmas.List.{append-nil}
use Rattle.std.proofs.lemmas.Bool.{ne_eqb, eq-eqb}
use Rattle.sim_types.specs.declared.event.EventId.{EventId}
use Rattle.sim_types.specs.declared.event.ProcId.{ProcId}
use Rattle.sim_types.specs.declared.event.RequestKey.{RequestKey}
use Rattle.sim_types.specs.declared.setup.Resource.{Resource}
use Rattle.sim_machine.specs.State.{Want, Slot, Waiter, User, Deed, Granted, Released, Preempted, Facilities}
use Rattle.sim_machine.specs.Users.{resource_at, user_by, users}
use Rattle.sim_machine.specs.Attempts.{Grant, NoSlot, FreeSlot, SlotOf, grant_of}
use Rattle.sim_machine.specs.Trying.{preempt, use_slot, attempt_for, attempt}
use Rattle.sim_machine_law.specs.Desks.{users_besides, user_since}
use Rattle.sim_machine_law.proofs.Ledger.LedgerSteps.{all_stay, users_step}

-- ---- deeds

here : (res : ℕ) (u : User) → user_by res (Granted res u) [] ≡ u ∷ []
here res u = ap (λ (b : Bool). if b && true then u ∷ [] else []) (eq-eqb res res refl)

elsewhere : (n res : ℕ) (u : User) → res ≢ n → user_by n (Granted res u) [] ≡ []
elsewhere n res u differ = ap (λ (b : Bool). if b && true then u ∷ [] else []) (ne_eqb res n differ)

pub users_granted : (res : ℕ) (u : User) (ledger : List Deed) → users res (ledger ++ Granted res u ∷ []) ≡ users res ledger ++ u ∷ []
users_granted res u ledger =
    users_step res (Granted res u) ledger ∙ ap (λ (us : List User). us ++ user_by res (Granted res u) []) (all_stay (users res ledger)) ∙ ap (λ (us : List User). users res ledger ++ us) (here res u)

pub users_elsewhere : (n res : ℕ) (u : User) (ledger : List Deed) → res ≢ n → users n (ledger ++ Granted res u ∷ []) ≡ users n ledger
users_elsewhere n res u ledger differ =
    users_step n (Granted res u) ledger ∙ ap (λ (us : List User). us ++ user_by n (Granted res u) []) (all_stay (users n ledger)) ∙ ap (λ (us : List User). users n ledger ++ us) (elsewhere n res u differ) ∙ append-nil (users n ledger)

pub users_released : (n res : ℕ) (r : EventId) (ledger : List Deed) → users n (ledger ++ Released res r ∷ []) ≡ users_besides r (users n ledger)
users_released n res r ledger = users_step n (Released res r) ledger ∙ append-nil (users_besides r (users n ledger))

pub users_left : (n res : ℕ) (r : EventId) (ledger : List Deed) → users n (ledger ++ Preempted res r ∷ []) ≡ users_besides r (users n ledger)
users_left n res r ledger = users_step n (Preempted res r) ledger ∙ append-nil (users_besides r (users n ledger))

-- ---- attempts

module _ (rs : List Resource) (w : Waiter) (p : ProcId) (key : RequestKey) (f : Facilities) (wants : w.want ≡ Slot p key) where
  -- an attempt at a request uses the slot that is granted
  attempt_uses : (grant : Grant) → grant_of (resource_at rs w.res) key (users w.res f.ledger) ≡ grant → attempt rs w f ≡ use_slot w p key grant f
  attempt_uses grant is =
      ap (λ (v : Want). attempt_for rs (resource_at rs w.res) w v f) wants ∙ ap (λ (g : Grant). use_slot w p key g f) is

  pub nothing_done : grant_of (resource_at rs w.res) key (users w.res f.ledger) ≡ NoSlot → attempt rs w f ≡ f
  nothing_done is = attempt_uses NoSlot is

  pub user_more : grant_of (resource_at rs w.res) key (users w.res f.ledger) ≡ FreeSlot →
      users w.res (attempt rs w f).ledger ≡ users w.res f.ledger ++ user_since w p key f ∷ []
  user_more is =
      ap (λ (g : Facilities). users w.res g.ledger) (attempt_uses FreeSlot is) ∙ users_granted w.res (user_since w p key f) f.ledger

  pub user_replaced : (u : User) → grant_of (resource_at rs w.res) key (users w.res f.ledger) ≡ SlotOf u →
      users w.res (attempt rs w f).ledger ≡ users_besides u.request (users w.res f.ledger) ++ user_since w p key f ∷ []
  user_replaced u is =
      ap (λ (g : Facilities). users w.res g.ledger) (attempt_uses (SlotOf u) is) ∙ users_granted w.res (user_since w p key f) (preempt w.res u f).ledger ∙ ap (λ (us : List User). us ++ user_since w p key f ∷ []) (users_left w.res w.res u.request f.ledger)
