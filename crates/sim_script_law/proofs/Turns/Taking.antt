-- A script takes in what it is told.
use Rattle.std.proofs.Common.{◌≡◌, refl, sym, subst, ap, ◌∙◌, ℕ, ◌-◌, ◌<◌, ◌≤◌, ℤ, pos, Bool, true, false, List, [], ◌∷◌, length, set, Option, Some, None, arith}
use Rattle.std.specs.Prelude.{nat_abs, slice_index_or}
use Rattle.std.proofs.lemmas.Bool.{false≢true, true≢false}
use Rattle.sim_types.specs.Setups.{is_class}
use Rattle.sim_types.specs.Scenarios.{ScenarioOf}
use Rattle.sim_types.specs.declared.event.EventId.{EventId}
use Rattle.sim_types.specs.declared.event.Throw.{Throw}
use Rattle.sim_types.specs.declared.event.Signal.{Signal}
use Rattle.sim_types.specs.declared.event.Signal.TheVariants as signal
use Rattle.sim_types.specs.declared.op.Op.{Op}
use Rattle.sim_types.specs.declared.op.Op.TheVariants as op
use Rattle.sim_types.specs.declared.setup.Class.{Class}
use Rattle.sim_types.specs.declared.setup.Class.TheVariants as class
use Rattle.sim_types.specs.declared.script.Kind.{Kind}
use Rattle.sim_types.specs.declared.script.Stmt.{Stmt}
use Rattle.sim_types.specs.declared.script.Stmt.TheVariants as stmt
use Rattle.sim_machine.specs.MayFollow.{may_be_told, may_follow, is_enter}
use Rattle.sim_machine.specs.BodyLaw.{places_kept, changed_places, scopes_told, may_start, makes_class}
use Rattle.sim_language.specs.FittingBlocks.{Open, OpenWith}
use Rattle.sim_language.specs.FittingStatements.{class_of}
use Rattle.sim_script_model.specs.Scripts.{Throwing, InScope, Script, set_mode, set_variable, push_frame, places_of, requests_in}
use Rattle.sim_script_model.specs.Polls.{given_by, last_stmt, open_with, store, take_in}
use Rattle.sim_script_law.specs.Framing.{Framed, is_held}
use Rattle.sim_script_law.specs.SoundScripts.{IsSoundScript, IsAskedThere, IsEntering, is_answered, is_asked_by, has_ended, is_breaking, begins_with_number}
use Rattle.sim_script_law.proofs.Scripts.Variables.{class_of-is, may_start-event, may_start-length, places_kept-same, places_kept-made, changed_places-same, changed_places-stored, stored}
use Rattle.sim_script_law.proofs.Turns.Answered.{gives_class}
use Rattle.sim_script_law.proofs.Scripts.Frames.{framed_set, other_class_not_held, reverse_more}
use Rattle.sim_script_law.proofs.Scripts.Standing.{scopes_of, Stands, Numbers, number_stored, nothing_stored}

-- b took in what it was told, and is now t
pub record Takes (x : ScenarioOf) (kind : Kind) (b : Script) (told : Signal) (t : Script) : Type 0 where
  pub own : t.me ≡ b.me
  pub kind_same : t.kind ≡ b.kind
  pub scenario : t.scenario ≡ b.scenario
  pub classes : t.classes ≡ b.classes
  pub kept : places_kept b.asked told (places_of b.classes b.variables) (places_of b.classes t.variables) ≡ true
  pub one : changed_places (places_of b.classes b.variables) (places_of b.classes t.variables) ≤ 1
  pub scopes : scopes_of t ≡ scopes_told (scopes_of b) b.asked told
  pub opens : List Open
  pub stands : Stands x kind opens t

-- ---- what may be told

-- what is told to a process shows whether it waits for a request, and that it is not at its end
record Goes (last : Option Op) : Type 0 where
  going : has_ended last ≡ false
  no_request : is_enter last ≡ false

goes : (last : Option Op) (told : Signal) → may_be_told last told ≡ true → may_follow (op.Enter 0 (pos 0) true) told ≡ false → Goes last
goes None told may other = record { going = refl; no_request = refl }
goes (Some (op.Finish value)) told may other = absurd (false≢true may)
goes (Some (op.Die thrown)) told may other = absurd (false≢true may)
goes (Some (op.Enter res priority preempts)) told may other = absurd (true≢false (sym may ∙ other))
goes (Some asked) told may other = record { going = refl; no_request = refl }

pub answered_by_number : (n : ℤ) (asked : Op) → may_follow asked (signal.Number n) ≡ true → is_answered asked ≡ true
answered_by_number n (op.Count res) may = refl
answered_by_number n (op.Has cond e) may = refl
answered_by_number n (op.Draw lo hi) may = refl
answered_by_number n _ may = absurd (false≢true may)

pub answered_by_event : (e : EventId) (asked : Op) → may_follow asked (signal.Made e) ≡ true → is_answered asked ≡ true
answered_by_event e (op.Timeout delay value) may = refl
answered_by_event e op.NewEvent may = refl
answered_by_event e (op.Spawn k args) may = refl
answered_by_event e (op.AllOf members) may = refl
answered_by_event e (op.AnyOf members) may = refl
answered_by_event e (op.Enter res priority preempts) may = refl
answered_by_event e (op.Put res amount priority) may = refl
answered_by_event e (op.Get res least greatest) may = refl
answered_by_event e _ may = absurd (false≢true may)

goes_on : (e : EventId) (asked : Op) → may_follow asked (signal.Made e) ≡ true → has_ended (Some asked) ≡ false
goes_on e (op.Finish value) may = absurd (false≢true may)
goes_on e (op.Die thrown) may = absurd (false≢true may)
goes_on e _ may = refl

-- a `with` alone opens a scope
opens_none : (s : Stmt) (asked : Op) (e : EventId) (b : Script) → is_asked_by s asked ≡ true → is_enter (Some asked) ≡ false → open_with s e b ≡ b
opens_none (stmt.With to res priority preempts) (op.Enter r p q) e b by other = absurd (true≢false other)
opens_none (stmt.With to res priority preempts) _ e b by other = absurd (false≢true by)
opens_none _ asked e b by other = refl

-- requests alone have their class
not_request : (asked : Op) (c : Class) → makes_class (Some asked) c ≡ true → is_enter (Some asked) ≡ false → is_class class.Request c ≡ false
not_request (op.Enter res priority preempts) class.Request makes other = absurd (true≢false other)
not_request _ class.Request makes other = absurd (false≢true makes)
not_request asked _ makes other = refl

makes_request : (c : Class) → makes_class (Some (op.Enter 0 (pos 0) true)) c ≡ true → c ≡ class.Request
makes_request class.Request makes = refl
makes_request _ makes = absurd (false≢true makes)

module _ (x : ScenarioOf) (b : Script) (h : IsSoundScript x b) where
  abbrev kind : Kind
  kind = h.kind

  -- its variables are others, but none of an open `with`; all else is as it was
  tells : (told : Signal) (vs : List ℤ) → Goes b.asked
      → places_kept b.asked told (places_of b.classes b.variables) (places_of b.classes vs) ≡ true
      → changed_places (places_of b.classes b.variables) (places_of b.classes vs) ≤ 1 → may_start b.classes vs ≡ true
      → Framed x h.kind vs h.opens b.frames → scopes_of b ≡ scopes_told (scopes_of b) b.asked told
      → Takes x h.kind b told (record b { variables = vs })
  tells told vs on kept one starts framed scopes =
      record {
        own = refl;
        kind_same = refl;
        scenario = refl;
        classes = refl;
        kept = kept;
        one = one;
        scopes = scopes;
        opens = h.opens;
        stands = record {
          classes = h.classes;
          long = h.long;
          val = h.val;
          variables = starts;
          few = h.few;
          framed = framed;
          runs = h.runs on.going on.no_request;
          breaks = h.breaks;
        };
      }

  -- numbers among its variables are others
  tells_number : (told : Signal) (vs : List ℤ) → Goes b.asked → Numbers x h.kind b.classes b.variables vs
      → scopes_of b ≡ scopes_told (scopes_of b) b.asked told → Takes x h.kind b told (record b { variables = vs })
  tells_number told vs on stored scopes =
      tells told vs on (rw stored.places (places_kept-same b.asked told (places_of b.classes b.variables))) (rw (stored.places, changed_places-same (places_of b.classes b.variables)) (omega arith)) (stored.starts h.variables) (stored.framed h.opens b.frames h.framed) scopes

  nothing : (told : Signal) → Goes b.asked → scopes_of b ≡ scopes_told (scopes_of b) b.asked told → Takes x h.kind b told b
  nothing told on scopes = tells_number told b.variables on (nothing_stored x h.kind b.classes b.variables) scopes

  -- it throws
  throws : (told : Signal) (what : Throw) → scopes_of b ≡ scopes_told (scopes_of b) b.asked told → Takes x h.kind b told (set_mode (Throwing what) b)
  throws told what scopes =
      record {
        own = refl;
        kind_same = refl;
        scenario = refl;
        classes = refl;
        kept = places_kept-same b.asked told (places_of b.classes b.variables);
        one = rw (changed_places-same (places_of b.classes b.variables)) (omega arith);
        scopes = scopes;
        opens = h.opens;
        stands = record {
          classes = h.classes;
          long = h.long;
          val = h.val;
          variables = h.variables;
          few = h.few;
          framed = h.framed;
          runs = λ running. absurd (false≢true running);
          breaks = λ breaking. absurd (false≢true breaking);
        };
      }

  -- `val` is a number
  val_is_number : class_of h.kind 0 ≡ class.Number
  val_is_number = by h.kind.classes (rw (← h.classes) h.val)
    where
      by : (cs : List Class) → begins_with_number cs ≡ true → class_of (record h.kind { classes = cs }) 0 ≡ class.Number
      by [] val = absurd (false≢true val)
      by (class.Number ∷ cs) val = refl
      by (_ ∷ cs) val = absurd (false≢true val)

  told_number : (n : ℤ) (last : Option Op) → b.asked ≡ last → may_be_told last (signal.Number n) ≡ true
      → Takes x h.kind b (signal.Number n) (store (given_by (last_stmt x.code b)) n b)
  told_number n None is may = absurd (false≢true may)
  told_number n (Some asked) is may = by (given_by (last_stmt x.code b)) refl
    where
      there : IsAskedThere x h.kind asked (last_stmt x.code b)
      there = h.asked asked is (answered_by_number n asked may)

      on : Goes b.asked
      on = rw is (goes (Some asked) (signal.Number n) may refl)

      by : (to : Option ℕ) → given_by (last_stmt x.code b) ≡ to → Takes x h.kind b (signal.Number n) (store to n b)
      by None given = nothing (signal.Number n) on refl
      by (Some to) given =
          let gives = gives_class x h.kind (last_stmt x.code b) asked to given there.by there.fits in
          tells_number (signal.Number n) (set b.variables to n) on (number_stored x h.kind b.classes b.variables to n h.classes (gives.number n may)) refl

  -- an event was made that is no request
  told_event : (e : EventId) (asked : Op) → b.asked ≡ Some asked → may_follow asked (signal.Made e) ≡ true
      → is_enter (Some asked) ≡ false
      → Takes x h.kind b (signal.Made e)
      (open_with (last_stmt x.code b) e (store (given_by (last_stmt x.code b)) (pos e.0) b))
  told_event e asked is may other = subst (λ (t : Script). Takes x h.kind b (signal.Made e) t) (sym (opens_none (last_stmt x.code b) asked e (store (given_by (last_stmt x.code b)) (pos e.0) b) there.by other)) (by (given_by (last_stmt x.code b)) refl)
    where
      there : IsAskedThere x h.kind asked (last_stmt x.code b)
      there = h.asked asked is (answered_by_event e asked may)

      on : Goes b.asked
      on = rw is (record { going = goes_on e asked may; no_request = other })

      scopes : scopes_of b ≡ scopes_told (scopes_of b) b.asked (signal.Made e)
      scopes = rw (is, other) refl

      by : (to : Option ℕ) → given_by (last_stmt x.code b) ≡ to → Takes x h.kind b (signal.Made e) (store to (pos e.0) b)
      by None given = nothing (signal.Made e) on scopes
      by (Some to) given =
          let gives = gives_class x h.kind (last_stmt x.code b) asked to given there.by there.fits in
          let made : makes_class b.asked (slice_index_or b.classes to class.Number) ≡ true = rw (is, h.classes, ← class_of-is h.kind to) (gives.made e may) in
          let none : is_held to h.opens ≡ false = other_class_not_held x h.kind b.variables to h.opens b.frames (not_request asked (class_of h.kind to) (gives.made e may) other) h.framed in
          tells (signal.Made e) (set b.variables to (pos e.0)) on (places_kept-made b.asked e b.classes b.variables to made) (changed_places-stored b.classes b.variables to (pos e.0)) (may_start-event b.classes b.variables to e.0 h.variables) (framed_set x h.kind b.variables to (pos e.0) h.opens b.frames none h.framed) scopes

  -- a request was made: its scope is open
  told_request : (e : EventId) (res : ℕ) (priority : ℤ) (preempts : Bool) → b.asked ≡ Some (op.Enter res priority preempts)
      → Takes x h.kind b (signal.Made e)
      (open_with (last_stmt x.code b) e (store (given_by (last_stmt x.code b)) (pos e.0) b))
  told_request e res priority preempts is =
      let en : IsEntering x h.kind h.opens b = h.enters (rw is refl) in
      let s : Stmt = stmt.With en.variable en.resource en.priority en.preempts in
      subst (λ (s : Stmt). Takes x h.kind b (signal.Made e) (open_with s e (store (given_by s) (pos e.0) b))) (sym en.asked_by) (by en (rw en.asked_by at (h.asked (op.Enter res priority preempts) is refl)))
    where
      by : (en : IsEntering x h.kind h.opens b)
          → IsAskedThere x h.kind (op.Enter res priority preempts)
          (stmt.With en.variable en.resource en.priority en.preempts)
          → Takes x h.kind b (signal.Made e) (push_frame (InScope e) (set_variable en.variable (pos e.0) b))
      by en there =
          let gives = gives_class x h.kind (stmt.With en.variable en.resource en.priority en.preempts) (op.Enter res priority preempts) en.variable refl there.by there.fits in
          let made : makes_class b.asked (slice_index_or b.classes en.variable class.Number) ≡ true = rw (is, h.classes, ← class_of-is h.kind en.variable) (gives.made e refl) in
          let within : en.variable < length b.variables = omega (arith, gives.within, may_start-length b.classes b.variables h.variables, h.long) in
          record {
            own = refl;
            kind_same = refl;
            scenario = refl;
            classes = refl;
            kept = places_kept-made b.asked e b.classes b.variables en.variable made;
            one = changed_places-stored b.classes b.variables en.variable (pos e.0);
            scopes = rw is (reverse_more e (requests_in b.frames));
            opens = OpenWith en.variable ∷ h.opens;
            stands = record {
              classes = h.classes;
              long = h.long;
              val = h.val;
              variables = may_start-event b.classes b.variables en.variable e.0 h.variables;
              few = omega (arith, en.few);
              framed = (
                record {
                  place = b.place - 1;
                  within = omega (arith, en.some, en.within);
                  resource = en.resource;
                  priority = en.priority;
                  preempts = en.preempts;
                  opened = en.asked_by;
                  class = makes_request (class_of h.kind en.variable) (gives.made e refl);
                  held = ap nat_abs (stored b.variables en.variable (pos e.0) (pos 0) within);
                  fresh = en.fresh;
                },
                framed_set x h.kind b.variables en.variable (pos e.0) h.opens b.frames en.fresh h.framed,
              );
              runs = λ running. en.walks;
              breaks = λ breaking. absurd (false≢true (sym (ap is_breaking en.runs) ∙ breaking));
            };
          }

  pub takes : (told : Signal) → may_be_told b.asked told ≡ true → Takes x h.kind b told (take_in x.code told b)
  takes signal.Begin may = nothing signal.Begin (goes b.asked signal.Begin may refl) refl
  takes signal.Done may = nothing signal.Done (goes b.asked signal.Done may refl) refl
  takes (signal.Value v) may = tells_number (signal.Value v) (set b.variables 0 v) (goes b.asked (signal.Value v) may refl) (number_stored x h.kind b.classes b.variables 0 v h.classes val_is_number) refl
  takes (signal.Thrown t) may = throws (signal.Thrown t) t refl
  takes (signal.Raised n) may = throws (signal.Raised n) (record { kind = 4; value = pos n }) refl
  takes (signal.Number n) may = told_number n b.asked refl may
  takes (signal.Made e) may = by b.asked refl may
    where
      by : (last : Option Op) → b.asked ≡ last → may_be_told last (signal.Made e) ≡ true
          → Takes x h.kind b (signal.Made e)
          (open_with (last_stmt x.code b) e (store (given_by (last_stmt x.code b)) (pos e.0) b))
      by None is may = absurd (false≢true may)
      by (Some (op.Enter res priority preempts)) is may = told_request e res priority preempts is
      by (Some asked) is may = told_event e asked is may refl
