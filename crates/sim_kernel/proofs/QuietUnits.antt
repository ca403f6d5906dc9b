-- Units in a row, in which a process asks for nothing but in the last, are as many steps of the machine.
use Rattle.std.proofs.Common.{◌≡◌, ℕ, List, [], zero, suc, ◌+◌, refl, sym, ap, ◌∙◌, subst, arith}
use Rattle.sim_machine.specs.Bodies.{BodyOf}
use Rattle.sim_happen_model.specs.TableOf.{AreNeeded}
use Rattle.sim_procs.specs.QuietPolls.{InARow}
use Rattle.sim_shared_model.specs.Measuring.{measured, ChangesOnlyAt}
use Rattle.sim_steps_model.specs.declared.mode.Unit.{Unit}
use Rattle.sim_steps_model.specs.declared.mode.Unit.TheVariants as unit
use Rattle.sim_steps_model.specs.PartsOf.{PartsOf, IsOpenedAs, KeepsButRoom}
use Rattle.sim_steps_model.specs.QuietUnits.{MovesQuietly, MovesAtLast}
use Rattle.sim_kernel.specs.Holding.{Holds}
use Rattle.sim_kernel.specs.Stepping.{MakesQuietStep, MakesSteps}
use Rattle.sim_steps_law.proofs.Kernels.Accounting.{opened_then}
use Rattle.sim_steps_law.proofs.Kernels.Rooms.{as_roomy}
use Rattle.sim_steps_law.proofs.Kernels.Running.{KeepsLaw}
use Rattle.sim_kernel.proofs.UnitSteps.{opened_through, unit_holds, unit_steps}

-- so many quiet units were made where room was made first: as many quiet steps lead from the old kernel to one that differs
-- from the new one in room at most, which is the old one itself where none was made
pub record AfterQuiet {B Code : Type 0} (body : BodyOf B Code) (units n : ℕ) (old new : PartsOf B Code) : Type 0 where
  pub parts : PartsOf B Code
  pub room : KeepsButRoom parts new
  pub steps : InARow (MakesQuietStep body) n old parts
  pub opened : IsOpenedAs old parts
  pub holds : Holds body (units + n) parts

-- what holds where the last is made too
pub record AfterUnits {B Code : Type 0} (body : BodyOf B Code) (units n : ℕ) (old : PartsOf B Code) (answer : Unit) (places : List ℕ) (new : PartsOf B Code) : Type 0 where
  pub opened : IsOpenedAs old new
  pub holds : Holds body (units + n) new
  -- what is kept in the end is needed, and so it was all along
  pub steps : AreNeeded new.shared.happen.events → MakesSteps body n old answer places new

module _ {B Code : Type 0} (body : BodyOf B Code) (units : ℕ) (old : PartsOf B Code) (h : Holds body units old)
    (law : KeepsLaw body old.code) (mid : PartsOf B Code) (room : KeepsButRoom old mid) where
  -- nothing happens in a quiet unit, so what was needed before it is needed after it
  after_quiet : (n : ℕ) (new : PartsOf B Code) → InARow (MovesQuietly body) n mid new → AfterQuiet body units n old new
  after_quiet zero new row =
      record {
        parts = old;
        room = subst (KeepsButRoom old) (sym row) room;
        steps = refl;
        opened = record { code = refl; setup = refl; seed = refl };
        holds = subst (λ k. Holds body k old) (omega arith) h;
      }
  after_quiet (suc n) new row =
      let from = row.between in
      let before = after_quiet n from row.before in
      let moves = row.after.moves in
      let law_then : KeepsLaw body before.parts.code = rw before.opened.code law in
      let same : new.shared.happen.events ≡ before.parts.shared.happen.events =
      ap (λ h. h.happen.events) row.after.shared ∙ ap (λ h. h.events) before.room.shared.happen in
      let opened : IsOpenedAs before.parts new = opened_through before.parts from new before.room moves.opened in
      let resources : new.shared.setup ≡ before.parts.setup.resources =
      ap (λ h. h.setup) row.after.shared ∙ (before.room.shared.setup ∙ before.holds.resources) in
      let nothing : ChangesOnlyAt [] from.shared new.shared =
      record { others = λ at other. ap (measured at) row.after.shared } in
      record {
        parts = new;
        room = as_roomy new;
        steps = record {
          between = before.parts;
          before = before.steps;
          after = record {
            makes = unit_steps body before.parts before.holds.fits law_then [] from unit.Quiet new before.room moves (λ needed. rw same needed)
                before.holds.resources resources nothing;
            time = ap (λ h. h.happen.time) row.after.shared ∙ ap (λ h. h.time) before.room.shared.happen;
            opened = opened;
            busy = row.after.busy;
          };
        };
        opened = opened_then old before.parts new before.opened opened;
        holds = subst (λ k. Holds body k new) (omega arith)
            (unit_holds body (units + n) before.parts from unit.Quiet new law_then before.holds before.room moves resources);
      }

  -- what is shared stays in quiet units
  shared_stays : (n : ℕ) (new : PartsOf B Code) → InARow (MovesQuietly body) n mid new → new.shared ≡ mid.shared
  shared_stays zero new row = ap (λ k. k.shared) row
  shared_stays (suc n) new row = row.after.shared ∙ shared_stays n row.between row.before

  pub after_units : (n : ℕ) (answer : Unit) (places : List ℕ) (new : PartsOf B Code) → MovesAtLast body n mid answer new →
      ChangesOnlyAt places mid.shared new.shared → new.shared.setup ≡ new.setup.resources → AfterUnits body units n old answer places new
  after_units zero answer places new none changes resources = absurd none
  after_units (suc n) answer places new row changes resources =
      let from = row.between in
      let before = after_quiet n from row.before in
      let law_then : KeepsLaw body before.parts.code = rw before.opened.code law in
      let opened : IsOpenedAs before.parts new = opened_through before.parts from new before.room row.after.opened in
      let later : new.shared.setup ≡ before.parts.setup.resources = rw (← opened.setup) resources in
      let last : ChangesOnlyAt places from.shared new.shared =
      subst (λ h. ChangesOnlyAt places h new.shared) (sym (shared_stays n from row.before)) changes in
      record {
        opened = opened_then old before.parts new before.opened opened;
        holds = subst (λ k. Holds body k new) (omega arith)
            (unit_holds body (units + n) before.parts from answer new law_then before.holds before.room row.after later);
        steps = λ needed. record {
          between = before.parts;
          before = before.steps;
          after = unit_steps body before.parts before.holds.fits law_then places from answer new before.room row.after (λ _. needed)
              before.holds.resources later last;
        };
      }
