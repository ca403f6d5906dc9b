-- What a script asks for is remembered.
use Rattle.std.proofs.Common.{◌≡◌, ℤ, List, refl, ap, ◌∙◌, Some, w64, to_z, of_z, FitsSigned}
use Rattle.std.proofs.lemmas.Int.{to_z-of_z}
use Rattle.sim_types.specs.declared.op.Op.{Op}
use Rattle.sim_types.specs.declared.script.Stmt.{Stmt}
use Rattle.sim_script_model.specs.Scripts.{Script}
use Rattle.sim_script_model.specs.Polls.{remember, ask_in_mode}

remembered : (r : Op × Script) (asked : Op) (s t : Script) → ◌≡◌ {A = Op × Script} (asked, s) r
    → t ≡ record s { asked = Some asked } → ◌≡◌ {A = Op × Script} (asked, t) (remember r)
remembered r asked s t e h = rw (← e, h) refl

-- a script that took in what it was told asks, and nothing else changes after that
pub asks_and_remembers : (code : List Stmt) (time : ℤ) (told b s t : Script) (asked : Op) → FitsSigned w64 time → b ≡ told
    → ◌≡◌ {A = Op × Script} (asked, s) (ask_in_mode code (to_z w64 (of_z w64 time)) b) → t ≡ record s { asked = Some asked }
    → ◌≡◌ {A = Op × Script} (asked, t) (remember (ask_in_mode code time told))
asks_and_remembers code time told b s t asked fits is asks after =
    let at_this_time = ap (λ at. ask_in_mode code at b) (to_z-of_z w64 time fits) in
    remembered _ asked s t (asks ∙ at_this_time ∙ ap (ask_in_mode code time) is) after
