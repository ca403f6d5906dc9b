-- Linking changes where statements go on, and no more: scripts that fit still fit.
use Rattle.std.specs.Prelude.{◌≡◌, refl, ℕ, zero, suc, Bool, ◌&&◌, List, [], ◌∷◌, drop}
use Rattle.std.specs.List.{list_all}
use Rattle.std.proofs.Common.{ap₂}
use Rattle.sim_types.specs.Scenarios.{ScenarioOf}
use Rattle.sim_types.specs.declared.script.Kind.{Kind}
use Rattle.sim_types.specs.declared.script.Stmt.{Stmt}
use Rattle.sim_types.specs.declared.script.Stmt.TheVariants as stmt
use Rattle.sim_language.specs.Links.{Closing, link, closings, linked}
use Rattle.sim_language.specs.FittingStatements.{statement_fits, up_to_end, script_fits}
use Rattle.sim_language_law.proofs.Processes.CodeOfKinds.{fits_from}

-- a statement fits as its link does, and whatever statements the scenario has
link_fits : (s : ScenarioOf) (code : List Stmt) (k : Kind) (st : Stmt) (cs : List Closing)
    → statement_fits (record s { code = code }) k (link st cs) ≡ statement_fits s k st
link_fits s code k (stmt.Loop past) cs = refl
link_fits s code k st cs = refl

linked_fits : (p q : Stmt → Bool) (n : ℕ) (code : List Stmt) → ((st : Stmt) (cs : List Closing) → p (link st cs) ≡ q st)
    → list_all p (up_to_end (linked n code)) ≡ list_all q (up_to_end code)
linked_fits p q n [] each = refl
linked_fits p q n (stmt.EndProcess ∷ code) each = ap₂ ◌&&◌ (each stmt.EndProcess []) refl
linked_fits p q n (st ∷ code) each = ap₂ ◌&&◌ (each st (closings (suc n) code)) (linked_fits p q (suc n) code each)

behind_fits : (p q : Stmt → Bool) (i n : ℕ) (code : List Stmt) → ((st : Stmt) (cs : List Closing) → p (link st cs) ≡ q st)
    → list_all p (up_to_end (drop i (linked n code))) ≡ list_all q (up_to_end (drop i code))
behind_fits p q zero n code each = linked_fits p q n code each
behind_fits p q (suc i) n [] each = refl
behind_fits p q (suc i) n (st ∷ code) each = behind_fits p q i (suc n) code each

script_linked : (s : ScenarioOf) (k : Kind) → script_fits (record s { code = linked 0 s.code }) k ≡ fits_from s s.code k
script_linked s k = behind_fits (statement_fits (record s { code = linked 0 s.code }) k) (statement_fits s k) k.first 0 s.code (link_fits s (linked 0 s.code) k)

pub scripts_linked : (s : ScenarioOf) (ks : List Kind) → list_all (script_fits (record s { code = linked 0 s.code })) ks ≡ list_all (fits_from s s.code) ks
scripts_linked s [] = refl
scripts_linked s (k ∷ ks) = ap₂ ◌&&◌ (script_linked s k) (scripts_linked s ks)
