-- A car wash (after SimPy's example "Carwash"): cars come from a street and by a gate, and are washed by two machines.
use Rattle.std.specs.Prelude.{List, [], ◌∷◌, ◌++◌, codes, pos, true, None}
use Rattle.sim_types.specs.Scenarios.{ScenarioOf}
use Rattle.sim_types.specs.declared.script.Arith.TheVariants as arith
use Rattle.sim_types.specs.declared.script.Num.TheVariants as num
use Rattle.sim_types.specs.declared.script.Ref.TheVariants as ref
use Rattle.sim_types.specs.declared.script.SpawnArg.TheVariants as arg
use Rattle.sim_types.specs.declared.script.Stmt.{Stmt}
use Rattle.sim_types.specs.declared.script.Stmt.TheVariants as stmt
use Rattle.sim_types.specs.declared.setup.Class.TheVariants as class
use Rattle.sim_types.specs.declared.setup.ResourceKind.TheVariants as resource
use Rattle.sim_types.specs.declared.setup.Until.TheVariants as until
use Rattle.sim_language.specs.Lines.{Word}
use Rattle.sim_models.specs.Variables.{with_val}

abbrev pub wash_lines : List Word
wash_lines =
    codes "scenario 1"
    ∷ codes "until 60"
    ∷ codes "seed 3"
    ∷ codes "resource wash 2"
    ∷ codes "port gate car"
    ∷ codes "process car id"
    ∷ codes "with r = request wash"
    ∷ codes "wait r"
    ∷ codes "timeout 5"
    ∷ codes "log id"
    ∷ codes "end"
    ∷ codes "end"
    ∷ codes "process source"
    ∷ codes "let i = 0"
    ∷ codes "loop"
    ∷ codes "spawn car i"
    ∷ codes "let i = i + 1"
    ∷ codes "draw g 1 5"
    ∷ codes "timeout g"
    ∷ codes "end"
    ∷ codes "end"
    ∷ codes "start source"
    ∷ []

-- ---- what they say

-- a car asks for a machine, is washed for 5, and says its number
abbrev pub car_code : List Stmt
car_code =
    stmt.With 2 0 (num.Lit (pos 0)) true
    ∷ stmt.Wait (ref.Var 2)
    ∷ stmt.Sleep (num.Lit (pos 5))
    ∷ stmt.Log (num.Var 1)
    ∷ stmt.EndWith
    ∷ stmt.EndProcess
    ∷ []

-- cars come from the street, numbered from 0
abbrev pub street_code : List Stmt
street_code =
    stmt.Let 1 arith.Only (num.Lit (pos 0)) (num.Lit (pos 0))
    ∷ stmt.Loop 13
    ∷ stmt.Spawn None 0 (arg.Num (num.Var 1) ∷ [])
    ∷ stmt.Let 1 arith.Add (num.Var 1) (num.Lit (pos 1))
    ∷ stmt.Draw 2 (num.Lit (pos 1)) (num.Lit (pos 5))
    ∷ stmt.Sleep (num.Var 2)
    ∷ stmt.EndLoop 8
    ∷ stmt.EndProcess
    ∷ []

abbrev pub wash : ScenarioOf
wash =
    record {
      setup =
          record {
            until = until.At (pos 60);
            events = 0;
            resources = record { kind = resource.Plain; capacity = pos 2; opening = pos 0 } ∷ [];
            ports = 0 ∷ [];
            starts = record { kind = 1; args = [] } ∷ [];
          };
      seed = 3;
      port_names = codes "gate" ∷ [];
      kinds =
          record { params = 1; first = 0; classes = with_val (class.Number ∷ class.Request ∷ []) }
          ∷ record { params = 0; first = 6; classes = with_val [] }
          ∷ [];
      code = car_code ++ street_code;
      journal = [];
      posters = [];
    }
