-- A bank (after SimPy's example "Bank Renege"): customers come to a counter, and leave it where they wait too long.
use Rattle.std.specs.Prelude.{List, [], ◌∷◌, ◌++◌, codes, pos, true, None}
use Rattle.sim_types.specs.Scenarios.{ScenarioOf}
use Rattle.sim_types.specs.declared.script.Num.TheVariants as num
use Rattle.sim_types.specs.declared.script.Ref.TheVariants as ref
use Rattle.sim_types.specs.declared.script.SpawnArg.TheVariants as arg
use Rattle.sim_types.specs.declared.script.Stmt.{Stmt}
use Rattle.sim_types.specs.declared.script.Stmt.TheVariants as stmt
use Rattle.sim_types.specs.declared.setup.Class.TheVariants as class
use Rattle.sim_types.specs.declared.setup.ResourceKind.TheVariants as resource
use Rattle.sim_types.specs.declared.setup.Until.TheVariants as until
use Rattle.sim_language.specs.Lines.{Word}
use Rattle.sim_models.specs.Variables.{with_val}

abbrev pub bank_lines : List Word
bank_lines =
    codes "scenario 1"
    ∷ codes "until 400"
    ∷ codes "seed 7"
    ∷ codes "resource counter 1"
    ∷ codes "port walkin customer"
    ∷ codes "process customer patience"
    ∷ codes "with r = request counter"
    ∷ codes "t = timeout patience 0"
    ∷ codes "a = any r t"
    ∷ codes "wait a"
    ∷ codes "has y a r"
    ∷ codes "if y"
    ∷ codes "draw d 5 15"
    ∷ codes "timeout d"
    ∷ codes "log 1"
    ∷ codes "else"
    ∷ codes "log 0"
    ∷ codes "end"
    ∷ codes "end"
    ∷ codes "end"
    ∷ codes "process source"
    ∷ codes "repeat 20"
    ∷ codes "draw g 1 12"
    ∷ codes "timeout g"
    ∷ codes "draw w 3 9"
    ∷ codes "spawn customer w"
    ∷ codes "end"
    ∷ codes "end"
    ∷ codes "start source"
    ∷ []

-- ---- what they say

-- a customer asks for the counter, and waits for it or for its patience to end: served, it takes 5 to 15 and says 1; else it says 0
abbrev pub customer_code : List Stmt
customer_code =
    stmt.With 2 0 (num.Lit (pos 0)) true
    ∷ stmt.Timer 3 (num.Var 1) (num.Lit (pos 0))
    ∷ stmt.Any 4 (ref.Var 2 ∷ ref.Var 3 ∷ [])
    ∷ stmt.Wait (ref.Var 4)
    ∷ stmt.Has 5 4 (ref.Var 2)
    ∷ stmt.If (num.Var 5) 10
    ∷ stmt.Draw 6 (num.Lit (pos 5)) (num.Lit (pos 15))
    ∷ stmt.Sleep (num.Var 6)
    ∷ stmt.Log (num.Lit (pos 1))
    ∷ stmt.Else 12
    ∷ stmt.Log (num.Lit (pos 0))
    ∷ stmt.EndPlain
    ∷ stmt.EndWith
    ∷ stmt.EndProcess
    ∷ []

-- twenty customers come, each after 1 to 12, with a patience of 3 to 9
abbrev pub source_code : List Stmt
source_code =
    stmt.Repeat (num.Lit (pos 20)) 20
    ∷ stmt.Draw 1 (num.Lit (pos 1)) (num.Lit (pos 12))
    ∷ stmt.Sleep (num.Var 1)
    ∷ stmt.Draw 2 (num.Lit (pos 3)) (num.Lit (pos 9))
    ∷ stmt.Spawn None 0 (arg.Num (num.Var 2) ∷ [])
    ∷ stmt.EndRepeat 15
    ∷ stmt.EndProcess
    ∷ []

abbrev pub bank : ScenarioOf
bank =
    record {
      setup =
          record {
            until = until.At (pos 400);
            events = 0;
            resources = record { kind = resource.Plain; capacity = pos 1; opening = pos 0 } ∷ [];
            ports = 0 ∷ [];
            starts = record { kind = 1; args = [] } ∷ [];
          };
      seed = 7;
      port_names = codes "walkin" ∷ [];
      kinds =
          record {
            params = 1;
            first = 0;
            classes = with_val (class.Number ∷ class.Request ∷ class.Event ∷ class.Cond ∷ class.Number ∷ class.Number ∷ []);
          }
          ∷ record { params = 0; first = 14; classes = with_val [] }
          ∷ [];
      code = customer_code ++ source_code;
      journal = [];
      posters = [];
    }
