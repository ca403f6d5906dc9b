-- The machine shop (after SimPy's example "Machine Shop"), for each number of machines.
use Rattle.std.specs.Prelude.{ℕ, List, [], ◌∷◌, ◌++◌, pos, true, false, None}
use Rattle.sim_types.specs.Scenarios.{ScenarioOf}
use Rattle.sim_types.specs.declared.script.Arith.TheVariants as arith
use Rattle.sim_types.specs.declared.script.Num.TheVariants as num
use Rattle.sim_types.specs.declared.script.Ref.TheVariants as ref
use Rattle.sim_types.specs.declared.script.SpawnArg.TheVariants as arg
use Rattle.sim_types.specs.declared.script.Stmt.{Stmt}
use Rattle.sim_types.specs.declared.script.Stmt.TheVariants as stmt
use Rattle.sim_types.specs.declared.setup.Class.TheVariants as class
use Rattle.sim_types.specs.declared.setup.ResourceKind.TheVariants as resource
use Rattle.sim_types.specs.declared.setup.Until.TheVariants as until
use Rattle.sim_shop.specs.Shop.{crews_of}
use Rattle.sim_models.specs.Variables.{with_val}

-- a breaker breaks its machine again and again
abbrev pub breaker_code : List Stmt
breaker_code =
    stmt.Loop 5
    ∷ stmt.Draw 2 (num.Lit (pos 50)) (num.Lit (pos 150))
    ∷ stmt.Sleep (num.Var 2)
    ∷ stmt.Interrupt (ref.Var 1) (num.Lit (pos 1))
    ∷ stmt.EndLoop 1
    ∷ stmt.EndProcess
    ∷ []

-- a machine makes one part after the other; when it is broken it waits to be mended, and goes on with what is left of the part
abbrev pub machine_code : List Stmt
machine_code =
    stmt.Spawn None 0 (arg.Ref ref.Me ∷ [])
    ∷ stmt.Loop 32
    ∷ stmt.Draw 2 (num.Lit (pos 8)) (num.Lit (pos 12))
    ∷ stmt.Loop 30
    ∷ stmt.If (num.Var 2) 12
    ∷ stmt.Else 14
    ∷ stmt.Break
    ∷ stmt.EndPlain
    ∷ stmt.Let 3 arith.Only num.Now (num.Lit (pos 0))
    ∷ stmt.Try 18
    ∷ stmt.Sleep (num.Var 2)
    ∷ stmt.Let 2 arith.Only (num.Lit (pos 0)) (num.Lit (pos 0))
    ∷ stmt.Catch 4 5 29
    ∷ stmt.Let 2 arith.Add (num.Var 2) (num.Var 3)
    ∷ stmt.Let 2 arith.Sub (num.Var 2) num.Now
    ∷ stmt.Try 26
    ∷ stmt.With 6 0 (num.Lit (pos 1)) true
    ∷ stmt.Wait (ref.Var 6)
    ∷ stmt.Sleep (num.Lit (pos 5))
    ∷ stmt.EndWith
    ∷ stmt.Catch 4 5 28
    ∷ stmt.EndPlain
    ∷ stmt.EndPlain
    ∷ stmt.EndLoop 10
    ∷ stmt.Log (num.Var 1)
    ∷ stmt.EndLoop 8
    ∷ stmt.EndProcess
    ∷ []

-- other work for a crew
abbrev pub filler_code : List Stmt
filler_code =
    stmt.Loop 42
    ∷ stmt.Try 39
    ∷ stmt.With 1 0 (num.Lit (pos 2)) false
    ∷ stmt.Wait (ref.Var 1)
    ∷ stmt.Sleep (num.Lit (pos 30))
    ∷ stmt.EndWith
    ∷ stmt.Catch 2 3 41
    ∷ stmt.EndPlain
    ∷ stmt.EndLoop 34
    ∷ stmt.EndProcess
    ∷ []

-- the chief starts as many fillers as there are crews, and then so many machines, which are numbered from 0
abbrev pub chief_code : ℕ → List Stmt
chief_code n =
    stmt.Repeat (num.Lit (pos (crews_of n))) 46
    ∷ stmt.Spawn None 2 []
    ∷ stmt.EndRepeat 44
    ∷ stmt.Let 1 arith.Only (num.Lit (pos 0)) (num.Lit (pos 0))
    ∷ stmt.Repeat (num.Lit (pos n)) 51
    ∷ stmt.Spawn None 1 (arg.Num (num.Var 1) ∷ [])
    ∷ stmt.Let 1 arith.Add (num.Var 1) (num.Lit (pos 1))
    ∷ stmt.EndRepeat 48
    ∷ stmt.EndProcess
    ∷ []

-- the shop of so many machines
abbrev pub shop_of : ℕ → ScenarioOf
shop_of n =
    record {
      setup =
          record {
            until = until.At (pos 1000);
            events = 0;
            resources = record { kind = resource.Preemptive; capacity = pos (crews_of n); opening = pos 0 } ∷ [];
            ports = [];
            starts = record { kind = 3; args = [] } ∷ [];
          };
      seed = 1;
      port_names = [];
      kinds =
          record { params = 1; first = 0; classes = with_val (class.Proc ∷ class.Number ∷ []) }
          ∷ record {
            params = 1;
            first = 6;
            classes = with_val (class.Number ∷ class.Number ∷ class.Number ∷ class.Number ∷ class.Number ∷ class.Request ∷ []);
          }
          ∷ record { params = 0; first = 33; classes = with_val (class.Request ∷ class.Number ∷ class.Number ∷ []) }
          ∷ record { params = 0; first = 43; classes = with_val [] }
          ∷ [];
      code = breaker_code ++ (machine_code ++ (filler_code ++ chief_code n));
      journal = [];
      posters = [];
    }
