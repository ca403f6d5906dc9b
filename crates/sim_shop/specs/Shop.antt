-- The text of the machine shop with so many machines: that of SimPy's example of this name, in numbers of this project's own.
--     shop_text size      the lines of the shop, one below the other
use Rattle.std.specs.Prelude.{ℕ, ◌+◌, ◌/◌, List, [], ◌∷◌, ◌++◌, codes, decimal}
use Rattle.sim_language.specs.Lines.{Word}

-- ---- the lines, with these words for the number of crews and for that of machines

-- the crews are a preemptive resource: a broken machine takes one from other work
abbrev pub setup_lines : Word → List Word
setup_lines crews =
    codes "scenario 1"
    ∷ codes "until 1000"
    ∷ codes "seed 1"
    ∷ (codes "preemptive crew " ++ crews)
    ∷ []

-- a breaker breaks its machine again and again
abbrev pub breaker_lines : List Word
breaker_lines =
    codes "process breaker m:proc"
    ∷ codes "loop"
    ∷ codes "draw t 50 150"
    ∷ codes "timeout t"
    ∷ codes "interrupt m 1"
    ∷ codes "end"
    ∷ codes "end"
    ∷ []

-- a machine makes one part after the other; when it is broken it waits to be mended, and goes on with what is left of the part
abbrev pub machine_lines : List Word
machine_lines =
    codes "process machine id"
    ∷ codes "spawn breaker me"
    ∷ codes "loop"
    ∷ codes "draw left 8 12"
    ∷ codes "loop"
    ∷ codes "if left"
    ∷ codes "else"
    ∷ codes "break"
    ∷ codes "end"
    ∷ codes "let from = now"
    ∷ codes "try"
    ∷ codes "timeout left"
    ∷ codes "let left = 0"
    ∷ codes "catch k v"
    ∷ codes "let left = left + from"
    ∷ codes "let left = left - now"
    ∷ codes "try"
    ∷ codes "with r = request crew 1 preempt"
    ∷ codes "wait r"
    ∷ codes "timeout 5"
    ∷ codes "end"
    ∷ codes "catch k v"
    ∷ codes "end"
    ∷ codes "end"
    ∷ codes "end"
    ∷ codes "log id"
    ∷ codes "end"
    ∷ codes "end"
    ∷ []

-- other work for a crew
abbrev pub filler_lines : List Word
filler_lines =
    codes "process filler"
    ∷ codes "loop"
    ∷ codes "try"
    ∷ codes "with r = request crew 2 wait"
    ∷ codes "wait r"
    ∷ codes "timeout 30"
    ∷ codes "end"
    ∷ codes "catch k v"
    ∷ codes "end"
    ∷ codes "end"
    ∷ codes "end"
    ∷ []

-- the chief starts as many fillers as there are crews, and then the machines, which are numbered from 0
abbrev pub chief_lines : Word → Word → List Word
chief_lines crews machines =
    codes "process chief"
    ∷ (codes "repeat " ++ crews)
    ∷ codes "spawn filler"
    ∷ codes "end"
    ∷ codes "let i = 0"
    ∷ (codes "repeat " ++ machines)
    ∷ codes "spawn machine i"
    ∷ codes "let i = i + 1"
    ∷ codes "end"
    ∷ codes "end"
    ∷ codes "start chief"
    ∷ []

abbrev pub shop_lines : Word → Word → List Word
shop_lines crews machines = setup_lines crews ++ (breaker_lines ++ (machine_lines ++ (filler_lines ++ chief_lines crews machines)))

-- ---- the text

-- a line feed ends each line
abbrev pub text_of_lines : List Word → List ℕ
text_of_lines [] = []
text_of_lines (line ∷ below) = line ++ (10 ∷ text_of_lines below)

-- one crew for each ten machines, and one more
abbrev pub crews_of : ℕ → ℕ
crews_of size = size / 10 + 1

abbrev pub shop_text : ℕ → List ℕ
shop_text size = text_of_lines (shop_lines (decimal (crews_of size)) (decimal size))
