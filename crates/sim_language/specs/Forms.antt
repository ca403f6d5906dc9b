-- The form that the words of a line begin, told by the first words or by the word behind `x =`.
use Rattle.std.specs.Prelude.{Bool, true, false, if◌then◌else◌, List, [], ◌∷◌, codes, Option, Some, None}
use Rattle.std.specs.Option.{option_or}
use Rattle.sim_language.specs.declared.form.Form.{Form}
use Rattle.sim_language.specs.declared.form.Form.TheVariants as form
use Rattle.sim_language.specs.declared.form.Sort.{Sort}
use Rattle.sim_language.specs.declared.form.Sort.TheVariants as sort
use Rattle.sim_language.specs.declared.form.Version.{Version}
use Rattle.sim_language.specs.declared.form.Version.TheVariants.{One, Two}
use Rattle.sim_language.specs.Lines.{Word, same}

-- the words of all lines that begin with a word of their own, in both versions of the language
abbrev pub common_first_words : List (Word × Form)
common_first_words =
    (codes "scenario", form.Scenario) ∷ (codes "until", form.UntilTime) ∷ (codes "seed", form.Seed)
    ∷ (codes "resource", form.Resource) ∷ (codes "priority", form.Priority) ∷ (codes "preemptive", form.Preemptive)
    ∷ (codes "container", form.Container) ∷ (codes "store", form.Store) ∷ (codes "pstore", form.PStore) ∷ (codes "fstore", form.FStore)
    ∷ (codes "event", form.Event) ∷ (codes "port", form.Port) ∷ (codes "process", form.Process) ∷ (codes "start", form.Start)
    ∷ (codes "journal", form.Journal) ∷ (codes "after", form.After) ∷ (codes "poster", form.Poster)
    ∷ (codes "let", form.Let) ∷ (codes "count", form.Count) ∷ (codes "timeout", form.Timeout) ∷ (codes "wait", form.Wait)
    ∷ (codes "succeed", form.Succeed) ∷ (codes "fail", form.Fail) ∷ (codes "has", form.Has) ∷ (codes "spawn", form.Spawn)
    ∷ (codes "interrupt", form.Interrupt) ∷ (codes "drop", form.Drop) ∷ (codes "raise", form.Raise) ∷ (codes "finish", form.Finish)
    ∷ (codes "with", form.With) ∷ (codes "release", form.Release) ∷ (codes "put", form.Put) ∷ (codes "get", form.Get)
    ∷ (codes "cancel", form.Cancel) ∷ (codes "loop", form.Loop) ∷ (codes "repeat", form.Repeat) ∷ (codes "if", form.If)
    ∷ (codes "else", form.Else) ∷ (codes "try", form.Try) ∷ (codes "catch", form.Catch) ∷ (codes "end", form.End)
    ∷ (codes "break", form.Break) ∷ (codes "log", form.Log) ∷ (codes "draw", form.Draw) ∷ []

-- a `chain` line came with the second version
abbrev pub first_words : Version → List (Word × Form)
first_words One = common_first_words
first_words Two = (codes "chain", form.Chain) ∷ common_first_words

-- the words that may stand behind `x =`
abbrev pub made_words : List (Word × Form)
made_words =
    (codes "timeout", form.NewTimeout) ∷ (codes "event", form.NewEvent) ∷ (codes "all", form.NewAll) ∷ (codes "any", form.NewAny)
    ∷ (codes "spawn", form.NewSpawn) ∷ (codes "put", form.NewPut) ∷ (codes "get", form.NewGet) ∷ []

abbrev pub form_at : Word → List (Word × Form) → Option Form
form_at w [] = None
form_at w (row ∷ rows) = if same w row.0 then Some row.1 else form_at w rows

-- `scenario 2` is the header of the second version; `until` with one word behind it that is not `empty` gives a time, and in
-- the second version with two, of which the first is `event`, it names an event
abbrev pub told_by : Version → Option Form → List Word → Option Form
told_by version (Some form.Scenario) (n ∷ []) = Some (if same n (codes "2") then form.ScenarioTwo else form.Scenario)
told_by version (Some form.UntilTime) (t ∷ []) = Some (if same t (codes "empty") then form.UntilEmpty else form.UntilTime)
told_by Two (Some form.UntilTime) (e ∷ n ∷ []) = Some (if same e (codes "event") then form.UntilEvent else form.UntilEmpty)
told_by version (Some form.UntilTime) rest = Some form.UntilEmpty
told_by version first rest = first

abbrev pub made_form : List Word → Option Form
made_form (v ∷ w ∷ rest) = if same v (codes "=") then form_at w made_words else None
made_form other = None

abbrev pub begins : Version → List Word → Option Form
begins version [] = None
begins version (w ∷ rest) = option_or (told_by version (form_at w (first_words version)) rest) (made_form rest)

-- the form begins with `x =`
abbrev pub is_made : Form → Bool
is_made form.NewTimeout = true
is_made form.NewEvent = true
is_made form.NewAll = true
is_made form.NewAny = true
is_made form.NewSpawn = true
is_made form.NewPut = true
is_made form.NewGet = true
is_made f = false

-- the words of a line without those that tell its form
abbrev pub after_made : List Word → List Word
after_made (x ∷ v ∷ w ∷ rest) = x ∷ rest
after_made other = other

abbrev pub after_first : List Word → List Word
after_first [] = []
after_first (w ∷ rest) = rest

-- a line of a poster has no such word
abbrev pub operands : Form → List Word → List Word
operands form.Post ws = ws
operands f ws = if is_made f then after_made ws else after_first ws

-- ---- kinds of forms

-- what a form declares
abbrev pub declares_sort : Form → Option Sort
declares_sort form.Resource = Some sort.Resource
declares_sort form.Priority = Some sort.Resource
declares_sort form.Preemptive = Some sort.Resource
declares_sort form.Container = Some sort.Resource
declares_sort form.Store = Some sort.Resource
declares_sort form.PStore = Some sort.Resource
declares_sort form.FStore = Some sort.Resource
declares_sort form.Event = Some sort.Event
declares_sort form.Port = Some sort.Port
declares_sort form.Process = Some sort.Process
declares_sort f = None

abbrev pub same_sort : Sort → Sort → Bool
same_sort sort.Resource sort.Resource = true
same_sort sort.Event sort.Event = true
same_sort sort.Port sort.Port = true
same_sort sort.Process sort.Process = true
same_sort s t = false

-- the forms that stand in a process, its `end` among them
abbrev pub is_statement : Form → Bool
is_statement form.Scenario = false
is_statement form.ScenarioTwo = false
is_statement form.UntilEmpty = false
is_statement form.UntilTime = false
is_statement form.UntilEvent = false
is_statement form.Seed = false
is_statement form.Resource = false
is_statement form.Priority = false
is_statement form.Preemptive = false
is_statement form.Container = false
is_statement form.Store = false
is_statement form.PStore = false
is_statement form.FStore = false
is_statement form.Event = false
is_statement form.Port = false
is_statement form.Process = false
is_statement form.Start = false
is_statement form.Journal = false
is_statement form.After = false
is_statement form.Poster = false
is_statement form.Post = false
is_statement f = true

-- the statements that open a block
abbrev pub opens_block : Form → Bool
opens_block form.With = true
opens_block form.Loop = true
opens_block form.Repeat = true
opens_block form.If = true
opens_block form.Try = true
opens_block f = false

abbrev pub is_process : Form → Bool
is_process form.Process = true
is_process f = false

abbrev pub is_end : Form → Bool
is_end form.End = true
is_end f = false
