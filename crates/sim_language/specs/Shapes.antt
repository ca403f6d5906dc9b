-- What stands behind the words that tell a form.
--     shape form                     the parts of the form, in their order
--     fit context last items ws      the words with what each is there for, where they have this shape
use Rattle.std.specs.Prelude.{ℕ, ◌^◌, ◌-◌, if◌then◌else◌, List, [], ◌∷◌, map, codes, Option, Some, None, option_map, unwrap_or, ℤ, pos}
use Rattle.sim_types.specs.Limits.{last_time, most_items, most_level, most_slots}
use Rattle.sim_types.specs.declared.setup.Class.{Class}
use Rattle.sim_types.specs.declared.setup.Class.TheVariants as class
use Rattle.sim_language.specs.declared.form.Form.{Form}
use Rattle.sim_language.specs.declared.form.Form.TheVariants as form
use Rattle.sim_language.specs.declared.form.Sort.TheVariants as sort
use Rattle.sim_language.specs.declared.shape.Reference.TheVariants.{AnyEvent, PlainEvent, Chained, AProcess, ACondition, ARequest, AMove}
use Rattle.sim_language.specs.declared.shape.Role.{Role}
use Rattle.sim_language.specs.declared.shape.Role.TheVariants.{Declares, Parameter, Gives, Value, Within, Capacity, Refers, Names, EventAhead, Free}
use Rattle.sim_language.specs.declared.shape.Fixed.{Fixed}
use Rattle.sim_language.specs.declared.shape.Fixed.TheVariants as fixed
use Rattle.sim_language.specs.declared.shape.Choice.{Choice}
use Rattle.sim_language.specs.declared.shape.Choice.TheVariants as choice
use Rattle.sim_language.specs.declared.shape.Item.{Item}
use Rattle.sim_language.specs.declared.shape.Item.TheVariants.{Exactly, OneOf, A, Opening, EventName, NextPoster, MayEnd, Each, SpawnArguments, StartArguments}
use Rattle.sim_language.specs.Lines.{Word, same, is_among, words}
use Rattle.sim_language.specs.Numbers.{least, greatest, literal_within, looks_numeric}
use Rattle.sim_language.specs.AnywhereInText.{WholeText, parameters, ahead}

-- ---- the table of shapes

-- a number of users, and any number of 64 bits
abbrev pub users : Role
users = Within (pos 1) most_slots

abbrev pub any_literal : Role
any_literal = Within least greatest

abbrev pub shape : Form → List Item
shape form.Scenario = Exactly fixed.One ∷ []
shape form.ScenarioTwo = Exactly fixed.Two ∷ []
shape form.UntilEmpty = Exactly fixed.Empty ∷ []
shape form.UntilTime = A (Within (pos 1) last_time) ∷ []
shape form.UntilEvent = Exactly fixed.Event ∷ EventName ∷ []
shape form.Seed = A (Within (pos 0) greatest) ∷ []
shape form.Resource = A Declares ∷ A users ∷ []
shape form.Priority = A Declares ∷ A users ∷ []
shape form.Preemptive = A Declares ∷ A users ∷ []
shape form.Container = A Declares ∷ A (Capacity most_level) ∷ Opening ∷ []
shape form.Store = A Declares ∷ A (Capacity most_items) ∷ []
shape form.PStore = A Declares ∷ A (Capacity most_items) ∷ []
shape form.FStore = A Declares ∷ A (Capacity most_items) ∷ []
shape form.Event = A Declares ∷ []
shape form.Port = A Declares ∷ A (Names sort.Process) ∷ []
shape form.Process = A Declares ∷ Each Parameter ∷ []
shape form.Start = A (Names sort.Process) ∷ StartArguments ∷ []
shape form.Journal = []
shape form.After = A (Within (pos 0) last_time) ∷ A (Within (pos 0) (pos 15)) ∷ A (Within (pos 0) (pos 65535)) ∷ A (Names sort.Port) ∷ A any_literal ∷ []
shape form.Poster = NextPoster ∷ []
shape form.Post = A (Names sort.Port) ∷ A any_literal ∷ []
shape form.Let = A (Gives class.Number) ∷ Exactly fixed.Equals ∷ A Value ∷ MayEnd ∷ OneOf choice.Operator ∷ A Value ∷ []
shape form.Count = A (Gives class.Number) ∷ A (Names sort.Resource) ∷ []
shape form.Timeout = A Value ∷ []
shape form.Wait = A (Refers AnyEvent) ∷ []
shape form.Succeed = A (Refers PlainEvent) ∷ A Value ∷ []
shape form.Fail = A (Refers PlainEvent) ∷ A Value ∷ []
shape form.Has = A (Gives class.Number) ∷ A (Refers ACondition) ∷ A (Refers AnyEvent) ∷ []
shape form.Spawn = A (Names sort.Process) ∷ SpawnArguments ∷ []
shape form.Interrupt = A (Refers AProcess) ∷ A Value ∷ []
shape form.Drop = A (Refers AProcess) ∷ A Value ∷ []
shape form.Raise = A Value ∷ []
shape form.Finish = A Value ∷ []
shape form.With = A (Gives class.Request) ∷ Exactly fixed.Equals ∷ Exactly fixed.Request ∷ A (Names sort.Resource) ∷ MayEnd ∷ A Value ∷ MayEnd ∷ OneOf choice.Preference ∷ []
shape form.Release = A (Refers ARequest) ∷ []
shape form.Put = A (Names sort.Resource) ∷ A Value ∷ MayEnd ∷ A Value ∷ []
shape form.Get = A (Names sort.Resource) ∷ MayEnd ∷ A Value ∷ MayEnd ∷ A Value ∷ []
shape form.Cancel = A (Refers AMove) ∷ []
shape form.Loop = []
shape form.Repeat = A Value ∷ []
shape form.If = A Value ∷ []
shape form.Else = []
shape form.Try = []
shape form.Catch = A (Gives class.Number) ∷ A (Gives class.Number) ∷ []
shape form.End = []
shape form.Break = []
shape form.Log = A Value ∷ []
shape form.Chain = A (Refers Chained) ∷ A (Refers PlainEvent) ∷ []
shape form.Draw = A (Gives class.Number) ∷ A Value ∷ A Value ∷ []
shape form.NewTimeout = A (Gives class.Event) ∷ A Value ∷ A Value ∷ []
shape form.NewEvent = A (Gives class.Event) ∷ []
shape form.NewAll = A (Gives class.Cond) ∷ Each (Refers AnyEvent) ∷ []
shape form.NewAny = A (Gives class.Cond) ∷ Each (Refers AnyEvent) ∷ []
shape form.NewSpawn = A (Gives class.Proc) ∷ A (Names sort.Process) ∷ SpawnArguments ∷ []
shape form.NewPut = A (Gives class.Move) ∷ A (Names sort.Resource) ∷ A Value ∷ MayEnd ∷ A Value ∷ []
shape form.NewGet = A (Gives class.Move) ∷ A (Names sort.Resource) ∷ MayEnd ∷ A Value ∷ MayEnd ∷ A Value ∷ []

-- ---- fixed words

abbrev pub fixed_word : Fixed → Word
fixed_word fixed.One = codes "1"
fixed_word fixed.Two = codes "2"
fixed_word fixed.Event = codes "event"
fixed_word fixed.Empty = codes "empty"
fixed_word fixed.Equals = codes "="
fixed_word fixed.Request = codes "request"

abbrev pub choices : Choice → List Word
choices choice.Operator = words (codes "+ - * / % min max < <= =")
choices choice.Preference = words (codes "preempt wait")

-- ---- what the words of a line are there for

-- an operand of a line
pub record Operand : Type 0 where
  pub role : Role
  pub word : Word

-- what a line's shape depends on beside its words: what it takes from the whole text, and how many `poster` lines stand
-- above
pub record Context : Type 0 where
  pub whole : WholeText
  pub posters : ℕ

-- an argument is there for what its parameter takes
abbrev pub spawn_argument : Class → Role
spawn_argument class.Number = Value
spawn_argument class.Event = Refers PlainEvent
spawn_argument c = Refers AProcess

-- a `start` gives literals and named events; nothing can be given there for a process
abbrev pub start_argument : Class → Role
start_argument class.Number = any_literal
start_argument class.Event = Names sort.Event
start_argument c = Free

-- `inf` is the greatest capacity
abbrev pub capacity : ℤ → Word → Option ℤ
capacity most w = if same w (codes "inf") then Some most else literal_within (pos 1) most w

-- an opening behind a word that is no capacity: that word alone is faulty
abbrev pub opening : Word → Role
opening capacity_word = Within (pos 0) (unwrap_or (capacity most_level capacity_word) greatest)

-- where a number is wanted, a word that begins as one does is a literal
abbrev pub slot_of : Role → Word → Operand
slot_of Value w = record { role = if looks_numeric w then any_literal else Value; word = w }
slot_of role w = record { role = role; word = w }

-- words and roles side by side; a word without a role is free
abbrev pub side_by_side : List Role → List Word → List Operand
side_by_side roles [] = []
side_by_side [] (w ∷ ws) = slot_of Free w ∷ side_by_side [] ws
side_by_side (r ∷ roles) (w ∷ ws) = slot_of r w ∷ side_by_side roles ws

abbrev pub before_all : Operand → Option (List Operand) → Option (List Operand)
before_all slot slots = option_map (λ more. slot ∷ more) slots

-- the words as operands, where they have this shape; `last` is the word in front of them
abbrev pub fit : Context → Word → List Item → List Word → Option (List Operand)
fit context last [] [] = Some []
fit context last [] (w ∷ ws) = None
fit context last (MayEnd ∷ items) [] = Some []
fit context last (MayEnd ∷ items) (w ∷ ws) = fit context last items (w ∷ ws)
fit context last (Each role ∷ items) ws = Some (map (slot_of role) ws)
fit context last (SpawnArguments ∷ items) ws = Some (side_by_side (map spawn_argument (parameters context.whole.heads last)) ws)
fit context last (StartArguments ∷ items) ws = Some (side_by_side (map start_argument (parameters context.whole.heads last)) ws)
fit context last (item ∷ items) [] = None
fit context last (Exactly word ∷ items) (w ∷ ws) = if same w (fixed_word word) then fit context w items ws else None
fit context last (OneOf choice ∷ items) (w ∷ ws) = if is_among w (choices choice) then before_all (slot_of Free w) (fit context w items ws) else None
fit context last (A role ∷ items) (w ∷ ws) = before_all (slot_of role w) (fit context w items ws)
fit context last (Opening ∷ items) (w ∷ ws) = before_all (slot_of (opening last) w) (fit context w items ws)
fit context last (EventName ∷ items) (w ∷ ws) = before_all (slot_of (EventAhead (ahead w context.whole.declarations)) w) (fit context w items ws)
fit context last (NextPoster ∷ items) (w ∷ ws) = before_all (slot_of (Within (pos context.posters) (pos context.posters)) w) (fit context w items ws)
