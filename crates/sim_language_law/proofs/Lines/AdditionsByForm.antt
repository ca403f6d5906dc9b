-- The form of a line tells what kind of thing it adds.
--     told      so it is for operands that have the shape of the form
use Rattle.std.specs.Prelude.{◌≡◌, refl, Bool, true, false, [], Option, Some, None}
use Rattle.sim_types.specs.declared.setup.ResourceKind.{ResourceKind}
use Rattle.sim_types.specs.declared.setup.ResourceKind.TheVariants as resource
use Rattle.sim_language.specs.declared.form.Form.{Form}
use Rattle.sim_language.specs.declared.form.Form.TheVariants as form
use Rattle.sim_language.specs.declared.form.Sort.{Sort}
use Rattle.sim_language.specs.declared.form.Sort.TheVariants as sort
use Rattle.sim_language.specs.Forms.{declares_sort, is_statement}
use Rattle.sim_language.specs.Shapes.{Context, shape}
use Rattle.sim_language.specs.AnywhereInText.{ProcessLines}
use Rattle.sim_language.specs.Places.{LineInText, is_entry, is_poster}
use Rattle.sim_language_law.proofs.Operands.ByShape.{Rule}
use Rattle.sim_language_law.proofs.Lines.Additions.{Added, AResource, AnEvent, APort, AKind, AStatement, AnArrival, APoster, APost, added}

-- what is declared by what is added
abbrev pub sort_added : Added → Option Sort
sort_added (AResource kind capacity opening) = Some sort.Resource
sort_added AnEvent = Some sort.Event
sort_added (APort name kind) = Some sort.Port
sort_added (AKind kind) = Some sort.Process
sort_added a = None

abbrev pub adds_entry : Added → Bool
adds_entry (AnArrival arrival) = true
adds_entry (APost post) = true
adds_entry a = false

abbrev pub adds_poster : Added → Bool
adds_poster APoster = true
adds_poster a = false

abbrev pub adds_statement : Added → Bool
adds_statement (AStatement statement) = true
adds_statement a = false

-- the kind of resource that a form declares
abbrev pub resource_kind : Form → ResourceKind
resource_kind form.Priority = resource.Priority
resource_kind form.Preemptive = resource.Preemptive
resource_kind form.Container = resource.Container
resource_kind form.Store = resource.Store
resource_kind form.PStore = resource.PStore
resource_kind form.FStore = resource.FStore
resource_kind f = resource.Plain

abbrev pub IsMadeBy : Form → Added → Type 0
IsMadeBy f (AResource kind capacity opening) = kind ≡ resource_kind f
IsMadeBy f a = Unit {0}

pub record Told (f : Form) (a : Added) : Type 0 where
  pub sort : sort_added a ≡ declares_sort f
  pub entries : adds_entry a ≡ is_entry f
  pub posters : adds_poster a ≡ is_poster f
  pub statements : adds_statement a ≡ is_statement f
  pub made : IsMadeBy f a

so : {f : Form} {a : Added} → sort_added a ≡ declares_sort f → adds_entry a ≡ is_entry f → adds_poster a ≡ is_poster f
    → adds_statement a ≡ is_statement f → IsMadeBy f a → Told f a
so s e p st m = record { sort = s; entries = e; posters = p; statements = st; made = m }

pub told : (context : Context) (heads : ProcessLines) (place : LineInText) (f : Form) → Rule context [] (shape f) (λ slots. Told f (added heads place f slots))
told context heads place form.Scenario = λ w. so refl refl refl refl tt
told context heads place form.ScenarioTwo = λ w. so refl refl refl refl tt
told context heads place form.UntilEmpty = λ w. so refl refl refl refl tt
told context heads place form.UntilTime = λ t. so refl refl refl refl tt
told context heads place form.UntilEvent = λ e n. so refl refl refl refl tt
told context heads place form.Seed = λ w. so refl refl refl refl tt
told context heads place form.Resource = λ n c. so refl refl refl refl refl
told context heads place form.Priority = λ n c. so refl refl refl refl refl
told context heads place form.Preemptive = λ n c. so refl refl refl refl refl
told context heads place form.Container = λ n c o. so refl refl refl refl refl
told context heads place form.Store = λ n c. so refl refl refl refl refl
told context heads place form.PStore = λ n c. so refl refl refl refl refl
told context heads place form.FStore = λ n c. so refl refl refl refl refl
told context heads place form.Event = λ n. so refl refl refl refl tt
told context heads place form.Port = λ n p. so refl refl refl refl tt
told context heads place form.Process = λ n ps. so refl refl refl refl tt
told context heads place form.Start = λ p args. so refl refl refl refl tt
told context heads place form.Journal = so refl refl refl refl tt
told context heads place form.After = λ k p n port v. so refl refl refl refl tt
told context heads place form.Poster = λ n. so refl refl refl refl tt
told context heads place form.Post = λ port v. so refl refl refl refl tt
told context heads place form.Let = λ x e a. (so refl refl refl refl tt, λ op among b. so refl refl refl refl tt)
told context heads place form.Count = λ x r. so refl refl refl refl tt
told context heads place form.Timeout = λ d. so refl refl refl refl tt
told context heads place form.Wait = λ e. so refl refl refl refl tt
told context heads place form.Succeed = λ e v. so refl refl refl refl tt
told context heads place form.Fail = λ e c. so refl refl refl refl tt
told context heads place form.Has = λ y c e. so refl refl refl refl tt
told context heads place form.Spawn = λ p args. so refl refl refl refl tt
told context heads place form.Interrupt = λ p c. so refl refl refl refl tt
told context heads place form.Drop = λ p v. so refl refl refl refl tt
told context heads place form.Raise = λ c. so refl refl refl refl tt
told context heads place form.Finish = λ v. so refl refl refl refl tt
told context heads place form.With = λ x e q r. (so refl refl refl refl tt, λ p. (so refl refl refl refl tt, λ w among. so refl refl refl refl tt))
told context heads place form.Release = λ x. so refl refl refl refl tt
told context heads place form.Put = λ r a. (so refl refl refl refl tt, λ p. so refl refl refl refl tt)
told context heads place form.Get = λ r. (so refl refl refl refl tt, λ a. (so refl refl refl refl tt, λ b. so refl refl refl refl tt))
told context heads place form.Cancel = λ x. so refl refl refl refl tt
told context heads place form.Loop = so refl refl refl refl tt
told context heads place form.Repeat = λ a. so refl refl refl refl tt
told context heads place form.If = λ a. so refl refl refl refl tt
told context heads place form.Else = so refl refl refl refl tt
told context heads place form.Try = so refl refl refl refl tt
told context heads place form.Catch = λ k v. so refl refl refl refl tt
told context heads place form.End = so refl refl refl refl tt
told context heads place form.Break = so refl refl refl refl tt
told context heads place form.Log = λ a. so refl refl refl refl tt
told context heads place form.Chain = λ e f. so refl refl refl refl tt
told context heads place form.Draw = λ x lo hi. so refl refl refl refl tt
told context heads place form.NewTimeout = λ x d v. so refl refl refl refl tt
told context heads place form.NewEvent = λ x. so refl refl refl refl tt
told context heads place form.NewAll = λ x es. so refl refl refl refl tt
told context heads place form.NewAny = λ x es. so refl refl refl refl tt
told context heads place form.NewSpawn = λ x p args. so refl refl refl refl tt
told context heads place form.NewPut = λ x r a. (so refl refl refl refl tt, λ p. so refl refl refl refl tt)
told context heads place form.NewGet = λ x r. (so refl refl refl refl tt, λ a. (so refl refl refl refl tt, λ b. so refl refl refl refl tt))
