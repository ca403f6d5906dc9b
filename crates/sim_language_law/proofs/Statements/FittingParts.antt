-- Parts of the statements of a faultless text fit: what is used, resources, arguments and members.
use Rattle.std.specs.Prelude.{◌≡◌, refl, ℕ, zero, suc, ◌≤◌, Bool, true, false, not, ◌==◌, if◌then◌else◌, nat_lt, List, [], ◌∷◌, map, length, take, Option, Some, None, option_map, slice_get}
use Rattle.std.specs.Option.{option_and_then}
use Rattle.std.specs.List.{list_all}
use Rattle.std.specs.Cmp.Lexicographic.{pointwise}
use Rattle.std.proofs.Common.{arith, sym, ap, ◌∙◌}
use Rattle.std.proofs.lemmas.Bool.{true≢false, and_parts, and_from, not-false, le-leb, lt-ltb, eqb-true}
use Rattle.std.proofs.lemmas.Option.{none-some, same_Some, slice_get_within}
use Rattle.std.proofs.lemmas.List.{length-map, length-take, take_all}
use Rattle.sim_types.specs.Setups.{is_class}
use Rattle.sim_types.specs.Scenarios.{ScenarioOf}
use Rattle.sim_types.specs.declared.setup.Class.{Class}
use Rattle.sim_types.specs.declared.setup.Class.TheVariants as class
use Rattle.sim_types.specs.declared.setup.Resource.{Resource}
use Rattle.sim_types.specs.declared.setup.ResourceKind.{ResourceKind}
use Rattle.sim_types.specs.declared.script.Kind.{Kind}
use Rattle.sim_types.specs.declared.script.Num.{Num}
use Rattle.sim_types.specs.declared.script.Ref.{Ref}
use Rattle.sim_language.specs.declared.form.Form.{Form}
use Rattle.sim_language.specs.declared.form.Form.TheVariants as form
use Rattle.sim_language.specs.declared.form.Sort.TheVariants as sort
use Rattle.sim_language.specs.declared.form.Meaning.{Meaning}
use Rattle.sim_language.specs.declared.shape.Reference.{Reference}
use Rattle.sim_language.specs.declared.shape.Reference.TheVariants.{AnyEvent, PlainEvent, AProcess, ACondition, ARequest, AMove}
use Rattle.sim_language.specs.declared.shape.Role.TheVariants.{Value, Refers, Names}
use Rattle.sim_language.specs.Lines.{Word}
use Rattle.sim_language.specs.Numbers.{looks_numeric}
use Rattle.sim_language.specs.Named.{value_of}
use Rattle.sim_language.specs.Shapes.{Operand, slot_of, any_literal, side_by_side, spawn_argument}
use Rattle.sim_language.specs.AnywhereInText.{WholeText, parameters}
use Rattle.sim_language.specs.Places.{LineInText}
use Rattle.sim_language.specs.NameFaults.{takes_request, takes_put, takes_get, takes_not, is_not}
use Rattle.sim_language.specs.VariableFaults.{is_variable, takes_class}
use Rattle.sim_language.specs.Statements.{variable, number_of, number_declared, kind_number, event_of, argument_of, arguments, members}
use Rattle.sim_language.specs.FittingStatements.{class_of, uses, number_fits, event_fits, argument_fits, arguments_fit, members_fit, is_nothing, request_fits, put_fits, get_fits, resource_at}
use Rattle.sim_language_law.proofs.Lines.CleanLines.{GoodSlot, GoodSlots}
use Rattle.sim_language_law.proofs.Names.GoodNames.{sort_is, declared_is}
use Rattle.sim_language_law.proofs.Setups.EntriesByForm.{number_is}
use Rattle.sim_language_law.proofs.Lines.AdditionsByForm.{resource_kind}
use Rattle.sim_language_law.proofs.Processes.KindsOfHeads.{is_parameter_class}
use Rattle.sim_language_law.proofs.Setups.FittingInWhole.{process_classes}
use Rattle.sim_language_law.proofs.Statements.FittingOperands.{InProcess, same_class_is, same_class_self, event_variable, value_fit, refer_fit}

-- ---- what a kind of resource takes

request_by : (f : Form) (r : Resource) (n : ℕ) (p : Num) (preempt : Bool) → r.kind ≡ resource_kind f
    → takes_request f ≡ Some n → (n ≡ 0 → is_nothing p ≡ true) → (n ≤ 1 → preempt ≡ true)
    → request_fits p preempt (Some r) ≡ true
request_by form.Resource r n p preempt kind h none all = let zero_more = same_Some 0 n h in rw kind (and_from _ _ (none (sym zero_more)) (all (omega arith)))
request_by form.Priority r n p preempt kind h none all = let one_more = same_Some 1 n h in rw kind (all (omega arith))
request_by form.Preemptive r n p preempt kind h none all = rw kind refl
request_by f r n p preempt kind h none all = absurd (none-some n h)

put_by : (f : Form) (r : Resource) (n : ℕ) (p : Num) → r.kind ≡ resource_kind f → takes_put f ≡ Some n
    → (n ≡ 1 → is_nothing p ≡ true) → put_fits p (Some r) ≡ true
put_by form.Container r n p kind h none = rw kind (none (sym (same_Some 1 n h)))
put_by form.Store r n p kind h none = rw kind (none (sym (same_Some 1 n h)))
put_by form.FStore r n p kind h none = rw kind (none (sym (same_Some 1 n h)))
put_by form.PStore r n p kind h none = rw kind refl
put_by f r n p kind h none = absurd (none-some n h)

get_by : (f : Form) (r : Resource) (n : ℕ) (lo hi : Num) → r.kind ≡ resource_kind f → takes_get f ≡ Some n
    → (n ≡ 0 → is_nothing lo ≡ true) → (n ≤ 1 → is_nothing hi ≡ true) → get_fits lo hi (Some r) ≡ true
get_by form.Container r n lo hi kind h none all = let one_more = same_Some 1 n h in rw kind (all (omega arith))
get_by form.Store r n lo hi kind h none all = let zero_more = same_Some 0 n h in rw kind (and_from _ _ (none (sym zero_more)) (all (omega arith)))
get_by form.PStore r n lo hi kind h none all = let zero_more = same_Some 0 n h in rw kind (and_from _ _ (none (sym zero_more)) (all (omega arith)))
get_by form.FStore r n lo hi kind h none all = rw kind refl
get_by f r n lo hi kind h none all = absurd (none-some n h)

module _ (whole : WholeText) (final : ScenarioOf) (k : Kind) (place : LineInText) (inside : InProcess whole final k place) where
  -- ---- what is used

  -- where only variables of one class will do
  uses_one : (reference : Reference) (c : Class) (w : Word) → ((d : Class) → takes_class reference d ≡ is_class d c)
      → is_variable place.above (record { role = Refers reference; word = w }) ≡ true → GoodSlot whole place (record { role = Refers reference; word = w })
      → uses k (variable place.variables w) c ≡ true
  uses_one reference c w one there good =
      let parts = and_parts (nat_lt (variable place.variables w) 64) (takes_class reference (class_of k (variable place.variables w))) (event_variable whole final k place inside reference w good there) in
      let is = same_class_is (class_of k (variable place.variables w)) c (sym (one (class_of k (variable place.variables w))) ∙ parts.1) in
      and_from _ _ parts.0 (rw is (same_class_self c))

  pub uses_condition : (w : Word) → GoodSlot whole place (record { role = Refers ACondition; word = w }) → uses k (variable place.variables w) class.Cond ≡ true
  uses_condition w good = uses_one ACondition class.Cond w (λ d. refl) refl good

  pub uses_request : (w : Word) → GoodSlot whole place (record { role = Refers ARequest; word = w }) → uses k (variable place.variables w) class.Request ≡ true
  uses_request w good = uses_one ARequest class.Request w (λ d. refl) refl good

  pub uses_move : (w : Word) → GoodSlot whole place (record { role = Refers AMove; word = w }) → uses k (variable place.variables w) class.Move ≡ true
  uses_move w good = uses_one AMove class.Move w (λ d. refl) refl good

  -- ---- resources

  kind_there : (rs : List Resource) (i : ℕ) (kind : ResourceKind) → option_map (λ r. r.kind) (slice_get rs i) ≡ Some kind
      → (r : Resource) × (slice_get rs i ≡ Some r) × (r.kind ≡ kind)
  kind_there rs i kind h = by (slice_get rs i) refl h
    where
      by : (o : Option Resource) → slice_get rs i ≡ o → option_map (λ r. r.kind) o ≡ Some kind → (r : Resource) × (slice_get rs i ≡ Some r) × (r.kind ≡ kind)
      by None e some = absurd (none-some kind some)
      by (Some r) e some = (r, e, same_Some r.kind kind some)

  -- a resource that a statement names
  pub resource_there : (w : Word) → GoodSlot whole place (record { role = Names sort.Resource; word = w })
      → let i : ℕ = number_declared place.above.declared w in
      (d : Meaning) × (r : Resource) × (value_of w place.above.declared ≡ Some d) × (resource_at final i ≡ Some r) × (r.kind ≡ resource_kind d.form)
  resource_there w good =
      let found = declared_is whole.heads place.above.declared sort.Resource w refl (sort_is whole place sort.Resource w good) in
      let at = kind_there final.setup.resources found.0.number (resource_kind found.0.form) (inside.ground.resources w found.0 found.1 found.2) in
      (found.0, at.0, found.1, ap (slice_get final.setup.resources) (number_is place.above.declared w found.0 found.1) ∙ at.1, at.2)

  pub resource_below : (w : Word) → GoodSlot whole place (record { role = Names sort.Resource; word = w })
      → nat_lt (number_declared place.above.declared w) (length final.setup.resources) ≡ true
  resource_below w good = let there = resource_there w good in lt-ltb _ _ (slice_get_within final.setup.resources (number_declared place.above.declared w) there.1 there.3)

  -- a form that the resource's kind takes
  taken : (takes : Form → Option ℕ) (r : Operand) (rest : List Operand) (d : Meaning)
      → takes_not takes place.above (r ∷ rest) ≡ false → value_of r.word place.above.declared ≡ Some d
      → takes d.form ≡ Some (length rest)
  taken takes r rest d h e = by (takes d.form) refl (rw e at h)
    where
      by : (o : Option ℕ) → takes d.form ≡ o → is_not (length rest) (option_and_then (λ c. takes c.form) (Some d)) ≡ false → takes d.form ≡ Some (length rest)
      by None f other = absurd (true≢false (rw f at other))
      by (Some m) f other = let same : not (length rest == m) ≡ false = rw f at other in f ∙ ap Some (sym (eqb-true (length rest) m (not-false (length rest == m) same)))

  pub request_fit : (r : Word) (more : List Operand) (p : Num) (preempt : Bool) → GoodSlot whole place (record { role = Names sort.Resource; word = r })
      → takes_not takes_request place.above (record { role = Names sort.Resource; word = r } ∷ more) ≡ false → (length more ≡ 0 → is_nothing p ≡ true)
      → (length more ≤ 1 → preempt ≡ true) → request_fits p preempt (resource_at final (number_declared place.above.declared r)) ≡ true
  request_fit r more p preempt good h none all =
      let there = resource_there r good in
      rw (there.3) (request_by there.0.form there.1 (length more) p preempt there.4 (taken takes_request (record { role = Names sort.Resource; word = r }) more there.0 h there.2) none all)

  pub put_fit : (r : Word) (more : List Operand) (p : Num) → GoodSlot whole place (record { role = Names sort.Resource; word = r })
      → takes_not takes_put place.above (record { role = Names sort.Resource; word = r } ∷ more) ≡ false → (length more ≡ 1 → is_nothing p ≡ true)
      → put_fits p (resource_at final (number_declared place.above.declared r)) ≡ true
  put_fit r more p good h none =
      let there = resource_there r good in
      rw (there.3) (put_by there.0.form there.1 (length more) p there.4 (taken takes_put (record { role = Names sort.Resource; word = r }) more there.0 h there.2) none)

  pub get_fit : (r : Word) (more : List Operand) (lo hi : Num) → GoodSlot whole place (record { role = Names sort.Resource; word = r })
      → takes_not takes_get place.above (record { role = Names sort.Resource; word = r } ∷ more) ≡ false → (length more ≡ 0 → is_nothing lo ≡ true)
      → (length more ≤ 1 → is_nothing hi ≡ true) → get_fits lo hi (resource_at final (number_declared place.above.declared r)) ≡ true
  get_fit r more lo hi good h none all =
      let there = resource_there r good in
      rw (there.3) (get_by there.0.form there.1 (length more) lo hi there.4 (taken takes_get (record { role = Names sort.Resource; word = r }) more there.0 h there.2) none all)

  -- ---- arguments and members

  number_argument : (b : Bool) (w : Word)
      → number_fits k (number_of place.variables (record { role = if b then any_literal else Value; word = w })) ≡ true
      → argument_fits final k class.Number (argument_of place (record { role = if b then any_literal else Value; word = w }))
      ≡ true
  number_argument true w h = h
  number_argument false w h = h

  all_arguments : (cs : List Class) (ws : List Word) → GoodSlots whole place (side_by_side (map spawn_argument cs) ws)
      → length (side_by_side (map spawn_argument cs) ws) ≡ length cs → list_all is_parameter_class cs ≡ true
      → pointwise (argument_fits final k) cs (map (argument_of place) (side_by_side (map spawn_argument cs) ws)) ≡ true
  all_arguments [] [] good as_many plain = refl
  all_arguments [] (w ∷ ws) good as_many plain = absurd (omega arith)
  all_arguments (c ∷ cs) [] good as_many plain = absurd (omega arith)
  all_arguments (class.Number ∷ cs) (w ∷ ws) good as_many plain = and_from _ _ (number_argument (looks_numeric w) w (value_fit whole final k place inside w good.0)) (all_arguments cs ws good.1 (omega arith) plain)
  all_arguments (class.Event ∷ cs) (w ∷ ws) good as_many plain = and_from _ _ (refer_fit whole final k place inside PlainEvent w good.0) (all_arguments cs ws good.1 (omega arith) plain)
  all_arguments (class.Proc ∷ cs) (w ∷ ws) good as_many plain = and_from _ _ (refer_fit whole final k place inside AProcess w good.0) (all_arguments cs ws good.1 (omega arith) plain)
  all_arguments (c ∷ cs) (w ∷ ws) good as_many plain = absurd (true≢false (sym plain))

  -- the arguments of a spawn
  pub arguments_good : (p : Word) (ws : List Word) → GoodSlot whole place (record { role = Names sort.Process; word = p })
      → GoodSlots whole place (side_by_side (map spawn_argument (parameters whole.heads p)) ws)
      → (length (side_by_side (map spawn_argument (parameters whole.heads p)) ws) == length (parameters whole.heads p)) ≡ true
      → arguments_fit final k (kind_number whole.heads p) (arguments place (side_by_side (map spawn_argument (parameters whole.heads p)) ws)) ≡ true
  arguments_good p ws process good counted =
      let cs : List Class = parameters whole.heads p in
      let slots : List Operand = side_by_side (map spawn_argument cs) ws in
      let named = process_classes whole final place p inside.ground process in
      let few = inside.ground.kinds.few p cs named in
      let as_many = eqb-true (length slots) (length cs) counted in
      let all : arguments place slots ≡ map (argument_of place) slots = take_all 8 (map (argument_of place) slots) (omega (arith, length-map slots (argument_of place))) in
      rw (inside.ground.kinds.found p cs named, all) (all_arguments cs ws good as_many (inside.ground.kinds.plain p cs named))

  all_members : (ws : List Word) (n : ℕ) → GoodSlots whole place (map (slot_of (Refers AnyEvent)) ws)
      → list_all (event_fits final k AnyEvent) (take n (map (λ slot. event_of place slot.word) (map (slot_of (Refers AnyEvent)) ws))) ≡ true
  all_members ws zero good = refl
  all_members [] (suc n) good = refl
  all_members (w ∷ ws) (suc n) good = and_from _ _ (refer_fit whole final k place inside AnyEvent w good.0) (all_members ws n good.1)

  pub members_good : (ws : List Word) → GoodSlots whole place (map (slot_of (Refers AnyEvent)) ws)
      → members_fit final k (members place (map (slot_of (Refers AnyEvent)) ws)) ≡ true
  members_good ws good =
      let all : List Ref = map (λ slot. event_of place slot.word) (map (slot_of (Refers AnyEvent)) ws) in
      and_from _ _ (le-leb (length (take 16 all)) 16 (omega (arith, length-take 16 all))) (all_members ws 16 good)
