-- Operands by the shape of their form.
--     Rule context last items P     that P holds of each list of operands that has the shape of these items
--     by_shape                      what holds by this rule holds of the operands that words are
use Rattle.std.proofs.Common.{◌≡◌, refl, subst, Bool, true, false, List, [], ◌∷◌, map, Option, Some, None}
use Rattle.std.proofs.lemmas.Option.{none-some, same_Some}
use Rattle.sim_language.specs.declared.shape.Role.TheVariants.{Within, EventAhead, Free}
use Rattle.sim_language.specs.declared.shape.Item.{Item}
use Rattle.sim_language.specs.declared.shape.Item.TheVariants.{Exactly, OneOf, A, Opening, EventName, NextPoster, MayEnd, Each, SpawnArguments, StartArguments}
use Rattle.sim_language.specs.Lines.{Word, same, is_among}
use Rattle.sim_language.specs.Shapes.{Operand, Context, slot_of, opening, side_by_side, spawn_argument, start_argument, choices, fixed_word, before_all, fit}
use Rattle.sim_language.specs.AnywhereInText.{parameters, ahead}
use Rattle.std.specs.Prelude.{pos, if◌then◌else◌}

abbrev pub Rule : Context → Word → List Item → (List Operand → Type 0) → Type 0
Rule context last [] P = P []
Rule context last (MayEnd ∷ items) P = P [] × Rule context last items P
Rule context last (Each role ∷ items) P = (ws : List Word) → P (map (slot_of role) ws)
Rule context last (SpawnArguments ∷ items) P = (ws : List Word) → P (side_by_side (map spawn_argument (parameters context.whole.heads last)) ws)
Rule context last (StartArguments ∷ items) P = (ws : List Word) → P (side_by_side (map start_argument (parameters context.whole.heads last)) ws)
Rule context last (Exactly word ∷ items) P = (w : Word) → Rule context w items P
Rule context last (OneOf choice ∷ items) P = (w : Word) → is_among w (choices choice) ≡ true → Rule context w items (λ slots. P (slot_of Free w ∷ slots))
Rule context last (A role ∷ items) P = (w : Word) → Rule context w items (λ slots. P (slot_of role w ∷ slots))
Rule context last (Opening ∷ items) P = (w : Word) → Rule context w items (λ slots. P (slot_of (opening last) w ∷ slots))
Rule context last (EventName ∷ items) P = (w : Word) → Rule context w items (λ slots. P (slot_of (EventAhead (ahead w context.whole.declarations)) w ∷ slots))
Rule context last (NextPoster ∷ items) P = (w : Word) → Rule context w items (λ slots. P (slot_of (Within (pos context.posters) (pos context.posters)) w ∷ slots))

-- one operand more in front
in_front : (slot : Operand) (o : Option (List Operand)) (slots : List Operand) (P : List Operand → Type 0)
    → before_all slot o ≡ Some slots → ((more : List Operand) → o ≡ Some more → P (slot ∷ more)) → P slots
in_front slot None slots P h each = absurd (none-some slots h)
in_front slot (Some more) slots P h each = subst P (same_Some (slot ∷ more) slots h) (each more refl)

pub by_shape : (context : Context) (last : Word) (items : List Item) (ws : List Word) (slots : List Operand)
    (P : List Operand → Type 0) → fit context last items ws ≡ Some slots → Rule context last items P → P slots
by_shape context last [] [] slots P h rule = subst P (same_Some [] slots h) rule
by_shape context last [] (w ∷ ws) slots P h rule = absurd (none-some slots h)
by_shape context last (MayEnd ∷ items) [] slots P h rule = subst P (same_Some [] slots h) rule.0
by_shape context last (MayEnd ∷ items) (w ∷ ws) slots P h rule = by_shape context last items (w ∷ ws) slots P h rule.1
by_shape context last (Each role ∷ items) ws slots P h rule = subst P (same_Some (map (slot_of role) ws) slots h) (rule ws)
by_shape context last (SpawnArguments ∷ items) ws slots P h rule = subst P (same_Some _ slots h) (rule ws)
by_shape context last (StartArguments ∷ items) ws slots P h rule = subst P (same_Some _ slots h) (rule ws)
by_shape context last (Exactly word ∷ items) [] slots P h rule = absurd (none-some slots h)
by_shape context last (OneOf choice ∷ items) [] slots P h rule = absurd (none-some slots h)
by_shape context last (A role ∷ items) [] slots P h rule = absurd (none-some slots h)
by_shape context last (Opening ∷ items) [] slots P h rule = absurd (none-some slots h)
by_shape context last (EventName ∷ items) [] slots P h rule = absurd (none-some slots h)
by_shape context last (NextPoster ∷ items) [] slots P h rule = absurd (none-some slots h)
by_shape context last (Exactly word ∷ items) (w ∷ ws) slots P h rule = by (same w (fixed_word word)) h (λ e. by_shape context w items ws slots P e (rule w))
  where
    by : (b : Bool) → (if b then fit context w items ws else None) ≡ Some slots → (fit context w items ws ≡ Some slots → P slots) → P slots
    by true e rest = rest e
    by false e rest = absurd (none-some slots e)
by_shape context last (OneOf choice ∷ items) (w ∷ ws) slots P h rule = by (is_among w (choices choice)) refl h (λ among more e. by_shape context w items ws more (λ later. P (slot_of Free w ∷ later)) e (rule w among))
  where
    by : (b : Bool) → is_among w (choices choice) ≡ b
        → (if b then before_all (slot_of Free w) (fit context w items ws) else None) ≡ Some slots
        → (is_among w (choices choice) ≡ true → (more : List Operand) → fit context w items ws ≡ Some more → P (slot_of Free w ∷ more))
        → P slots
    by true among e rest = in_front (slot_of Free w) (fit context w items ws) slots P e (rest among)
    by false among e rest = absurd (none-some slots e)
by_shape context last (A role ∷ items) (w ∷ ws) slots P h rule = in_front (slot_of role w) (fit context w items ws) slots P h (λ more e. by_shape context w items ws more (λ later. P (slot_of role w ∷ later)) e (rule w))
by_shape context last (Opening ∷ items) (w ∷ ws) slots P h rule = in_front (slot_of (opening last) w) (fit context w items ws) slots P h (λ more e. by_shape context w items ws more (λ later. P (slot_of (opening last) w ∷ later)) e (rule w))
by_shape context last (EventName ∷ items) (w ∷ ws) slots P h rule =
    let slot : Operand = slot_of (EventAhead (ahead w context.whole.declarations)) w in
    in_front slot (fit context w items ws) slots P h (λ more e. by_shape context w items ws more (λ later. P (slot ∷ later)) e (rule w))
by_shape context last (NextPoster ∷ items) (w ∷ ws) slots P h rule = in_front (slot_of (Within (pos context.posters) (pos context.posters)) w) (fit context w items ws) slots P h (λ more e. by_shape context w items ws more (λ later. P (slot_of (Within (pos context.posters) (pos context.posters)) w ∷ later)) e (rule w))

-- what holds of all operands
pub rule_all : (context : Context) (last : Word) (items : List Item) (P : List Operand → Type 0)
    → ((slots : List Operand) → P slots) → Rule context last items P
rule_all context last [] P all = all []
rule_all context last (MayEnd ∷ items) P all = (all [], rule_all context last items P all)
rule_all context last (Each role ∷ items) P all = λ ws. all (map (slot_of role) ws)
rule_all context last (SpawnArguments ∷ items) P all = λ ws. all (side_by_side (map spawn_argument (parameters context.whole.heads last)) ws)
rule_all context last (StartArguments ∷ items) P all = λ ws. all (side_by_side (map start_argument (parameters context.whole.heads last)) ws)
rule_all context last (Exactly word ∷ items) P all = λ w. rule_all context w items P all
rule_all context last (OneOf choice ∷ items) P all = λ w among. rule_all context w items (λ slots. P (slot_of Free w ∷ slots)) (λ slots. all (slot_of Free w ∷ slots))
rule_all context last (A role ∷ items) P all = λ w. rule_all context w items (λ slots. P (slot_of role w ∷ slots)) (λ slots. all (slot_of role w ∷ slots))
rule_all context last (Opening ∷ items) P all = λ w. rule_all context w items (λ slots. P (slot_of (opening last) w ∷ slots)) (λ slots. all (slot_of (opening last) w ∷ slots))
rule_all context last (EventName ∷ items) P all = λ w.
    let slot : Operand = slot_of (EventAhead (ahead w context.whole.declarations)) w in rule_all context w items (λ slots. P (slot ∷ slots)) (λ slots. all (slot ∷ slots))
rule_all context last (NextPoster ∷ items) P all = λ w. rule_all context w items (λ slots. P (slot_of (Within (pos context.posters) (pos context.posters)) w ∷ slots)) (λ slots. all (slot_of (Within (pos context.posters) (pos context.posters)) w ∷ slots))
