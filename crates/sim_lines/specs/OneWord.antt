-- A word where it stands for one part of a shape.
use Rattle.std.specs.Prelude.{if◌then◌else◌, List, [], ◌∷◌, ◌++◌, Option, Some, None, option_map, pos}
use Rattle.sim_language.specs.declared.shape.Role.TheVariants.{Within, EventAhead, Free}
use Rattle.sim_language.specs.declared.shape.Item.{Item}
use Rattle.sim_language.specs.declared.shape.Item.TheVariants.{Exactly, OneOf, A, Opening, EventName, NextPoster}
use Rattle.sim_language.specs.Lines.{Word, same, is_among}
use Rattle.sim_language.specs.AnywhereInText.{ahead}
use Rattle.sim_language.specs.Shapes.{Operand, Context, fixed_word, choices, opening, slot_of}

-- the operand that the word is, or none for a fixed word, where it fits a part that takes one word; `last` is the word in
-- front of it
abbrev pub at_item : Context → Word → Item → Word → Option (List Operand)
at_item context last (Exactly word) w = if same w (fixed_word word) then Some [] else None
at_item context last (OneOf choice) w = if is_among w (choices choice) then Some (slot_of Free w ∷ []) else None
at_item context last (A role) w = Some (slot_of role w ∷ [])
at_item context last Opening w = Some (slot_of (opening last) w ∷ [])
at_item context last EventName w = Some (slot_of (EventAhead (ahead w context.whole.declarations)) w ∷ [])
at_item context last NextPoster w = Some (slot_of (Within (pos context.posters) (pos context.posters)) w ∷ [])
at_item context last item w = None

-- some operands, and those that are found, where some are
abbrev pub behind_all : List Operand → Option (List Operand) → Option (List Operand)
behind_all slots found = option_map (λ more. slots ++ more) found
