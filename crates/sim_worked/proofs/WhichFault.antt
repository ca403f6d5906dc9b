-- Lines with several faults: which of them is told.
use Rattle.std.specs.Prelude.{refl, [], ◌∷◌}
use Rattle.std.specs.Fmt.{digits}
use Rattle.sim_worked.specs.Printed.{Refuses}

name_before_duplicate_of_an_event : Refuses
    ("event e" ∷ "process p e E" ∷ "end" ∷ [])
    "fault 4 BadName"
unfolding digits
name_before_duplicate_of_an_event = refl

number_before_duplicate : Refuses
    ("resource m 1" ∷ "resource m 0" ∷ [])
    "fault 4 BadNumber"
unfolding digits
number_before_duplicate = refl

shape_before_unknown_name : Refuses
    ("process p" ∷ "count x m 1" ∷ "end" ∷ [])
    "fault 4 BadShape"
unfolding digits
shape_before_unknown_name = refl

duplicate_before_unknown_name : Refuses
    ("event i" ∷ "port i q" ∷ [])
    "fault 4 Duplicate"
unfolding digits
duplicate_before_unknown_name = refl

duplicate_before_wrong_kind : Refuses
    ("event i" ∷ "port i i" ∷ [])
    "fault 4 Duplicate"
unfolding digits
duplicate_before_wrong_kind = refl

duplicate_before_place : Refuses
    ("process p" ∷ "end" ∷ "event p" ∷ [])
    "fault 5 Duplicate"
unfolding digits
duplicate_before_place = refl

duplicate_before_place_of_let : Refuses
    ("event e" ∷ "let e = 1" ∷ [])
    "fault 4 Duplicate"
unfolding digits
duplicate_before_place_of_let = refl

unknown_name_before_place_of_statement : Refuses
    ("count x m" ∷ [])
    "fault 3 UnknownName"
unfolding digits
unknown_name_before_place_of_statement = refl

unknown_name_before_unset : Refuses
    ("process p" ∷ "put s y" ∷ "end" ∷ [])
    "fault 4 UnknownName"
unfolding digits
unknown_name_before_unset = refl

unknown_name_before_wrong_kind : Refuses
    ("process p a:event b" ∷ "end" ∷ "start p e" ∷ [])
    "fault 5 UnknownName"
unfolding digits
unknown_name_before_wrong_kind = refl

wrong_kind_before_place_of_statement : Refuses
    ("event e" ∷ "count x e" ∷ [])
    "fault 4 WrongKind"
unfolding digits
wrong_kind_before_place_of_statement = refl

wrong_kind_before_class : Refuses
    ("process p a:event" ∷ "x = event" ∷ "spawn p x 1" ∷ "let x = 1" ∷ "end" ∷ [])
    "fault 5 WrongKind"
unfolding digits
wrong_kind_before_class = refl

wrong_kind_before_unset : Refuses
    ("process p a" ∷ "spawn p y z" ∷ "end" ∷ [])
    "fault 4 WrongKind"
unfolding digits
wrong_kind_before_unset = refl

place_before_class : Refuses
    ("process p" ∷ "end" ∷ "process q" ∷ "x = event" ∷ "catch x v" ∷ "end" ∷ [])
    "fault 7 Misplaced"
unfolding digits
place_before_class = refl

place_before_order : Refuses
    ("port i p" ∷ "process p v" ∷ "end" ∷ "after 1 0 0 i 1" ∷ "after 0 0 0 i 1" ∷ [])
    "fault 6 Misplaced"
unfolding digits
place_before_order = refl

unknown_port_before_order : Refuses
    ("port i p" ∷ "process p v" ∷ "end" ∷ "journal" ∷ "after 1 0 0 i 1" ∷ "after 0 0 0 j 1" ∷ [])
    "fault 8 UnknownName"
unfolding digits
unknown_port_before_order = refl

class_before_unset_in_front : Refuses
    ("process p" ∷ "x = event" ∷ "let z = y + x" ∷ "end" ∷ [])
    "fault 5 ClassClash"
unfolding digits
class_before_unset_in_front = refl

seventeen_members_and_one_that_is_none : Refuses
    ("event e" ∷ "process p" ∷ "x = any e e e e e e e e e e e e e e e e 5" ∷ "end" ∷ [])
    "fault 5 BadName"
unfolding digits
seventeen_members_and_one_that_is_none = refl

seventeen_members_of_another_class : Refuses
    ("process p" ∷ "let n = 1" ∷ "x = any n n n n n n n n n n n n n n n n n" ∷ "end" ∷ [])
    "fault 5 TooMany"
unfolding digits
seventeen_members_of_another_class = refl
