-- How requests stand in the queue of a desk, and users by their keys.
use Rattle.std.specs.Prelude.{Bool, ◌&&◌, List, [], ◌∷◌, ◌++◌, if◌then◌else◌}
use Rattle.sim_types.specs.declared.event.RequestKey.{RequestKey}
use Rattle.sim_machine.specs.State.{User}
use Rattle.sim_machine.specs.Keys.{is_served_first}
use Rattle.sim_shared_model.specs.declared.desk.WaitingRequest.{WaitingRequest}
use Rattle.sim_shared_model.specs.Sorting.{put_behind}

-- whether a waiting request is served before another
abbrev pub waits_before : WaitingRequest → WaitingRequest → Bool
waits_before v w = is_served_first v.key w.key

-- whether the key of a user comes before that of another
abbrev pub ranks_before : User → User → Bool
ranks_before u v = is_served_first u.key v.key

-- the queue once one more waits, which came after all others: it stands by its key, or behind all
abbrev pub queue_joined : Bool → WaitingRequest → List WaitingRequest → List WaitingRequest
queue_joined by_keys w ws = if by_keys then put_behind waits_before w ws else ws ++ w ∷ []

-- the key of the first that waits, once one more of this key waits
abbrev pub first_key_with : Bool → RequestKey → List WaitingRequest → RequestKey
first_key_with by_keys key [] = key
first_key_with by_keys key (w ∷ ws) = if by_keys && is_served_first key w.key then key else w.key
