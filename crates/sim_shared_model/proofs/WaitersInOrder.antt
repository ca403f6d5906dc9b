-- The machine's waiters in order, where one joins them and where some leave.
use Rattle.std.proofs.Common.{◌≡◌, Bool, List, [], ◌∷◌, ◌++◌, refl, sym, ap, ◌∙◌, filter, if◌then◌else◌}
use Rattle.std.specs.Cmp.{IsStrictWeakOrder}
use Rattle.sim_types.specs.declared.setup.ResourceKind.{ResourceKind}
use Rattle.sim_types.specs.declared.setup.ResourceKind.TheVariants as resource
use Rattle.sim_machine.specs.State.{Waiter}
use Rattle.sim_machine.specs.Keys.{is_served_first}
use Rattle.sim_machine.specs.Users.{key_of, insert_waiter, sorted_waiters, in_order}
use Rattle.sim_shared_model.specs.Sorting.{put_behind, put_ahead, sorted_by}
use Rattle.sim_shared_model.proofs.Keys.{first_one_way, first_chain}
use Rattle.sim_shared_model.proofs.StableSorts.{sorted_in_order, sorted_same, sorted_joined, sorted_filtered}

-- whether a waiter is served before another
abbrev is_before : Waiter → Waiter → Bool
is_before v w = is_served_first (key_of v.want) (key_of w.want)

waiters_ordered : IsStrictWeakOrder is_before
waiters_ordered =
    record {
      one_way = λ v w h. first_one_way (key_of v.want) (key_of w.want) h;
      chain = λ u v w h k. first_chain (key_of u.want) (key_of v.want) (key_of w.want) h k;
    }

inserted_alike : (w : Waiter) (vs : List Waiter) → insert_waiter w vs ≡ put_ahead is_before w vs
inserted_alike w [] = refl
inserted_alike w (v ∷ vs) = ap (λ us. if is_before v w then v ∷ us else w ∷ v ∷ vs) (inserted_alike w vs)

sorted_alike : (ws : List Waiter) → sorted_waiters ws ≡ sorted_by is_before ws
sorted_alike [] = refl
sorted_alike (w ∷ ws) = ap (insert_waiter w) (sorted_alike ws) ∙ inserted_alike w (sorted_by is_before ws)

-- one joins that came last
joined_again : (w : Waiter) (ws : List Waiter) → sorted_waiters (ws ++ w ∷ []) ≡ sorted_waiters (sorted_waiters ws ++ w ∷ [])
joined_again w ws =
    let once : List Waiter = sorted_by is_before ws in
    let same : sorted_by is_before once ≡ once = sorted_same is_before waiters_ordered once (sorted_in_order is_before waiters_ordered ws) in
    sorted_alike (ws ++ w ∷ []) ∙ (sorted_joined is_before waiters_ordered ws w ∙ (ap (put_behind is_before w) (sym same) ∙ (sym (sorted_joined is_before waiters_ordered once w)
    ∙ (sym (sorted_alike (once ++ w ∷ [])) ∙ ap (λ us. sorted_waiters (us ++ w ∷ [])) (sym (sorted_alike ws))))))

pub in_order_joined : (kind : ResourceKind) (w : Waiter) (ws : List Waiter) → in_order kind (ws ++ w ∷ []) ≡ in_order kind (in_order kind ws ++ w ∷ [])
in_order_joined resource.Priority w ws = joined_again w ws
in_order_joined resource.Preemptive w ws = joined_again w ws
in_order_joined _ w ws = refl

-- some leave
left_alike : (stays : Waiter → Bool) (ws : List Waiter) → sorted_waiters (filter stays ws) ≡ filter stays (sorted_waiters ws)
left_alike stays ws = sorted_alike (filter stays ws) ∙ (sorted_filtered is_before waiters_ordered stays ws ∙ ap (filter stays) (sym (sorted_alike ws)))

pub in_order_left : (kind : ResourceKind) (stays : Waiter → Bool) (ws : List Waiter) → in_order kind (filter stays ws) ≡ filter stays (in_order kind ws)
in_order_left resource.Priority stays ws = left_alike stays ws
in_order_left resource.Preemptive stays ws = left_alike stays ws
in_order_left _ stays ws = refl
