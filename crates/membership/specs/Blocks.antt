-- The building blocks of the rows of the table.
use Rattle.std.specs.Prelude.{◌==◌, ◌+◌, ℕ, Bool, true, false, ◌&&◌, List, [], ◌∷◌, ◌++◌, Option, Some, None, if◌then◌else◌, is_none, length, map, take, drop}
use Rattle.std.specs.Option.{option_map_or, option_to_list}
use Rattle.node_names.specs.NodeName.{Name}
use Rattle.node_names.specs.Same.{same_name, has_name}
use Rattle.node_names.specs.declared.dice.Dice.{Dice}
use Rattle.frames.specs.Body.{Body}
use Rattle.frames.specs.declared.body.BodyOf.TheVariants.{Neighbor, Disconnect, Shuffle, ShuffleReply}
use Rattle.views.specs.Names.{word, chosen, others, sample}
use Rattle.views.specs.Views as view
use Rattle.membership.specs.Membership.{Turn}

-- the body goes to each of the names, in order
abbrev pub send_all : Body → List Name → Turn → Turn
send_all body names t = record t { sends = t.sends ++ map (λ name. (name, body)) names }

-- the body goes to the name
abbrev pub send : Name → Body → Turn → Turn
send to body t = record t { sends = t.sends ++ (to, body) ∷ [] }

-- Add active: the name becomes active and is an up; a name that is dropped for it is sent DISCONNECT and is a down.
-- Nothing happens for a name that is the owner's or active.
abbrev pub admit : Dice → Name → Turn → Turn
admit dice name t =
    if view.is_settled t.views name then t
    else (
    let dropped = option_to_list (view.dropped_for dice name t.views) in
    record t {
      views = view.add_active dice name t.views;
      sends = t.sends ++ map (λ other. (other, Disconnect)) dropped;
      downs = t.downs ++ dropped;
      ups = t.ups ++ name ∷ [];
    })

-- Demote: an active name becomes passive, and is a down.
abbrev pub step_down : Dice → Name → Turn → Turn
step_down dice name t =
    if has_name t.views.active name then record t { views = view.demote dice name t.views; downs = t.downs ++ name ∷ [] } else t

-- an active name leaves both views, and is a down
abbrev pub lose : Name → Turn → Turn
lose name t = record t { views = view.forget name t.views; downs = t.downs ++ name ∷ [] }

-- the name leaves both views
abbrev pub forget : Name → Turn → Turn
forget name t = record t { views = view.forget name t.views }

-- whether the name is asked and has not answered
abbrev pub is_asked : Name → Option Name → Bool
is_asked name asked = option_map_or (same_name name) asked false

-- a request to the name is closed, if one stands
abbrev pub close_request : Name → Turn → Turn
close_request name t = if is_asked name t.asked then record t { asked = None } else t

-- the name is asked to become a neighbour, with high priority if no name is active
abbrev pub ask : Name → Turn → Turn
ask name t = send name (Neighbor (length t.views.active == 0)) (record t { asked = Some name })

-- Promote: if the active view has room and no request stands, the passive name that word 2 chooses, other than those
-- excepted, is asked.
abbrev pub promote : Dice → List Name → Turn → Turn
promote dice excepted t =
    if view.has_room t.views && is_none t.asked
    then option_map_or (λ name. ask name t) (chosen (word dice 2) (others excepted t.views.passive)) t
    else t

-- the name becomes active, and is sent NEIGHBOR with high priority
abbrev pub welcome : Dice → Name → Turn → Turn
welcome dice name t = send name (Neighbor true) (admit dice name t)

-- `count` words of the dice, starting at index `from`
abbrev pub words : Dice → ℕ → ℕ → List ℕ
words dice from count = take count (drop from dice.0)

-- the active names of a shuffle with the target: at most ka, drawn by the words from word 4 on
abbrev pub shuffled_active : Dice → Name → view.Views → List Name
shuffled_active dice target v = sample (words dice 4 v.limits.ka) (others (target ∷ []) v.active)

-- its passive names: at most kp, drawn by the words after those
abbrev pub shuffled_passive : Dice → view.Views → List Name
shuffled_passive dice v = sample (words dice (4 + v.limits.ka) v.limits.kp) v.passive

-- Shuffle: the owner's own name, these active and these passive names go to the target, and the passive ones are
-- remembered.
abbrev pub shuffle_with : Dice → Name → Turn → Turn
shuffle_with dice target t =
    let names = t.views.owner ∷ (shuffled_active dice target t.views ++ shuffled_passive dice t.views) in
    send target (Shuffle t.views.owner t.views.limits.arwl names) (record t { shuffled = shuffled_passive dice t.views })

-- A shuffle is answered with passive names, at most as many as it has names and at most 8, and its names are
-- integrated.
abbrev pub accept_shuffle : Dice → Name → List Name → Turn → Turn
accept_shuffle dice origin names t =
    let answer = sample (take (length names) (words dice 4 8)) t.views.passive in
    send origin (ShuffleReply answer) (record t { views = view.integrate names answer dice t.views })
