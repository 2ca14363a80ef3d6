-- The table of HyParView as this project has it: what a node does at each event. In each row the sends are in order.
use Rattle.std.specs.Prelude.{◌==◌, ◌-◌, ℕ, Bool, true, false, ◌&&◌, ◌||◌, List, [], ◌∷◌, None, if◌then◌else◌, nat_lt, nat_le, length}
use Rattle.std.specs.Option.{option_map_or}
use Rattle.node_names.specs.NodeName.{Name}
use Rattle.node_names.specs.Same.{same_name, has_name}
use Rattle.node_names.specs.declared.dice.Dice.{Dice}
use Rattle.frames.specs.declared.body.BodyOf.TheVariants as body
use Rattle.views.specs.Names.{word, chosen, others}
use Rattle.views.specs.Views as view
use Rattle.membership.specs.Membership.{Turn}
use Rattle.membership.specs.Event.{Event}
use Rattle.membership.specs.declared.event.EventOf.TheVariants.{Joins, Join, ForwardJoin, Neighbor, Reply, Disconnect, Shuffle, ShuffleReply, Down, Tick}
use Rattle.membership.specs.Blocks.{send, send_all, admit, step_down, lose, forget, is_asked, close_request, promote, welcome, shuffle_with, accept_shuffle}

-- JOIN: the sender is welcomed, and its name is sent on a walk to every other active name.
abbrev pub on_join : Dice → Name → Turn → Turn
on_join dice sender t =
    let welcomed = welcome dice sender t in
    send_all (body.ForwardJoin sender t.views.limits.arwl) (others (sender ∷ []) welcomed.views.active) welcomed

-- The walk of a new name goes on, with `ttl` steps left, to the active name that word 1 chooses, other than the sender
-- and the new name; if there is no such name, the new name is welcomed.
abbrev pub walk_on : Dice → Name → Name → ℕ → Turn → Turn
walk_on dice sender new ttl t =
    option_map_or
    (λ next. send next (body.ForwardJoin new ttl) t)
    (chosen (word dice 1) (others (sender ∷ new ∷ []) t.views.active))
    (welcome dice new t)

-- FORWARDJOIN of the owner: nothing. At the walk's end, or with at most one active name: the new name is welcomed.
-- Otherwise, with PRWL steps left the name is added to the passive view; then its walk goes on with one step less.
abbrev pub on_forward_join : Dice → Name → Name → ℕ → Turn → Turn
on_forward_join dice sender new ttl t =
    if same_name new t.views.owner then t
    else if ttl == 0 || nat_le (length t.views.active) 1 then welcome dice new t
    else (
    let noted = if ttl == t.views.limits.prwl then record t { views = view.add_passive dice new t.views } else t in
    walk_on dice sender new (ttl - 1) noted)

-- NEIGHBOR: with high priority it is accepted. With low priority it is accepted if the sender is active or the active
-- view has room, and refused otherwise.
abbrev pub on_neighbor : Dice → Name → Bool → Turn → Turn
on_neighbor dice sender high t =
    if high || (has_name t.views.active sender || view.has_room t.views)
    then send sender (body.NeighborReply true) (admit dice sender t)
    else send sender (body.NeighborReply false) t

-- NEIGHBORREPLY closes a request to its sender. Accepted: an active sender stays active; another becomes active if
-- there is room, and otherwise is sent DISCONNECT. Refused: an active sender is demoted.
abbrev pub on_reply : Dice → Name → Bool → Turn → Turn
on_reply dice sender true t =
    let closed = close_request sender t in
    if has_name closed.views.active sender then closed
    else if view.has_room closed.views then admit dice sender closed
    else send sender body.Disconnect closed
on_reply dice sender false t = step_down dice sender (close_request sender t)

-- DISCONNECT: an active sender is demoted, and a promotion follows that does not ask the sender.
abbrev pub on_disconnect : Dice → Name → Turn → Turn
on_disconnect dice sender t =
    if has_name t.views.active sender then promote dice (sender ∷ []) (step_down dice sender t) else t

-- A failed link to an active peer: it leaves the views, a request to it is closed, and a promotion follows. To a name
-- that is asked: it leaves the passive view, the request is closed, and a promotion follows. To any other: nothing.
abbrev pub on_down : Dice → Name → Turn → Turn
on_down dice peer t =
    if has_name t.views.active peer then promote dice [] (close_request peer (lose peer t))
    else if is_asked peer t.asked then promote dice [] (close_request peer (forget peer t))
    else t

-- a shuffle starts with the active name that word 1 chooses, if there is one
abbrev pub start_shuffle : Dice → Turn → Turn
start_shuffle dice t = option_map_or (λ target. shuffle_with dice target t) (chosen (word dice 1) t.views.active) t

-- The tick: a shuffle starts. Then, if the active view has room, a standing request is forgotten, and a promotion
-- follows.
abbrev pub on_tick : Dice → Turn → Turn
on_tick dice t =
    let shuffled = start_shuffle dice t in
    if view.has_room shuffled.views then promote dice [] (record shuffled { asked = None }) else shuffled

-- SHUFFLE of the owner: nothing. Otherwise it loses one step. If steps are left and more than one name is active, it
-- goes on to the active name that word 1 chooses, other than the sender and the origin. If it does not go on, it is
-- accepted.
abbrev pub on_shuffle : Dice → Name → Name → ℕ → List Name → Turn → Turn
on_shuffle dice sender origin ttl names t =
    if same_name origin t.views.owner then t
    else if nat_lt 0 (ttl - 1) && nat_lt 1 (length t.views.active)
    then
    option_map_or
    (λ next. send next (body.Shuffle origin (ttl - 1) names) t)
    (chosen (word dice 1) (others (sender ∷ origin ∷ []) t.views.active))
    (accept_shuffle dice origin names t)
    else accept_shuffle dice origin names t

-- SHUFFLEREPLY: its names are integrated, for which the remembered names leave first, and then none are remembered.
abbrev pub on_shuffle_reply : Dice → List Name → Turn → Turn
on_shuffle_reply dice names t = record t { views = view.integrate names t.shuffled dice t.views; shuffled = [] }

-- The table, with one case for each event. To join is to send JOIN to the contact.
abbrev pub table : Event → Dice → Turn → Turn
table (Joins contact) dice t = send contact body.Join t
table (Join sender) dice t = on_join dice sender t
table (ForwardJoin sender new ttl) dice t = on_forward_join dice sender new ttl t
table (Neighbor sender high) dice t = on_neighbor dice sender high t
table (Reply sender accepted) dice t = on_reply dice sender accepted t
table (Disconnect sender) dice t = on_disconnect dice sender t
table (Shuffle sender origin ttl names) dice t = on_shuffle dice sender origin ttl names t
table (ShuffleReply sender names) dice t = on_shuffle_reply dice names t
table (Down peer) dice t = on_down dice peer t
table Tick dice t = on_tick dice t
