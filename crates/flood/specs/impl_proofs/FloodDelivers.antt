-- A step of the flooding core delivers at most one message: a proof, with nothing to take on trust.
use Rattle.std.specs.Prelude.{◌≡◌, ◌≤◌, Bool, true, false, List, [], ◌∷◌, Some, length}
use Rattle.std.specs.Bool.{MatchBool}
use Rattle.std.proofs.Common.{ap, arith}
use Rattle.node_names.specs.NodeName.{Name}
use Rattle.protocol.specs.Delivery.{Delivery}
use Rattle.protocol.specs.DeliveryLaw.{ids}
use Rattle.protocol.specs.OneDelivery.{OneDelivery}
use Rattle.protocol.specs.Stimulus.{Stimulus}
use Rattle.protocol.specs.declared.stimulus.StimulusOf.TheVariants.{Broadcast, Arrive, Fire, Flush, Down, Shuffle, Join}
use Rattle.flood.specs.FloodCore.{Flooding, Message, FloodSteps, Takes, IsIdle, flood_state, is_news, others}

none : (given : List Delivery) → given ≡ [] → length given ≤ 1
none given is = let e : length given ≡ 0 = ap length is in omega arith

one : {d : Delivery} (given : List Delivery) → given ≡ d ∷ [] → length given ≤ 1
one given is = let e : length given ≡ 1 = ap length is in omega arith

one_at_most : (old : Flooding) (stimulus : Stimulus Message) (sends : List (Name × Message)) (given : List Delivery) (new : Flooding) →
    FloodSteps old stimulus sends given new →
    length given ≤ 1
one_at_most old (Broadcast payload) sends given new s = one given s.1.delivers
one_at_most old (Arrive sender note dice) sends given new s = go (is_news old note.id) s
  where
    go : (b : Bool) →
        MatchBool b (Takes old note.id note.payload (others (Some sender.name) old.peers) old.count sends given new) (IsIdle old sends given new) →
        length given ≤ 1
    go true t = one given t.delivers
    go false t = none given t.delivers_nothing
one_at_most old (Fire id) sends given new s = none given s.delivers_nothing
one_at_most old Flush sends given new s = none given s.delivers_nothing
one_at_most old (Down peer dice) sends given new s = none given s.delivers_nothing
one_at_most old (Shuffle dice) sends given new s = none given s.delivers_nothing
one_at_most old (Join contact) sends given new s = none given s.delivers_nothing

pub flood_delivers_one : OneDelivery flood_state FloodSteps
flood_delivers_one = record { at_most_one = one_at_most; of_broadcast = λ old payload sends given new s. ap ids s.1.delivers }
