-- A frame that is not found is not sent.
use Rattle.std.proofs.Common.{◌≡◌, ◌≢◌, ℕ, List, [], ◌∷◌, inl, inr, refl, subst}
use Rattle.std.specs.List.{AllByRecursion as Each}
use Rattle.std.specs.Map.{lookup}
use Rattle.std.specs.Prelude.{IsSome, None, Option}
use Rattle.std.proofs.lemmas.Bool.{false≢true}
use Rattle.node_names.specs.NodeName.{Name}
use Rattle.node_names.specs.Limits.{Limits}
use Rattle.node_names.specs.declared.ids.Origin.{Origin}
use Rattle.protocol.specs.Lists.{IsOneOf}
use Rattle.protocol.specs.Trace.{Trace}
use Rattle.world.specs.declared.packet.Packet.{Packet}
use Rattle.frames.specs.Frame.{Frame}
use Rattle.trace_merge.specs.FrameIds.{id_of, same_frame_id}
use Rattle.trace_merge.specs.Merging.{IsMerging, IsUnsent, Merge, sent_within}
use Rattle.trace_merge.specs.declared.frame_index.FrameId.{FrameId}

-- what holds of whatever is one of a list holds of each of it
pub each_from_one_of : {X : Type 0} (P : X → Type 0) (xs : List X) → ((x : X) → IsOneOf x xs → P x) → Each P xs
each_from_one_of P [] f = tt
each_from_one_of {X} P (x ∷ xs) f = (f x (inl refl), each_from_one_of P xs (λ y one. f y (inr one)))

-- no trace has sent a frame that is not found
pub unsent_from_none : (limits : Limits) (traces : List (Trace Frame)) (m : Merge) →
    IsMerging limits traces m →
    (s : Origin) (n : ℕ) →
    lookup (same_frame_id (record { sender = s; number = n })) m.frames ≡ None →
    IsUnsent traces m.places s n
unsent_from_none limits traces m merging s n none j k t listed placed its =
    each_from_one_of (λ (send : Name × Frame). send.1.number ≢ n) (sent_within k t)
    (λ (send : Name × Frame) (one : IsOneOf send (sent_within k t)) (numbered : send.1.number ≡ n).
    let packet : Packet Frame = record { sender = t.origin; to = send.0; note = send.1 } in
    let known : IsSome (lookup (same_frame_id (id_of packet)) m.frames) = merging.found.found packet (merging.in_sent j k t send listed placed one) in
    let same : id_of packet ≡ record { sender = s; number = n } = (λ i. record { sender = its i; number = numbered i }) in
    let there : IsSome (lookup (same_frame_id (record { sender = s; number = n })) m.frames) =
    subst (λ (id : FrameId). IsSome (lookup (same_frame_id id) m.frames)) same known in
    false≢true (subst (λ (o : Option ℕ). IsSome o) none there))
