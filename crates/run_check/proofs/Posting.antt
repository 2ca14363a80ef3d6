-- What is in flight once a packet was put there, and once more were.
use Rattle.std.proofs.Common.{◌≡◌, ◌∙◌, ◌++◌, List, [], ◌∷◌, ap, false, inl, inr, refl, subst, sym, true}
use Rattle.std.specs.Prelude.{◌⊎◌, Bool, Option, Some, if◌then◌else◌}
use Rattle.std.proofs.lemmas.List.{map-append}
use Rattle.node_names.specs.NodeName.{Name}
use Rattle.node_names.specs.declared.ids.Origin.{Origin}
use Rattle.protocol.specs.Lists.{IsOneOf}
use Rattle.world.specs.Group.{packets}
use Rattle.world.specs.declared.packet.Packet.{Packet}
use Rattle.frames.specs.Frame.{Frame}
use Rattle.run_check.specs.Following.{Posts, last_of}
use Rattle.run_check.specs.FrameIds.{id_of, same_frame_id, same_frame_id-Decides}
use Rattle.run_check.specs.declared.frame_id.FrameId.{FrameId}

-- what is found is the packet that was put there, or what was there before
pub posted : (key id : FrameId) (put : Packet Frame) (new old : Option (Packet Frame)) →
    key ≡ id_of put →
    new ≡ (if same_frame_id key id then Some put else old) →
    new ≡ last_of id old (put ∷ [])
posted key id put new old its is = is ∙ ap (λ (k : FrameId). if same_frame_id k id then Some put else old) its

-- of packets that are put there one after the other, the last is found
last-append : (id : FrameId) (before : Option (Packet Frame)) (ps qs : List (Packet Frame)) →
    last_of id before (ps ++ qs) ≡ last_of id (last_of id before ps) qs
last-append id before [] qs = refl
last-append id before (p ∷ ps) qs = last-append id (if same_frame_id (id_of p) id then Some p else before) ps qs

-- nothing is put there
pub posts_none : (old : List (FrameId × Packet Frame)) → Posts old [] old
posts_none old id = refl

-- packets are put there, and then more
pub posts_more : (old mid new : List (FrameId × Packet Frame)) (ps qs : List (Packet Frame)) → Posts old ps mid → Posts mid qs new → Posts old (ps ++ qs) new
posts_more old mid new ps qs before behind id =
    behind id ∙ ap (λ (found : Option (Packet Frame)). last_of id found qs) (before id) ∙ sym (last-append id _ ps qs)

-- one send more is posted
pub posts_push : (sender : Origin) (sends : List (Name × Frame)) (to : Name) (note : Frame) (old mid new : List (FrameId × Packet Frame)) →
    Posts old (packets sender sends) mid →
    Posts mid (record { sender = sender; to = to; note = note } ∷ []) new →
    Posts old (packets sender (sends ++ (to, note) ∷ [])) new
posts_push sender sends to note old mid new before behind =
    subst (λ (ps : List (Packet Frame)). Posts old ps new)
    (sym (map-append (λ (send : Name × Frame). record { sender = sender; to = send.0; note = send.1 }) sends ((to, note) ∷ [])))
    (posts_more old mid new (packets sender sends) (record { sender = sender; to = to; note = note } ∷ []) before behind)

-- what is found was there before, or is one of the packets that were put there
pub found_of : (id : FrameId) (before : Option (Packet Frame)) (more : List (Packet Frame)) (packet : Packet Frame) →
    last_of id before more ≡ Some packet →
    (before ≡ Some packet) ⊎ (IsOneOf packet more × (id_of packet ≡ id))
found_of id before [] packet found = inl found
found_of id before (put ∷ more) packet found =
    elim (found_of id (if same_frame_id (id_of put) id then Some put else before) more packet found) [
      | inl there ↦ go (same_frame_id (id_of put) id) refl there
      | inr later ↦ inr (inr later.0, later.1)
    ]
  where
    go : (b : Bool) →
        same_frame_id (id_of put) id ≡ b →
        (if b then Some put else before) ≡ Some packet →
        (before ≡ Some packet) ⊎ (IsOneOf packet (put ∷ more) × (id_of packet ≡ id))
    go true same e =
        let this : put ≡ packet = cc in
        inr (inl (sym this), sym (ap id_of this) ∙ (same_frame_id-Decides (id_of put) id).0 same)
    go false same e = inl e
