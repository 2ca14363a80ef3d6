-- One more packet is found.
use Rattle.std.proofs.Common.{◌≡◌, ◌∙◌, ◌+◌, ◌++◌, ℕ, List, [], ◌∷◌, IsSome, ap, arith, false, inl, inr, length, refl, subst, sym, take, true}
use Rattle.std.specs.Prelude.{Bool, Option, Some, slice_get, if◌then◌else◌}
use Rattle.std.specs.Map.{lookup}
use Rattle.std.proofs.lemmas.List.{length-take, take_more}
use Rattle.protocol.specs.Lists.{IsOneOf}
use Rattle.world.specs.declared.packet.Packet.{Packet}
use Rattle.frames.specs.Frame.{Frame}
use Rattle.trace_merge.specs.FrameIds.{AreFound, id_of, same_frame_id, same_frame_id-Decides}
use Rattle.trace_merge.specs.declared.frame_index.FrameId.{FrameId}
use Rattle.trace_merge.proofs.ListLemmas.{one_of-append, slice_get-last}
use Rattle.trace_merge.proofs.Stable.{slice_get-more}
use Rattle.trace_merge.proofs.merging.note.Goals as goal

-- a packet is added behind those that are found
found_more :
    (sent : List (Packet Frame))
    (p : Packet Frame)
    (old new : List (FrameId × ℕ)) →
    ((other : FrameId) → lookup (same_frame_id other) new ≡ (if same_frame_id (id_of p) other then Some (length sent) else lookup (same_frame_id other) old)) →
    AreFound sent old →
    AreFound (sent ++ p ∷ []) new
found_more sent p old new updates are = record { found = found; told = told }
  where
    some : (b : Bool) (o : Option ℕ) → IsSome o → IsSome (if b then Some (length sent) else o)
    some true o is = refl
    some false o is = is

    found : (packet : Packet Frame) → IsOneOf packet (sent ++ p ∷ []) → IsSome (lookup (same_frame_id (id_of packet)) new)
    found packet one =
        elim (one_of-append packet sent (p ∷ []) one) [
          | inl before ↦
              subst (λ (o : Option ℕ). IsSome o) (sym (updates (id_of packet))) (some (same_frame_id (id_of p) (id_of packet)) _ (are.found packet before))
          | inr now ↦
              (elim now [
                | inl this ↦
                    subst (λ (q : Packet Frame). IsSome (lookup (same_frame_id (id_of q)) new)) (sym this)
                    (subst (λ (o : Option ℕ). IsSome o)
                    (sym (updates (id_of p)
                    ∙ ap (λ b. if b then Some (length sent) else lookup (same_frame_id (id_of p)) old) ((same_frame_id-Decides (id_of p) (id_of p)).1 refl)))
                    refl)
                | inr none ↦ absurd none
              ])
        ]

    told : (id : FrameId) (n : ℕ) →
        lookup (same_frame_id id) new ≡ Some n →
        (packet : Packet Frame) × (slice_get (sent ++ p ∷ []) n ≡ Some packet) × (id_of packet ≡ id)
    told id n is = go (same_frame_id (id_of p) id) refl (sym (updates id) ∙ is)
      where
        go : (b : Bool) →
            same_frame_id (id_of p) id ≡ b →
            (if b then Some (length sent) else lookup (same_frame_id id) old) ≡ Some n →
            (packet : Packet Frame) × (slice_get (sent ++ p ∷ []) n ≡ Some packet) × (id_of packet ≡ id)
        go true same at =
            let e : Some (length sent) ≡ Some n = at in
            let here : length sent ≡ n = cc in
            (p, subst (λ k. slice_get (sent ++ p ∷ []) k ≡ Some p) here (slice_get-last sent p), (same_frame_id-Decides (id_of p) id).0 same)
        go false other at =
            let before = are.told id n at in
            (before.0, slice_get-more sent (p ∷ []) n before.0 before.1, before.2)

pub loop-at-preserved : goal.loop-at-preserved
loop-at-preserved g c =
    let sent : List (Packet Frame) = c.args.sent.now in
    let p : Packet Frame = c.index-sent-at.result in
    let longer : take (c.loop-at.at + 1) sent ≡ take c.loop-at.at sent ++ p ∷ [] =
    take_more sent c.loop-at.at p c.loop-at-test.true ∙ ap (λ x. take c.loop-at.at sent ++ x ∷ []) (sym c.index-sent-at.is) in
    let its : record { sender = p.sender; number = c.number.result } ≡ id_of p = (λ i. record { sender = p.sender; number = c.number.ensures.value i }) in
    let place : c.loop-at.at ≡ length (take c.loop-at.at sent) = simp length-take (omega (arith, c.loop-at-test.true)) in
    subst (λ xs. AreFound xs c.insert.new.self.numbers.entries) (sym longer)
    (found_more (take c.loop-at.at sent) p c.loop-at.frames.numbers.entries c.insert.new.self.numbers.entries
    (subst (λ (k : ℕ). (other : FrameId) → lookup (same_frame_id other) c.insert.new.self.numbers.entries
    ≡ (if same_frame_id (id_of p) other then Some k else lookup (same_frame_id other) c.loop-at.frames.numbers.entries)) place
    (subst (λ (id : FrameId). (other : FrameId) → lookup (same_frame_id other) c.insert.new.self.numbers.entries
    ≡ (if same_frame_id id other then Some c.loop-at.at else lookup (same_frame_id other) c.loop-at.frames.numbers.entries)) its c.in_ok-insert.ensures))
    c.loop-at.invariant)
