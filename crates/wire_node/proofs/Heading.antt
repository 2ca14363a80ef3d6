-- The bytes of a frame before its payload.
use Rattle.std.proofs.Common.{◌≡◌, ◌∙◌, ◌+◌, ◌-◌, ◌≤◌, ℕ, List, [], ◌∷◌, ◌++◌, ap, append_assoc, arith, drop, length, refl, sym, take}
use Rattle.std.specs.Int.{w32, to_be_bytes}
use Rattle.std.proofs.lemmas.List.{append-nil, drop_at, length-append, take_at}
use Rattle.node_names.specs.declared.ids.MsgId.{MsgId}
use Rattle.node_names.specs.declared.ids.Origin.{Origin}
use Rattle.frames.specs.Field.{Field, octets}
use Rattle.frames.specs.Field.Field.{byte, origin, number, id, round, payload}
use Rattle.frames.specs.Frame.{Frame}
use Rattle.frames.specs.Grammar.{IsSpelling, layout, spelled}
use Rattle.frames.specs.Kind.{kind_of, number_of, version_of}
use Rattle.frames.specs.declared.body.BodyOf.TheVariants.{Gossip}
use Rattle.wire_node.specs.Waiting.{spelling}

-- fields and then others
spelled_then : (fs gs : List Field) → spelled (fs ++ gs) ≡ spelled fs ++ spelled gs
spelled_then [] gs = refl
spelled_then (f ∷ fs) gs = ap (λ (t : List ℕ). octets f ++ t) (spelled_then fs gs) ∙ sym (append_assoc (octets f) (spelled fs) (spelled gs))

module _ (s : Origin) (n : ℕ) (i : MsgId) (r : ℕ) where
  abbrev pub gossip : List ℕ → Frame
  gossip p = record { sender = s; number = n; body = Gossip i r p }

  -- the fields before the payload
  abbrev before : List Field
  before = byte (version_of (kind_of (gossip []).body)) ∷ byte (number_of (kind_of (gossip []).body)) ∷ origin s ∷ number n ∷ id i ∷ round r ∷ []

  spelled_gossip : (p : List ℕ) → spelled (layout (gossip p)) ≡ spelled before ++ (to_be_bytes w32 (length p) ++ p)
  spelled_gossip p = spelled_then before (payload p ∷ []) ∙ ap (λ (t : List ℕ). spelled before ++ t) (append-nil (to_be_bytes w32 (length p) ++ p))

  -- what is spelled with no payload
  empty_is : (bytes : List ℕ) →
      IsSpelling (gossip []) bytes →
      bytes ≡ to_be_bytes w32 (length (spelled (layout (gossip [])))) ++ (spelled before ++ to_be_bytes w32 0)
  empty_is bytes e =
      e.parts
      ∙ ap (λ (t : List ℕ). to_be_bytes w32 (length (spelled (layout (gossip [])))) ++ t)
      (spelled_gossip [] ∙ ap (λ (t : List ℕ). spelled before ++ t) (append-nil (to_be_bytes w32 0)))

  pub empty_long : (bytes : List ℕ) → IsSpelling (gossip []) bytes → 8 ≤ length bytes
  empty_long bytes e =
      omega (
        arith,
        ap length (empty_is bytes e),
        length-append (to_be_bytes w32 (length (spelled (layout (gossip []))))) (spelled before ++ to_be_bytes w32 0),
        length-append (spelled before) (to_be_bytes w32 0),
      )

  fields_are : (bytes fields : List ℕ) → IsSpelling (gossip []) bytes → fields ≡ take (length bytes - 8) (drop 4 bytes) → fields ≡ spelled before
  fields_are bytes fields e f =
      let its = empty_is bytes e in
      let front = to_be_bytes w32 (length (spelled (layout (gossip [])))) in
      let rest = spelled before ++ to_be_bytes w32 0 in
      let long : length bytes - 8 ≡ length (spelled before) =
      omega (arith, ap length its, length-append front rest, length-append (spelled before) (to_be_bytes w32 0)) in
      f ∙ ap (λ k. take k (drop 4 bytes)) long ∙ ap (λ (b : List ℕ). take (length (spelled before)) (drop 4 b)) its
      ∙ ap (take (length (spelled before))) (drop_at front rest 4 (omega arith))
      ∙ take_at (spelled before) (to_be_bytes w32 0) (length (spelled before)) refl

  -- the head and the payload spell the frame
  pub spelled_by_head : (bytes fields head p : List ℕ) (len whole : ℕ) → IsSpelling (gossip []) bytes → fields ≡ take (length bytes - 8) (drop 4 bytes)
      → whole ≡ len + (length fields + 4) → head ≡ to_be_bytes w32 whole ++ (fields ++ to_be_bytes w32 len) → length p ≡ len → head ++ p ≡ spelling (gossip p)
  unfolding spelling
  spelled_by_head bytes fields head p len whole e f w h l =
      let its = fields_are bytes fields e f in
      let body : (fields ++ to_be_bytes w32 len) ++ p ≡ spelled (layout (gossip p)) =
      append_assoc fields (to_be_bytes w32 len) p
      ∙ ap (λ (t : List ℕ). t ++ (to_be_bytes w32 len ++ p)) its
      ∙ ap (λ k. spelled before ++ (to_be_bytes w32 k ++ p)) (sym l)
      ∙ sym (spelled_gossip p) in
      let long : whole ≡ length (spelled (layout (gossip p))) =
      omega (arith, w, l, ap length body, length-append (fields ++ to_be_bytes w32 len) p, length-append fields (to_be_bytes w32 len)) in
      ap (λ (t : List ℕ). t ++ p) h
      ∙ append_assoc (to_be_bytes w32 whole) (fields ++ to_be_bytes w32 len) p
      ∙ ap (λ (t : List ℕ). to_be_bytes w32 whole ++ t) body
      ∙ ap (λ k. to_be_bytes w32 k ++ spelled (layout (gossip p))) long
