-- No frame is longer than a frame may be.
use Rattle.std.proofs.Common.{ℕ, ◌+◌, ◌*◌, ◌≤◌, List, [], ◌∷◌, length, ap, arith}
use Rattle.std.specs.Int.{w16, w32, w64, to_be_bytes}
use Rattle.std.specs.List.{flat_map, AllByRecursion}
use Rattle.std.proofs.lemmas.List.{length-append}
use Rattle.std.proofs.lemmas.List.Concat.{flat_map-cons}
use Rattle.node_names.specs.NodeName.{Name, IsNodeName}
use Rattle.node_names.specs.declared.ids.Origin.{Origin}
use Rattle.node_names.specs.declared.ids.MsgId.{MsgId}
use Rattle.frames.specs.declared.TheConstants.{MAX_BODY}
use Rattle.frames.specs.declared.body.BodyOf.TheVariants as body
use Rattle.frames.specs.Body.{Body}
use Rattle.frames.specs.Field.{Field, Holds, octets, name_octets, origin_octets, id_octets, announcement_octets, IsOrigin, IsId, IsAnnouncement}
use Rattle.frames.specs.Field.Field.{byte, flag, round, number, name, origin, id, names, payload, announcements}
use Rattle.frames.specs.Frame.{Frame}
use Rattle.frames.specs.Grammar.{fields_of, layout, spelled}

origin_size : (o : Origin) → IsOrigin o → length (origin_octets o) ≤ 41
origin_size o h = omega (arith, length-append (name_octets o.name) (to_be_bytes w64 o.incarnation.0), h.name.short)

id_size : (i : MsgId) → IsId i → length (id_octets i) ≤ 49
id_size i h = omega (arith, length-append (origin_octets i.origin) (to_be_bytes w64 i.seq), origin_size i.origin h.origin)

names_size : (ns : List Name) → AllByRecursion IsNodeName ns → length (flat_map name_octets ns) ≤ 33 * length ns
names_size [] h = omega arith
names_size (n ∷ ns) h =
    omega (arith, ap length (flat_map-cons name_octets n ns), length-append (name_octets n) (flat_map name_octets ns), h.0.short, names_size ns h.1)

announcement_size : (a : MsgId × ℕ) → IsAnnouncement a → length (announcement_octets a) ≤ 53
announcement_size a h = omega (arith, length-append (id_octets a.0) (to_be_bytes w32 a.1), id_size a.0 h.id)

announcements_size : (es : List (MsgId × ℕ)) → AllByRecursion IsAnnouncement es → length (flat_map announcement_octets es) ≤ 53 * length es
announcements_size [] h = omega arith
announcements_size (e ∷ es) h = omega (
  arith,
  ap length (flat_map-cons announcement_octets e es),
  length-append (announcement_octets e) (flat_map announcement_octets es),
  announcement_size e h.0,
  announcements_size es h.1,
)

-- the most that a field takes
most : Field → ℕ
most (byte n) = 1
most (flag b) = 1
most (round n) = 4
most (number n) = 8
most (name n) = 33
most (origin o) = 41
most (id i) = 49
most (names ns) = 265
most (payload bs) = 32772
most (announcements es) = 3394

field_size : (f : Field) → Holds f → length (octets f) ≤ most f
unfolding most
field_size (byte n) h = omega arith
field_size (flag b) h = omega arith
field_size (round n) h = omega arith
field_size (number n) h = omega arith
field_size (name n) h = omega (arith, h.short)
field_size (origin o) h = origin_size o h
field_size (id i) h = id_size i h
field_size (names ns) h = omega (arith, names_size ns h.1, h.0)
field_size (payload bs) h = omega (arith, length-append (to_be_bytes w32 (length bs)) bs, h)
field_size (announcements es) h = omega (arith, length-append (to_be_bytes w16 (length es)) (flat_map announcement_octets es), announcements_size es h.2, h.1)

most_of : List Field → ℕ
most_of [] = 0
most_of (f ∷ fs) = most f + most_of fs

spelled_size : (fs : List Field) → AllByRecursion Holds fs → length (spelled fs) ≤ most_of fs
unfolding most_of
spelled_size [] h = omega arith
spelled_size (f ∷ fs) h = omega (arith, length-append (octets f) (spelled fs), field_size f h.0, spelled_size fs h.1)

body_most : (b : Body) → most_of (fields_of b) ≤ 32825
unfolding most most_of
body_most body.Join = omega arith
body_most (body.ForwardJoin new ttl) = omega arith
body_most (body.Neighbor high) = omega arith
body_most (body.NeighborReply accepted) = omega arith
body_most body.Disconnect = omega arith
body_most (body.Shuffle from ttl ns) = omega arith
body_most (body.ShuffleReply ns) = omega arith
body_most (body.Gossip i r bs) = omega arith
body_most (body.IHave entries) = omega arith
body_most (body.Graft i r) = omega arith
body_most body.Prune = omega arith
body_most body.GraftPeer = omega arith

layout_most : (f : Frame) → most_of (layout f) ≤ MAX_BODY
unfolding most most_of
layout_most f = omega (arith, body_most f.body)

pub layout_size : (f : Frame) → AllByRecursion Holds (layout f) → length (spelled (layout f)) ≤ MAX_BODY
layout_size f h = omega (arith, spelled_size (layout f) h, layout_most f)
