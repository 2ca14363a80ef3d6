-- The faults of a body, among which are no Short and no OutOfMemory.
use Rattle.std.proofs.Common.{◌≡◌, inl, inr, ℕ, zero, suc, ◌+◌, ◌<◌, ◌≤◌, Bool, true, false, cond, List, [], ◌∷◌}
use Rattle.std.proofs.Common.{length, take, drop, Option, Some, None, Result, Ok, Err, refl, sym, subst, ◌∙◌, arith}
use Rattle.std.specs.Prelude.{nat_lt, nat_le, ◌&&◌, ◌||◌, ◌==◌}
use Rattle.std.specs.Int.{Width, w16, w32, w64, byte_len, from_be_bytes}
use Rattle.std.specs.List.{list_all}
use Rattle.std.proofs.lemmas.Bool.{cases_lt}
use Rattle.std.proofs.lemmas.List.{length-drop}
use Rattle.node_names.specs.NodeName.{is_name_byte}
use Rattle.protocol.specs.declared.TheConstants.{MAX_PAYLOAD}
use Rattle.frames.specs.declared.TheConstants.{MAX_BODY, MAX_FRAME, MAX_NAMES, MAX_ANNOUNCEMENTS}
use Rattle.frames.specs.declared.body.BodyOf.TheVariants as body
use Rattle.frames.specs.declared.fault.FrameFault.{FrameFault}
use Rattle.frames.specs.declared.fault.FrameFault.TheVariants.{Short, TooLong, BadVersion, BadKind, BadName, BadField, BadCount, Trailing, OutOfMemory}
use Rattle.frames.specs.declared.body.Kind.{Kind}
use Rattle.frames.specs.declared.body.Kind.TheVariants.{Join, ForwardJoin, Neighbor, NeighborReply, Disconnect}
use Rattle.frames.specs.declared.body.Kind.TheVariants.{Shuffle, ShuffleReply, Gossip, IHave, Graft, Prune, GraftPeer}
use Rattle.frames.specs.Answer.{IsFaultOf}
use Rattle.frames.specs.Frame.{Frame}
use Rattle.frames.specs.Kind.{kind_numbered, of_version}
use Rattle.frames.specs.Reading.{Reader, ◌>>=◌, go_on, done, judge, octets, word, byte, flag, name, number, origin, id, times, names, payload}
use Rattle.frames.specs.Reading.{announcement, announcements, version, known, kind, fields, end, alone, frame, with_length, body_of, read}
use Rattle.frames.proofs.Streams.{read_long, body_long, body_whole, fails, fault_is}

-- the faults that a body may have
abbrev pub IsOfBody : FrameFault → Type 0
IsOfBody Short = ⊥
IsOfBody TooLong = ⊥
IsOfBody BadVersion = Unit {0}
IsOfBody BadKind = Unit {0}
IsOfBody BadName = Unit {0}
IsOfBody BadField = Unit {0}
IsOfBody BadCount = Unit {0}
IsOfBody Trailing = Unit {0}
IsOfBody OutOfMemory = ⊥

-- a reader that has no other faults
abbrev Faults : {X : Type 0} → Reader X → Type 0
Faults r = (bytes : List ℕ) (fault : FrameFault) → r bytes ≡ Err fault → IsOfBody fault

abbrev failed : {X : Type 0} → FrameFault → Result (X × List ℕ) FrameFault
failed fault = Err fault

same : {X : Type 0} (a b : FrameFault) → failed {X = X} a ≡ failed b → a ≡ b
same a b e = cc

go_on_faults : {X Y : Type 0} (q : Result (X × List ℕ) FrameFault) (f : X → Reader Y) (fault : FrameFault) →
    ((e : FrameFault) → q ≡ Err e → IsOfBody e) →
    ((x : X) → Faults (f x)) →
    go_on f q ≡ Err fault →
    IsOfBody fault
go_on_faults (Ok x) f fault h k e = k x.0 x.1 fault e
go_on_faults {Y = Y} (Err d) f fault h k e = subst IsOfBody (same {X = Y} d fault e) (h d refl)

bind_faults : {X Y : Type 0} (r : Reader X) (f : X → Reader Y) → Faults r → ((x : X) → Faults (f x)) → Faults (r >>= f)
bind_faults r f h k bytes fault e = go_on_faults (r bytes) f fault (λ d. h bytes d) k e

done_faults : {X : Type 0} (x : X) → Faults (done x)
done_faults x bytes fault e = absurd cc

judge_faults : (good : Bool) (d : FrameFault) → IsOfBody d → Faults (judge good d)
judge_faults true d h bytes fault e = absurd cc
judge_faults false d h bytes fault e = subst IsOfBody (same {X = Unit {0}} d fault e) h

guarded : {X : Type 0} (b : Bool) (d fault : FrameFault) (x : X × List ℕ) → IsOfBody d → cond b (Err d) (Ok x) ≡ Err fault → IsOfBody fault
guarded {X = X} true d fault x h e = subst IsOfBody (same {X = X} d fault e) h
guarded false d fault x h e = absurd cc

octets_faults : (n : ℕ) → Faults (octets n)
octets_faults n bytes fault e = guarded (nat_lt (length bytes) n) BadField fault (take n bytes, drop n bytes) tt e

word_faults : (w : Width) → Faults (word w)
unfolding word
word_faults w = bind_faults (octets (byte_len w)) (λ bs. done (from_be_bytes w bs)) (octets_faults (byte_len w)) (λ bs. done_faults (from_be_bytes w bs))

byte_faults : Faults byte
unfolding byte
byte_faults [] fault e = subst IsOfBody (same {X = ℕ} BadField fault e) tt
byte_faults (b ∷ bytes) fault e = absurd cc

flag_faults : Faults flag
unfolding flag
flag_faults = bind_faults byte _ byte_faults λ b. bind_faults (judge (nat_le b 1) BadField) _ (judge_faults (nat_le b 1) BadField tt) λ _. done_faults (b == 1)

name_faults : Faults name
unfolding name
name_faults =
    bind_faults byte _ byte_faults λ len.
    bind_faults (judge (nat_le 1 len && nat_le len 32) BadName) _ (judge_faults (nat_le 1 len && nat_le len 32) BadName tt)
    λ _. bind_faults (octets len) _ (octets_faults len) λ letters.
    bind_faults (judge (list_all is_name_byte letters) BadName) _ (judge_faults (list_all is_name_byte letters) BadName tt) λ _. done_faults letters

number_faults : Faults number
unfolding number
number_faults =
    bind_faults (word w64) _ (word_faults w64) λ n. bind_faults (judge (nat_lt 0 n) BadField) _ (judge_faults (nat_lt 0 n) BadField tt) λ _. done_faults n

origin_faults : Faults origin
unfolding origin
origin_faults =
    bind_faults name _ name_faults λ n. bind_faults (word w64) _ (word_faults w64) λ i. done_faults (record { name = n; incarnation = record { 0 = i } })

id_faults : Faults id
unfolding id
id_faults = bind_faults origin _ origin_faults λ o. bind_faults number _ number_faults λ n. done_faults (record { origin = o; seq = n })

times_faults : {X : Type 0} (n : ℕ) (r : Reader X) → Faults r → Faults (times n r)
unfolding times
times_faults zero r h = done_faults []
times_faults (suc n) r h = bind_faults r _ h λ first. bind_faults (times n r) _ (times_faults n r h) λ others. done_faults (first ∷ others)

names_faults : Faults names
unfolding names
names_faults =
    bind_faults byte _ byte_faults λ n. bind_faults (judge (nat_le n MAX_NAMES) BadCount) _
    (judge_faults (nat_le n MAX_NAMES) BadCount tt) λ _. times_faults n name name_faults

payload_faults : Faults payload
unfolding payload
payload_faults =
    bind_faults (word w32) _ (word_faults w32) λ n.
    bind_faults (judge (nat_le n MAX_PAYLOAD) BadField) _ (judge_faults (nat_le n MAX_PAYLOAD) BadField tt) λ _. octets_faults n

announcement_faults : Faults announcement
unfolding announcement
announcement_faults = bind_faults id _ id_faults λ i. bind_faults (word w32) _ (word_faults w32) λ r. done_faults (i, r)

announcements_faults : Faults announcements
unfolding announcements
announcements_faults =
    bind_faults (word w16) _ (word_faults w16) λ n.
    bind_faults (judge (nat_le 1 n && nat_le n MAX_ANNOUNCEMENTS) BadCount) _ (judge_faults (nat_le 1 n && nat_le n MAX_ANNOUNCEMENTS) BadCount tt)
    λ _. times_faults n announcement announcement_faults

version_faults : Faults version
unfolding version
version_faults =
    bind_faults byte _ byte_faults λ v. bind_faults (judge (v == 1 || v == 2) BadVersion) _ (judge_faults (v == 1 || v == 2) BadVersion tt) λ _. done_faults v

known_faults : (o : Option Kind) → Faults (known o)
known_faults (Some k) bytes fault e = done_faults k bytes fault e
known_faults None bytes fault e = subst IsOfBody (same {X = Kind} BadKind fault e) tt

kind_faults : (v : ℕ) → Faults (kind v)
unfolding kind
kind_faults v = bind_faults byte _ byte_faults λ n. known_faults (of_version v (kind_numbered n))

fields_faults : (k : Kind) → Faults (fields k)
unfolding fields
fields_faults Join = done_faults body.Join
fields_faults ForwardJoin = bind_faults name _ name_faults λ n. bind_faults byte _ byte_faults λ t. done_faults (body.ForwardJoin n t)
fields_faults Neighbor = bind_faults flag _ flag_faults λ h. done_faults (body.Neighbor h)
fields_faults NeighborReply = bind_faults flag _ flag_faults λ a. done_faults (body.NeighborReply a)
fields_faults Disconnect = done_faults body.Disconnect
fields_faults Shuffle =
    bind_faults name _ name_faults λ n. bind_faults byte _ byte_faults λ t. bind_faults names _ names_faults λ ns. done_faults (body.Shuffle n t ns)
fields_faults ShuffleReply = bind_faults names _ names_faults λ ns. done_faults (body.ShuffleReply ns)
fields_faults Gossip =
    bind_faults id _ id_faults λ i. bind_faults (word w32) _ (word_faults w32) λ r. bind_faults payload _ payload_faults λ p. done_faults (body.Gossip i r p)
fields_faults IHave = bind_faults announcements _ announcements_faults λ es. done_faults (body.IHave es)
fields_faults Graft = bind_faults id _ id_faults λ i. bind_faults (word w32) _ (word_faults w32) λ r. done_faults (body.Graft i r)
fields_faults Prune = done_faults body.Prune
fields_faults GraftPeer = done_faults body.GraftPeer

end_faults : Faults end
unfolding end
end_faults [] fault e = absurd cc
end_faults (b ∷ bytes) fault e = subst IsOfBody (same {X = Unit {0}} Trailing fault e) tt

alone_faults : {X : Type 0} (r : Reader X) → Faults r → Faults (alone r)
unfolding alone
alone_faults r h = bind_faults r _ h λ x. bind_faults end _ end_faults λ _. done_faults x

frame_faults : Faults frame
unfolding frame
frame_faults =
    bind_faults version _ version_faults λ v. bind_faults (kind v) _ (kind_faults v) λ k.
    bind_faults origin _ origin_faults λ o. bind_faults number _ number_faults
    λ n. bind_faults (alone (fields k)) _ (alone_faults (fields k) (fields_faults k)) λ b. done_faults (record { sender = o; number = n; body = b })

-- ---- fewer bytes than a frame has, where it is not whole

length_faults : (n : ℕ) (r : Result (Frame × List ℕ) FrameFault) → ((e : FrameFault) → r ≡ Err e → IsOfBody e) → with_length n r ≡ Err Short → ⊥
length_faults n (Ok x) h e = absurd cc
length_faults n (Err d) h e = subst IsOfBody (fault_is d Short e) (h d refl)

body_few : (len : ℕ) (after : List ℕ) → body_of len after ≡ Err Short → (length after < len) × (len ≤ MAX_BODY)
body_few len after e =
    elim (cases_lt MAX_BODY len) [
      | inl long ↦ let both : fails TooLong ≡ fails Short = sym (body_long len after long) ∙ e in absurd cc
      | inr few ↦ elim (cases_lt (length after) len) [
        | inl short ↦ (short, few)
        | inr enough ↦
            absurd (length_faults (4 + len) (frame (take len after)) (λ d. frame_faults (take len after) d) (sym (body_whole len after few enough) ∙ e))
      ]
    ]

-- bytes that end before their frame does are fewer than the longest frame has
pub few_left : (bytes : List ℕ) → read bytes ≡ Err Short → length bytes < MAX_FRAME
few_left bytes e =
    elim (cases_lt (length bytes) 4) [
      | inl short ↦ omega arith
      | inr long ↦
          let h = body_few (from_be_bytes w32 (take 4 bytes)) (drop 4 bytes) (sym (read_long bytes long) ∙ e) in
          omega (arith, length-drop 4 bytes, h, long)
    ]

-- a fault that is Short is that of reading
pub short_read : (bytes : List ℕ) → IsFaultOf Short (read bytes) → read bytes ≡ Err Short
short_read bytes (inl e) = e
short_read bytes (inr e) = let apart : Short ≡ OutOfMemory = e.0 in absurd cc
