-- How what waits is cut into packets.
use Rattle.std.proofs.Common.{◌≡◌, ◌∙◌, ◌+◌, ◌-◌, ◌/◌, ◌<◌, ℕ, suc, List, [], ◌∷◌, ◌++◌, length, take, drop}
use Rattle.std.proofs.Common.{map, sym, ap, refl, arith, length-drop, append-nil, append_assoc, min, get_or}
use Rattle.std.specs.List.{flat_map}
use Rattle.std.proofs.lemmas.Grind.{flat_map-append}
use Rattle.std.proofs.lemmas.List.{drop_min, take_min, take_more}
use Rattle.node_names.specs.NodeName.{Name}
use Rattle.node_names.specs.declared.ids.MsgId.{MsgId}
use Rattle.frames.specs.Body.{Body}
use Rattle.frames.specs.declared.TheConstants.{MAX_ANNOUNCEMENTS}
use Rattle.frames.specs.declared.body.BodyOf.TheVariants.{IHave}
use Rattle.gossip_core.specs.Announcements.{frames_of, in_frames, packets_to}

-- one frame is filled, and the others take the rest
pub in_frames-step : (entries : List (MsgId × ℕ)) →
    0 < length entries →
    in_frames entries ≡ take MAX_ANNOUNCEMENTS entries ∷ in_frames (drop MAX_ANNOUNCEMENTS entries)
in_frames-step entries more = ap (λ n. frames_of n entries) count
  where
    count : (length entries + (MAX_ANNOUNCEMENTS - 1)) / MAX_ANNOUNCEMENTS
        ≡ suc ((length (drop MAX_ANNOUNCEMENTS entries) + (MAX_ANNOUNCEMENTS - 1)) / MAX_ANNOUNCEMENTS)
    count = omega (arith, more, length-drop MAX_ANNOUNCEMENTS entries)

-- so the first packet takes as much, and the others announce the rest
pub packets_to-step : (peer : Name) (entries : List (MsgId × ℕ)) →
    0 < length entries →
    packets_to (peer, entries) ≡ (peer, IHave (take MAX_ANNOUNCEMENTS entries)) ∷ packets_to (peer, drop MAX_ANNOUNCEMENTS entries)
packets_to-step peer entries more = ap (map (λ es. (peer, IHave es))) (in_frames-step entries more)

pub some_left : {X : Type 0} (xs : List X) → (xs ≡ [] → ⊥) → 0 < length xs
some_left [] none = absurd (none refl)
some_left (x ∷ xs) none = omega arith

-- one more packet is there
pub pushed : (peer : Name) (packets now all : List (Name × Body)) (packet : Name × Body) (rest front back : List (MsgId × ℕ)) (n : ℕ) →
    (rest ≡ [] → ⊥) →
    now ≡ packets ++ packet ∷ [] →
    packet ≡ (peer, IHave front) →
    n ≡ min MAX_ANNOUNCEMENTS (length rest) →
    front ≡ take n rest →
    back ≡ drop n rest →
    packets ++ packets_to (peer, rest) ≡ all →
    now ++ packets_to (peer, back) ≡ all
pushed peer packets now all packet rest front back n left is_now is_packet is_n is_front is_back sofar =
    ap (λ ps. ps ++ packets_to (peer, back)) is_now
    ∙ append_assoc packets (packet ∷ []) (packets_to (peer, back))
    ∙ ap (λ p. packets ++ p ∷ packets_to (peer, back))
    (is_packet ∙ ap (λ es. (peer, IHave es)) (is_front ∙ ap (λ m. take m rest) is_n ∙ take_min MAX_ANNOUNCEMENTS rest))
    ∙ ap (λ es. packets ++ (peer, IHave (take MAX_ANNOUNCEMENTS rest)) ∷ packets_to (peer, es))
    (is_back ∙ ap (λ m. drop m rest) is_n ∙ drop_min MAX_ANNOUNCEMENTS rest)
    ∙ ap (λ ps. packets ++ ps) (sym (packets_to-step peer rest (some_left rest left)))
    ∙ sofar

-- the packets of one more batch
pub flat_map-take : {X Y : Type 0} (f : X → List Y) (xs : List X) (i : ℕ) (d : X) →
    i < length xs →
    flat_map f (take (i + 1) xs) ≡ flat_map f (take i xs) ++ f (get_or xs i d)
flat_map-take f xs i d within =
    ap (flat_map f) (take_more xs i d within)
    ∙ flat_map-append f (take i xs) (get_or xs i d ∷ [])
    ∙ ap (λ ys. flat_map f (take i xs) ++ ys) (append-nil (f (get_or xs i d)))
