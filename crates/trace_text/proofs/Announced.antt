-- A line for each message that a packet is about.
use Rattle.std.proofs.Common.{◌≡◌, ◌∙◌, ◌+◌, ◌<◌, ℕ, List, [], ◌∷◌, ◌++◌, get_or, length, take, true, false, ap, refl, sym, append-nil, if◌then◌else◌}
use Rattle.std.specs.Prelude.{◌≢◌, ◌&&◌, ◌||◌, Bool, not}
use Rattle.std.proofs.lemmas.List.{take_more}
use Rattle.std.proofs.lemmas.List.Folds.{list_any-append}
use Rattle.node_names.specs.Same.{same_id}
use Rattle.node_names.specs.declared.ids.MsgId.{MsgId}
use Rattle.frames.specs.Body.{Body}
use Rattle.frames.specs.Content.{body_content}
use Rattle.frames.specs.declared.body.BodyOf.TheVariants.{Join, ForwardJoin, Neighbor, NeighborReply, Disconnect}
use Rattle.frames.specs.declared.body.BodyOf.TheVariants.{Shuffle, ShuffleReply, Gossip, IHave, Graft, Prune, GraftPeer}
use Rattle.at_rest.specs.Silence.{is_announced, is_silent}

-- ---- announcements, one further

-- a message has the line if it had it or is announced now
lined : (a b : Bool) (text line : List ℕ) →
    (text ++ (if a then line else [])) ++ (if b && not a then line else []) ≡ text ++ (if a || (b || false) then line else [])
lined true true text line = append-nil (text ++ line)
lined true false text line = append-nil (text ++ line)
lined false true text line = ap (λ (t : List ℕ). t ++ line) (append-nil text)
lined false false text line = append-nil (text ++ [])

-- the same of the messages up to the next announcement
pub announced-more : (q : MsgId) (entries : List (MsgId × ℕ)) (i : ℕ) (d : MsgId × ℕ) (old now next line : List ℕ) →
    i < length entries →
    now ≡ old ++ (if is_announced q (take i entries) then line else []) →
    next ≡ now ++ (if same_id q (get_or entries i d).0 && not (is_announced q (take i entries)) then line else []) →
    next ≡ old ++ (if is_announced q (take (i + 1) entries) then line else [])
announced-more q entries i d old now next line within before after =
    let all : is_announced q (take (i + 1) entries) ≡ (is_announced q (take i entries) || (same_id q (get_or entries i d).0 || false)) =
    ap (is_announced q) (take_more entries i d within)
    ∙ list_any-append (λ (entry : MsgId × ℕ). same_id q entry.0) (take i entries) (get_or entries i d ∷ []) in
    after
    ∙ ap (λ (t : List ℕ). t ++ (if same_id q (get_or entries i d).0 && not (is_announced q (take i entries)) then line else [])) before
    ∙ lined (is_announced q (take i entries)) (same_id q (get_or entries i d).0) old line
    ∙ ap (λ (b : Bool). old ++ (if b then line else [])) (sym all)

-- ---- the line of a frame, by kind

-- what carries a message is about it alone
pub gossip_line : (q id : MsgId) (round : ℕ) (payload : List ℕ) (body : Body) (text line : List ℕ) →
    body ≡ Gossip id round payload →
    text ++ (if same_id q id then line else []) ≡ text ++ (if is_silent q (body_content body) then [] else line)
unfolding is_silent
gossip_line q id round payload body text line is =
    ap (λ (t : List ℕ). text ++ t) (go (same_id q id)) ∙ ap (λ (b : Body). text ++ (if is_silent q (body_content b) then [] else line)) (sym is)
  where
    go : (b : Bool) → (if b then line else []) ≡ (if not b && true then [] else line)
    go true = refl
    go false = refl

-- what announces messages is about these
pub announced_line : (q : MsgId) (entries : List (MsgId × ℕ)) (body : Body) (text line : List ℕ) →
    body ≡ IHave entries →
    text ++ (if is_announced q entries then line else []) ≡ text ++ (if is_silent q (body_content body) then [] else line)
unfolding is_silent
announced_line q entries body text line is =
    ap (λ (t : List ℕ). text ++ t) (go (is_announced q entries)) ∙ ap (λ (b : Body). text ++ (if is_silent q (body_content b) then [] else line)) (sym is)
  where
    go : (b : Bool) → (if b then line else []) ≡ (if not b && true then [] else line)
    go true = refl
    go false = refl

-- what asks for a message is about it alone
pub asked_line : (q id : MsgId) (round : ℕ) (body : Body) (text line : List ℕ) →
    body ≡ Graft id round →
    text ++ (if same_id q id then line else []) ≡ text ++ (if is_silent q (body_content body) then [] else line)
unfolding is_silent
asked_line q id round body text line is =
    ap (λ (t : List ℕ). text ++ t) (go (same_id q id)) ∙ ap (λ (b : Body). text ++ (if is_silent q (body_content b) then [] else line)) (sym is)
  where
    go : (b : Bool) → (if b then line else []) ≡ (if not b then [] else line)
    go true = refl
    go false = refl

-- and what does none of these is about no message
pub other_line : (q : MsgId) (body : Body) (text line : List ℕ) →
    ((id : MsgId) (round : ℕ) (payload : List ℕ) → body ≢ Gossip id round payload) →
    ((entries : List (MsgId × ℕ)) → body ≢ IHave entries) →
    ((id : MsgId) (round : ℕ) → body ≢ Graft id round) →
    text ≡ text ++ (if is_silent q (body_content body) then [] else line)
unfolding is_silent
other_line q Join text line carries announces asks = sym (append-nil text)
other_line q (ForwardJoin new ttl) text line carries announces asks = sym (append-nil text)
other_line q (Neighbor high) text line carries announces asks = sym (append-nil text)
other_line q (NeighborReply accepted) text line carries announces asks = sym (append-nil text)
other_line q Disconnect text line carries announces asks = sym (append-nil text)
other_line q (Shuffle origin ttl names) text line carries announces asks = sym (append-nil text)
other_line q (ShuffleReply names) text line carries announces asks = sym (append-nil text)
other_line q (Gossip id round payload) text line carries announces asks = absurd (carries id round payload refl)
other_line q (IHave entries) text line carries announces asks = absurd (announces entries refl)
other_line q (Graft id round) text line carries announces asks = absurd (asks id round refl)
other_line q Prune text line carries announces asks = sym (append-nil text)
other_line q GraftPeer text line carries announces asks = sym (append-nil text)
