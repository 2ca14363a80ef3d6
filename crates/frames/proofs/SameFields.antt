-- Bodies are equal where their fields are.
use Rattle.std.proofs.Common.{◌≡◌, ◌∙◌, ℕ, Bool, List, [], ap, refl, sym, true≢false}
use Rattle.std.specs.Prelude.{Option, Some, None, ◌==◌, ◌&&◌, nat_eq, if◌then◌else◌}
use Rattle.std.specs.Bool.{Decides}
use Rattle.std.specs.Cmp.{unsigned_Decides}
use Rattle.std.specs.Cmp.Lexicographic.{pointwise, pointwise_decides}
use Rattle.std.proofs.lemmas.Bool.Decides.{Decides-and, Decides-at, Decides-like}
use Rattle.std.specs.Option.{is_none, option_eq, unwrap_or}
use Rattle.node_names.specs.NodeName.{Name}
use Rattle.node_names.specs.Same.{same_id, same_id-Decides, same_name, same_name-Decides}
use Rattle.node_names.specs.declared.ids.MsgId.{MsgId}
use Rattle.frames.specs.Body.{Body}
use Rattle.frames.specs.declared.body.BodyOf.TheVariants.{Join, ForwardJoin, Neighbor, NeighborReply, Disconnect}
use Rattle.frames.specs.declared.body.BodyOf.TheVariants.{Shuffle, ShuffleReply, Gossip, IHave, Graft, Prune, GraftPeer}
use Rattle.frames.specs.Sameness.{entries_of, flag_of, kind_number, message_of, names_of, payload_of, walk_of}

-- what stands in for a walk or a message that is not there
no_walk : Name × ℕ
no_walk = ([], 0)

no_message : MsgId × ℕ
no_message = (record { origin = record { name = []; incarnation = record { 0 = 0 } }; seq = 0 }, 0)

-- the body of these fields
abbrev body_from : ℕ → Bool → Option (Name × ℕ) → Option (MsgId × ℕ) → List Name → List (MsgId × ℕ) → List ℕ → Body
body_from kind flag walk message names entries payload =
    let w = unwrap_or walk no_walk in
    let m = unwrap_or message no_message in
    if kind == 1 then Join else
    if kind == 2 then ForwardJoin w.0 w.1 else
    if kind == 3 then Neighbor flag else
    if kind == 4 then NeighborReply flag else
    if kind == 5 then Disconnect else
    if kind == 6 then Shuffle w.0 w.1 names else
    if kind == 7 then ShuffleReply names else
    if kind == 8 then Gossip m.0 m.1 payload else
    if kind == 9 then IHave entries else
    if kind == 10 then Graft m.0 m.1 else
    if kind == 11 then Prune else
    GraftPeer

-- a body is that of its fields
restored : (b : Body) → body_from (kind_number b) (flag_of b) (walk_of b) (message_of b) (names_of b) (entries_of b) (payload_of b) ≡ b
restored Join = refl
restored (ForwardJoin new ttl) = refl
restored (Neighbor high) = refl
restored (NeighborReply accepted) = refl
restored Disconnect = refl
restored (Shuffle origin ttl names) = refl
restored (ShuffleReply names) = refl
restored (Gossip id round payload) = refl
restored (IHave entries) = refl
restored (Graft id round) = refl
restored Prune = refl
restored GraftPeer = refl

-- bodies of the same fields are equal
pub same_fields : (a b : Body) →
    kind_number a ≡ kind_number b →
    flag_of a ≡ flag_of b →
    walk_of a ≡ walk_of b →
    message_of a ≡ message_of b →
    names_of a ≡ names_of b →
    entries_of a ≡ entries_of b →
    payload_of a ≡ payload_of b →
    a ≡ b
same_fields a b kind flag walk message names entries payload =
    sym (restored a) ∙ (λ i. body_from (kind i) (flag i) (walk i) (message i) (names i) (entries i) (payload i)) ∙ restored b

-- ---- what `==` computes of a field holds exactly of equal values

options_Decide : {X : Type 0} {E : X → X → Bool} → ((x y : X) → Decides (E x y) (x ≡ y)) → (a b : Option X) → Decides (option_eq E a b) (a ≡ b)
options_Decide each None None = (λ e. refl, λ e. refl)
options_Decide each None (Some y) = (λ e. absurd (true≢false (sym e)), λ e. sym (ap is_none e))
options_Decide each (Some x) None = (λ e. absurd (true≢false (sym e)), λ e. ap is_none e)
options_Decide each (Some x) (Some y) = Decides-like _ (ap Some) (ap (λ o. unwrap_or o x)) (each x y)

walk_Decides : (a b : Name × ℕ) → Decides (same_name a.0 b.0 && nat_eq a.1 b.1) (a ≡ b)
walk_Decides a b =
    Decides-like _ (λ e i. (e.0 i, e.1 i)) (λ e. (ap (λ (x : Name × ℕ). x.0) e, ap (λ (x : Name × ℕ). x.1) e))
    (Decides-and _ _ (same_name-Decides a.0 b.0) (unsigned_Decides a.1 b.1))

entry_Decides : (a b : MsgId × ℕ) → Decides (same_id a.0 b.0 && nat_eq a.1 b.1) (a ≡ b)
entry_Decides a b =
    Decides-like _ (λ e i. (e.0 i, e.1 i)) (λ e. (ap (λ (x : MsgId × ℕ). x.0) e, ap (λ (x : MsgId × ℕ). x.1) e))
    (Decides-and _ _ (same_id-Decides a.0 b.0) (unsigned_Decides a.1 b.1))

pub walks_Decide : (a b : Option (Name × ℕ)) → Decides (option_eq (λ x y. same_name x.0 y.0 && nat_eq x.1 y.1) a b) (a ≡ b)
walks_Decide = options_Decide walk_Decides

pub messages_Decide : (a b : Option (MsgId × ℕ)) → Decides (option_eq (λ x y. same_id x.0 y.0 && nat_eq x.1 y.1) a b) (a ≡ b)
messages_Decide = options_Decide entry_Decides

pub entries_Decide : (a b : List (MsgId × ℕ)) → Decides (pointwise (λ x y. same_id x.0 y.0 && nat_eq x.1 y.1) a b) (a ≡ b)
entries_Decide = pointwise_decides entry_Decides

-- the test of two values decides as much of two that equal them
pub decides_of : {X : Type 0} {r t : Bool} {a b x y : X} → r ≡ t → Decides t (a ≡ b) → a ≡ x → b ≡ y → Decides r (x ≡ y)
decides_of {X} {r} {t} e d p q = Decides-like r (λ h. sym p ∙ h ∙ q) (λ h. p ∙ h ∙ sym q) (Decides-at r t e d)
