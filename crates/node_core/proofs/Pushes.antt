-- The packets by which a message goes on, member by member.
use Rattle.std.specs.Prelude.{◌≡◌, ◌+◌, ◌<◌, ◌&&◌, ℕ, Bool, true, false, not, cond, List, [], ◌∷◌, ◌++◌, Option, drop, filter, length, map, refl, take}
use Rattle.std.proofs.Common.{◌∙◌, ap, append-nil, append_assoc, get_or, sym}
use Rattle.std.proofs.lemmas.List.{take-append-drop, take_more}
use Rattle.node_names.specs.NodeName.{Name}
use Rattle.node_names.specs.Same.{is_left_out}
use Rattle.node_names.specs.declared.ids.MsgId.{MsgId}
use Rattle.frames.specs.Body.{Body}
use Rattle.peer_sets.specs.Members.{eager_but, is_eager_kind, names}
use Rattle.peer_sets.specs.declared.members.PeerKind.{PeerKind}
use Rattle.gossip_core.specs.Table.{gossip_to}

module _ (id : MsgId) (round : ℕ) (payload : List ℕ) (left_out : Option Name) where
  -- whether the message goes on to the member
  abbrev goes_to : Name × PeerKind → Bool
  goes_to m = is_eager_kind m.1 && not (is_left_out left_out m.0)

  -- the packets to these members
  abbrev packets : List (Name × PeerKind) → List (Name × Body)
  packets members = map (gossip_to id round payload) (eager_but left_out members)

  packets-append : (some more : List (Name × PeerKind)) → packets (some ++ more) ≡ packets some ++ packets more
  packets-append [] more = refl
  packets-append (m ∷ some) more = go (goes_to m) (packets-append some more)
    where
      go : (b : Bool) →
          packets (some ++ more) ≡ packets some ++ packets more →
          map (gossip_to id round payload) (names (cond b (m ∷ filter goes_to (some ++ more)) (filter goes_to (some ++ more))))
          ≡ map (gossip_to id round payload) (names (cond b (m ∷ filter goes_to some) (filter goes_to some))) ++ packets more
      go true same = ap (λ rest. gossip_to id round payload m.0 ∷ rest) same
      go false same = same

  first : (members : List (Name × PeerKind)) (i : ℕ) (m : Name × PeerKind) →
      i < length members →
      m ≡ get_or members i m →
      packets (take (i + 1) members) ≡ packets (take i members) ++ packets (m ∷ [])
  first members i m within is =
      ap packets (take_more members i m within ∙ ap (λ x. take i members ++ x ∷ []) (sym is)) ∙ packets-append (take i members) (m ∷ [])

  -- one packet more, to a member that gets the message
  pub one_more : (members : List (Name × PeerKind)) (i : ℕ) (m : Name × PeerKind) →
      i < length members →
      m ≡ get_or members i m →
      goes_to m ≡ true →
      packets (take (i + 1) members) ≡ packets (take i members) ++ gossip_to id round payload m.0 ∷ []
  one_more members i m within is goes =
      first members i m within is
      ∙ ap (λ b. packets (take i members) ++ map (gossip_to id round payload) (names (cond b (m ∷ []) []))) goes

  -- and none to a member that does not
  pub no_more : (members : List (Name × PeerKind)) (i : ℕ) (m : Name × PeerKind) →
      i < length members →
      m ≡ get_or members i m →
      goes_to m ≡ false →
      packets (take (i + 1) members) ≡ packets (take i members)
  no_more members i m within is stays =
      first members i m within is
      ∙ ap (λ b. packets (take i members) ++ map (gossip_to id round payload) (names (cond b (m ∷ []) []))) stays
      ∙ append-nil (packets (take i members))

  -- all packets, around the one to this member
  pub around : (members : List (Name × PeerKind)) (i : ℕ) (m : Name × PeerKind) →
      i < length members →
      m ≡ get_or members i m →
      goes_to m ≡ true →
      packets (take i members) ++ gossip_to id round payload m.0 ∷ packets (drop (i + 1) members) ≡ packets members
  around members i m within is goes =
      sym (append_assoc (packets (take i members)) (gossip_to id round payload m.0 ∷ []) (packets (drop (i + 1) members)))
      ∙ ap (λ front. front ++ packets (drop (i + 1) members)) (sym (one_more members i m within is goes))
      ∙ sym (packets-append (take (i + 1) members) (drop (i + 1) members))
      ∙ ap packets (take-append-drop (i + 1) members)
