-- Sums over nodes and packets, as an event changes them.
use Rattle.std.proofs.Common.{◌≡◌, ◌∙◌, ◌+◌, ◌≤◌, ℕ, suc, List, [], ◌∷◌, ◌++◌, length, true, false, sym, ap, refl, subst, inl, inr, arith}
use Rattle.std.specs.Prelude.{Bool, Option, Some, None, cond, count_by, not, slice_get}
use Rattle.std.specs.List.{sum_by}
use Rattle.std.proofs.lemmas.Bool.{false≢true}
use Rattle.std.proofs.lemmas.List.Sums.{sum_by-cons}
use Rattle.node_names.specs.NodeName.{Name}
use Rattle.node_names.specs.Same.{same_name}
use Rattle.node_names.specs.declared.ids.MsgId.{MsgId}
use Rattle.node_names.specs.declared.ids.Origin.{Origin}
use Rattle.protocol.specs.CoreState.{CoreState}
use Rattle.protocol.specs.Lists.{IsOneOf}
use Rattle.world.specs.Entry.{Entry}
use Rattle.world.specs.Event.{Event}
use Rattle.world.specs.Group.{node_of, packets, put_node}
use Rattle.world.specs.History.{Said, Says, broadcasts_of}
use Rattle.world.specs.declared.event.EventOf.TheVariants.{Start, Broadcast, Arrive, Lose, Again, Fire, Flush, Down, Shuffle, Join, Stop}
use Rattle.world.specs.declared.node_state.NodeState.{NodeState}
use Rattle.world.specs.declared.packet.Packet.{Packet}
use Rattle.world.proofs.Weights.{flying_weight, sum_packets, weight_of}
use Rattle.frames.specs.Body.{Body}
use Rattle.frames.specs.Frame.{Frame}
use Rattle.node_core.specs.Steps.{numbered}
use Rattle.at_rest.specs.Load.{body_load, lacked, packet_load, said_by, said_ids, said_under}
use Rattle.at_rest.proofs.Batched.{sends_load}

-- what is the same for each is the same for all
pub same_sums : {X : Type 0} (f g : X → ℕ) (xs : List X) → ((x : X) → f x ≡ g x) → sum_by f xs ≡ sum_by g xs
same_sums f g [] same = refl
same_sums f g (x ∷ xs) same = sum_by-cons f x xs ∙ (λ i. same x i + same_sums f g xs same i) ∙ sym (sum_by-cons g x xs)

pub same_counts : {X : Type 0} (p q : X → Bool) (xs : List X) → ((x : X) → p x ≡ q x) → count_by p xs ≡ count_by q xs
same_counts p q xs same = same_sums (λ x. cond {A = ℕ} (p x) 1 0) (λ x. cond {A = ℕ} (q x) 1 0) xs (λ x. ap (λ b. cond {A = ℕ} b 1 0) (same x))

-- if each passes, all are counted
pub all_counted : {X : Type 0} (p : X → Bool) (xs : List X) → ((x : X) → IsOneOf x xs → p x ≡ true) → count_by p xs ≡ length xs
all_counted p [] all = refl
all_counted p (x ∷ xs) all =
    let whole : count_by p (x ∷ xs) ≡ cond {A = ℕ} (p x) 1 0 + count_by p xs = sum_by-cons (λ y. cond {A = ℕ} (p y) 1 0) x xs in
    let here : cond {A = ℕ} (p x) 1 0 ≡ 1 = ap (λ b. cond {A = ℕ} b 1 0) (all x (inl refl)) in
    let later : count_by p xs ≡ length xs = all_counted p xs (λ y one. all y (inr one)) in
    let same : count_by p (x ∷ xs) ≡ length (x ∷ xs) = omega arith in
    same

-- a node in the place of another of its name
pub put_sum : {C : Type 0} (f : NodeState C → ℕ) (node found : NodeState C) (nodes : List (NodeState C)) →
    node_of node.name nodes ≡ Some found →
    sum_by f (put_node node nodes) + f found ≡ sum_by f nodes + f node
put_sum f node found [] at = let no : None ≡ Some found = at in cc
put_sum {C} f node found (other ∷ others) at = go (same_name node.name other.name) at (put_sum f node found others)
  where
    go : (b : Bool) →
        cond b (Some other) (node_of node.name others) ≡ Some found →
        (node_of node.name others ≡ Some found → sum_by f (put_node node others) + f found ≡ sum_by f others + f node) →
        sum_by f (cond b (node ∷ others) (other ∷ put_node node others)) + f found ≡ sum_by f (other ∷ others) + f node
    go true is later =
        let same : Some other ≡ Some found = is in
        let this : other ≡ found = cc in
        let weighs : f other ≡ f found = ap f this in
        let new : sum_by f (node ∷ others) ≡ f node + sum_by f others = sum_by-cons f node others in
        let old : sum_by f (other ∷ others) ≡ f other + sum_by f others = sum_by-cons f other others in
        let all : sum_by f (node ∷ others) + f found ≡ sum_by f (other ∷ others) + f node = omega arith in
        all
    go false is later =
        let new : sum_by f (other ∷ put_node node others) ≡ f other + sum_by f (put_node node others) = sum_by-cons f other (put_node node others) in
        let old : sum_by f (other ∷ others) ≡ f other + sum_by f others = sum_by-cons f other others in
        let rest : sum_by f (put_node node others) + f found ≡ sum_by f others + f node = later is in
        let all : sum_by f (other ∷ put_node node others) + f found ≡ sum_by f (other ∷ others) + f node = omega arith in
        all

-- ---- packets

-- the load of a packet
abbrev pub weight : Packet Frame → ℕ
weight packet = body_load packet.note.body

-- the load of what is in flight, as a weight
pub flying_is : (sent : List (Packet Frame)) (flight : List ℕ) →
    sum_by (λ number. packet_load (slice_get sent number)) flight ≡ flying_weight weight sent flight
flying_is sent flight =
    same_sums (λ number. packet_load (slice_get sent number))
    (λ number. weight_of weight (slice_get sent number)) flight (λ number. one (slice_get sent number))
  where
    one : (o : Option (Packet Frame)) → packet_load o ≡ weight_of weight o
    one None = refl
    one (Some packet) = refl

-- the load of what a step sends
pub sent_is : (me : Origin) (framed : ℕ) (bodies : List (Name × Body)) (sender : Origin) →
    sum_by weight (packets sender (numbered me framed bodies)) ≡ sends_load bodies
sent_is me framed bodies sender = sum_packets weight sender (numbered me framed bodies) ∙ go framed bodies
  where
    go : (n : ℕ) (sends : List (Name × Body)) → sum_by (λ (send : Name × Frame). body_load send.1.body) (numbered me n sends) ≡ sends_load sends
    go n [] = refl
    go n (send ∷ sends) =
        sum_by-cons (λ (s : Name × Frame). body_load s.1.body) (send.0, record { sender = me; number = n + 1; body = send.1 }) (numbered me (n + 1) sends)
        ∙ ap (λ k. body_load send.1 + k) (go (n + 1) sends)
        ∙ sym (sum_by-cons (λ (s : Name × Body). body_load s.1) send sends)

-- ---- what is lacked

-- a core that has more messages lacks no more
pub lacks_less : (said : List MsgId) (old new : CoreState) → ((id : MsgId) → old.has id ≡ true → new.has id ≡ true) → lacked said new ≤ lacked said old
lacks_less [] old new keeps = omega arith
lacks_less (id ∷ said) old new keeps = go (old.has id) (new.has id) refl refl (lacks_less said old new keeps)
  where
    go : (a b : Bool) → old.has id ≡ a → new.has id ≡ b → lacked said new ≤ lacked said old → lacked (id ∷ said) new ≤ lacked (id ∷ said) old
    go a b was is rest =
        let before : lacked (id ∷ said) old ≡ cond {A = ℕ} (not (old.has id)) 1 0 + lacked said old =
        sum_by-cons (λ i. cond {A = ℕ} (not (old.has i)) 1 0) id said in
        let after : lacked (id ∷ said) new ≡ cond {A = ℕ} (not (new.has id)) 1 0 + lacked said new =
        sum_by-cons (λ i. cond {A = ℕ} (not (new.has i)) 1 0) id said in
        let here : cond {A = ℕ} (not (new.has id)) 1 0 ≤ cond {A = ℕ} (not (old.has id)) 1 0 = one a b was is in
        omega arith
      where
        one : (c d : Bool) → old.has id ≡ c → new.has id ≡ d → cond {A = ℕ} (not (new.has id)) 1 0 ≤ cond {A = ℕ} (not (old.has id)) 1 0
        one c true was is = let none : cond {A = ℕ} (not (new.has id)) 1 0 ≡ 0 = ap (λ x. cond {A = ℕ} (not x) 1 0) is in omega arith
        one false false was is =
            let none : cond {A = ℕ} (not (old.has id)) 1 0 ≡ 1 = ap (λ x. cond {A = ℕ} (not x) 1 0) was in
            let some : cond {A = ℕ} (not (new.has id)) 1 0 ≡ 1 = ap (λ x. cond {A = ℕ} (not x) 1 0) is in omega arith
        one true false was is = absurd (false≢true (sym is ∙ keeps id was))

-- and one less if it got one that it lacked
pub lacks_one_less : (said : List MsgId) (old new : CoreState) (id : MsgId) →
    ((i : MsgId) → old.has i ≡ true → new.has i ≡ true) →
    IsOneOf id said →
    old.has id ≡ false →
    new.has id ≡ true →
    suc (lacked said new) ≤ lacked said old
lacks_one_less [] old new id keeps one was is = absurd one
lacks_one_less (first ∷ said) old new id keeps one was is =
    let before : lacked (first ∷ said) old ≡ cond {A = ℕ} (not (old.has first)) 1 0 + lacked said old =
    sum_by-cons (λ i. cond {A = ℕ} (not (old.has i)) 1 0) first said in
    let after : lacked (first ∷ said) new ≡ cond {A = ℕ} (not (new.has first)) 1 0 + lacked said new =
    sum_by-cons (λ i. cond {A = ℕ} (not (new.has i)) 1 0) first said in
    elim one [
      | inl here ↦ (
          let lacked_it : cond {A = ℕ} (not (old.has first)) 1 0 ≡ 1 = ap (λ x. cond {A = ℕ} (not x) 1 0) (ap old.has (sym here) ∙ was) in
          let has_it : cond {A = ℕ} (not (new.has first)) 1 0 ≡ 0 = ap (λ x. cond {A = ℕ} (not x) 1 0) (ap new.has (sym here) ∙ is) in
          let rest : lacked said new ≤ lacked said old = lacks_less said old new keeps in
          omega arith)
      | inr later ↦ (
          let rest : suc (lacked said new) ≤ lacked said old = lacks_one_less said old new id keeps later was is in
          let first_one : lacked (first ∷ []) new ≤ lacked (first ∷ []) old = lacks_less (first ∷ []) old new keeps in
          let b : lacked (first ∷ []) old ≡ cond {A = ℕ} (not (old.has first)) 1 0 + lacked [] old =
          sum_by-cons (λ i. cond {A = ℕ} (not (old.has i)) 1 0) first [] in
          let a : lacked (first ∷ []) new ≡ cond {A = ℕ} (not (new.has first)) 1 0 + lacked [] new =
          sum_by-cons (λ i. cond {A = ℕ} (not (new.has i)) 1 0) first [] in
          let none_old : lacked [] old ≡ 0 = refl in
          let none_new : lacked [] new ≡ 0 = refl in
          omega arith)
    ]

-- ---- what was said

one-left : {X : Type 0} (xs ys : List X) (x : X) → IsOneOf x xs → IsOneOf x (xs ++ ys)
one-left [] ys x one = absurd one
one-left (y ∷ xs) ys x one = elim one [ inl here ↦ inl here | inr later ↦ inr (one-left xs ys x later) ]

one-right : {X : Type 0} (xs ys : List X) (x : X) → IsOneOf x ys → IsOneOf x (xs ++ ys)
one-right [] ys x one = one
one-right (y ∷ xs) ys x one = inr (one-right xs ys x one)

-- what an event says is what it says by the list
says_by : (event : Event) (past : List Entry) (id : MsgId) (p : List ℕ) → Says event past id p → IsOneOf id (said_by event past)
says_by (Broadcast name payload) past id p says =
    subst (λ o. IsOneOf id (said_under name (broadcasts_of name past) o)) (sym says.1)
    (inl (λ i. record { origin = record { name = says.0 i; incarnation = id.origin.incarnation }; seq = next i }))
  where
    next : id.seq ≡ broadcasts_of name past + 1
    next = let one : suc (broadcasts_of name past) ≡ broadcasts_of name past + 1 = omega arith in says.2 ∙ one
says_by (Start name incarnation peers contact) past id p says = absurd says
says_by (Arrive place dice) past id p says = absurd says
says_by (Lose place) past id p says = absurd says
says_by (Again number) past id p says = absurd says
says_by (Fire name fired) past id p says = absurd says
says_by (Flush name) past id p says = absurd says
says_by (Down name peer dice) past id p says = absurd says
says_by (Shuffle name dice) past id p says = absurd says
says_by (Join name contact) past id p says = absurd says
says_by (Stop name) past id p says = absurd says

-- so what was said is one of the list
pub said_one : (history : List Entry) (id : MsgId) (p : List ℕ) → Said history id p → IsOneOf id (said_ids history)
said_one [] id p said = absurd said
said_one (entry ∷ past) id p said =
    elim said [
      | inl now ↦ one-left (said_by entry.event past) (said_ids past) id (says_by entry.event past id p now)
      | inr before ↦ one-right (said_by entry.event past) (said_ids past) id (said_one past id p before)
    ]
