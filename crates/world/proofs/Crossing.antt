-- What one step adds to the traffic of a message between two nodes.
use Rattle.std.proofs.Common.{◌≡◌, ◌∙◌, ◌+◌, ◌≤◌, ℕ, zero, suc, List, [], ◌∷◌, true, false, sym, ap, refl, subst, inl, inr, arith}
use Rattle.std.specs.List.{AllByRecursion as Each, sum_by}
use Rattle.std.specs.Prelude.{◌⊎◌, ◌&&◌, Bool, IsSome, Some, None, cond, count_by}
use Rattle.std.proofs.lemmas.Bool.{false≢true}
use Rattle.std.proofs.lemmas.List.Sums.{sum_by-append, sum_by-cons}
use Rattle.node_names.specs.NodeName.{Name}
use Rattle.node_names.specs.Limits.{Limits}
use Rattle.node_names.specs.Same.{has_name, same_id, same_id-Decides, same_name, same_name-Decides}
use Rattle.node_names.specs.declared.ids.MsgId.{MsgId}
use Rattle.node_names.specs.declared.ids.Origin.{Origin}
use Rattle.protocol.specs.AskLaw.{AsksFirst, AsksNothing, Fires}
use Rattle.protocol.specs.Content.{Content}
use Rattle.protocol.specs.CoreState.{CoreState}
use Rattle.protocol.specs.Delivery.{Delivery}
use Rattle.protocol.specs.DeliveryLaw.{Delivers, ids}
use Rattle.protocol.specs.impl_proofs.NameLists.{and_left, and_right}
use Rattle.protocol.specs.HoldLaw.{IsAskedBy}
use Rattle.protocol.specs.Laws.{IsSilent, StateLaws, StepLaws}
use Rattle.protocol.specs.Lists.{IsOneOf}
use Rattle.protocol.specs.QueueLaw.{AnnouncesNothing, FlushesQueue}
use Rattle.protocol.specs.SpreadLaw.{GetsShare, entries_queued, is_carried, is_from, packets_carrying}
use Rattle.protocol.specs.Stimulus.{Stimulus}
use Rattle.protocol.specs.WantLaw.{Announces, IsWanted, entries_wanted}
use Rattle.protocol.specs.declared.stimulus.StimulusOf.TheVariants.{Broadcast, Arrive, Fire, Flush, Down, Shuffle, Join}
use Rattle.world.specs.Group.{packets}
use Rattle.world.specs.Traffic.{entries_announced, goes, is_asked}
use Rattle.world.specs.declared.packet.Packet.{Packet}
use Rattle.world.proofs.Carrying.{carrying_one, each_id, queued_one}
use Rattle.world.proofs.FindLemmas.{name_is}
use Rattle.world.proofs.Flying.{counts_one, each_one, one_counted}
use Rattle.world.proofs.Rounds.{announced_queued, announced_to}
use Rattle.world.proofs.Weights.{arriving, sum_none, sum_packets}

-- ---- what a packet counts for

-- 1 if the packet goes from the one name to the other and carries the message
abbrev pub copy_weight : {N : Type 0} → (N → Content) → MsgId → Name → Name → Packet N → ℕ
copy_weight content id from to packet = cond {A = ℕ} (goes from to packet && is_carried id (content packet.note).carried) 1 0

-- how many of its entries announce the message, if it goes from the one name to the other
abbrev pub announcement_weight : {N : Type 0} → (N → Content) → MsgId → Name → Name → Packet N → ℕ
announcement_weight content id from to packet = cond {A = ℕ} (goes from to packet) (entries_announced id (content packet.note).announced) 0

-- 1 if it goes from the one name to the other and asks for the message
abbrev pub request_weight : {N : Type 0} → (N → Content) → MsgId → Name → Name → Packet N → ℕ
request_weight content id from to packet = cond {A = ℕ} (goes from to packet && is_asked id (content packet.note).asked) 1 0

-- how many sends to the name ask for the message
abbrev pub asked_of : {N : Type 0} → (N → Content) → MsgId → Name → List (Name × N) → ℕ
asked_of {N} content id to sends = count_by (λ (send : Name × N). same_name to send.0 && is_asked id (content send.1).asked) sends

-- what the sender sends counts for it
pub copies_from : {N : Type 0} (content : N → Content) (id : MsgId) (from to : Name) (sender : Origin) (sends : List (Name × N)) →
    same_name from sender.name ≡ true →
    sum_by (copy_weight content id from to) (packets sender sends) ≡ packets_carrying content id to sends
copies_from {N} content id from to sender sends is =
    sum_packets (copy_weight content id from to) sender sends
    ∙ ap (λ b. sum_by (λ (send : Name × N). cond {A = ℕ} ((b && same_name to send.0) && is_carried id (content send.1).carried) 1 0) sends) is

pub announcements_from : {N : Type 0} (content : N → Content) (id : MsgId) (from to : Name) (sender : Origin) (sends : List (Name × N)) →
    same_name from sender.name ≡ true →
    sum_by (announcement_weight content id from to) (packets sender sends) ≡ announced_to content id to sends
announcements_from {N} content id from to sender sends is =
    sum_packets (announcement_weight content id from to) sender sends
    ∙ ap (λ b. sum_by (λ (send : Name × N). cond {A = ℕ} (b && same_name to send.0) (entries_announced id (content send.1).announced) 0) sends) is

pub requests_from : {N : Type 0} (content : N → Content) (id : MsgId) (from to : Name) (sender : Origin) (sends : List (Name × N)) →
    same_name from sender.name ≡ true →
    sum_by (request_weight content id from to) (packets sender sends) ≡ asked_of content id to sends
requests_from {N} content id from to sender sends is =
    sum_packets (request_weight content id from to) sender sends
    ∙ ap (λ b. sum_by (λ (send : Name × N). cond {A = ℕ} ((b && same_name to send.0) && is_asked id (content send.1).asked) 1 0) sends) is

-- and for nobody else
pub copies_not_from : {N : Type 0} (content : N → Content) (id : MsgId) (from to : Name) (sender : Origin) (sends : List (Name × N)) →
    same_name from sender.name ≡ false →
    sum_by (copy_weight content id from to) (packets sender sends) ≡ 0
copies_not_from {N} content id from to sender sends apart =
    sum_packets (copy_weight content id from to) sender sends
    ∙ ap (λ b. sum_by (λ (send : Name × N). cond {A = ℕ} ((b && same_name to send.0) && is_carried id (content send.1).carried) 1 0) sends) apart
    ∙ sum_none sends

pub announcements_not_from : {N : Type 0} (content : N → Content) (id : MsgId) (from to : Name) (sender : Origin) (sends : List (Name × N)) →
    same_name from sender.name ≡ false →
    sum_by (announcement_weight content id from to) (packets sender sends) ≡ 0
announcements_not_from {N} content id from to sender sends apart =
    sum_packets (announcement_weight content id from to) sender sends
    ∙ ap (λ b. sum_by (λ (send : Name × N). cond {A = ℕ} (b && same_name to send.0) (entries_announced id (content send.1).announced) 0) sends) apart
    ∙ sum_none sends

pub requests_not_from : {N : Type 0} (content : N → Content) (id : MsgId) (from to : Name) (sender : Origin) (sends : List (Name × N)) →
    same_name from sender.name ≡ false →
    sum_by (request_weight content id from to) (packets sender sends) ≡ 0
requests_not_from {N} content id from to sender sends apart =
    sum_packets (request_weight content id from to) sender sends
    ∙ ap (λ b. sum_by (λ (send : Name × N). cond {A = ℕ} ((b && same_name to send.0) && is_asked id (content send.1).asked) 1 0) sends) apart
    ∙ sum_none sends

-- where each weighs nothing, all do
all_none : {X : Type 0} (P : X → Type 0) (f : X → ℕ) (xs : List X) → ((x : X) → P x → f x ≡ 0) → Each P xs → sum_by f xs ≡ 0
all_none P f [] none h = refl
all_none P f (x ∷ xs) none h =
    let both : sum_by f (x ∷ xs) ≡ f x + sum_by f xs = sum_by-cons f x xs in
    let here : f x ≡ 0 = none x h.0 in
    let later : sum_by f xs ≡ 0 = all_none P f xs none h.1 in
    let all : sum_by f (x ∷ xs) ≡ 0 = omega arith in
    all

-- what is false together with anything counts for nothing
and_none : (a b : Bool) → b ≡ false → cond {A = ℕ} (a && b) 1 0 ≡ 0
and_none true b none = ap (λ c. cond {A = ℕ} c 1 0) none
and_none false b none = refl

-- silent sends count for nothing
pub silent_copies : {N : Type 0} (content : N → Content) (id : MsgId) (from to : Name) (sender : Origin) (sends : List (Name × N)) →
    Each (λ send. IsSilent (content send.1)) sends →
    sum_by (copy_weight content id from to) (packets sender sends) ≡ 0
silent_copies {N} content id from to sender sends silent =
    sum_packets (copy_weight content id from to) sender sends
    ∙ all_none (λ (send : Name × N). IsSilent (content send.1))
    (λ (send : Name × N). copy_weight content id from to (record { sender = sender; to = send.0; note = send.1 })) sends
    (λ send is. and_none (same_name from sender.name && same_name to send.0) (is_carried id (content send.1).carried) (ap (is_carried id) is.carries_nothing))
    silent

pub silent_announcements : {N : Type 0} (content : N → Content) (id : MsgId) (from to : Name) (sender : Origin) (sends : List (Name × N)) →
    Each (λ send. IsSilent (content send.1)) sends →
    sum_by (announcement_weight content id from to) (packets sender sends) ≡ 0
silent_announcements {N} content id from to sender sends silent =
    sum_packets (announcement_weight content id from to) sender sends
    ∙ all_none (λ (send : Name × N). IsSilent (content send.1))
    (λ (send : Name × N). announcement_weight content id from to (record { sender = sender; to = send.0; note = send.1 })) sends
    (λ send is. none (same_name from sender.name && same_name to send.0)
    (entries_announced id (content send.1).announced) (ap (entries_announced id) is.announces_nothing))
    silent
  where
    none : (a : Bool) (n : ℕ) → n ≡ 0 → cond {A = ℕ} a n 0 ≡ 0
    none true n zero_it = zero_it
    none false n zero_it = refl

pub silent_requests : {N : Type 0} (content : N → Content) (id : MsgId) (from to : Name) (sender : Origin) (sends : List (Name × N)) →
    Each (λ send. IsSilent (content send.1)) sends →
    sum_by (request_weight content id from to) (packets sender sends) ≡ 0
silent_requests {N} content id from to sender sends silent =
    sum_packets (request_weight content id from to) sender sends
    ∙ all_none (λ (send : Name × N). IsSilent (content send.1))
    (λ (send : Name × N). request_weight content id from to (record { sender = sender; to = send.0; note = send.1 })) sends
    (λ send is. and_none (same_name from sender.name && same_name to send.0) (is_asked id (content send.1).asked) (ap (is_asked id) is.asks_nothing)) silent

-- ---- one step

all_true : (a b c : Bool) → a ≡ true → b ≡ true → c ≡ true → cond {A = ℕ} ((a && b) && c) 1 0 ≡ 1
all_true true true true x y z = refl
all_true false b c x y z = absurd (false≢true x)
all_true true false c x y z = absurd (false≢true y)
all_true true true false x y z = absurd (false≢true z)

both_true : (a b : Bool) → a ≡ true → b ≡ true → (a && b) ≡ true
both_true true true x y = refl
both_true false b x y = absurd (false≢true x)
both_true true false x y = absurd (false≢true y)

swapped : (a b : Bool) → cond {A = ℕ} (a && b) 1 0 ≡ cond {A = ℕ} (b && a) 1 0
swapped true true = refl
swapped true false = refl
swapped false true = refl
swapped false false = refl

-- where an entry is counted, it is wanted
wanted_one : (core : CoreState) (id : MsgId) (name : Name) → 1 ≤ entries_wanted id name core.wants → IsWanted core id name
wanted_one core id name some =
    let found = one_counted (λ (entry : MsgId × Name × ℕ). same_id id entry.0 && same_name name entry.1) core.wants some in
    let of : id ≡ found.0.0 = (same_id-Decides id found.0.0).0 (and_left (same_id id found.0.0) (same_name name found.0.1) found.2) in
    let by : name ≡ found.0.1 = (same_name-Decides name found.0.1).0 (and_right (same_id id found.0.0) (same_name name found.0.1) found.2) in
    (found.0.2, subst (λ i. IsOneOf (i, name, found.0.2) core.wants) (sym of) (subst (λ n. IsOneOf (found.0.0, n, found.0.2) core.wants) (sym by) found.1))

-- a core that lacks the message has not queued it
pub lacks_queues : {limits : Limits} (core : CoreState) (id : MsgId) (name : Name) →
    StateLaws limits core →
    core.has id ≡ false →
    entries_queued id name core.queued ≡ 0
lacks_queues core id name laws lacks = go (entries_queued id name core.queued) refl
  where
    go : (n : ℕ) → entries_queued id name core.queued ≡ n → n ≡ 0
    go zero is = refl
    go (suc n) is =
        let some : 1 ≤ entries_queued id name core.queued = omega arith in
        let found = queued_one core id name some in
        absurd (false≢true (sym lacks ∙ each_one (λ (e : Name × MsgId × ℕ). core.has e.1 ≡ true) core.queued (name, id, found.0) laws.queue.of_had found.1))

-- sends that announce nothing count for nothing
announces_none : {N : Type 0} (content : N → Content) (id : MsgId) (to : Name) (sends : List (Name × N)) →
    AnnouncesNothing content sends →
    announced_to content id to sends ≡ 0
announces_none {N} content id to sends none =
    all_none (λ (send : Name × N). (content send.1).announced ≡ [])
    (λ (send : Name × N). cond {A = ℕ} (same_name to send.0) (entries_announced id (content send.1).announced) 0) sends
    (λ send is. go (same_name to send.0) (entries_announced id (content send.1).announced) (ap (entries_announced id) is)) none
  where
    go : (a : Bool) (n : ℕ) → n ≡ 0 → cond {A = ℕ} a n 0 ≡ 0
    go true n nothing = nothing
    go false n nothing = refl

-- and so do sends that ask for nothing
asks_none : {N : Type 0} (content : N → Content) (id : MsgId) (to : Name) (sends : List (Name × N)) →
    AsksNothing content sends →
    asked_of content id to sends ≡ 0
asks_none {N} content id to sends none =
    all_none (λ (send : Name × N). (content send.1).asked ≡ None)
    (λ (send : Name × N). cond {A = ℕ} (same_name to send.0 && is_asked id (content send.1).asked) 1 0) sends
    (λ send is. and_none (same_name to send.0) (is_asked id (content send.1).asked) (ap (is_asked id) is)) none

module _
    {N : Type 0}
    (content : N → Content)
    (limits : Limits)
    (old new : CoreState)
    (name : Name)
    (by : Stimulus N)
    (sends : List (Name × N))
    (given : List Delivery)
    (lawful : StepLaws content old by sends given new)
    (sound : StateLaws limits new)
    (id : MsgId)
    (peer : Name)
  where
    -- what is delivered was lacked
    pub was_lacked : IsOneOf id (ids given) → old.has id ≡ false
    was_lacked now = each_id (λ i. old.has i ≡ false) given id lawful.deliveries.fresh now

    -- and the peer gets it once at most
    pub shared : IsOneOf id (ids given) → packets_carrying content id peer sends + entries_queued id peer new.queued ≤ 1
    shared now = go (has_name new.active peer) (is_from peer by) refl refl
      where
        share : GetsShare content by sends new id peer
        share = each_id (λ i. (n : Name) → GetsShare content by sends new i n) given id lawful.spread now peer

        go : (a b : Bool) → has_name new.active peer ≡ a → is_from peer by ≡ b → packets_carrying content id peer sends + entries_queued id peer new.queued ≤ 1
        go false b stranger from =
            let none : packets_carrying content id peer sends + entries_queued id peer new.queued ≡ 0 = share.none_to_strangers stranger in omega arith
        go true false member from =
            let one : packets_carrying content id peer sends + entries_queued id peer new.queued ≡ 1 = share.one member from in omega arith
        go true true member from =
            let none : packets_carrying content id peer sends + entries_queued id peer new.queued ≡ 0 = share.none_back from in omega arith

    -- a core that lacks the message after the step has not sent it
    pub none_sent : new.has id ≡ false → packets_carrying content id peer sends ≡ 0
    none_sent lacks = go (packets_carrying content id peer sends) refl
      where
        go : (n : ℕ) → packets_carrying content id peer sends ≡ n → n ≡ 0
        go zero is = refl
        go (suc n) is =
            let some : 1 ≤ packets_carrying content id peer sends = omega arith in
            let found = carrying_one content id peer sends some in
            absurd (false≢true (sym lacks ∙ each_one (λ (send : Name × N). (i : MsgId) (p : List ℕ) → (content send.1).carried ≡ Some (i, p) → new.has i ≡ true)
            sends (peer, found.0) lawful.payloads.sender_has found.1 id found.2.0 found.2.1))

    -- a request for the message arrives
    asks_arrive : (s : Stimulus N) → IsAskedBy content s id peer → arriving (request_weight content id peer name) name s ≡ 1
    asks_arrive (Broadcast payload) asked = absurd asked
    asks_arrive (Arrive sender note dice) asked =
        all_true (same_name peer sender.name) (same_name name name) (is_asked id (content note).asked)
        ((same_name-Decides peer sender.name).1 asked.1) (name_is name) (ap (is_asked id) asked.0 ∙ (same_id-Decides id id).1 refl)
    asks_arrive (Fire fired) asked = absurd asked
    asks_arrive Flush asked = absurd asked
    asks_arrive (Down other dice) asked = absurd asked
    asks_arrive (Shuffle dice) asked = absurd asked
    asks_arrive (Join contact) asked = absurd asked

    -- a step that does not deliver the message sends it to who asks for it, once
    pub answered : (IsOneOf id (ids given) → ⊥) → packets_carrying content id peer sends ≤ arriving (request_weight content id peer name) name by
    answered not_now = go (packets_carrying content id peer sends) refl
      where
        go : (n : ℕ) →
            packets_carrying content id peer sends ≡ n →
            packets_carrying content id peer sends ≤ arriving (request_weight content id peer name) name by
        go zero is = omega arith
        go (suc n) is =
            let some : 1 ≤ packets_carrying content id peer sends = omega arith in
            let found = carrying_one content id peer sends some in
            elim (each_one (λ (send : Name × N). (i : MsgId) (p : List ℕ) →
            (content send.1).carried ≡ Some (i, p) →
            IsOneOf i (ids given) ⊎ (IsAskedBy content by i send.0 × IsSome (old.payload i)))
            sends (peer, found.0) lawful.holds.only found.1 id found.2.0 found.2.1) [
              | inl now ↦ absurd (not_now now)
              | inr asked ↦ (
                  let one : packets_carrying content id peer sends ≡ 1 = (lawful.holds.answers id peer asked.0 asked.1).0 in
                  let came : arriving (request_weight content id peer name) name by ≡ 1 = asks_arrive by asked.0 in
                  omega arith)
            ]

    -- it queues no more of it
    queued_less : (IsOneOf id (ids given) → ⊥) → entries_queued id peer new.queued ≤ entries_queued id peer old.queued
    queued_less not_now = go (entries_queued id peer new.queued) refl
      where
        go : (n : ℕ) → entries_queued id peer new.queued ≡ n → entries_queued id peer new.queued ≤ entries_queued id peer old.queued
        go zero is = omega arith
        go (suc n) is =
            let some : 1 ≤ entries_queued id peer new.queued = omega arith in
            let once : entries_queued id peer new.queued ≤ 1 = sound.queue.once peer id in
            let found = queued_one new id peer some in
            elim (each_one (λ (e : Name × MsgId × ℕ). IsOneOf e old.queued ⊎ IsOneOf e.1 (ids given)) new.queued
            (peer, id, found.0) lawful.queue.appears found.1) [
              | inl before ↦ (
                  let stood : 1 ≤ entries_queued id peer old.queued =
                  counts_one (λ (entry : Name × MsgId × ℕ). same_name peer entry.0 && same_id id entry.1) old.queued
                  (peer, id, found.0) before (both_true (same_name peer peer) (same_id id id) (name_is peer) ((same_id-Decides id id).1 refl)) in
                  omega arith)
              | inr now ↦ absurd (not_now now)
            ]

    -- and announces it only off the queue
    pub announced_less : (IsOneOf id (ids given) → ⊥) →
        announced_to content id peer sends + entries_queued id peer new.queued ≤ entries_queued id peer old.queued
    announced_less not_now = go by lawful.queue.leaves
      where
        quiet : AnnouncesNothing content sends → announced_to content id peer sends + entries_queued id peer new.queued ≤ entries_queued id peer old.queued
        quiet nothing =
            let none : announced_to content id peer sends ≡ 0 = announces_none content id peer sends nothing in
            let less : entries_queued id peer new.queued ≤ entries_queued id peer old.queued = queued_less not_now in
            omega arith

        go : (s : Stimulus N) →
            FlushesQueue content old s sends new →
            announced_to content id peer sends + entries_queued id peer new.queued ≤ entries_queued id peer old.queued
        go Flush leaves =
            let none : entries_queued id peer new.queued ≡ 0 = ap (λ q. entries_queued id peer q) leaves.1 in
            let less : announced_to content id peer sends ≤ entries_queued id peer old.queued =
            announced_queued content id peer sends old.queued (λ r. leaves.0 peer id r) in
            omega arith
        go (Broadcast payload) leaves = quiet leaves.0
        go (Arrive sender note dice) leaves = quiet leaves.0
        go (Fire fired) leaves = quiet leaves.0
        go (Down other dice) leaves = quiet leaves.0
        go (Shuffle dice) leaves = quiet leaves.0
        go (Join contact) leaves = quiet leaves.0

    -- a step that delivers it announces nothing
    pub announced_now : IsOneOf id (ids given) → announced_to content id peer sends ≡ 0
    announced_now now = go by lawful.queue.leaves lawful.deliveries.exact
      where
        go : (s : Stimulus N) → FlushesQueue content old s sends new → Delivers content old s (ids given) → announced_to content id peer sends ≡ 0
        go Flush leaves none = let no_such : IsOneOf id [] = subst (λ is. IsOneOf id is) none now in absurd no_such
        go (Broadcast payload) leaves exact = announces_none content id peer sends leaves.0
        go (Arrive sender note dice) leaves exact = announces_none content id peer sends leaves.0
        go (Fire fired) leaves exact = announces_none content id peer sends leaves.0
        go (Down other dice) leaves exact = announces_none content id peer sends leaves.0
        go (Shuffle dice) leaves exact = announces_none content id peer sends leaves.0
        go (Join contact) leaves exact = announces_none content id peer sends leaves.0

    -- an announcement of the message arrives
    announces_arrive : (round : ℕ) (s : Stimulus N) → Announces content s peer id round → 1 ≤ arriving (announcement_weight content id peer name) name s
    announces_arrive round (Broadcast payload) announced = absurd announced
    announces_arrive round (Arrive sender note dice) announced =
        let some : 1 ≤ entries_announced id (content note).announced =
        counts_one (λ (entry : MsgId × ℕ). same_id id entry.0) (content note).announced (id, round) announced.1 ((same_id-Decides id id).1 refl) in
        let goes_here : (same_name peer sender.name && same_name name name) ≡ true =
        both_true (same_name peer sender.name) (same_name name name) ((same_name-Decides peer sender.name).1 announced.0) (name_is name) in
        subst (λ b. 1 ≤ cond {A = ℕ} b (entries_announced id (content note).announced) 0) (sym goes_here) some
    announces_arrive round (Fire fired) announced = absurd announced
    announces_arrive round Flush announced = absurd announced
    announces_arrive round (Down other dice) announced = absurd announced
    announces_arrive round (Shuffle dice) announced = absurd announced
    announces_arrive round (Join contact) announced = absurd announced

    -- a core wants no more than it wanted and what is announced to it
    wants_less : entries_wanted id peer new.wants ≤ entries_wanted id peer old.wants + arriving (announcement_weight content id peer name) name by
    wants_less = go (entries_wanted id peer new.wants) refl
      where
        go : (n : ℕ) →
            entries_wanted id peer new.wants ≡ n →
            entries_wanted id peer new.wants ≤ entries_wanted id peer old.wants + arriving (announcement_weight content id peer name) name by
        go zero is = omega arith
        go (suc n) is =
            let some : 1 ≤ entries_wanted id peer new.wants = omega arith in
            let once : entries_wanted id peer new.wants ≤ 1 = sound.wants.once id peer in
            let found = wanted_one new id peer some in
            elim (each_one (λ (e : MsgId × Name × ℕ). IsOneOf e old.wants ⊎ (Announces content by e.1 e.0 e.2 × (e.0.origin ≡ old.me → ⊥))) new.wants
            (id, peer, found.0) lawful.wants.appears found.1) [
              | inl before ↦ (
                  let stood : 1 ≤ entries_wanted id peer old.wants =
                  counts_one (λ (entry : MsgId × Name × ℕ). same_id id entry.0 && same_name peer entry.1) old.wants (id, peer, found.0) before
                  (both_true (same_id id id) (same_name peer peer) ((same_id-Decides id id).1 refl) (name_is peer)) in
                  omega arith)
              | inr announced ↦ (
                  let came : 1 ≤ arriving (announcement_weight content id peer name) name by = announces_arrive found.0 by announced.0 in
                  omega arith)
            ]

    abbrev pub Less : Type 0
    Less =
        entries_wanted id peer new.wants + asked_of content id peer sends
        ≤ entries_wanted id peer old.wants + arriving (announcement_weight content id peer name) name by

    -- and it asks only for what it wanted
    pub wanted_less : Less
    wanted_less = go by lawful.asks.fires
      where
        quiet : AsksNothing content sends → Less
        quiet nothing =
            let none : asked_of content id peer sends ≡ 0 = asks_none content id peer sends nothing in
            let less : entries_wanted id peer new.wants ≤ entries_wanted id peer old.wants + arriving (announcement_weight content id peer name) name by =
            wants_less in
            omega arith

        silent : sends ≡ [] → Less
        silent nothing = quiet (subst (λ ss. AsksNothing content ss) (sym nothing) tt)

        first : (fired : MsgId) → AsksFirst content old fired sends new → Less
        first fired asks =
            let was : entries_wanted id peer old.wants
            ≡ sum_by (λ (entry : MsgId × Name × ℕ). cond {A = ℕ} (same_id id entry.0 && same_name peer entry.1) 1 0) asks.front + sum_by
            (λ (entry : MsgId × Name × ℕ). cond {A = ℕ} (same_id id entry.0 && same_name peer entry.1) 1 0) ((fired, asks.peer, asks.round) ∷ asks.back) =
            ap (λ ws. entries_wanted id peer ws) asks.stood
            ∙ sum_by-append (λ (entry : MsgId × Name × ℕ). cond {A = ℕ} (same_id id entry.0 && same_name peer entry.1) 1 0) asks.front
            ((fired, asks.peer, asks.round) ∷ asks.back) in
            let it : sum_by (λ (entry : MsgId × Name × ℕ). cond {A = ℕ} (same_id id entry.0 && same_name peer entry.1) 1 0)
            ((fired, asks.peer, asks.round) ∷ asks.back)
            ≡ cond {A = ℕ} (same_id id fired && same_name peer asks.peer) 1 0
            + sum_by (λ (entry : MsgId × Name × ℕ). cond {A = ℕ} (same_id id entry.0 && same_name peer entry.1) 1 0) asks.back =
            sum_by-cons (λ (entry : MsgId × Name × ℕ). cond {A = ℕ} (same_id id entry.0 && same_name peer entry.1) 1 0)
            (fired, asks.peer, asks.round) asks.back in
            let is : entries_wanted id peer new.wants
            ≡ sum_by (λ (entry : MsgId × Name × ℕ). cond {A = ℕ} (same_id id entry.0 && same_name peer entry.1) 1 0) asks.front
            + sum_by (λ (entry : MsgId × Name × ℕ). cond {A = ℕ} (same_id id entry.0 && same_name peer entry.1) 1 0) asks.back =
            ap (λ ws. entries_wanted id peer ws) asks.taken_out
            ∙ sum_by-append (λ (entry : MsgId × Name × ℕ). cond {A = ℕ} (same_id id entry.0 && same_name peer entry.1) 1 0) asks.front asks.back in
            let sent : asked_of content id peer sends ≡ cond {A = ℕ} (same_name peer asks.peer && is_asked id (content asks.note).asked) 1 0 + 0 =
            ap (λ ss. asked_of content id peer ss) asks.one_packet
            ∙ sum_by-cons (λ (send : Name × N). cond {A = ℕ} (same_name peer send.0 && is_asked id (content send.1).asked) 1 0) (asks.peer, asks.note) [] in
            let same : cond {A = ℕ} (same_name peer asks.peer && is_asked id (content asks.note).asked) 1 0
            ≡ cond {A = ℕ} (same_id id fired && same_name peer asks.peer) 1 0 =
            ap (λ o. cond {A = ℕ} (same_name peer asks.peer && is_asked id o) 1 0) asks.asks ∙ swapped (same_name peer asks.peer) (same_id id fired) in
            omega arith

        go : (s : Stimulus N) → Fires content old s sends new → Less
        go (Fire fired) fires =
            elim fires [
              | inl nothing ↦ silent nothing.silent
              | inr rest ↦ elim rest [ inl drops ↦ silent drops.silent | inr asks ↦ first fired asks.1 ]
            ]
        go (Broadcast payload) nothing = quiet nothing
        go (Arrive sender note dice) nothing = quiet nothing
        go Flush nothing = quiet nothing
        go (Down other dice) nothing = quiet nothing
        go (Shuffle dice) nothing = quiet nothing
        go (Join contact) nothing = quiet nothing
