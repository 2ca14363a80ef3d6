-- A calm event carries a message on: what is under way between two nodes stays so until the second has the message.
use Rattle.std.proofs.Common.{◌≡◌, ◌∙◌, ◌+◌, ◌≤◌, ℕ, zero, suc, List, [], ◌∷◌, ◌++◌, true, false, sym, ap, refl, subst, inl, inr, arith}
use Rattle.std.specs.List.{AllByRecursion as Each}
use Rattle.std.specs.Prelude.{◌⊎◌, ◌&&◌, ◌==◌, Bool, Option, Some, None, IsSome, cond, length, slice_get}
use Rattle.std.proofs.lemmas.Bool.{eq-eqb, false≢true}
use Rattle.node_names.specs.NodeName.{Name}
use Rattle.node_names.specs.Limits.{Limits}
use Rattle.node_names.specs.Same.{has_name, same_id, same_id-Decides, same_name, same_name-Decides}
use Rattle.node_names.specs.declared.dice.Dice.{Dice}
use Rattle.node_names.specs.declared.ids.MsgId.{MsgId}
use Rattle.node_names.specs.declared.ids.Origin.{Origin}
use Rattle.protocol.specs.AskLaw.{AsksFor}
use Rattle.protocol.specs.Content.{Content}
use Rattle.protocol.specs.CoreState.{CoreState}
use Rattle.protocol.specs.Delivery.{Delivery}
use Rattle.protocol.specs.DeliveryLaw.{Delivers, DeliversNews, ids}
use Rattle.protocol.specs.impl_proofs.NameLists.{and_left, and_right}
use Rattle.protocol.specs.HoldLaw.{IsAskedBy}
use Rattle.protocol.specs.Laws.{Laws}
use Rattle.protocol.specs.Lists.{IsOneOf, places}
use Rattle.protocol.specs.QueueLaw.{FlushesQueue, KeepsQueue, announcements, times_announced, times_queued}
use Rattle.protocol.specs.SameNames.{SameNames}
use Rattle.protocol.specs.SpreadLaw.{GetsShare, entries_queued, is_carried, is_from, packets_carrying}
use Rattle.protocol.specs.Stimulus.{Stimulus}
use Rattle.protocol.specs.WantLaw.{Announces, IsWanted}
use Rattle.protocol.specs.declared.stimulus.StimulusOf.TheVariants.{Broadcast, Arrive, Fire, Flush, Down, Shuffle, Join}
use Rattle.world.specs.Entry.{Entry}
use Rattle.world.specs.Group.{Group, node_of, origin_of, packets}
use Rattle.world.specs.Links.{IsRunning, Runs}
use Rattle.world.specs.Run.{OnlyFlies}
use Rattle.world.specs.UnderWay.{AnnouncesIt, AsksForIt, CarriesIt, IsCarriedOn, IsInFlight, IsQueued, IsUnderWay, Carried, Queued, Announced, Wanted, Asked}
use Rattle.world.specs.declared.node_state.NodeState.{NodeState}
use Rattle.world.specs.declared.packet.Packet.{Packet}
use Rattle.world.proofs.FindLemmas.{found_name, name_is, names_differ, put_cases, put_other, put_same, tells_apart}
use Rattle.world.proofs.Flying.{IsSent, counts_one, each_one, get-append, is_sent, one-left, one-right, one_counted, sent_or_new}
use Rattle.world.proofs.Steps.{IsStep}

-- ---- what the laws say of one packet or entry

-- a packet that is counted as carrying the message carries it
carried_such : {N : Type 0} (content : N → Content) (id : MsgId) (note : N) → is_carried id (content note).carried ≡ true → CarriesIt id (content note)
carried_such content id note is = go (content note).carried refl is
  where
    go : (o : Option (MsgId × List ℕ)) → (content note).carried ≡ o → is_carried id o ≡ true → CarriesIt id (content note)
    go None at not_so = absurd (false≢true not_so)
    go (Some carried) at same =
        let here : id ≡ carried.0 = (same_id-Decides id carried.0).0 same in
        (carried.1, at ∙ ap (λ i. Some (i, carried.1)) (sym here))

-- where a packet to the name is counted as carrying the message, there is one
pub carrying_one : {N : Type 0} (content : N → Content) (id : MsgId) (name : Name) (sends : List (Name × N)) →
    1 ≤ packets_carrying content id name sends →
    (note : N) × IsOneOf (name, note) sends × CarriesIt id (content note)
carrying_one {N} content id name sends some =
    let found = one_counted (λ (send : Name × N). same_name name send.0 && is_carried id (content send.1).carried) sends some in
    let to : name ≡ found.0.0 =
    (same_name-Decides name found.0.0).0 (and_left (same_name name found.0.0) (is_carried id (content found.0.1).carried) found.2) in (
      found.0.1,
      subst (λ n. IsOneOf (n, found.0.1) sends) (sym to) found.1,
      carried_such content id found.0.1 (and_right (same_name name found.0.0) (is_carried id (content found.0.1).carried) found.2),
    )

-- where an entry of the message is counted as queued for the name, there is one
pub queued_one : (core : CoreState) (id : MsgId) (name : Name) → 1 ≤ entries_queued id name core.queued → IsQueued core id name
queued_one core id name some =
    let found = one_counted (λ (entry : Name × MsgId × ℕ). same_name name entry.0 && same_id id entry.1) core.queued some in
    let to : name ≡ found.0.0 = (same_name-Decides name found.0.0).0 (and_left (same_name name found.0.0) (same_id id found.0.1) found.2) in
    let of : id ≡ found.0.1 = (same_id-Decides id found.0.1).0 (and_right (same_name name found.0.0) (same_id id found.0.1) found.2) in
    (found.0.2, subst (λ n. IsOneOf (n, id, found.0.2) core.queued) (sym to) (subst (λ i. IsOneOf (found.0.0, i, found.0.2) core.queued) (sym of) found.1))

-- where an announcement of the message is counted, there is one
times_one : (id : MsgId) (round : ℕ) (entries : List (MsgId × ℕ)) → 1 ≤ times_announced id round entries → (other : ℕ) × IsOneOf (id, other) entries
times_one id round entries some =
    let found = one_counted (λ (entry : MsgId × ℕ). same_id id entry.0 && (round == entry.1)) entries some in
    let of : id ≡ found.0.0 = (same_id-Decides id found.0.0).0 (and_left (same_id id found.0.0) (round == found.0.1) found.2) in
    (found.0.1, subst (λ i. IsOneOf (i, found.0.1) entries) (sym of) found.1)

-- one of two numbers that are not both 0 is not 0
either_some : (a b : ℕ) → 1 ≤ a + b → (1 ≤ a) ⊎ (1 ≤ b)
either_some zero b some = inr (omega arith)
either_some (suc a) b some = inl (omega arith)

-- where one to the name is counted, a packet to it announces the message
announced_one : {N : Type 0} (content : N → Content) (name : Name) (id : MsgId) (round : ℕ) (sends : List (Name × N)) →
    1 ≤ announcements content name id round sends →
    (note : N) × IsOneOf (name, note) sends × AnnouncesIt id (content note)
announced_one content name id round [] some = absurd (omega arith)
announced_one {N} content name id round (send ∷ sends) some = go (same_name name send.0) refl some (announced_one content name id round sends)
  where
    go : (b : Bool) →
        same_name name send.0 ≡ b →
        1 ≤ cond b (times_announced id round (content send.1).announced) 0 + announcements content name id round sends →
        (1 ≤ announcements content name id round sends → (note : N) × IsOneOf (name, note) sends × AnnouncesIt id (content note)) →
        (note : N) × IsOneOf (name, note) (send ∷ sends) × AnnouncesIt id (content note)
    go false apart counted later =
        let more : 1 ≤ announcements content name id round sends = omega arith in
        let found = later more in
        (found.0, inr found.1, found.2)
    go true same counted later =
        elim (either_some (times_announced id round (content send.1).announced) (announcements content name id round sends) counted) [
          | inl now ↦ (send.1, inl (ap (λ n. (n, send.1)) ((same_name-Decides name send.0).0 same)), times_one id round (content send.1).announced now)
          | inr more ↦ (let found = later more in (found.0, inr found.1, found.2))
        ]

-- a queued entry is counted
times_some : (name : Name) (id : MsgId) (round : ℕ) (queued : List (Name × MsgId × ℕ)) →
    IsOneOf (name, id, round) queued →
    1 ≤ times_queued name id round queued
times_some name id round queued one =
    counts_one (λ (entry : Name × MsgId × ℕ). same_name name entry.0 && (same_id id entry.1 && (round == entry.2))) queued (name, id, round) one
    (both (same_name name name) (same_id id id) (round == round) (name_is name) ((same_id-Decides id id).1 refl) (eq-eqb round round refl))
  where
    both : (a b c : Bool) → a ≡ true → b ≡ true → c ≡ true → (a && (b && c)) ≡ true
    both true true true x y z = refl
    both false b c x y z = absurd (false≢true x)
    both true false c x y z = absurd (false≢true y)
    both true true false x y z = absurd (false≢true z)

-- a delivered message has what holds of each delivery
pub each_id : (P : MsgId → Type 0) (given : List Delivery) (id : MsgId) → Each (λ d. P d.id) given → IsOneOf id (ids given) → P id
each_id P [] id h one = absurd one
each_id P (d ∷ given) id h one = elim one [ inl here ↦ subst P (sym here) h.0 | inr later ↦ each_id P given id h.1 later ]

-- Each packet of this message was sent by a name whose running core has it.
abbrev pub SendersHave : {C N : Type 0} → (C → CoreState) → (N → Content) → Group C N → MsgId → Type 0
SendersHave {C} {N} state content group id =
    (number : ℕ) (packet : Packet N) →
    slice_get group.sent number ≡ Some packet →
    CarriesIt id (content packet.note) →
    (core : C) →
    Runs group packet.sender.name core →
    (state core).has id ≡ true

-- The message's origin runs and has it, and so does whoever sent it; and it is carried on.
pub record Carries {C N : Type 0} (state : C → CoreState) (content : N → Content) (group : Group C N) (id : MsgId) : Type 0 where
  pub origin_runs : IsRunning group id.origin.name
  pub origin_has : (core : C) → Runs group id.origin.name core → (state core).has id ≡ true
  pub senders_have : SendersHave state content group id
  pub carried_on : IsCarriedOn state content group id

module _
    {C N : Type 0}
    (state : C → CoreState)
    (content : N → Content)
    (is_sound : Limits → C → Type 0)
    (starts : Origin → Limits → List Name → Option Name → List (Name × N) → C → Type 0)
    (steps : C → Stimulus N → List (Name × N) → List Delivery → C → Type 0)
    (laws : Laws state content is_sound starts steps)
    (limits : Limits)
    (past : List Entry)
    (entry : Entry)
    (before after : Group C N)
    (name : Name)
    (by : Stimulus N)
    (step : IsStep state content is_sound starts steps laws limits past entry before after name by)
    (id : MsgId)
  where
    abbrev old : CoreState
    old = state step.acts.old

    abbrev new : CoreState
    new = state step.acts.new

    -- the core that steps ran
    runs_old : Runs before name step.acts.old
    runs_old = (step.acts.node, step.acts.known, step.acts.running)

    -- its name is that of its node
    named : name ≡ step.acts.node.name
    named = found_name name before.nodes step.acts.node step.acts.known

    -- who runs afterwards is the core that stepped, or ran under another name before
    runs_after : (other : Name) (core : C) → Runs after other core → ((other ≡ name) × (step.acts.new ≡ core)) ⊎ ((other ≡ name → ⊥) × Runs before other core)
    runs_after other core runs =
        elim (put_cases other (record step.acts.node { core = Some step.acts.new }) runs.0 before.nodes
        (subst (λ ns. node_of other ns ≡ Some runs.0) step.acts.nodes runs.1)) [
          | inl here ↦ inl (here.0 ∙ sym named, (let e : Some step.acts.new ≡ Some core = ap (λ (n : NodeState C). n.core) here.1 ∙ runs.2 in cc))
          | inr there ↦ inr ((λ e. there.0 (e ∙ named)), (runs.0, there.1, runs.2))
        ]

    -- the node with the core that stepped is found afterwards
    pub found_new : node_of name after.nodes ≡ Some (record step.acts.node { core = Some step.acts.new })
    found_new =
        subst (λ ns. node_of name ns ≡ Some (record step.acts.node { core = Some step.acts.new })) (sym step.acts.nodes)
        (put_same name (record step.acts.node { core = Some step.acts.new }) before.nodes (subst (λ n. same_name name n ≡ true) named (name_is name)))

    -- so that core runs
    runs_new : Runs after name step.acts.new
    runs_new = (record step.acts.node { core = Some step.acts.new }, found_new, refl)

    -- and any other core runs on
    runs_on : (other : Name) (core : C) → (other ≡ name → ⊥) → Runs before other core → Runs after other core
    runs_on other core differs runs = (
      runs.0,
      subst (λ ns. node_of other ns ≡ Some runs.0) (sym step.acts.nodes)
          (put_other other (record step.acts.node { core = Some step.acts.new }) before.nodes
          (tells_apart other step.acts.node.name (λ e. differs (e ∙ sym named))) ∙ runs.1),
      runs.2,
    )

    -- what the core has it keeps
    keeps : (i : MsgId) → old.has i ≡ true → new.has i ≡ true
    keeps i had = (step.lawful.deliveries.grows i).1 (inl had)

    -- so what it lacks it lacked
    lacked : (i : MsgId) → new.has i ≡ false → old.has i ≡ false
    lacked i lacks = go (old.has i) refl
      where
        go : (b : Bool) → old.has i ≡ b → b ≡ false
        go false is = refl
        go true is = absurd (false≢true (sym lacks ∙ keeps i is))

    -- what a step sends is in flight
    sends_fly : (Such : Content → Type 0) (to : Name) (note : N) →
        IsOneOf (to, note) step.acts.sends →
        Such (content note) →
        IsInFlight content after.sent after.flight Such name to
    sends_fly Such to note one such =
        let sent : IsSent before.sent (origin_of step.acts.node) step.acts.sends (to, note) =
        is_sent before.sent (origin_of step.acts.node) step.acts.sends (to, note) one in
        record {
          number = sent.number;
          packet = record { sender = origin_of step.acts.node; to = to; note = note };
          flies =
              subst (λ ks. IsOneOf sent.number ks) (sym step.acts.sending.flight)
              (one-right step.staying (places (length before.sent) (length step.acts.sends)) sent.number sent.flies);
          was_sent =
              subst (λ ps. slice_get ps sent.number ≡ Some (record { sender = origin_of step.acts.node; to = to; note = note }))
              (sym step.acts.sending.sent) sent.stands;
          sender = sym named;
          receiver = refl;
          is_such = such;
        }

    -- The packet in flight arrives with this step.
    record Comes (Such : Content → Type 0) (from to : Name) : Type 0 where
      sender : Origin
      note : N
      dice : Dice
      arrives : by ≡ Arrive sender note dice
      of_sender : sender.name ≡ from
      here : name ≡ to
      is_such : Such (content note)

    -- what was in flight still is, or arrives
    flies_on : (Such : Content → Type 0) (from to : Name) →
        IsInFlight content before.sent before.flight Such from to →
        IsInFlight content after.sent after.flight Such from to ⊎ Comes Such from to
    flies_on Such from to flight =
        elim (step.stays flight.number flight.flies) [
          | inl stays ↦ inl (record {
            number = flight.number;
            packet = flight.packet;
            flies =
                subst (λ ks. IsOneOf flight.number ks) (sym step.acts.sending.flight)
                (one-left step.staying (places (length before.sent) (length step.acts.sends)) flight.number stays);
            was_sent =
                subst (λ ps. slice_get ps flight.number ≡ Some flight.packet) (sym step.acts.sending.sent)
                (get-append before.sent (packets (origin_of step.acts.node) step.acts.sends) flight.number flight.packet flight.was_sent);
            sender = flight.sender;
            receiver = flight.receiver;
            is_such = flight.is_such;
          })
          | inr arrival ↦ (
              let e : Some arrival.packet ≡ Some flight.packet = sym arrival.was_sent ∙ flight.was_sent in
              let same : arrival.packet ≡ flight.packet = cc in
              inr (record {
                sender = arrival.packet.sender;
                note = arrival.packet.note;
                dice = arrival.dice;
                arrives = arrival.arrives;
                of_sender = ap (λ (p : Packet N). p.sender.name) same ∙ flight.sender;
                here = sym arrival.receiver ∙ ap (λ (p : Packet N). p.to) same ∙ flight.receiver;
                is_such = subst (λ (p : Packet N). Such (content p.note)) (sym same) flight.is_such;
              }))
        ]

    -- a packet for another name flies on
    flies_elsewhere : (Such : Content → Type 0) (from to : Name) →
        (to ≡ name → ⊥) →
        IsInFlight content before.sent before.flight Such from to →
        IsInFlight content after.sent after.flight Such from to
    flies_elsewhere Such from to elsewhere flight = elim (flies_on Such from to flight) [ inl on ↦ on | inr comes ↦ absurd (elsewhere (sym comes.here)) ]

    -- between two others all goes on
    bystanders : (one two : Name) (first second : CoreState) →
        (one ≡ name → ⊥) →
        (two ≡ name → ⊥) →
        IsUnderWay content before.sent before.flight id one two first second →
        IsUnderWay content after.sent after.flight id one two first second
    bystanders one two first second not_one not_two (Carried flight) = Carried (flies_elsewhere (CarriesIt id) one two not_two flight)
    bystanders one two first second not_one not_two (Queued queued) = Queued queued
    bystanders one two first second not_one not_two (Announced flight) = Announced (flies_elsewhere (AnnouncesIt id) one two not_two flight)
    bystanders one two first second not_one not_two (Wanted wanted) = Wanted wanted
    bystanders one two first second not_one not_two (Asked flight) = Asked (flies_elsewhere (AsksForIt id) two one not_one flight)

    -- ---- the one that steps has the message

    -- an entry for an active member stays queued, or a packet announces it
    queue_goes_on : (peer : Name) →
        has_name new.active peer ≡ true →
        IsQueued old id peer →
        IsQueued new id peer ⊎ ((note : N) × IsOneOf (peer, note) step.acts.sends × AnnouncesIt id (content note))
    queue_goes_on peer member queued = go by step.lawful.queue.leaves
      where
        keeps_queue : KeepsQueue old new → IsQueued new id peer ⊎ ((note : N) × IsOneOf (peer, note) step.acts.sends × AnnouncesIt id (content note))
        keeps_queue stays =
            elim (each_one (λ e. IsOneOf e new.queued ⊎ (has_name new.active e.0 ≡ false)) old.queued (peer, id, queued.0) stays queued.1) [
              | inl still ↦ inl (queued.0, still)
              | inr gone ↦ absurd (false≢true (sym gone ∙ member))
            ]

        go : (s : Stimulus N) →
            FlushesQueue content old s step.acts.sends new →
            IsQueued new id peer ⊎ ((note : N) × IsOneOf (peer, note) step.acts.sends × AnnouncesIt id (content note))
        go Flush leaves =
            let some : 1 ≤ times_queued peer id queued.0 old.queued = times_some peer id queued.0 old.queued queued.1 in
            inr (announced_one content peer id queued.0 step.acts.sends (subst (λ n. 1 ≤ n) (sym (leaves.0 peer id queued.0)) some))
        go (Broadcast payload) leaves = keeps_queue leaves.1
        go (Arrive sender note dice) leaves = keeps_queue leaves.1
        go (Fire fired) leaves = keeps_queue leaves.1
        go (Down gone dice) leaves = keeps_queue leaves.1
        go (Shuffle dice) leaves = keeps_queue leaves.1
        go (Join contact) leaves = keeps_queue leaves.1

    -- who asks for it gets it, where it is held
    answered : (peer : Name) →
        IsSome (old.payload id) →
        Comes (AsksForIt id) peer name →
        (note : N) × IsOneOf (peer, note) step.acts.sends × CarriesIt id (content note)
    answered peer held comes =
        let asked : IsAskedBy content by id peer = subst (λ s. IsAskedBy content s id peer) (sym comes.arrives) (comes.is_such, sym comes.of_sender) in
        let once : packets_carrying content id peer step.acts.sends ≡ 1 = (step.lawful.holds.answers id peer asked held).0 in
        carrying_one content id peer step.acts.sends (omega arith)

    -- so what is under way from it to another stays under way
    sender_moves : (peer : Name) (other : CoreState) →
        (peer ≡ name → ⊥) →
        has_name new.active peer ≡ true →
        IsSome (old.payload id) →
        IsUnderWay content before.sent before.flight id name peer old other →
        IsUnderWay content after.sent after.flight id name peer new other
    sender_moves peer other differs member held (Carried flight) = Carried (flies_elsewhere (CarriesIt id) name peer differs flight)
    sender_moves peer other differs member held (Queued queued) =
        elim (queue_goes_on peer member queued) [
          | inl still ↦ Queued still
          | inr sent ↦ Announced (sends_fly (AnnouncesIt id) peer sent.0 sent.1 sent.2)
        ]
    sender_moves peer other differs member held (Announced flight) = Announced (flies_elsewhere (AnnouncesIt id) name peer differs flight)
    sender_moves peer other differs member held (Wanted wanted) = Wanted wanted
    sender_moves peer other differs member held (Asked flight) =
        elim (flies_on (AsksForIt id) peer name flight) [
          | inl on ↦ Asked on
          | inr comes ↦ (let sent = answered peer held comes in Carried (sends_fly (CarriesIt id) peer sent.0 sent.1 sent.2))
        ]

    -- a message that it delivers gets under way to each other active member that did not send it
    spreads : (peer : Name) (other : C) →
        has_name new.active peer ≡ true →
        old.has id ≡ false →
        new.has id ≡ true →
        (state other).has id ≡ false →
        Runs before peer other →
        SendersHave state content before id →
        IsUnderWay content after.sent after.flight id name peer new (state other)
    spreads peer other member lacks has other_lacks runs senders = go (is_from peer by) refl
      where
        given : IsOneOf id (ids entry.given)
        given = elim ((step.lawful.deliveries.grows id).0 has) [ inl had ↦ absurd (false≢true (sym lacks ∙ had)) | inr now ↦ now ]

        share : GetsShare content by step.acts.sends new id peer
        share = each_id (λ i. (n : Name) → GetsShare content by step.acts.sends new i n) entry.given id step.lawful.spread given peer

        from_sender : (s : Stimulus N) → by ≡ s → Delivers content old s (ids entry.given) → is_from peer s ≡ true → ⊥
        from_sender (Arrive sender note dice) e delivers same =
            let sent = step.was_sent sender note dice e in
            let who : sent.1.sender.name ≡ peer = ap (λ (o : Origin). o.name) sent.3 ∙ sym ((same_name-Decides peer sender.name).0 same) in
            let carries : CarriesIt id (content note) = delivered_carries (content note).carried refl delivers in
            false≢true (sym other_lacks
            ∙ senders sent.0 sent.1 sent.2 (subst (λ k. CarriesIt id (content k)) (sym sent.4) carries) other (subst (λ n. Runs before n other) (sym who) runs))
          where
            delivered_carries : (o : Option (MsgId × List ℕ)) → (content note).carried ≡ o → DeliversNews old o (ids entry.given) → CarriesIt id (content note)
            delivered_carries None at none = let no_such : IsOneOf id [] = subst (λ is. IsOneOf id is) none given in absurd no_such
            delivered_carries (Some carried) at news =
                elim news [
                  | inl new_one ↦ (
                      let one : IsOneOf id (carried.0 ∷ []) = subst (λ is. IsOneOf id is) new_one.1 given in
                      elim one [ inl here ↦ (carried.1, at ∙ ap (λ i. Some (i, carried.1)) (sym here)) | inr none ↦ absurd none ])
                  | inr old_one ↦ (let no_such : IsOneOf id [] = subst (λ is. IsOneOf id is) old_one.1 given in absurd no_such)
                ]
        from_sender (Broadcast payload) e delivers same = false≢true same
        from_sender (Fire fired) e delivers same = false≢true same
        from_sender Flush e delivers same = false≢true same
        from_sender (Down gone dice) e delivers same = false≢true same
        from_sender (Shuffle dice) e delivers same = false≢true same
        from_sender (Join contact) e delivers same = false≢true same

        go : (b : Bool) → is_from peer by ≡ b → IsUnderWay content after.sent after.flight id name peer new (state other)
        go true from = absurd (from_sender by refl step.lawful.deliveries.exact from)
        go false not_from =
            let one : packets_carrying content id peer step.acts.sends + entries_queued id peer new.queued ≡ 1 = share.one member not_from in
            elim (either_some (packets_carrying content id peer step.acts.sends) (entries_queued id peer new.queued) (omega arith)) [
              | inl some ↦ (let sent = carrying_one content id peer step.acts.sends some in Carried (sends_fly (CarriesIt id) peer sent.0 sent.1 sent.2))
              | inr some ↦ Queued (queued_one new id peer some)
            ]

    -- ---- the one that steps lacks the message

    -- a packet that carries it delivers it, unless it is its own
    takes : (from : Name) → (id.origin ≡ old.me → ⊥) → old.has id ≡ false → Comes (CarriesIt id) from name → new.has id ≡ true
    takes from foreign lacks comes =
        let exact : DeliversNews old (content comes.note).carried (ids entry.given) =
        subst (λ s. Delivers content old s (ids entry.given)) comes.arrives step.lawful.deliveries.exact in
        let news : DeliversNews old (Some (id, comes.is_such.0)) (ids entry.given) = subst (λ o. DeliversNews old o (ids entry.given)) comes.is_such.1 exact in
        elim news [
          | inl now ↦ (step.lawful.deliveries.grows id).1 (inr (subst (λ is. IsOneOf id is) (sym now.1) (inl refl)))
          | inr known ↦ absurd (known.0 (lacks, foreign))
        ]

    -- a packet that announces it makes it wanted
    wants_it : (from : Name) →
        (id.origin ≡ old.me → ⊥) →
        has_name new.active from ≡ true →
        new.has id ≡ false →
        Comes (AnnouncesIt id) from name →
        IsWanted new id from
    wants_it from foreign member lacks comes =
        let announces : Announces content by from id comes.is_such.0 =
        subst (λ s. Announces content s from id comes.is_such.0) (sym comes.arrives) (sym comes.of_sender, comes.is_such.1) in
        step.lawful.wants.taken from id comes.is_such.0 announces member foreign lacks

    -- so what is under way to it stays under way
    receiver_moves : (from : Name) (other : CoreState) →
        (from ≡ name → ⊥) →
        (id.origin ≡ old.me → ⊥) →
        has_name new.active from ≡ true →
        new.has id ≡ false →
        IsUnderWay content before.sent before.flight id from name other old →
        IsUnderWay content after.sent after.flight id from name other new
    receiver_moves from other differs foreign member lacks (Carried flight) =
        elim (flies_on (CarriesIt id) from name flight) [
          | inl on ↦ Carried on
          | inr comes ↦ absurd (false≢true (sym lacks ∙ takes from foreign (lacked id lacks) comes))
        ]
    receiver_moves from other differs foreign member lacks (Queued queued) = Queued queued
    receiver_moves from other differs foreign member lacks (Announced flight) =
        elim (flies_on (AnnouncesIt id) from name flight) [
          | inl on ↦ Announced on
          | inr comes ↦ Wanted (wants_it from foreign member lacks comes)
        ]
    receiver_moves from other differs foreign member lacks (Wanted wanted) =
        elim (each_one
        (λ e. IsOneOf e new.wants ⊎ IsOneOf e.0 (ids entry.given) ⊎ AsksFor content by step.acts.sends e.0 e.1 ⊎ (has_name new.active e.1 ≡ false)) old.wants
        (id, from, wanted.0) step.lawful.asks.entry_stays wanted.1) [
          | inl still ↦ Wanted (wanted.0, still)
          | inr rest ↦ elim rest [
            | inl now ↦ absurd (false≢true (sym lacks ∙ (step.lawful.deliveries.grows id).1 (inr now)))
            | inr last ↦ elim last [
              | inl asks ↦ Asked (sends_fly (AsksForIt id) from asks.1.0 (subst (λ ss. IsOneOf (from, asks.1.0) ss) (sym asks.1.2) (inl refl)) asks.1.1)
              | inr gone ↦ absurd (false≢true (sym gone ∙ member))
            ]
          ]
        ]
    receiver_moves from other differs foreign member lacks (Asked flight) = Asked (flies_elsewhere (AsksForIt id) name from differs flight)

    -- ---- the whole group

    -- an active member of the core that steps is another
    member_is_other : (peer : Name) → has_name new.active peer ≡ true → peer ≡ name → ⊥
    member_is_other peer member same =
        let me : new.me.name ≡ name = ap (λ (o : Origin). o.name) step.lawful.identity ∙ sym step.mine in
        let none : has_name new.active name ≡ false =
        subst (λ n. has_name new.active n ≡ false) me (laws.always limits step.acts.new step.sound).views.active_of_others in
        false≢true (sym none ∙ subst (λ n. has_name new.active n ≡ true) same member)

    -- whoever sent the message has it
    senders_after : SendersHave state content before id → SendersHave state content after id
    senders_after senders number packet at carries core runs =
        elim (sent_or_new before.sent (origin_of step.acts.node) step.acts.sends number packet
        (subst (λ ps. slice_get ps number ≡ Some packet) step.acts.sending.sent at)) [
          | inl then ↦ elim (runs_after packet.sender.name core runs) [
            | inl here ↦
                subst (λ c. (state c).has id ≡ true) here.1
                (keeps id (senders number packet then carries step.acts.old (subst (λ n. Runs before n step.acts.old) (sym here.0) runs_old)))
            | inr there ↦ senders number packet then carries core there.1
          ]
          | inr now ↦ (
              let who : packet.sender.name ≡ name = ap (λ (o : Origin). o.name) now.1 ∙ sym named in
              let had : new.has id ≡ true =
              each_one (λ (send : Name × N). (i : MsgId) (p : List ℕ) → (content send.1).carried ≡ Some (i, p) → new.has i ≡ true) step.acts.sends
              (packet.to, packet.note) step.lawful.payloads.sender_has now.0 id carries.0 carries.1 in
              elim (runs_after packet.sender.name core runs) [
                | inl here ↦ subst (λ c. (state c).has id ≡ true) here.1 had
                | inr there ↦ absurd (there.0 who)
              ])
        ]

    -- what was carried on is carried on, where the step moves no active view
    carried_after : (old.has id ≡ true → IsSome (old.payload id)) →
        entry.moved ≡ false →
        ((core : C) → Runs before id.origin.name core → (state core).has id ≡ true) →
        SendersHave state content before id →
        IsCarriedOn state content before id →
        IsCarriedOn state content after id
    carried_after held calm origin senders carried one two first second runs_first runs_second member back has lacks =
        go (runs_after one first runs_first) (runs_after two second runs_second)
      where
        same : SameNames old.active new.active
        same = step.acts.moved.0 calm

        sender : one ≡ name →
            step.acts.new ≡ first →
            (two ≡ name → ⊥) →
            Runs before two second →
            IsUnderWay content after.sent after.flight id one two (state first) (state second)
        sender here this differs runs = by_has (old.has id) refl
          where
            member_new : has_name new.active two ≡ true
            member_new = subst (λ c. has_name (state c).active two ≡ true) (sym this) member

            moved : IsUnderWay content after.sent after.flight id name two new (state second) →
                IsUnderWay content after.sent after.flight id one two (state first) (state second)
            moved under =
                subst (λ n. IsUnderWay content after.sent after.flight id n two (state first) (state second)) (sym here)
                (subst (λ c. IsUnderWay content after.sent after.flight id name two (state c) (state second)) this under)

            by_has : (b : Bool) → old.has id ≡ b → IsUnderWay content after.sent after.flight id one two (state first) (state second)
            by_has true had =
                moved (sender_moves two (state second) differs member_new (held had)
                (carried name two step.acts.old second runs_old runs (same two ∙ member_new)
                (subst (λ n. has_name (state second).active n ≡ true) here back) had lacks))
            by_has false had = moved (spreads two second member_new had (subst (λ c. (state c).has id ≡ true) (sym this) has) lacks runs senders)

        receiver : two ≡ name →
            step.acts.new ≡ second →
            (one ≡ name → ⊥) →
            Runs before one first →
            IsUnderWay content after.sent after.flight id one two (state first) (state second)
        receiver here this differs runs =
            let back_new : has_name new.active one ≡ true = subst (λ c. has_name (state c).active one ≡ true) (sym this) back in
            let lacks_new : new.has id ≡ false = subst (λ c. (state c).has id ≡ false) (sym this) lacks in
            let foreign : id.origin ≡ old.me → ⊥ =
            λ own. false≢true (sym (lacked id lacks_new)
            ∙ origin step.acts.old (subst (λ n. Runs before n step.acts.old) (step.mine ∙ sym (ap (λ (o : Origin). o.name) own)) runs_old)) in
            let under : IsUnderWay content before.sent before.flight id one name (state first) old =
            carried one name first step.acts.old runs runs_old
            (subst (λ n. has_name (state first).active n ≡ true) here member) (same one ∙ back_new) has (lacked id lacks_new) in
            subst (λ n. IsUnderWay content after.sent after.flight id one n (state first) (state second)) (sym here)
            (subst (λ c. IsUnderWay content after.sent after.flight id one name (state first) (state c)) this
            (receiver_moves one (state first) differs foreign back_new lacks_new under))

        go : ((one ≡ name) × (step.acts.new ≡ first)) ⊎ ((one ≡ name → ⊥) × Runs before one first) →
            ((two ≡ name) × (step.acts.new ≡ second)) ⊎ ((two ≡ name → ⊥) × Runs before two second) →
            IsUnderWay content after.sent after.flight id one two (state first) (state second)
        go (inl here) (inl there) = absurd (member_is_other two (subst (λ c. has_name (state c).active two ≡ true) (sym here.1) member) there.0)
        go (inl here) (inr there) = sender here.0 here.1 there.0 there.1
        go (inr here) (inl there) = receiver there.0 there.1 here.0 here.1
        go (inr here) (inr there) =
            bystanders one two (state first) (state second) here.0 there.0 (carried one two first second here.1 there.1 member back has lacks)

    -- so a step that moves no active view carries the message on, where the core that steps holds it once it has it
    pub step_carries : (old.has id ≡ true → IsSome (old.payload id)) → entry.moved ≡ false → Carries state content before id → Carries state content after id
    step_carries held calm c =
        record {
          origin_runs = origin_runs (same_name id.origin.name name) refl;
          origin_has = λ core runs. elim (runs_after id.origin.name core runs) [
            | inl here ↦
                subst (λ k. (state k).has id ≡ true) here.1
                (keeps id (c.origin_has step.acts.old (subst (λ n. Runs before n step.acts.old) (sym here.0) runs_old)))
            | inr there ↦ c.origin_has core there.1
          ];
          senders_have = senders_after c.senders_have;
          carried_on = carried_after held calm c.origin_has c.senders_have c.carried_on;
        }
      where
        origin_runs : (b : Bool) → same_name id.origin.name name ≡ b → IsRunning after id.origin.name
        origin_runs true is = (step.acts.new, subst (λ n. Runs after n step.acts.new) (sym ((same_name-Decides id.origin.name name).0 is)) runs_new)
        origin_runs false is = (c.origin_runs.0, runs_on id.origin.name c.origin_runs.0 (names_differ id.origin.name name is) c.origin_runs.1)

    -- and so does the step that says it, where nobody had it before and no packet carried it
    pub says_carries :
        ((other : Name) (core : C) → Runs before other core → (state core).has id ≡ false) →
        ((number : ℕ) (packet : Packet N) → slice_get before.sent number ≡ Some packet → CarriesIt id (content packet.note) → ⊥) →
        id.origin.name ≡ name →
        new.has id ≡ true →
        Carries state content after id
    says_carries none_has none_carries mine has =
        record {
          origin_runs = (step.acts.new, subst (λ n. Runs after n step.acts.new) (sym mine) runs_new);
          origin_has = λ core runs. elim (runs_after id.origin.name core runs) [
            | inl here ↦ subst (λ k. (state k).has id ≡ true) here.1 has
            | inr there ↦ absurd (there.0 mine)
          ];
          senders_have = senders_after senders;
          carried_on =
              λ one two first second runs_first runs_second member back one_has lacks.
              go one two first second member lacks one_has (runs_after one first runs_first) (runs_after two second runs_second);
        }
      where
        senders : SendersHave state content before id
        senders number packet at carries = absurd (none_carries number packet at carries)

        go : (one two : Name) (first second : C) →
            has_name (state first).active two ≡ true →
            (state second).has id ≡ false →
            (state first).has id ≡ true →
            ((one ≡ name) × (step.acts.new ≡ first)) ⊎ ((one ≡ name → ⊥) × Runs before one first) →
            ((two ≡ name) × (step.acts.new ≡ second)) ⊎ ((two ≡ name → ⊥) × Runs before two second) →
            IsUnderWay content after.sent after.flight id one two (state first) (state second)
        go one two first second member lacks one_has (inl here) (inl there) =
            absurd (member_is_other two (subst (λ c. has_name (state c).active two ≡ true) (sym here.1) member) there.0)
        go one two first second member lacks one_has (inl here) (inr there) =
            subst (λ n. IsUnderWay content after.sent after.flight id n two (state first) (state second)) (sym here.0)
            (subst (λ c. IsUnderWay content after.sent after.flight id name two (state c) (state second)) here.1
            (spreads two second (subst (λ c. has_name (state c).active two ≡ true) (sym here.1) member)
            (none_has name step.acts.old runs_old) has lacks there.1 senders))
        go one two first second member lacks one_has (inr here) there = absurd (false≢true (sym (none_has one first here.1) ∙ one_has))

-- an event in which nothing but the flight grows carries the message on
pub flies_carries :
    {C N : Type 0}
    (state : C → CoreState)
    (content : N → Content)
    (entry : Entry)
    (before after : Group C N)
    (id : MsgId)
    (more : List ℕ) →
    OnlyFlies before entry after →
    after.flight ≡ before.flight ++ more →
    Carries state content before id →
    Carries state content after id
flies_carries {C} {N} state content entry before after id more flies grows c =
    record {
      origin_runs = (c.origin_runs.0, on id.origin.name c.origin_runs.0 c.origin_runs.1);
      origin_has = λ core runs. c.origin_has core (back id.origin.name core runs);
      senders_have =
          λ number packet at carries core runs. c.senders_have number packet
          (subst (λ ps. slice_get ps number ≡ Some packet) flies.sent at) carries core (back packet.sender.name core runs);
      carried_on =
          λ one two first second runs_first runs_second member other has lacks.
          go (c.carried_on one two first second (back one first runs_first) (back two second runs_second) member other has lacks);
    }
  where
    back : (name : Name) (core : C) → Runs after name core → Runs before name core
    back name core runs = (runs.0, subst (λ ns. node_of name ns ≡ Some runs.0) flies.nodes runs.1, runs.2)

    on : (name : Name) (core : C) → Runs before name core → Runs after name core
    on name core runs = (runs.0, subst (λ ns. node_of name ns ≡ Some runs.0) (sym flies.nodes) runs.1, runs.2)

    flight_on : (Such : Content → Type 0) (from to : Name) →
        IsInFlight content before.sent before.flight Such from to →
        IsInFlight content after.sent after.flight Such from to
    flight_on Such from to flight =
        record {
          number = flight.number;
          packet = flight.packet;
          flies = subst (λ ks. IsOneOf flight.number ks) (sym grows) (one-left before.flight more flight.number flight.flies);
          was_sent = subst (λ ps. slice_get ps flight.number ≡ Some flight.packet) (sym flies.sent) flight.was_sent;
          sender = flight.sender;
          receiver = flight.receiver;
          is_such = flight.is_such;
        }

    go : {one two : Name} {first second : CoreState} →
        IsUnderWay content before.sent before.flight id one two first second →
        IsUnderWay content after.sent after.flight id one two first second
    go {one} {two} (Carried flight) = Carried (flight_on (CarriesIt id) one two flight)
    go (Queued queued) = Queued queued
    go {one} {two} (Announced flight) = Announced (flight_on (AnnouncesIt id) one two flight)
    go (Wanted wanted) = Wanted wanted
    go {one} {two} (Asked flight) = Asked (flight_on (AsksForIt id) two one flight)
