-- What a run of a node did stays what it did when the group goes on.
use Rattle.std.proofs.Common.{◌≡◌, ◌∙◌, ◌-◌, ◌<◌, ◌≤◌, ◌++◌, ℕ, List, [], ◌∷◌, ap, append_assoc, arith, drop, length, refl, subst, sym, take}
use Rattle.std.specs.Prelude.{◌&&◌, Option, Some, map, slice_get}
use Rattle.std.proofs.Math.ListN.{get_or-append}
use Rattle.std.proofs.Math.Seq.{drop-append_seam, take-length}
use Rattle.std.proofs.lemmas.List.{append-nil, drop-append-le, length-append, length-drop, take-append-le}
use Rattle.std.proofs.lemmas.Option.{get_or_from_slice_get, slice_get_read, slice_get_within}
use Rattle.node_names.specs.NodeName.{Name}
use Rattle.node_names.specs.Limits.{Limits}
use Rattle.node_names.specs.declared.ids.Incarnation.{Incarnation}
use Rattle.node_names.specs.declared.ids.Origin.{Origin}
use Rattle.protocol.specs.CoreState.{CoreState}
use Rattle.protocol.specs.Delivery.{Delivery}
use Rattle.protocol.specs.Stimulus.{Stimulus}
use Rattle.protocol.specs.Trace.{Trace}
use Rattle.world.specs.Entry.{Entry}
use Rattle.world.specs.Event.{Event}
use Rattle.world.specs.Group.{Group, packets}
use Rattle.world.specs.History.{incarnation_of}
use Rattle.world.specs.Plan.{arrival, stimulus_by}
use Rattle.world.specs.Refusals.{sent_under}
use Rattle.world.specs.Run.{Effect, Run}
use Rattle.world.specs.declared.event.EventOf.TheVariants.{Start, Broadcast, Arrive, Lose, Again, Fire, Flush, Down, Shuffle, Join, Stop}
use Rattle.world.specs.declared.packet.Packet.{Packet}
use Rattle.trace_merge.specs.Projection.{is_last, is_name, projection, receiver, said, sends_between, started_on, stepped_name, stepped_on, traced_on}

-- what stands at a place of a list stands there when more follow
pub slice_get-more : {X : Type 0} (xs ys : List X) (i : ℕ) (x : X) → slice_get xs i ≡ Some x → slice_get (xs ++ ys) i ≡ Some x
slice_get-more {X} xs ys i x at =
    let within : i < length xs = slice_get_within xs i x at in
    let still : i < length (xs ++ ys) = simp length-append (omega arith) in
    slice_get_read (xs ++ ys) (length (xs ++ ys)) i x refl still (sym (get_or-append xs ys x i within ∙ get_or_from_slice_get xs i x x at))

-- and so do the packets up to a number
pub sends_between-more : {N : Type 0} (xs ys : List (Packet N)) (first : ℕ) →
    first ≤ length xs →
    sends_between first (length xs) (xs ++ ys) ≡ sends_between first (length xs) xs
sends_between-more {N} xs ys first low =
    let fits : length xs - first ≤ length (drop first xs) = simp length-drop (omega arith) in
    ap (map said) (ap (take (length xs - first)) (drop-append-le first xs ys low) ∙ take-append-le (length xs - first) (drop first xs) ys fits)

-- the packets that sends make say what was sent, and to whom
pub said-packets : {N : Type 0} (sender : Origin) (sends : List (Name × N)) → map said (packets sender sends) ≡ sends
said-packets sender [] = refl
said-packets {N} sender (send ∷ sends) = λ i. (send.0, send.1) ∷ said-packets sender sends i

-- what was sent last
pub sends_between-last : {N : Type 0} (xs : List (Packet N)) (sender : Origin) (sends : List (Name × N)) →
    sends_between (length xs) (length (xs ++ packets sender sends)) (xs ++ packets sender sends) ≡ sends
sends_between-last {N} xs sender sends =
    let ps : List (Packet N) = packets sender sends in
    let many : length (xs ++ ps) - length xs ≡ length ps = simp length-append (omega arith) in
    ap (map said) (ap (λ n. take n (drop (length xs) (xs ++ ps))) many ∙ ap (take (length ps)) (drop-append_seam xs ps) ∙ take-length ps)
    ∙ said-packets sender sends

-- a trace goes on in the same way where what it reads of the packets is the same
pub traced-same :
    {N : Type 0}
    (o : Origin)
    (last : Option Incarnation)
    (entry : Entry)
    (end : ℕ)
    (sent others : List (Packet N))
    (trace other : Option (Trace N)) →
    sends_between entry.first_sent end sent ≡ sends_between entry.first_sent end others →
    stimulus_by sent entry.event entry.packet ≡ stimulus_by others entry.event entry.packet →
    stepped_name sent entry.event entry.packet ≡ stepped_name others entry.event entry.packet →
    trace ≡ other →
    traced_on o last sent entry end trace ≡ traced_on o last others entry end other
traced-same {N} o last entry end sent others trace other sends told name before =
    λ i. started_on o entry.event (record { sends = sends i; deliveries = entry.given })
    (stepped_on (is_last o last && is_name o.name (name i)) (told i) (record { sends = sends i; deliveries = entry.given }) (before i))

-- What the event says of these packets it says when more follow.
abbrev pub Names : {N : Type 0} → Event → Option ℕ → List (Packet N) → Type 0
Names {N} event number sent =
    (more : List (Packet N)) →
    (stimulus_by (sent ++ more) event number ≡ stimulus_by sent event number) × (stepped_name (sent ++ more) event number ≡ stepped_name sent event number)

module _
    {C N : Type 0}
    (state : C → CoreState)
    (starts : Origin → Limits → List Name → Option Name → List (Name × N) → C → Type 0)
    (steps : C → Stimulus N → List (Name × N) → List Delivery → C → Type 0)
    (limits : Limits)
  where
    -- an event's packets come behind those before it
    pub sent_grows : (before : Group C N) (entry : Entry) (after : Group C N) (event : Event) →
        Effect state starts steps limits before entry after event →
        (more : List (Packet N)) × (after.sent ≡ before.sent ++ more)
    sent_grows before entry after (Start name incarnation peers contact) effect = (_, effect.1.sending.sent)
    sent_grows before entry after (Broadcast name payload) effect = (_, effect.1.sending.sent)
    sent_grows before entry after (Arrive place dice) effect = (_, effect.acts.sending.sent)
    sent_grows before entry after (Lose place) effect = ([], effect.others.sent ∙ sym (append-nil before.sent))
    sent_grows before entry after (Again number) effect = ([], effect.others.sent ∙ sym (append-nil before.sent))
    sent_grows before entry after (Fire name id) effect = (_, effect.1.sending.sent)
    sent_grows before entry after (Flush name) effect = (_, effect.1.sending.sent)
    sent_grows before entry after (Down name peer dice) effect = (_, effect.1.sending.sent)
    sent_grows before entry after (Shuffle name dice) effect = (_, effect.1.sending.sent)
    sent_grows before entry after (Join name contact) effect = (_, effect.1.sending.sent)
    sent_grows before entry after (Stop name) effect = ([], effect.1.sent ∙ sym (append-nil before.sent))

    -- an event names a packet that was sent before it, if it names one
    pub names_before : (before : Group C N) (entry : Entry) (after : Group C N) (event : Event) →
        Effect state starts steps limits before entry after event →
        Names event entry.packet before.sent
    names_before before entry after (Arrive place dice) effect more =
        let under : sent_under (before.sent ++ more) entry.packet ≡ sent_under before.sent entry.packet =
        ap (sent_under (before.sent ++ more)) effect.named
        ∙ slice_get-more before.sent more effect.number effect.packet effect.sent
        ∙ sym (ap (sent_under before.sent) effect.named ∙ effect.sent)
        in (ap (λ p. arrival p dice) under, ap receiver under)
    names_before before entry after (Start name incarnation peers contact) effect more = (refl, refl)
    names_before before entry after (Broadcast name payload) effect more = (refl, refl)
    names_before before entry after (Lose place) effect more = (refl, refl)
    names_before before entry after (Again number) effect more = (refl, refl)
    names_before before entry after (Fire name id) effect more = (refl, refl)
    names_before before entry after (Flush name) effect more = (refl, refl)
    names_before before entry after (Down name peer dice) effect more = (refl, refl)
    names_before before entry after (Shuffle name dice) effect more = (refl, refl)
    names_before before entry after (Join name contact) effect more = (refl, refl)
    names_before before entry after (Stop name) effect more = (refl, refl)

    -- what was projected stays so when more is sent
    pub projection-stays : (o : Origin) (past : List Entry) (group : Group C N) (more : List (Packet N)) → Run state starts steps limits past group →
        projection o (group.sent ++ more) (length group.sent) past ≡ projection o group.sent (length group.sent) past
    projection-stays o [] group more ran = refl
    projection-stays o (entry ∷ past) group more (before, ran, (first, effect)) =
        let grows : (ps : List (Packet N)) × (group.sent ≡ before.sent ++ ps) = sent_grows before entry group entry.event effect in
        let names : Names entry.event entry.packet before.sent = names_before before entry group entry.event effect in
        subst (λ xs. projection o (xs ++ more) (length xs) (entry ∷ past) ≡ projection o xs (length xs) (entry ∷ past)) (sym grows.1)
        (later o entry past before grows.0 more first names (λ xs. projection-stays o past before xs ran))
      where
        later : (o : Origin) (entry : Entry) (past : List Entry) (before : Group C N) (ps more : List (Packet N)) →
            entry.first_sent ≡ length before.sent →
            Names entry.event entry.packet before.sent →
            ((xs : List (Packet N)) → projection o (before.sent ++ xs) (length before.sent) past ≡ projection o before.sent (length before.sent) past) →
            projection o ((before.sent ++ ps) ++ more) (length (before.sent ++ ps)) (entry ∷ past)
            ≡ projection o (before.sent ++ ps) (length (before.sent ++ ps)) (entry ∷ past)
        later o entry past before ps more first names stays =
            let joined : (before.sent ++ ps) ++ more ≡ before.sent ++ (ps ++ more) = append_assoc before.sent ps more in
            let low : entry.first_sent ≤ length (before.sent ++ ps) = simp length-append (omega arith) in
            let told : (xs : List (Packet N)) → projection o (before.sent ++ xs) entry.first_sent past ≡ projection o before.sent (length before.sent) past =
            λ xs. ap (λ n. projection o (before.sent ++ xs) n past) first ∙ stays xs
            in
            traced-same o (incarnation_of o.name past) entry (length (before.sent ++ ps)) ((before.sent ++ ps) ++ more) (before.sent ++ ps)
            (projection o ((before.sent ++ ps) ++ more) entry.first_sent past) (projection o (before.sent ++ ps) entry.first_sent past)
            (sends_between-more (before.sent ++ ps) more entry.first_sent low)
            (ap (λ xs. stimulus_by xs entry.event entry.packet) joined ∙ (names (ps ++ more)).0 ∙ sym (names ps).0)
            (ap (λ xs. stepped_name xs entry.event entry.packet) joined ∙ (names (ps ++ more)).1 ∙ sym (names ps).1)
            (ap (λ xs. projection o xs entry.first_sent past) joined ∙ told (ps ++ more) ∙ sym (told ps))

    -- what is projected after one more event
    pub projection-after : (o : Origin) (past : List Entry) (before : Group C N) (entry : Entry) (after : Group C N) →
        Run state starts steps limits past before →
        entry.first_sent ≡ length before.sent →
        Effect state starts steps limits before entry after entry.event →
        projection o after.sent (length after.sent) (entry ∷ past)
        ≡ traced_on o (incarnation_of o.name past) after.sent entry (length after.sent) (projection o before.sent (length before.sent) past)
    projection-after o past before entry after ran first effect =
        let grows : (ps : List (Packet N)) × (after.sent ≡ before.sent ++ ps) = sent_grows before entry after entry.event effect in
        ap (traced_on o (incarnation_of o.name past) after.sent entry (length after.sent))
        (ap (λ n. projection o after.sent n past) first
        ∙ ap (λ xs. projection o xs (length before.sent) past) grows.1
        ∙ projection-stays o past before grows.0 ran)
