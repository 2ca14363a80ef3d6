-- A plan tells its event, and what is refused: over plain groups and entries.
use Rattle.std.proofs.Common.{◌≡◌, ◌≤◌, ◌<◌, ℕ, List, length, true, false, sym, ◌∙◌, ap, refl, arith, subst, [], ◌∷◌, zero, suc, inl, inr}
use Rattle.std.proofs.lemmas.List.{length-map}
use Rattle.std.specs.Prelude.{◌⊎◌, Bool, Option, Some, None, IfSome, IsTrue, remove, slice_get, nat_le, nat_lt, ◌++◌}
use Rattle.std.proofs.lemmas.Bool.Decides.{Decides-ltb, nat_tests}
use Rattle.node_names.specs.NodeName.{Name}
use Rattle.node_names.specs.Limits.{Limits}
use Rattle.node_names.specs.declared.dice.Dice.{Dice}
use Rattle.node_names.specs.declared.ids.Incarnation.{Incarnation}
use Rattle.node_names.specs.declared.ids.Origin.{Origin}
use Rattle.protocol.specs.CoreState.{CoreState}
use Rattle.protocol.specs.Delivery.{Delivery}
use Rattle.protocol.specs.Lists.{places}
use Rattle.protocol.specs.Peers.{are_peers}
use Rattle.protocol.specs.Stimulus.{Stimulus}
use Rattle.protocol.specs.declared.TheConstants.{MAX_PAYLOAD}
use Rattle.protocol.specs.declared.stimulus.StimulusOf.TheVariants as stimulus
use Rattle.world.specs.Entry.{Entry}
use Rattle.world.specs.Event.{Event}
use Rattle.world.specs.Group.{Group, node_of, packets}
use Rattle.world.specs.Plan.{group_after}
use Rattle.world.specs.Refusals.{absent, refusal, packet_at, stale, unless, IsRefusal}
use Rattle.world.specs.Run.{Acts, Effect, Tells}
use Rattle.world.specs.declared.error.WorldError.{WorldError}
use Rattle.world.specs.declared.error.WorldError.TheVariants.{StaleIncarnation, SeqSpent, OutOfMemory}
use Rattle.world.specs.declared.event.EventOf.TheVariants.{Arrive, Broadcast, Start}
use Rattle.world.specs.declared.node_state.NodeState.{NodeState}
use Rattle.world.specs.declared.packet.Packet.{Packet}

-- a running node is not absent
pub not_absent : {C : Type 0} (name : Name) (nodes : List (NodeState C)) (node : NodeState C) (core : C) →
    node_of name nodes ≡ Some node →
    node.core ≡ Some core →
    absent (node_of name nodes) ≡ None
not_absent name nodes node core known running = rw known (rw running refl)

-- a broadcast of a short payload by a running node is not refused
pub broadcast_accepted : {C N : Type 0} (limits : Limits) (group : Group C N) (name : Name) (payload : List ℕ) (event : Event) (node : NodeState C) (core : C) →
    event ≡ Broadcast name payload →
    node_of name group.nodes ≡ Some node →
    node.core ≡ Some core →
    length payload ≤ MAX_PAYLOAD →
    refusal limits group event ≡ None
broadcast_accepted limits group name payload event node core is known running short =
    let fits : nat_le (length payload) MAX_PAYLOAD ≡ true = grind (arith, nat_tests) in
    rw is (rw (not_absent name group.nodes node core known running) (rw fits refl))

-- the arrival of a packet in flight is told by its receiver's step
pub tells_arrival :
    {C N : Type 0}
    (state : C → CoreState)
    (starts : Origin → Limits → List Name → Option Name → List (Name × N) → C → Type 0)
    (steps : C → Stimulus N → List (Name × N) → List Delivery → C → Type 0)
    (limits : Limits)
    (event : Event)
    (before : Group C N)
    (entry : Entry)
    (after : Group C N)
    (place : ℕ)
    (dice : Dice)
    (number : ℕ)
    (packet : Packet N) →
    event ≡ Arrive place dice →
    entry.event ≡ event →
    entry.packet ≡ Some number →
    entry.first_sent ≡ length before.sent →
    slice_get before.flight place ≡ Some number →
    slice_get before.sent number ≡ Some packet →
    Acts state steps before (remove before.flight place) packet.to (stimulus.Arrive packet.sender packet.note dice) entry after →
    Tells state starts steps limits event before entry after
tells_arrival state starts steps limits event before entry after place dice number packet is of_event named first in_flight sent acts =
    record {
      of_event = of_event;
      first_sent = first;
      effect =
          subst (λ e. Effect state starts steps limits before entry after e) (sym is)
          (record { number = number; packet = packet; in_flight = in_flight; sent = sent; named = named; acts = acts });
    }

-- a start that is not refused, with what the core sent, tells its event
pub tells_start :
    {C N : Type 0}
    (state : C → CoreState)
    (starts : Origin → Limits → List Name → Option Name → List (Name × N) → C → Type 0)
    (steps : C → Stimulus N → List (Name × N) → List Delivery → C → Type 0)
    (limits : Limits)
    (event : Event)
    (before : Group C N)
    (name : Name)
    (incarnation : Incarnation)
    (peers : List Name)
    (contact : Option Name)
    (sends : List (Name × N))
    (made : List (Packet N))
    (core : C) →
    event ≡ Start name incarnation peers contact →
    stale (node_of name before.nodes) incarnation ≡ None →
    IsTrue (are_peers limits name peers contact) →
    starts (record { name = name; incarnation = incarnation }) limits peers contact sends core →
    made ≡ packets (record { name = name; incarnation = incarnation }) sends →
    Tells state starts steps limits event before
    (record { event = event; packet = None; first_sent = length before.sent; moved = false; given = [] })
    (group_after before (Some (record { name = name; highest = incarnation; core = Some core })) made None None)
tells_start {C} {N} state starts steps limits event before name incarnation peers contact sends made core is fresh fit started are =
    record {
      of_event = refl;
      first_sent = refl;
      effect = subst (λ e. Effect state starts steps limits before
          (record { event = event; packet = None; first_sent = length before.sent; moved = false; given = [] })
          (group_after before (Some (record { name = name; highest = incarnation; core = Some core })) made None None)
          e)
          (sym is) (
            refl,
            record {
              core = core;
              sends = sends;
              fresh = is_fresher (node_of name before.nodes) fresh;
              fit = fit;
              started = started;
              nodes = refl;
              sending =
                  record {
                    sent = ap (λ ps. before.sent ++ ps) are;
                    flight =
                        ap (λ n. before.flight ++ places (length before.sent) n) (ap length are ∙ length-map sends
                        (λ (send : Name × N). record { sender = record { name = name; incarnation = incarnation }; to = send.0; note = send.1 }));
                  };
              nothing_given = refl;
              nothing_moved = refl;
            },
          );
    }
  where
    is_fresher : (o : Option (NodeState C)) → stale o incarnation ≡ None → IfSome o (λ node. node.highest.0 < incarnation.0)
    is_fresher None e = tt
    is_fresher (Some node) e = go (nat_lt node.highest.0 incarnation.0) refl e
      where
        go : (b : Bool) → nat_lt node.highest.0 incarnation.0 ≡ b → unless b (StaleIncarnation node.highest) ≡ None → node.highest.0 < incarnation.0
        go true is f = (Decides-ltb node.highest.0 incarnation.0).0 is
        go false is f = let no : Some (StaleIncarnation node.highest) ≡ None = f in cc

-- an arrival that a core refuses is refused as its step was
pub arrival_refused :
    {C N : Type 0}
    (is_spent : C → Stimulus N → Type 0)
    (limits : Limits)
    (group : Group C N)
    (event : Event)
    (place : ℕ)
    (dice : Dice)
    (number : ℕ)
    (packet : Packet N)
    (node : NodeState C)
    (core : C)
    (e : WorldError) →
    event ≡ Arrive place dice →
    slice_get group.flight place ≡ Some number →
    slice_get group.sent number ≡ Some packet →
    node_of packet.to group.nodes ≡ Some node →
    node.core ≡ Some core →
    (e ≡ OutOfMemory) ⊎ ((e ≡ SeqSpent) × is_spent core (stimulus.Arrive packet.sender packet.note dice)) →
    IsRefusal is_spent limits group event e
arrival_refused {C} {N} is_spent limits group event place dice number packet node core e is in_flight sent known running late =
    let there : packet_at group place ≡ Some packet = rw in_flight sent in
    subst (λ v. IsRefusal is_spent limits group v e) (sym is)
    (inr (
      rw there (not_absent packet.to group.nodes node core known running),
      elim late [
        | inl memory ↦ inl memory
        | inr spent ↦ inr (spent.0, (packet, there, record { node = node; core = core; known = known; running = running; spent = spent.1 }))
      ],
    ))

-- what is found at a place stands before the end
pub found_within : {X : Type 0} (xs : List X) (k : ℕ) (x : X) → slice_get xs k ≡ Some x → k < length xs
found_within [] k x e = let no : None ≡ Some x = e in cc
found_within (y ∷ ys) zero x e = grind arith
found_within (y ∷ ys) (suc k) x e = let later : k < length ys = found_within ys k x e in omega arith
