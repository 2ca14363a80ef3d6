-- A run goes on by one event.
use Rattle.std.proofs.Common.{◌≡◌, List, [], ◌∷◌, ◌++◌, sym, ◌∙◌, ap, subst}
use Rattle.std.specs.Prelude.{ℕ, Option, OnErr, reverse, length}
use Rattle.std.specs.declared.result.Result.{Result}
use Rattle.std.specs.declared.result.Result.TheVariants.{Ok, Err}
use Rattle.std.proofs.lemmas.List.{reverse-append}
use Rattle.node_names.specs.NodeName.{Name}
use Rattle.node_names.specs.Limits.{Limits}
use Rattle.node_names.specs.declared.ids.Origin.{Origin}
use Rattle.protocol.specs.CoreState.{CoreState}
use Rattle.protocol.specs.Delivery.{Delivery}
use Rattle.protocol.specs.Stimulus.{Stimulus}
use Rattle.world.specs.Entry.{Entry}
use Rattle.world.specs.Event.{Event}
use Rattle.world.specs.Group.{Group, Logged}
use Rattle.world.specs.Plan.{group_after, launched, nodes_after, staying}
use Rattle.world.specs.Run.{Effect, Happens, Run, Tells}
use Rattle.world.specs.declared.node_state.NodeState.{NodeState}
use Rattle.world.specs.declared.packet.Packet.{Packet}

-- a group whose parts are those after the plan is the group after the plan
pub same_group :
    {C N : Type 0} (group : Group C N) (changed : Option (NodeState C)) (packets : List (Packet N)) (leaving again : Option ℕ)
    (nodes : List (NodeState C)) (sent : List (Packet N)) (flight : List ℕ) →
    nodes ≡ nodes_after changed group.nodes →
    sent ≡ group.sent ++ packets →
    flight ≡ staying group.flight leaving ++ launched again (length group.sent) (length packets) →
    ◌≡◌ {A = Group C N} (record { nodes = nodes; sent = sent; flight = flight }) (group_after group changed packets leaving again)
same_group group changed packets leaving again nodes sent flight p q r = λ i. record { nodes = p i; sent = q i; flight = r i }

-- a group with a log whose parts are as before is as before
pub same_world :
    {C N : Type 0} (limits : Limits) (group : Group C N) (log : List Entry)
    (nodes : List (NodeState C)) (sent : List (Packet N)) (flight : List ℕ) (entries : List Entry) →
    nodes ≡ group.nodes →
    sent ≡ group.sent →
    flight ≡ group.flight →
    entries ≡ log →
    ◌≡◌ {A = Logged C N} (record { limits = limits; group = record { nodes = nodes; sent = sent; flight = flight }; log = entries })
    (record { limits = limits; group = group; log = log })
same_world limits group log nodes sent flight entries p q r s =
    λ i. record { limits = limits; group = record { nodes = p i; sent = q i; flight = r i }; log = s i }

-- what holds in any case holds after a refusal
pub refused_anyway : {X E : Type 0} (result : Result X E) (P : Type 0) → P → OnErr result P
refused_anyway (Ok x) P p = tt
refused_anyway (Err e) P p = p

module _
    {C N : Type 0}
    (state : C → CoreState)
    (starts : Origin → Limits → List Name → Option Name → List (Name × N) → C → Type 0)
    (steps : C → Stimulus N → List (Name × N) → List Delivery → C → Type 0)
  where
    -- one more entry that says what happened makes a longer run
    pub run_goes_on : (limits : Limits) (log longer : List Entry) (before after : Group C N) (entry : Entry) →
        Run state starts steps limits (reverse log) before →
        Happens state starts steps limits before entry after →
        longer ≡ log ++ entry ∷ [] →
        Run state starts steps limits (reverse longer) after
    run_goes_on limits log longer before after entry run happens is =
        subst (λ history. Run state starts steps limits history after) (sym (ap reverse is ∙ reverse-append log (entry ∷ []))) (before, run, happens)

    -- an entry that tells an event says what happened
    pub happens_as_told : (limits : Limits) (event : Event) (before after : Group C N) (entry : Entry) →
        Tells state starts steps limits event before entry after →
        Happens state starts steps limits before entry after
    happens_as_told limits event before after entry told =
        (told.first_sent, subst (λ e. Effect state starts steps limits before entry after e) (sym told.of_event) told.effect)
