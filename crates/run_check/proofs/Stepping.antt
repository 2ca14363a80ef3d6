-- A node whose core steps, as it is written back among the nodes.
use Rattle.std.proofs.Common.{◌≡◌, ◌∙◌, List, ap, false, sym}
use Rattle.std.specs.Prelude.{◌↔◌, IfOk, OnErr, Result, Ok, Err, Some, if◌then◌else◌}
use Rattle.std.specs.Map.{lookup, set_value}
use Rattle.std.proofs.lemmas.Map.Steps.{set_value_same}
use Rattle.node_names.specs.NodeName.{Name}
use Rattle.node_names.specs.Limits.{Limits}
use Rattle.node_names.specs.Same.{same_name}
use Rattle.node_names.specs.declared.ids.Origin.{Origin}
use Rattle.protocol.specs.CoreState.{CoreState}
use Rattle.protocol.specs.Delivery.{Delivery}
use Rattle.protocol.specs.SameNames.{SameNames}
use Rattle.protocol.specs.Stimulus.{Stimulus}
use Rattle.world.specs.declared.node_state.NodeState.{NodeState}
use Rattle.frames.specs.Frame.{Frame}
use Rattle.run_check.specs.Following.{Steps}
use Rattle.run_check.specs.declared.nodes.Outcome.{Outcome}
use Rattle.std.specs.Prelude.{Option}

-- a node that is written back as it was
pub unwritten : {C : Type 0} (name : Name) (old new : List (Name × NodeState C)) (node : NodeState C) →
    lookup (same_name name) old ≡ Some node →
    new ≡ set_value (same_name name) old node →
    new ≡ old
unwritten name old new node known written = written ∙ set_value_same (same_name name) old node known

-- a core that did not step
pub unstepped : {C X E : Type 0} (result : Result X E) (name : Name) (old new : List (Name × NodeState C)) (node : NodeState C) (before after : C) →
    lookup (same_name name) old ≡ Some node →
    node.core ≡ Some before →
    new ≡ set_value (same_name name) old (record { name = node.name; highest = node.highest; core = Some after }) →
    OnErr result (after ≡ before) →
    OnErr result (new ≡ old)
unstepped (Ok x) name old new node before after known running written same = tt
unstepped {C} (Err e) name old new node before after known running written same =
    let core : Some after ≡ node.core = ap (λ (c : C). Some c) same ∙ sym running in
    let is : record { name = node.name; highest = node.highest; core = Some after } ≡ node =
    λ i. record { name = node.name; highest = node.highest; core = core i } in
    written ∙ ap (λ (n : NodeState C). set_value (same_name name) old n) is ∙ set_value_same (same_name name) old node known

-- a core that stepped
pub stepped : {C E : Type 0}
    (state : C → CoreState)
    (starts : Origin → Limits → List Name → Option Name → List (Name × Frame) → C → Type 0)
    (steps : C → Stimulus Frame → List (Name × Frame) → List Delivery → C → Type 0)
    (result : Result Outcome E) (old new : List (Name × NodeState C)) (run : Origin) (told : Stimulus Frame) (node : NodeState C) (before after : C) →
    lookup (same_name run.name) old ≡ Some node →
    node.highest ≡ run.incarnation →
    node.core ≡ Some before →
    IfOk result (λ did. steps before told did.sends.items did.given.items after) →
    IfOk result (λ did. (did.moved ≡ false) ↔ SameNames (state before).active (state after).active) →
    ((name : Name) → lookup (same_name name) new
    ≡ (if same_name run.name name then Some (record { name = node.name; highest = node.highest; core = Some after }) else lookup (same_name name) old)) →
    IfOk result (λ did. Steps state starts steps old run told did.sends.items did.given.items did.moved new)
stepped state starts steps (Ok did) old new run told node before after known is_run running made moves puts =
    record { node = node; before = before; after = after; known = known; is_run = is_run; running = running; stepped = made; moves = moves; puts = puts }
stepped state starts steps (Err e) old new run told node before after known is_run running made moves puts = tt
