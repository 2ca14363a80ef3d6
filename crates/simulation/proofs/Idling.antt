-- Which actions do something, by the state of their node.
use Rattle.std.proofs.Common.{◌≡◌, ◌≢◌, ◌∙◌, true, Some, None, ap, sym}
use Rattle.std.proofs.lemmas.Bool.{true≢false}
use Rattle.std.proofs.lemmas.Option.{same_Some}
use Rattle.frames.specs.Frame.{Frame}
use Rattle.node_core.specs.Plum.{Plum, plum_state}
use Rattle.node_names.specs.NodeName.{Name}
use Rattle.node_names.specs.Same.{has_id, has_name}
use Rattle.node_names.specs.declared.ids.MsgId.{MsgId}
use Rattle.world.specs.Group.{Group, core_of}
use Rattle.simulation.specs.Play.{IsIdle}
use Rattle.simulation.specs.declared.play.Idle.{Idle}
use Rattle.simulation.specs.declared.play.Idle.TheVariants.{NoLink, NoTimer}
use Rattle.scenario.specs.declared.action.Action.{Action}
use Rattle.scenario.specs.declared.action.Action.TheVariants.{Down, Fire}

module _ (group : Group Plum Frame) (node : Name) where
  -- a timer that is armed
  pub armed : (id : MsgId) (core : Plum) →
      core_of node group.nodes ≡ Some core →
      has_id (plum_state core).timers id ≡ true →
      (why : Idle) →
      IsIdle plum_state why (Fire node id) group →
      ⊥
  armed id core runs has NoTimer (name, other, its, is, also, lacks) =
      let same_name : node ≡ name = cc is in
      let same_id : id ≡ other = cc is in
      let same : core ≡ its = same_Some core its (sym runs ∙ ap (λ (n : Name). core_of n group.nodes) same_name ∙ also) in
      true≢false (sym has ∙ ap (λ (c : Plum). has_id (plum_state c).timers id) same ∙ ap (λ (i : MsgId). has_id (plum_state its).timers i) same_id ∙ lacks)
  armed id core runs has NoLink (name, peer, its, is, also, lacks) = absurd (cc is)

  -- a link that is there
  pub linked : (peer : Name) (core : Plum) →
      core_of node group.nodes ≡ Some core →
      has_name (plum_state core).active peer ≡ true →
      (why : Idle) →
      IsIdle plum_state why (Down node peer) group →
      ⊥
  linked peer core runs has NoTimer (name, id, its, is, also, lacks) = absurd (cc is)
  linked peer core runs has NoLink (name, other, its, is, also, lacks) =
      let same_name : node ≡ name = cc is in
      let same_peer : peer ≡ other = cc is in
      let same : core ≡ its = same_Some core its (sym runs ∙ ap (λ (n : Name). core_of n group.nodes) same_name ∙ also) in
      true≢false
      (sym has ∙ ap (λ (c : Plum). has_name (plum_state c).active peer) same ∙ ap (λ (p : Name). has_name (plum_state its).active p) same_peer ∙ lacks)

  -- a node that does not run
  pub stopped_timer : (id : MsgId) → core_of node group.nodes ≡ None → (why : Idle) → IsIdle plum_state why (Fire node id) group → ⊥
  stopped_timer id stopped NoTimer (name, other, its, is, also, lacks) =
      let same_name : node ≡ name = cc is in
      let both : None ≡ Some its = sym stopped ∙ ap (λ (n : Name). core_of n group.nodes) same_name ∙ also in
      absurd (cc both)
  stopped_timer id stopped NoLink (name, peer, its, is, also, lacks) = absurd (cc is)

  pub stopped_link : (peer : Name) → core_of node group.nodes ≡ None → (why : Idle) → IsIdle plum_state why (Down node peer) group → ⊥
  stopped_link peer stopped NoTimer (name, id, its, is, also, lacks) = absurd (cc is)
  stopped_link peer stopped NoLink (name, other, its, is, also, lacks) =
      let same_name : node ≡ name = cc is in
      let both : None ≡ Some its = sym stopped ∙ ap (λ (n : Name). core_of n group.nodes) same_name ∙ also in
      absurd (cc both)

-- what neither fires a timer nor has a link fail
pub neither : (group : Group Plum Frame) (action : Action) →
    ((node : Name) (id : MsgId) → action ≢ Fire node id) →
    ((node : Name) (peer : Name) → action ≢ Down node peer) →
    (why : Idle) →
    IsIdle plum_state why action group →
    ⊥
neither group action not_fire not_down NoTimer (node, id, core, is, runs, lacks) = not_fire node id is
neither group action not_fire not_down NoLink (node, peer, core, is, runs, lacks) = not_down node peer is
