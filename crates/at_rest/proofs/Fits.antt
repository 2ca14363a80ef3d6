-- In every run of whole nodes each packet that was sent fits a frame, so that an announcement announces something.
use Rattle.std.proofs.Common.{◌≡◌, ◌∙◌, ◌+◌, ℕ, List, [], ◌∷◌, sym, ap, refl, subst, inl, inr}
use Rattle.std.specs.List.{AllByRecursion as Each}
use Rattle.std.specs.Prelude.{Option, Some, None}
use Rattle.node_names.specs.NodeName.{Name}
use Rattle.node_names.specs.Limits.{Limits}
use Rattle.node_names.specs.declared.dice.Dice.{Dice}
use Rattle.node_names.specs.declared.ids.Origin.{Origin}
use Rattle.protocol.specs.Laws.{Laws}
use Rattle.protocol.specs.Stimulus.{Stimulus}
use Rattle.protocol.specs.declared.stimulus.StimulusOf.TheVariants as stimulus
use Rattle.world.specs.Entry.{Entry}
use Rattle.world.specs.Event.{Event}
use Rattle.world.specs.Group.{Group, node_of, origin_of, packets, put_node}
use Rattle.world.specs.Links.{Runs}
use Rattle.world.specs.Run.{Effect, Run, Starts}
use Rattle.world.specs.declared.event.EventOf.TheVariants.{Start, Broadcast, Arrive, Lose, Again, Fire, Flush, Down, Shuffle, Join, Stop}
use Rattle.world.specs.declared.node_state.NodeState.{NodeState}
use Rattle.world.specs.declared.packet.Packet.{Packet}
use Rattle.world.proofs.FindLemmas.{put_cases}
use Rattle.world.proofs.Kept.{Keeps, each-append, each-at}
use Rattle.world.proofs.Runs.{run_keeps}
use Rattle.world.proofs.Steps.{IsStep, arrive_step, broadcast_step, down_step, fire_step, flush_step, shuffle_step, join_step}
use Rattle.frames.specs.Body.{Body}
use Rattle.frames.specs.Content.{frame_content}
use Rattle.frames.specs.Frame.{Frame}
use Rattle.views.specs.Views.{AreSound}
use Rattle.node_core.specs.Fits.{AreFit, ComesFit, FitsFrames, IsFit}
use Rattle.node_core.specs.Plum.{IsSoundPlum, Plum, plum_state}
use Rattle.node_core.specs.Steps.{PlumStarts, PlumSteps, numbered, opening, turned}

-- If what the core holds and the stimulus fit, then so do what the core holds afterwards and what it sends.
abbrev pub StepsFit : Type 0
StepsFit =
    (core : Plum) (stimulus : Stimulus Frame) →
    FitsFrames core.gossip →
    AreSound core.membership.views →
    ComesFit stimulus →
    FitsFrames (turned core.me core.membership core.gossip stimulus).gossip × AreFit (turned core.me core.membership core.gossip stimulus).sends

-- Every packet that was sent fits, and what each running core holds.
pub record GroupFits (group : Group Plum Frame) : Type 0 where
  pub sent : Each (λ (packet : Packet Frame). IsFit packet.note.body) group.sent
  pub cores : (name : Name) (core : Plum) → Runs group name core → FitsFrames core.gossip

-- bodies that fit make packets that do
packets_fit : (me : Origin) (sender : Origin) (framed : ℕ) (sends : List (Name × Body)) →
    AreFit sends →
    Each (λ (packet : Packet Frame). IsFit packet.note.body) (packets sender (numbered me framed sends))
packets_fit me sender framed [] fit = tt
packets_fit me sender framed (send ∷ sends) fit = (fit.0, packets_fit me sender (framed + 1) sends fit.1)

-- a JOIN fits
opening_fits : (contact : Option Name) → AreFit (opening contact)
opening_fits None = tt
opening_fits (Some contact) = ((refl, refl), tt)

module _
    (laws : Laws plum_state frame_content IsSoundPlum PlumStarts PlumSteps)
    (steps_fit : StepsFit)
    (limits : Limits)
  where
    module _ (past : List Entry) (entry : Entry) (before after : Group Plum Frame)
        (kept : Keeps plum_state frame_content IsSoundPlum limits past before.nodes before.sent) (fits : GroupFits before) where
      -- a node that is put fits if its core does
      put_fits : (node : NodeState Plum) →
          ((core : Plum) → node.core ≡ Some core → FitsFrames core.gossip) →
          after.nodes ≡ put_node node before.nodes →
          (name : Name) (core : Plum) →
          Runs after name core →
          FitsFrames core.gossip
      put_fits node its nodes name core runs =
          elim (put_cases name node runs.0 before.nodes (subst (λ ns. node_of name ns ≡ Some runs.0) nodes runs.1)) [
            | inl here ↦ its core (ap (λ (n : NodeState Plum). n.core) here.1 ∙ runs.2)
            | inr there ↦ fits.cores name core (runs.0, there.1, runs.2)
          ]

      -- a step
      step_fits : (name : Name) (by : Stimulus Frame) →
          IsStep plum_state frame_content IsSoundPlum PlumStarts PlumSteps laws limits past entry before after name by →
          ComesFit by →
          GroupFits after
      step_fits name by step comes =
          let left : FitsFrames (turned step.acts.old.me step.acts.old.membership step.acts.old.gossip by).gossip
          × AreFit (turned step.acts.old.me step.acts.old.membership step.acts.old.gossip by).sends =
          steps_fit step.acts.old by (fits.cores name step.acts.old (step.acts.node, step.acts.known, step.acts.running)) step.core.sound.views comes in
          record {
            sent =
                subst (λ ps. Each (λ (packet : Packet Frame). IsFit packet.note.body) ps) (sym step.acts.sending.sent)
                (each-append (λ (packet : Packet Frame). IsFit packet.note.body) before.sent (packets (origin_of step.acts.node) step.acts.sends) fits.sent
                (subst (λ ss. Each (λ (packet : Packet Frame). IsFit packet.note.body) (packets (origin_of step.acts.node) ss)) (sym step.acts.stepped.sent)
                (packets_fit step.acts.old.me (origin_of step.acts.node) step.acts.old.framed
                (turned step.acts.old.me step.acts.old.membership step.acts.old.gossip by).sends left.1)));
            cores = put_fits (record step.acts.node { core = Some step.acts.new })
                (λ core is. (
                let same : Some step.acts.new ≡ Some core = is in
                let this : step.acts.new ≡ core = cc in
                subst (λ (c : Plum). FitsFrames c.gossip) this (subst (λ (c : Plum). FitsFrames c.gossip) (sym step.acts.stepped.leaves) left.0)))
                step.acts.nodes;
          }

      -- what arrives was sent, and fits
      arrival_fits : (name : Name) (by : Stimulus Frame)
          (step : IsStep plum_state frame_content IsSoundPlum PlumStarts PlumSteps laws limits past entry before after name by)
          (sender : Origin)
          (frame : Frame)
          (dice : Dice) →
          by ≡ stimulus.Arrive sender frame dice →
          IsFit frame.body
      arrival_fits name by step sender frame dice is =
          let was = step.was_sent sender frame dice is in
          subst (λ (f : Frame). IsFit f.body) was.4 (each-at (λ (packet : Packet Frame). IsFit packet.note.body) before.sent was.0 was.1 fits.sent was.2)

      -- a start
      start_fits : (me : Origin) (peers : List Name) (contact : Option Name) → Starts PlumStarts limits before me peers contact entry after → GroupFits after
      start_fits me peers contact started =
          record {
            sent =
                subst (λ ps. Each (λ (packet : Packet Frame). IsFit packet.note.body) ps) (sym started.sending.sent)
                (each-append (λ (packet : Packet Frame). IsFit packet.note.body) before.sent (packets me started.sends) fits.sent
                (subst (λ ss. Each (λ (packet : Packet Frame). IsFit packet.note.body) (packets me ss)) (sym started.started.sent)
                (packets_fit me me 0 (opening contact) (opening_fits contact))));
            cores = put_fits (record { name = me.name; highest = me.incarnation; core = Some started.core })
                (λ core is. (
                let same : Some started.core ≡ Some core = is in
                let this : started.core ≡ core = cc in
                subst (λ (c : Plum). FitsFrames c.gossip) this
                (subst (λ (c : Plum). FitsFrames c.gossip) (sym started.started.leaves) (record { held = tt; queued = tt; wants = tt }))))
                started.nodes;
          }

      -- an event that leaves the nodes and sends nothing
      same_fits : after.nodes ≡ before.nodes → after.sent ≡ before.sent → GroupFits after
      same_fits nodes sent =
          record {
            sent = subst (λ ps. Each (λ (packet : Packet Frame). IsFit packet.note.body) ps) (sym sent) fits.sent;
            cores = λ name core runs. fits.cores name core (runs.0, subst (λ ns. node_of name ns ≡ Some runs.0) nodes runs.1, runs.2);
          }

      -- every event
      event_fits : (event : Event) → Effect plum_state PlumStarts PlumSteps limits before entry after event → GroupFits after
      event_fits (Start name incarnation peers contact) effect = start_fits (record { name = name; incarnation = incarnation }) peers contact effect.1
      event_fits (Broadcast name payload) effect =
          let step = broadcast_step plum_state frame_content IsSoundPlum PlumStarts PlumSteps laws limits past entry before after kept name payload effect.1 in
          step_fits _ _ step step.acts.stepped.allowed
      event_fits (Arrive place dice) effect =
          let step = arrive_step plum_state frame_content IsSoundPlum PlumStarts PlumSteps laws limits past entry before after kept place dice effect in
          step_fits _ _ step (arrival_fits _ _ step effect.packet.sender effect.packet.note dice refl)
      event_fits (Lose place) effect = same_fits effect.others.nodes effect.others.sent
      event_fits (Again number) effect = same_fits effect.others.nodes effect.others.sent
      event_fits (Fire name id) effect =
          step_fits _ _ (fire_step plum_state frame_content IsSoundPlum PlumStarts PlumSteps laws limits past entry before after kept name id effect.1) tt
      event_fits (Flush name) effect =
          step_fits _ _ (flush_step plum_state frame_content IsSoundPlum PlumStarts PlumSteps laws limits past entry before after kept name effect.1) tt
      event_fits (Down name peer dice) effect =
          step_fits _ _
          (down_step plum_state frame_content IsSoundPlum PlumStarts PlumSteps laws limits past entry before after kept name peer dice effect.1) tt
      event_fits (Shuffle name dice) effect =
          step_fits _ _ (shuffle_step plum_state frame_content IsSoundPlum PlumStarts PlumSteps laws limits past entry before after kept name dice effect.1) tt
      event_fits (Join name contact) effect =
          step_fits _ _ (join_step plum_state frame_content IsSoundPlum PlumStarts PlumSteps laws limits past entry before after kept name contact effect.1) tt
      event_fits (Stop name) effect =
          record {
            sent = subst (λ ps. Each (λ (packet : Packet Frame). IsFit packet.note.body) ps) (sym effect.1.sent) fits.sent;
            cores = put_fits (record effect.1.node { core = None }) (λ core is. let no : None ≡ Some core = is in cc) effect.1.nodes;
          }

    -- so all that was ever sent fits
    pub run_fits : (history : List Entry) (group : Group Plum Frame) → Run plum_state PlumStarts PlumSteps limits history group → GroupFits group
    run_fits [] group run =
        record {
          sent = subst (λ ps. Each (λ (packet : Packet Frame). IsFit packet.note.body) ps) (sym run.nothing_sent) tt;
          cores = λ name core runs. (let none : None ≡ Some runs.0 = subst (λ ns. node_of name ns ≡ Some runs.0) run.no_nodes runs.1 in cc);
        }
    run_fits (entry ∷ past) group run =
        event_fits past entry run.0 group (run_keeps plum_state frame_content IsSoundPlum PlumStarts PlumSteps laws limits past run.0 run.1)
        (run_fits past run.0 run.1) entry.event run.2.1
