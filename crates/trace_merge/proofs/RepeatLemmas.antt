-- A packet is put into flight once more.
use Rattle.std.proofs.Common.{◌≡◌, ◌∙◌, ◌++◌, ℕ, List, [], ◌∷◌, ap, length, subst, sym}
use Rattle.std.specs.Prelude.{◌&&◌, Option, Some, None, map, reverse}
use Rattle.std.proofs.lemmas.List.{map-append}
use Rattle.node_names.specs.NodeName.{Name}
use Rattle.node_names.specs.Limits.{Limits}
use Rattle.node_names.specs.declared.ids.Origin.{Origin}
use Rattle.protocol.specs.Delivery.{Delivery}
use Rattle.protocol.specs.Lists.{IsOneOf}
use Rattle.protocol.specs.Trace.{Trace}
use Rattle.world.specs.Entry.{Entry}
use Rattle.world.specs.Event.{Event}
use Rattle.world.specs.Group.{Logged, node_of}
use Rattle.world.specs.History.{incarnation_of, started_by}
use Rattle.world.specs.Plan.{stimulus_by}
use Rattle.world.specs.Run.{Applied, Effect, Repeats}
use Rattle.world.specs.declared.event.EventOf.TheVariants.{Again}
use Rattle.frames.specs.Frame.{Frame}
use Rattle.node_core.specs.Plum.{Plum, plum_state}
use Rattle.node_core.specs.Steps.{PlumStarts, PlumSteps}
use Rattle.trace_merge.specs.FrameIds.{AreFound}
use Rattle.trace_merge.specs.Merging.{HasTrace, IsKept, IsMerging, IsStartOf, Merge, RunsTo, Stands, place_at}
use Rattle.trace_merge.specs.declared.frame_index.FrameId.{FrameId}
use Rattle.trace_merge.specs.Projection.{is_last, is_name, output_of, projection_in, started_on, stepped_name, stepped_on}
use Rattle.trace_merge.proofs.ListLemmas.{each-append}
use Rattle.trace_merge.proofs.PlayLemmas.{and-false, newest, projected_on, ran_on}

module _
    (limits : Limits)
    (traces : List (Trace Frame))
    (m : Merge)
    (mm : IsMerging limits traces m)
    (world : Logged Plum Frame)
    (number : ℕ)
    (given : List Delivery)
    (applied : Applied plum_state PlumStarts PlumSteps (Again number) given m.world world)
    (frames : List (FrameId × ℕ))
    (found : AreFound world.group.sent frames)
  where
    pub repeats : Repeats m.world.group number applied.entry world.group
    repeats = subst (λ e. Effect plum_state PlumStarts PlumSteps limits m.world.group applied.entry world.group e) applied.of_event
        (subst (λ l. Effect plum_state PlumStarts PlumSteps l m.world.group applied.entry world.group applied.entry.event) mm.same_limits applied.happened.1)

    projected : (o : Origin) → projection_in o world ≡ projection_in o m.world
    projected o =
        projected_on plum_state PlumStarts PlumSteps limits o (Again number) given m.world world applied mm.same_limits mm.ran
        ∙ (λ i. started_on o (applied.of_event i) (output_of applied.entry (length world.group.sent) world.group.sent)
        (stepped_on
        (is_last o (incarnation_of o.name (reverse m.world.log)) && is_name o.name (stepped_name world.group.sent (applied.of_event i) applied.entry.packet))
        (stimulus_by world.group.sent (applied.of_event i) applied.entry.packet)
        (output_of applied.entry (length world.group.sent) world.group.sent)
        (projection_in o m.world)))
        ∙ ap (λ b. stepped_on b None (output_of applied.entry (length world.group.sent) world.group.sent) (projection_in o m.world))
        (and-false (is_last o (incarnation_of o.name (reverse m.world.log))))

    lasts : (name : Name) → incarnation_of name (reverse world.log) ≡ incarnation_of name (reverse m.world.log)
    lasts name =
        ap (incarnation_of name) (ap reverse applied.logged ∙ newest m.world.log applied.entry)
        ∙ ap (λ e. started_by name e (incarnation_of name (reverse m.world.log))) applied.of_event

    found_as : (name : Name) → node_of name world.group.nodes ≡ node_of name m.world.group.nodes
    found_as name = ap (node_of name) repeats.others.nodes

    stay : (u : Trace Frame) (p : Option ℕ) → Stands limits m.world u p → Stands limits world u p
    stay u None h = projected u.origin ∙ h
    stay u (Some q) h = (
      h.0,
      projected u.origin ∙ h.1,
      λ more.
          let r : RunsTo limits m.world u q = h.2 more in
          record {
            last = lasts u.origin.name ∙ r.last;
            node = r.node;
            core = r.core;
            known = found_as u.origin.name ∙ r.known;
            highest = r.highest;
            running = r.running;
            replays = r.replays;
          },
    )

    -- all stays as it was
    pub repeats_on : IsMerging limits traces (record { world = world; events = m.events ++ Again number ∷ []; places = m.places; frames = frames })
    repeats_on = record {
      same_limits = applied.same_limits ∙ mm.same_limits;
      ran = ran_on plum_state PlumStarts PlumSteps limits (Again number) given m.world world applied mm.same_limits mm.ran;
      of_events =
          ap (map (λ (e : Entry). e.event)) applied.logged
          ∙ map-append (λ (e : Entry). e.event) m.world.log (applied.entry ∷ [])
          ∙ (λ i. mm.of_events i ++ applied.of_event i ∷ []);
      kept = each-append IsKept m.events (Again number ∷ []) mm.kept (tt, tt);
      started =
          each-append (λ (e : Event). (o : Origin) → IsStartOf o e → HasTrace traces o) m.events (Again number ∷ []) mm.started (
            (λ o started. absurd started),
            tt,
          );
      counted = mm.counted;
      stands = λ i u at_i. stay u (place_at m.places i) (mm.stands i u at_i);
      later = mm.later;
      known = λ name node is. mm.known name node (sym (found_as name) ∙ is);
      in_sent =
          λ i q u send at_i goes one. subst (IsOneOf (record { sender = u.origin; to = send.0; note = send.1 }))
          (sym repeats.others.sent) (mm.in_sent i q u send at_i goes one);
      sent_by = λ packet one. mm.sent_by packet (subst (IsOneOf packet) repeats.others.sent one);
      found = found;
    }
