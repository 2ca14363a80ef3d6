-- The frame is not sent, was sent otherwise, or arrives.
use Rattle.std.proofs.Common.{◌≡◌, ◌≢◌, ◌∙◌, ◌++◌, ℕ, List, ap, append_assoc, drop, false, inl, inr, length, refl, subst, sym, take, true}
use Rattle.std.specs.List.{flat_map}
use Rattle.std.specs.Prelude.{◌⊎◌, Bool, Option, Some, None, slice_get}
use Rattle.std.specs.Map.{lookup}
use Rattle.std.proofs.Math.Seq.{take-length}
use Rattle.std.proofs.lemmas.Bool.{false≢true}
use Rattle.std.proofs.lemmas.Grind.{flat_map-append}
use Rattle.std.proofs.lemmas.List.{take-append-drop}
use Rattle.std.proofs.lemmas.Option.{slice_get_within}
use Rattle.node_names.specs.NodeName.{Name}
use Rattle.node_names.specs.Same.{same_name, same_name-Decides}
use Rattle.node_names.specs.declared.ids.Origin.{Origin}
use Rattle.protocol.specs.Lists.{IsOneOf}
use Rattle.protocol.specs.Trace.{Step, Trace}
use Rattle.protocol.specs.declared.stimulus.StimulusOf.TheVariants.{Arrive}
use Rattle.world.specs.Plan.{arrival}
use Rattle.world.specs.Refusals.{sent_under}
use Rattle.frames.specs.Frame.{Frame}
use Rattle.trace_merge.specs.FrameIds.{same_frame_id}
use Rattle.trace_merge.specs.Merging.{IsArrivalOf, IsSentBy, Merge, sent_within}
use Rattle.trace_merge.specs.Projection.{receiver}
use Rattle.trace_merge.specs.declared.frame_index.FrameId.{FrameId}
use Rattle.trace_merge.proofs.ListLemmas.{one_of-left, one_of_place}
use Rattle.trace_merge.proofs.UnsentLemmas.{unsent_from_none}
use Rattle.trace_merge.proofs.merging.Merging.take_arrival.Goals as goal

-- what is nothing in particular is nothing
nothing : {X : Type 0} (o : Option X) → ((x : X) → o ≡ Some x → ⊥) → o ≡ None
nothing None not = refl
nothing (Some x) not = absurd (not x refl)

-- what a trace has sent so far it sends
sent_all : (t : Trace Frame) (k : ℕ) (send : Name × Frame) → IsOneOf send (sent_within k t) → IsOneOf send (sent_within (length t.steps) t)
sent_all t k send one =
    let sends : Step Frame → List (Name × Frame) = λ (x : Step Frame). x.out.sends in
    let whole : sent_within (length t.steps) t ≡ sent_within k t ++ flat_map sends (drop k t.steps) =
    ap (λ xs. t.opening.sends ++ flat_map sends xs) (take-length t.steps ∙ sym (take-append-drop k t.steps))
    ∙ ap (λ xs. t.opening.sends ++ xs) (flat_map-append sends (take k t.steps) (drop k t.steps))
    ∙ sym (append_assoc t.opening.sends (flat_map sends (take k t.steps)) (flat_map sends (drop k t.steps)))
    in
    subst (IsOneOf send) (sym whole) (one_of-left send (sent_within k t) (flat_map sends (drop k t.steps)) one)

-- what is not both is not one of them
unlike : (to name : Name) (frame note : Frame) → ((to ≡ name) × (frame ≡ note) → ⊥) → (to ≢ name) ⊎ (frame ≢ note)
unlike to name frame note neither = go (same_name to name) refl
  where
    go : (b : Bool) → same_name to name ≡ b → (to ≢ name) ⊎ (frame ≢ note)
    go true is = inr (λ same. neither ((same_name-Decides to name).0 is, same))
    go false is = inl (λ same. false≢true (sym is ∙ (same_name-Decides to name).1 same))

pub returns-in_default-clause-waits : goal.returns-in_default-clause-waits
returns-in_default-clause-waits g c it =
    let m : Merge = c.args.self.now in
    let found : c.find.result ≡ lookup (same_frame_id (record { sender = c.args.sender; number = c.args.note.now.number })) m.frames =
    c.find.ensures ∙ ap (λ n. lookup (same_frame_id (record { sender = c.args.sender; number = n })) m.frames) c.number-number.ensures.value
    in (
      refl,
      unsent_from_none m.world.limits c.args.traces.now m c.requires.merging c.args.sender c.args.note.now.number
          (sym found ∙ nothing c.find.result c.in_default.not-Some),
    )

pub returns-then-not-has_sent-clause-err : goal.returns-then-not-has_sent-clause-err
returns-then-not-has_sent-clause-err g c =
    let m : Merge = c.args.self.now in
    let found : c.find.result ≡ lookup (same_frame_id (record { sender = c.args.sender; number = c.args.note.now.number })) m.frames =
    c.find.ensures ∙ ap (λ n. lookup (same_frame_id (record { sender = c.args.sender; number = n })) m.frames) c.number-number.ensures.value
    in
    let told = c.requires.merging.found.told (record { sender = c.args.sender; number = c.args.note.now.number }) c.in-Some.number (sym found ∙ c.in-Some.is) in
    let by : IsSentBy c.args.traces.now m.places told.0 =
    c.requires.merging.sent_by told.0 (one_of_place m.world.group.sent c.in-Some.number told.0 told.1) in (
      c.requires.distinct,
      record {
        trace = c.args.trace.now;
        sender = by.trace;
        listed = one_of_place c.args.traces.now c.args.at c.args.trace.now c.requires.listed;
        its = sym c.origin-origin.ensures;
        step = c.args.step.now;
        taken = c.requires.taken;
        from = c.args.sender;
        note = c.args.note.now;
        arrives = subst (IsArrivalOf c.args.sender c.args.note.now) (sym c.requires.arrives) (refl, refl);
        sender_listed = one_of_place c.args.traces.now by.at by.trace by.listed;
        sends_it = by.its ∙ ap (λ (id : FrameId). id.sender) told.2;
        to = told.0.to;
        other = told.0.note;
        sent = sent_all by.trace by.place (told.0.to, told.0.note) by.sends;
        numbered = ap (λ (id : FrameId). id.number) told.2;
        unlike =
            unlike told.0.to c.origin-origin.result.name told.0.note c.args.note.now
            (λ both. false≢true (sym c.if-not-has_sent.true ∙ (c.has_sent.ensures told.0 told.1).1 both));
      },
    )

pub fly-requires-clause-sent : goal.fly-requires-clause-sent
fly-requires-clause-sent g c =
    let m : Merge = c.args.self.now in
    let found : c.find.result ≡ lookup (same_frame_id (record { sender = c.args.sender; number = c.args.note.now.number })) m.frames =
    c.find.ensures ∙ ap (λ n. lookup (same_frame_id (record { sender = c.args.sender; number = n })) m.frames) c.number-number.ensures.value
    in
    let told = c.requires.merging.found.told (record { sender = c.args.sender; number = c.args.note.now.number }) c.in-Some.number (sym found ∙ c.in-Some.is) in
    slice_get_within m.world.group.sent c.in-Some.number told.0 told.1

pub take_step-requires-clause-tells : goal.take_step-requires-clause-tells
take_step-requires-clause-tells g c =
    let m : Merge = c.args.self.now in
    let after = c.fly.new.self.world.group in
    let found : c.find.result ≡ lookup (same_frame_id (record { sender = c.args.sender; number = c.args.note.now.number })) m.frames =
    c.find.ensures ∙ ap (λ n. lookup (same_frame_id (record { sender = c.args.sender; number = n })) m.frames) c.number-number.ensures.value
    in
    let told = c.requires.merging.found.told (record { sender = c.args.sender; number = c.args.note.now.number }) c.in-Some.number (sym found ∙ c.in-Some.is) in
    let both = (c.has_sent.ensures told.0 told.1).0 c.if-not-has_sent.false in
    let under : sent_under after.sent (slice_get after.flight c.in_ok-fly.field-0) ≡ Some told.0 =
    ap (sent_under after.sent) c.in_ok-fly.ensures.place ∙ ap (λ xs. slice_get xs c.in-Some.number) c.in_ok-fly.ensures.packets ∙ told.1
    in
    record {
      named = ap receiver under ∙ ap Some (both.0 ∙ ap (λ (o : Origin). o.name) c.origin-origin.ensures);
      tells = ap (λ p. arrival p c.args.dice) under ∙ (λ i. Some (Arrive (told.2 i).sender (both.1 i) c.args.dice)) ∙ ap Some (sym c.requires.arrives);
      kept = tt;
    }
