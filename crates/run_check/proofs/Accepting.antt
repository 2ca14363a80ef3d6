-- What is accepted, one after the other, is one run of a group.
use Rattle.std.proofs.Common.{◌≡◌, ◌∙◌, List, [], ◌∷◌, ◌++◌, ap, append_assoc, refl, subst, sym}
use Rattle.std.specs.Prelude.{ℕ, Option, Some, None, reverse}
use Rattle.std.proofs.lemmas.List.{append-nil, reverse-append}
use Rattle.node_names.specs.NodeName.{Name}
use Rattle.node_names.specs.Limits.{Limits}
use Rattle.node_names.specs.declared.ids.Incarnation.{Incarnation}
use Rattle.node_names.specs.declared.ids.Origin.{Origin}
use Rattle.protocol.specs.Content.{Content}
use Rattle.protocol.specs.CoreState.{CoreState}
use Rattle.protocol.specs.Delivery.{Delivery}
use Rattle.protocol.specs.Laws.{Laws}
use Rattle.protocol.specs.Stimulus.{Stimulus}
use Rattle.protocol.specs.declared.stimulus.StimulusOf.TheVariants as stimulus
use Rattle.world.specs.Entry.{Entry}
use Rattle.world.specs.Group.{Group, node_of}
use Rattle.world.specs.History.{incarnation_of}
use Rattle.world.specs.declared.packet.Packet.{Packet}
use Rattle.world.proofs.Kept.{highest_of-found}
use Rattle.world.proofs.Runs.{run_keeps}
use Rattle.frames.specs.Frame.{Frame}
use Rattle.run_check.specs.Accepting.{Accepted, Accepts, AcceptsAll, ArrivesBy, IsOneRun, IsStepOf, SayAll, Says}
use Rattle.run_check.specs.Accepting.Accepted.{started, took}
use Rattle.run_check.specs.Following.{Follows, Goes, Kept}
use Rattle.run_check.proofs.Aloft.{IsAloft}
use Rattle.run_check.proofs.Flights.{still}
use Rattle.run_check.proofs.Following.{SentMore, begun, goes_on, starts_on}

-- the first of a list, turned round before others
reversed_on : {X : Type 0} (x : X) (later before : List X) → reverse (x ∷ later) ++ before ≡ reverse later ++ (x ∷ before)
reversed_on {X} x later before = ap (λ (l : List X). l ++ before) (reverse-append (x ∷ []) later) ∙ append_assoc (reverse later) (x ∷ []) before

-- ---- where more was sent

arrives_still : (sent more : List (Packet Frame)) (name : Name) (told : Stimulus Frame) (number : Option ℕ) →
    ArrivesBy sent name told number →
    ArrivesBy (sent ++ more) name told number
arrives_still sent more name (stimulus.Arrive sender note dice) (Some n) there = still sent more n _ there
arrives_still sent more name (stimulus.Arrive sender note dice) None there = there
arrives_still sent more name (stimulus.Broadcast payload) number there = there
arrives_still sent more name (stimulus.Fire id) number there = there
arrives_still sent more name stimulus.Flush number there = there
arrives_still sent more name (stimulus.Down peer dice) number there = there
arrives_still sent more name (stimulus.Shuffle dice) number there = there
arrives_still sent more name (stimulus.Join contact) number there = there

says_still : (sent more : List (Packet Frame)) (past : List Entry) (accepted : Accepted) (entry : Entry) →
    Says sent past accepted entry →
    Says (sent ++ more) past accepted entry
says_still sent more past (started run peers contact) entry says = says
says_still sent more past (took run told given) entry says =
    record {
      place = says.place;
      event = says.event;
      arrives = arrives_still sent more run.name told entry.packet says.arrives;
      gave = says.gave;
      its = says.its;
    }

say_still : (sent more : List (Packet Frame)) (all : List Accepted) (past : List Entry) → SayAll sent all past → SayAll (sent ++ more) all past
say_still sent more [] [] say = tt
say_still sent more [] (entry ∷ past) say = say
say_still sent more (accepted ∷ all) [] say = say
say_still sent more (accepted ∷ all) (entry ∷ past) say = (says_still sent more past accepted entry say.0, say_still sent more all past say.1)

say_after : {C : Type 0} (before after : Group C Frame) (all : List Accepted) (past : List Entry) →
    SentMore before after →
    SayAll before.sent all past →
    SayAll after.sent all past
say_after before after all past sent say =
    subst (λ (ps : List (Packet Frame)). SayAll ps all past) (sym sent.is) (say_still before.sent sent.more all past say)

module _
    {C : Type 0}
    (state : C → CoreState)
    (content : Frame → Content)
    (is_sound : Limits → C → Type 0)
    (starts : Origin → Limits → List Name → Option Name → List (Name × Frame) → C → Type 0)
    (steps : C → Stimulus Frame → List (Name × Frame) → List Delivery → C → Type 0)
    (laws : Laws state content is_sound starts steps)
  where
    -- the run that steps is the last of its name
    is_last : (old : Kept C) (past : List Entry) (group : Group C Frame) (run : Origin) (told : Stimulus Frame) (given : List Delivery) (new : Kept C) →
        Follows state starts steps old past group →
        Goes state starts steps old run told given new →
        incarnation_of run.name past ≡ Some run.incarnation
    is_last old past group run told given new follows g =
        let known : node_of run.name group.nodes ≡ Some g.stepped.node = sym (follows.nodes run.name) ∙ g.stepped.known in
        sym ((run_keeps state content is_sound starts steps laws old.limits past group follows.ran).highest run.name)
        ∙ highest_of-found run.name group.nodes g.stepped.node known
        ∙ ap (λ (i : Incarnation). Some i) g.stepped.is_run

    -- what was accepted so far, and what is then
    record Reached (before : List Accepted) (kept : Kept C) : Type 0 where
      past : List Entry
      group : Group C Frame
      follows : Follows state starts steps kept past group
      says : SayAll group.sent before past
      aloft : IsAloft group kept.packets

    -- one more
    one_more : (before : List Accepted) (old : Kept C) (accepted : Accepted) (new : Kept C) →
        Reached before old →
        Accepts state starts steps old accepted new →
        Reached (accepted ∷ before) new
    one_more before old (started run peers contact) new r b =
        let on = starts_on state starts steps old r.past r.group run peers contact new r.follows b in
        record {
          past = on.entry ∷ r.past;
          group = on.goes_on.after;
          follows = on.goes_on.follows;
          says = (on.is_event, say_after r.group on.goes_on.after before r.past on.sent r.says);
          aloft = on.stays_aloft r.aloft;
        }
    one_more before old (took run told given) new r g =
        let on = goes_on state starts steps old r.past r.group run told given new r.follows g in
        let step : IsStepOf r.group.sent r.past run told given on.takes_on.entry = record {
          place = on.takes_on.place;
          event = on.takes_on.is_event;
          arrives = on.arrives;
          gave = on.takes_on.gave;
          its = is_last old r.past r.group run told given new r.follows g;
        } in
        record {
          past = on.takes_on.entry ∷ r.past;
          group = on.takes_on.goes_on.after;
          follows = on.takes_on.goes_on.follows;
          says =
              say_after r.group on.takes_on.goes_on.after (took run told given ∷ before) (on.takes_on.entry ∷ r.past) on.sent (step, r.says);
          aloft = on.stays_aloft r.aloft;
        }

    -- all that come after
    all_more : (before all : List Accepted) (old new : Kept C) →
        Reached before old →
        AcceptsAll state starts steps old all new →
        Reached (reverse all ++ before) new
    all_more before [] old new r is = subst (λ (k : Kept C). Reached before k) (sym is) r
    all_more before (accepted ∷ later) old new r goes =
        subst (λ (as' : List Accepted). Reached as' new) (sym (reversed_on accepted later before))
        (all_more (accepted ∷ before) later goes.0 new (one_more before old accepted goes.0 r goes.1) goes.2)

    -- from the beginning
    pub one_run : (limits : Limits) (all : List Accepted) (kept : Kept C) →
        AcceptsAll state starts steps (record { limits = limits; nodes = []; packets = [] }) all kept →
        IsOneRun state starts steps all kept
    one_run limits all kept goes =
        let none : Group C Frame = record { nodes = []; sent = []; flight = [] } in
        let first : Reached [] (record { limits = limits; nodes = []; packets = [] }) = record {
          past = [];
          group = none;
          follows = begun state starts steps limits;
          says = tt;
          aloft = record { distinct = tt; within = λ n one. absurd one; all = λ numbered n packet one at. absurd one };
        } in
        let end = all_more [] all (record { limits = limits; nodes = []; packets = [] }) kept first goes in
        record {
          past = end.past;
          group = end.group;
          follows = end.follows;
          says = subst (λ (as' : List Accepted). SayAll end.group.sent as' end.past) (append-nil (reverse all)) end.says;
          aloft = end.aloft.all;
        }
