-- What a node keeps is kept by a step.
use Rattle.std.specs.Prelude.{◌≡◌, ◌≤◌, ◌==◌, ℕ, false, List, [], ◌∷◌, ◌++◌, Option, drop, length, map, if◌then◌else◌, refl}
use Rattle.std.specs.List.{AllByRecursion as Each, IsDistinct}
use Rattle.std.proofs.Common.{◌∙◌, ap, arith, inl, inr, subst, sym, append_assoc}
use Rattle.std.proofs.lemmas.Grind.{flat_map-append}
use Rattle.std.proofs.lemmas.List.{append-nil, drop-append-le, length-append, map-append}
use Rattle.node_names.specs.NodeName.{Name}
use Rattle.node_names.specs.Limits.{Limits}
use Rattle.node_names.specs.Same.{same_name}
use Rattle.node_names.specs.declared.ids.MsgId.{MsgId}
use Rattle.node_names.specs.declared.ids.Origin.{Origin}
use Rattle.protocol.specs.CoreState.{CoreState}
use Rattle.protocol.specs.Delivery.{Delivery}
use Rattle.protocol.specs.Replay.{Leads, Replays}
use Rattle.protocol.specs.Stimulus.{Stimulus}
use Rattle.protocol.specs.Trace.{Step, Trace, delivered}
use Rattle.frames.specs.Frame.{Frame}
use Rattle.node_threads.specs.Applying.{Applies, Posts, Puts, mail_for, mail_to}
use Rattle.node_threads.specs.Cell.{Cell, FollowsText, IsKept, IsKeptAfter, Link, after, lost, peers_of}
use Rattle.node_threads.specs.LinkText.{link_text, sent_to, spelling, text_of}

-- ---- the trace

-- the trace with one step more
abbrev pub with_step : Trace Frame → Step Frame → Trace Frame
with_step trace s = record trace { steps = trace.steps ++ s ∷ [] }

pub leads_on : {C : Type 0} (steps : C → Stimulus Frame → List (Name × Frame) → List Delivery → C → Type 0)
    (first last : C) (ss : List (Step Frame)) (s : Step Frame) (next : C) →
    Leads steps first ss last →
    steps last s.stimulus s.out.sends s.out.deliveries next →
    Leads steps first (ss ++ s ∷ []) next
leads_on steps first last [] s next there made = (next, subst (λ c. steps c s.stimulus s.out.sends s.out.deliveries next) there made, refl)
leads_on steps first last (x ∷ ss) s next there made = (there.0, there.1, leads_on steps there.0 last ss s next there.2 made)

pub delivered_on : (ss : List (Step Frame)) (s : Step Frame) → delivered (ss ++ s ∷ []) ≡ delivered ss ++ s.out.deliveries
delivered_on ss s = flat_map-append (λ (step : Step Frame). step.out.deliveries) ss (s ∷ []) ∙ ap (λ ds. delivered ss ++ ds) (append-nil s.out.deliveries)

-- ---- the links

text_on : (peer : Name) (opened : ℕ) (ss : List (Step Frame)) (s : Step Frame) →
    opened ≤ length ss →
    text_of peer (drop opened (ss ++ s ∷ [])) ≡ text_of peer (drop opened ss) ++ sent_to peer s.out.sends
text_on peer opened ss s before =
    ap (text_of peer) (drop-append-le opened ss (s ∷ []) before)
    ∙ flat_map-append (λ (step : Step Frame). sent_to peer step.out.sends) (drop opened ss) (s ∷ [])
    ∙ ap (λ fs. text_of peer (drop opened ss) ++ fs) (append-nil (sent_to peer s.out.sends))

pub link_text_on : (trace : Trace Frame) (s : Step Frame) (peer : Name) (opened : ℕ) →
    opened ≤ length trace.steps →
    link_text (with_step trace s) peer opened ≡ link_text trace peer opened ++ sent_to peer s.out.sends
link_text_on trace s peer opened before =
    let first : List Frame = if opened == 0 then sent_to peer trace.opening.sends else [] in
    ap (λ fs. first ++ fs) (text_on peer opened trace.steps s before)
    ∙ sym (append_assoc first (text_of peer (drop opened trace.steps)) (sent_to peer s.out.sends))

-- the link after these frames were put into its ring
abbrev with_mail : Link → List (List ℕ) → Link
with_mail link mail = record link { pushed = link.pushed ++ mail }

follows_on : (trace : Trace Frame) (s : Step Frame) (link : Link) →
    FollowsText trace link →
    FollowsText (with_step trace s) (with_mail link (mail_for s.out.sends link.peer))
follows_on trace s link follows =
    record {
      opened_before = (let before = follows.opened_before in omega (arith, length-append trace.steps (s ∷ [])));
      pushed_text =
          ap (λ bytes. bytes ++ mail_for s.out.sends link.peer) follows.pushed_text
          ∙ sym (map-append spelling (link_text trace link.peer link.opened) (sent_to link.peer s.out.sends))
          ∙ sym (ap (map spelling) (link_text_on trace s link.peer link.opened follows.opened_before));
    }

pub posts_follow : (trace : Trace Frame) (s : Step Frame) (links live : List Link) (full : List Name) →
    Each (FollowsText trace) links →
    Posts s.out.sends links live full →
    Each (FollowsText (with_step trace s)) live
posts_follow trace s [] live full follow put = subst (Each (FollowsText (with_step trace s))) (sym put.0) tt
posts_follow trace s (link ∷ links) live full follow (inl put) =
    subst (Each (FollowsText (with_step trace s))) (sym put.1) (follows_on trace s link follow.0, posts_follow trace s links put.0 full follow.1 put.2)
posts_follow trace s (link ∷ links) live full follow (inr put) = posts_follow trace s links live put.0 follow.1 put.3

-- what holds of all names holds of those that stay live
puts_each : (P : Name → Type 0) (mails : List (List (List ℕ))) (links live : List Link) (full : List Name) →
    Each P (peers_of links) →
    Puts mails links live full →
    Each P (peers_of live)
puts_each P [] [] live full all put = subst (λ ls. Each P (peers_of ls)) (sym put.0) tt
puts_each P [] (link ∷ links) live full all put = absurd put
puts_each P (mail ∷ mails) [] live full all put = absurd put
puts_each P (mail ∷ mails) (link ∷ links) live full all (inl put) =
    subst (λ ls. Each P (peers_of ls)) (sym put.1) (all.0, puts_each P mails links put.0 full all.1 put.2)
puts_each P (mail ∷ mails) (link ∷ links) live full all (inr put) = puts_each P mails links live put.0 all.1 put.3

pub puts_distinct : (mails : List (List (List ℕ))) (links live : List Link) (full : List Name) →
    IsDistinct same_name (peers_of links) →
    Puts mails links live full →
    IsDistinct same_name (peers_of live)
unfolding IsDistinct
puts_distinct [] [] live full apart put = subst (λ ls. IsDistinct same_name (peers_of ls)) (sym put.0) tt
puts_distinct [] (link ∷ links) live full apart put = absurd put
puts_distinct (mail ∷ mails) [] live full apart put = absurd put
puts_distinct (mail ∷ mails) (link ∷ links) live full apart (inl put) = subst (λ ls. IsDistinct same_name (peers_of ls)) (sym put.1) (
  puts_each (λ name. same_name link.peer name ≡ false) mails links put.0 full apart.0 put.2,
  puts_distinct mails links put.0 full apart.1 put.2,
)
puts_distinct (mail ∷ mails) (link ∷ links) live full apart (inr put) = puts_distinct mails links live put.0 apart.1 put.3

-- ---- the node

module _
    {C : Type 0}
    {state : C → CoreState}
    {starts : Origin → Limits → List Name → Option Name → List (Name × Frame) → C → Type 0}
    {steps : C → Stimulus Frame → List (Name × Frame) → List Delivery → C → Type 0}
    (old : Cell C)
    (stimulus : Stimulus Frame)
    (new : Cell C)
    (id : Option MsgId)
    (place : ℕ)
    (full lacking : List Name)
    (before : List (Step Frame))
    (kept : IsKeptAfter starts steps before old)
    (done : Applies state steps old stimulus new id place full lacking)
  where
    abbrev made : Step Frame
    made = record { stimulus = stimulus; out = done.out }

    replays_on : Replays starts steps kept.limits (with_step (after before old.trace) made) new.core
    replays_on =
        let start = kept.replays in
        record {
          first = start.first;
          allowed = start.allowed;
          started = start.started;
          silent = start.silent;
          leads = leads_on steps start.first old.core (before ++ old.trace.steps) made new.core start.leads done.stepped;
        }

    waiting_on : new.pending ≡ drop new.handed_out (delivered ((before ++ old.trace.steps) ++ made ∷ []))
    waiting_on =
        done.delivers
        ∙ ap (λ ds. ds ++ done.out.deliveries) kept.waiting
        ∙ sym (drop-append-le old.handed_out (delivered (before ++ old.trace.steps)) done.out.deliveries kept.handed)
        ∙ sym (ap (drop old.handed_out) (delivered_on (before ++ old.trace.steps) made))
        ∙ sym (ap (λ n. drop n (delivered ((before ++ old.trace.steps) ++ made ∷ []))) done.handed_out)

    handed_on : new.handed_out ≤ length (delivered ((before ++ old.trace.steps) ++ made ∷ []))
    handed_on =
        let handed = kept.handed in
        let same = done.handed_out in
        let more = ap length (delivered_on (before ++ old.trace.steps) made) in
        omega (arith, length-append (delivered (before ++ old.trace.steps)) done.out.deliveries)

    applied_after : IsKeptAfter starts steps before new
    applied_after =
        let here = ap (λ ss. record old.trace { steps = ss }) (append_assoc before old.trace.steps (made ∷ [])) ∙ ap (after before) (sym done.recorded) in
        record {
          limits = kept.limits;
          replays = subst (λ trace. Replays starts steps kept.limits trace new.core) here replays_on;
          handed = subst (λ (trace : Trace Frame). new.handed_out ≤ length (delivered trace.steps)) here handed_on;
          waiting = subst (λ (trace : Trace Frame). new.pending ≡ drop new.handed_out (delivered trace.steps)) here waiting_on;
          distinct = puts_distinct (map (mail_to done.out.sends) old.links) old.links new.links full kept.distinct done.posts;
          texts =
              subst (λ trace. Each (FollowsText trace) new.links) here
              (posts_follow (after before old.trace) made old.links new.links full kept.texts done.posts);
        }

pub applied_keeps :
    {C : Type 0}
    {state : C → CoreState}
    {starts : Origin → Limits → List Name → Option Name → List (Name × Frame) → C → Type 0}
    {steps : C → Stimulus Frame → List (Name × Frame) → List Delivery → C → Type 0}
    (old : Cell C)
    (stimulus : Stimulus Frame)
    (new : Cell C)
    (id : Option MsgId)
    (place : ℕ)
    (full lacking : List Name)
    → IsKept starts steps old
    → Applies state steps old stimulus new id place full lacking
    → IsKept starts steps new
applied_keeps old stimulus new id place full lacking kept done = record {
  before = kept.before;
  forgotten = kept.forgotten ∙ sym (ap lost done.its_since);
  kept = applied_after old stimulus new id place full lacking kept.before kept.kept done;
}
