-- A node's start and steps are determined by what makes them.
use Rattle.std.proofs.Common.{◌≡◌, ◌∙◌, ◌+◌, ◌++◌, ℕ, List, [], ◌∷◌, ap, arith, refl, subst, suc, sym, take}
use Rattle.std.specs.Prelude.{Option, Some, slice_get}
use Rattle.std.proofs.lemmas.List.{take_more}
use Rattle.std.proofs.lemmas.Option.{get_or_from_slice_get, slice_get_within}
use Rattle.node_names.specs.NodeName.{Name}
use Rattle.node_names.specs.Limits.{Limits}
use Rattle.node_names.specs.declared.ids.Origin.{Origin}
use Rattle.protocol.specs.Delivery.{Delivery}
use Rattle.protocol.specs.Replay.{Leads, Replays}
use Rattle.protocol.specs.Stimulus.{Stimulus}
use Rattle.protocol.specs.Trace.{Step, Trace}
use Rattle.frames.specs.Frame.{Frame}
use Rattle.node_core.specs.Plum.{Plum}
use Rattle.node_core.specs.Steps.{PlumStarts, PlumSteps}
use Rattle.trace_merge.specs.Merging.{cut}

-- the same start leads to the same core and sends the same
pub starts_same : (me : Origin) (limits : Limits) (peers : List Name) (contact : Option Name) (sends others : List (Name × Frame)) (core other : Plum) →
    PlumStarts me limits peers contact sends core →
    PlumStarts me limits peers contact others other →
    (sends ≡ others) × (core ≡ other)
starts_same me limits peers contact sends others core other a b = (a.sent ∙ sym b.sent, a.leaves ∙ sym b.leaves)

-- What a step gives and leads to.
pub record SameStep (sends others : List (Name × Frame)) (given gave : List Delivery) (new other : Plum) : Type 0 where
  pub sent : sends ≡ others
  pub delivers : given ≡ gave
  pub leaves : new ≡ other

-- the same stimulus to the same core does the same
pub steps_same : (old : Plum) (told : Stimulus Frame) (sends others : List (Name × Frame)) (given gave : List Delivery) (new other : Plum) →
    PlumSteps old told sends given new →
    PlumSteps old told others gave other →
    SameStep sends others given gave new other
steps_same old told sends others given gave new other a b =
    record { sent = a.sent ∙ sym b.sent; delivers = a.delivers ∙ sym b.delivers; leaves = a.leaves ∙ sym b.leaves }

-- the same steps lead to the same core
pub leads_same : (first : Plum) (steps : List (Step Frame)) (last other : Plum) →
    Leads PlumSteps first steps last →
    Leads PlumSteps first steps other →
    last ≡ other
leads_same first [] last other a b = a ∙ sym b
leads_same first (s ∷ steps) last other (next, step, rest) (next', step', rest') =
    leads_same next steps last other rest
    (subst (λ core. Leads PlumSteps core steps other)
    (sym (steps_same first s.stimulus s.out.sends s.out.sends s.out.deliveries s.out.deliveries next next' step step').leaves) rest')

-- one step more
pub leads_push : (first : Plum) (steps : List (Step Frame)) (mid : Plum) (s : Step Frame) (last : Plum) →
    Leads PlumSteps first steps mid →
    PlumSteps mid s.stimulus s.out.sends s.out.deliveries last →
    Leads PlumSteps first (steps ++ s ∷ []) last
leads_push first [] mid s last a step = (last, subst (λ core. PlumSteps core s.stimulus s.out.sends s.out.deliveries last) a step, refl)
leads_push first (t ∷ steps) mid s last (next, here, rest) step = (next, here, leads_push next steps mid s last rest step)

-- and back
pub leads_pop : (first : Plum) (steps : List (Step Frame)) (s : Step Frame) (last : Plum) →
    Leads PlumSteps first (steps ++ s ∷ []) last →
    (mid : Plum) × Leads PlumSteps first steps mid × PlumSteps mid s.stimulus s.out.sends s.out.deliveries last
leads_pop first [] s last (next, step, rest) = (first, refl, subst (λ core. PlumSteps first s.stimulus s.out.sends s.out.deliveries core) (sym rest) step)
leads_pop first (t ∷ steps) s last (next, here, rest) =
    let later = leads_pop next steps s last rest in
    (later.0, (next, here, later.1), later.2)

-- the steps up to a place, and the one there
pub take_one : (t : Trace Frame) (k : ℕ) (s : Step Frame) → slice_get t.steps k ≡ Some s → take (suc k) t.steps ≡ take k t.steps ++ s ∷ []
take_one t k s at =
    let one : suc k ≡ k + 1 = omega arith in
    ap (λ n. take n t.steps) one
    ∙ take_more t.steps k s (slice_get_within t.steps k s at)
    ∙ ap (λ (x : Step Frame). take k t.steps ++ x ∷ []) (get_or_from_slice_get t.steps k s s at)

-- a trace that replays so far replays one step further
pub replays_on : (limits : Limits) (t : Trace Frame) (k : ℕ) (s : Step Frame) (core new : Plum) →
    slice_get t.steps k ≡ Some s →
    Replays PlumStarts PlumSteps limits (cut k t) core →
    PlumSteps core s.stimulus s.out.sends s.out.deliveries new →
    Replays PlumStarts PlumSteps limits (cut (suc k) t) new
replays_on limits t k s core new at r step =
    record {
      first = r.first;
      allowed = r.allowed;
      started = r.started;
      silent = r.silent;
      leads = subst (λ steps. Leads PlumSteps r.first steps new) (sym (take_one t k s at)) (leads_push r.first (take k t.steps) core s new r.leads step);
    }

-- and where it does, its step is one of the core that it has led to so far
pub replays_back : (limits : Limits) (t : Trace Frame) (k : ℕ) (s : Step Frame) (core last : Plum) →
    slice_get t.steps k ≡ Some s →
    Replays PlumStarts PlumSteps limits (cut k t) core →
    Replays PlumStarts PlumSteps limits (cut (suc k) t) last →
    PlumSteps core s.stimulus s.out.sends s.out.deliveries last
replays_back limits t k s core last at r q =
    let same = starts_same t.origin limits t.peers t.contact t.opening.sends t.opening.sends q.first r.first q.started r.started in
    let back = leads_pop q.first (take k t.steps) s last (subst (λ steps. Leads PlumSteps q.first steps last) (take_one t k s at) q.leads) in
    let mid : back.0 ≡ core =
    leads_same r.first (take k t.steps) back.0 core (subst (λ first. Leads PlumSteps first (take k t.steps) back.0) same.1 back.1) r.leads in
    subst (λ c. PlumSteps c s.stimulus s.out.sends s.out.deliveries last) mid back.2
