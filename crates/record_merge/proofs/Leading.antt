-- The trace of a run that is replayed: it replays from its start, and goes on by a step.
use Rattle.std.proofs.Common.{◌≡◌, ◌∙◌, List, [], ◌∷◌, ◌++◌, ap, refl, subst, sym}
use Rattle.std.specs.Prelude.{IsTrue, Option}
use Rattle.node_names.specs.NodeName.{Name}
use Rattle.node_names.specs.Limits.{Limits}
use Rattle.node_names.specs.declared.ids.Origin.{Origin}
use Rattle.protocol.specs.Delivery.{Delivery}
use Rattle.protocol.specs.Output.{Output, Stepped}
use Rattle.protocol.specs.Peers.{are_peers}
use Rattle.protocol.specs.Replay.{Leads, Replays}
use Rattle.protocol.specs.Stimulus.{Stimulus}
use Rattle.protocol.specs.Trace.{Step, Trace}

module _ {C N : Type 0} (starts : Origin → Limits → List Name → Option Name → List (Name × N) → C → Type 0)
    (steps : C → Stimulus N → List (Name × N) → List Delivery → C → Type 0) where
  -- one step more
  leads_on : (first last : C) (ss : List (Step N)) (s : Step N) (next : C) →
      Leads steps first ss last →
      steps last s.stimulus s.out.sends s.out.deliveries next →
      Leads steps first (ss ++ s ∷ []) next
  leads_on first last [] s next there made = (next, subst (λ c. steps c s.stimulus s.out.sends s.out.deliveries next) there made, refl)
  leads_on first last (x ∷ ss) s next there made = (there.0, there.1, leads_on there.0 last ss s next there.2 made)

  -- of a trace
  replays_on : (limits : Limits) (trace : Trace N) (s : Step N) (core next : C) →
      Replays starts steps limits trace core →
      steps core s.stimulus s.out.sends s.out.deliveries next →
      Replays starts steps limits (record trace { steps = trace.steps ++ s ∷ [] }) next
  replays_on limits trace s core next r made =
      record {
        first = r.first;
        allowed = r.allowed;
        started = r.started;
        silent = r.silent;
        leads = leads_on r.first core trace.steps s next r.leads made;
      }

  -- where the output was empty before the step
  pub stepped_on : (limits : Limits) (trace new : Trace N) (stimulus : Stimulus N) (before out : Output N) (core next : C) →
      Replays starts steps limits trace core →
      Stepped steps core stimulus before next out →
      before.sends ≡ [] →
      before.deliveries ≡ [] →
      new ≡ record trace { steps = trace.steps ++ record { stimulus = stimulus; out = out } ∷ [] } →
      Replays starts steps limits new next
  stepped_on limits trace new stimulus before out core next r st none nothing is =
      let sent : out.sends ≡ st.sends = st.sent ∙ ap (λ (ss : List (Name × N)). ss ++ st.sends) none in
      let given : out.deliveries ≡ st.given = st.delivered ∙ ap (λ (ds : List Delivery). ds ++ st.given) nothing in
      let half = subst (λ (ds : List Delivery). steps core stimulus st.sends ds next) (sym given) st.stepped in
      let whole = subst (λ (ss : List (Name × N)). steps core stimulus ss out.deliveries next) (sym sent) half in
      subst (λ (t : Trace N). Replays starts steps limits t next) (sym is)
      (replays_on limits trace (record { stimulus = stimulus; out = out }) core next r whole)

  -- the trace of a start
  pub begun : (limits : Limits) (origin : Origin) (peers : List Name) (contact : Option Name) (before out : Output N) (core : C) (trace : Trace N) →
      IsTrue (are_peers limits origin.name peers contact) →
      before.sends ≡ [] →
      before.deliveries ≡ [] →
      ((sends : List (Name × N)) × starts origin limits peers contact sends core × (out ≡ record before { sends = before.sends ++ sends })) →
      trace ≡ record { origin = origin; peers = peers; contact = contact; opening = out; steps = [] } →
      Replays starts steps limits trace core
  begun limits origin peers contact before out core trace fit none nothing started is =
      let sent : out.sends ≡ started.0 = ap (λ (o : Output N). o.sends) started.2 ∙ ap (λ (ss : List (Name × N)). ss ++ started.0) none in
      let silent : out.deliveries ≡ [] = ap (λ (o : Output N). o.deliveries) started.2 ∙ nothing in
      subst (λ (t : Trace N). Replays starts steps limits t core) (sym is) (record {
        first = core;
        allowed = fit;
        started = subst (λ (ss : List (Name × N)). starts origin limits peers contact ss core) (sym sent) started.1;
        silent = silent;
        leads = refl;
      })

  -- some core is at its end
  pub ended : (limits : Limits) (trace : Trace N) (core : C) → Replays starts steps limits trace core → (last : C) × Replays starts steps limits trace last
  ended limits trace core r = (core, r)
