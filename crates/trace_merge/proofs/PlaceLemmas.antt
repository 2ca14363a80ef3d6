-- How far traces are played, one of them a step further.
use Rattle.std.proofs.Common.{◌≡◌, ◌≢◌, ◌∙◌, ◌<◌, ◌++◌, ℕ, List, [], ◌∷◌, ap, append_assoc, false, inl, inr, length, refl, set, subst, suc, sym, take, true}
use Rattle.std.specs.List.{flat_map}
use Rattle.std.specs.Prelude.{◌⊎◌, Bool, Option, Some, None, nat_eq, slice_get}
use Rattle.std.specs.Cmp.{unsigned_Decides}
use Rattle.std.proofs.lemmas.Bool.{false≢true}
use Rattle.std.proofs.lemmas.Grind.{flat_map-append}
use Rattle.std.proofs.lemmas.List.{append-nil, get_or-set_other, get_or-set_same}
use Rattle.node_names.specs.NodeName.{Name}
use Rattle.node_names.specs.declared.ids.Origin.{Origin}
use Rattle.protocol.specs.Lists.{IsOneOf}
use Rattle.protocol.specs.Trace.{Step, Trace}
use Rattle.world.specs.declared.packet.Packet.{Packet}
use Rattle.frames.specs.Frame.{Frame}
use Rattle.trace_merge.specs.Merging.{IsSentBy, IsStarted, place_at, sent_within}
use Rattle.trace_merge.proofs.Determined.{take_one}
use Rattle.trace_merge.proofs.ListLemmas.{one_of-left}

-- Either it is the place that changed, or nothing changed there.
abbrev pub AtOrNot : List (Option ℕ) → ℕ → Option ℕ → ℕ → Type 0
AtOrNot places at x i = ((i ≡ at) × (place_at (set places at x) i ≡ x)) ⊎ ((i ≢ at) × (place_at (set places at x) i ≡ place_at places i))

pub at_or_not : (places : List (Option ℕ)) (at : ℕ) (x : Option ℕ) (i : ℕ) → at < length places → AtOrNot places at x i
at_or_not places at x i within = go (nat_eq i at) refl
  where
    go : (b : Bool) → nat_eq i at ≡ b → AtOrNot places at x i
    go true is = let same : i ≡ at = (unsigned_Decides i at).0 is in inl (same, ap (place_at (set places at x)) same ∙ get_or-set_same places at x None within)
    go false is = let other : i ≢ at = (λ e. false≢true (sym is ∙ (unsigned_Decides i at).1 e)) in inr (other, get_or-set_other places at i x None other)

-- one step more sends what it sends
pub sent_within-suc : (t : Trace Frame) (k : ℕ) (s : Step Frame) → slice_get t.steps k ≡ Some s → sent_within (suc k) t ≡ sent_within k t ++ s.out.sends
sent_within-suc t k s step =
    let sends : Step Frame → List (Name × Frame) = λ (x : Step Frame). x.out.sends in
    ap (λ xs. t.opening.sends ++ flat_map sends xs) (take_one t k s step)
    ∙ ap (λ xs. t.opening.sends ++ xs)
    (flat_map-append sends (take k t.steps) (s ∷ []) ∙ ap (λ xs. flat_map sends (take k t.steps) ++ xs) (append-nil s.out.sends))
    ∙ sym (append_assoc t.opening.sends (flat_map sends (take k t.steps)) s.out.sends)

module _
    (traces : List (Trace Frame))
    (places : List (Option ℕ))
    (at k : ℕ)
    (t : Trace Frame)
    (s : Step Frame)
    (within : at < length places)
    (listed : slice_get traces at ≡ Some t)
    (placed : place_at places at ≡ Some k)
    (step : slice_get t.steps k ≡ Some s)
  where
    -- what is started stays started
    pub started_stays : (o : Origin) → IsStarted traces places o → IsStarted traces (set places at (Some (suc k))) o
    started_stays o is =
        elim (at_or_not places at (Some (suc k)) is.at within) [
          | inl here ↦ record { at = is.at; place = suc k; trace = is.trace; listed = is.listed; its = is.its; stands = here.1 }
          | inr there ↦ record { at = is.at; place = is.place; trace = is.trace; listed = is.listed; its = is.its; stands = there.1 ∙ is.stands }
        ]

    -- what was sent stays sent
    pub sent_stays : (packet : Packet Frame) → IsSentBy traces places packet → IsSentBy traces (set places at (Some (suc k))) packet
    sent_stays packet is =
        elim (at_or_not places at (Some (suc k)) is.at within) [
          | inl here ↦
              (let same : Some is.trace ≡ Some t = (sym is.listed ∙ ap (slice_get traces) here.0 ∙ listed) in
              let it : is.trace ≡ t = cc in
              let stood : Some is.place ≡ Some k = (sym is.stands ∙ ap (place_at places) here.0 ∙ placed) in
              let far : is.place ≡ k = cc in
              let sends : IsOneOf (packet.to, packet.note) (sent_within k t) =
              subst (λ n. IsOneOf (packet.to, packet.note) (sent_within n t)) far
              (subst (λ u. IsOneOf (packet.to, packet.note) (sent_within is.place u)) it is.sends) in
              record {
                at = is.at;
                place = suc k;
                trace = t;
                listed = ap (slice_get traces) here.0 ∙ listed;
                its = ap (λ (u : Trace Frame). u.origin) (sym it) ∙ is.its;
                stands = here.1;
                sends =
                    subst (IsOneOf (packet.to, packet.note)) (sym (sent_within-suc t k s step))
                    (one_of-left (packet.to, packet.note) (sent_within k t) s.out.sends sends);
              })
          | inr there ↦
              record { at = is.at; place = is.place; trace = is.trace; listed = is.listed; its = is.its; stands = there.1 ∙ is.stands; sends = is.sends }
        ]
