-- Steps of the flooding core in which it takes no message, and copies of it.
use denote.Ref.{Bor}
use Rattle.std.proofs.Common.{◌≡◌, ◌∙◌, ◌+◌, ℕ, Bool, true, false, not, List, [], ◌∷◌, ◌++◌, refl, sym, ap, subst, inl, inr, append-nil}
use Rattle.std.proofs.lemmas.Bool.{false≢true}
use Rattle.std.specs.Bool.{MatchBool}
use Rattle.std.specs.List.{AllByRecursion as Each, IsDistinct}
use Rattle.std.specs.Option.{is_some}
use Rattle.std.specs.Prelude.{◌⊎◌, ◌↔◌, ◌||◌, Some, cond, map, if◌then◌else◌}
use Rattle.std.specs.Set.{remove_key}
use Rattle.node_names.specs.NodeName.{Name}
use Rattle.node_names.specs.Same.{has_name, same_name, same_name-Decides, same_origin, same_origin-Decides}
use Rattle.node_names.specs.declared.dice.Dice.{Dice}
use Rattle.node_names.specs.declared.ids.MsgId.{MsgId}
use Rattle.node_names.specs.declared.ids.Origin.{Origin}
use Rattle.protocol.specs.impl_proofs.NameLists.{and_right, lacks_from_each, not_true}
use Rattle.protocol.specs.Output.{Output, Stepped}
use Rattle.protocol.specs.SameNames.{SameNames}
use Rattle.protocol.specs.Stimulus.{Stimulus, lent}
use Rattle.protocol.specs.declared.stimulus.StimulusOf.{StimulusOf}
use Rattle.protocol.specs.declared.stimulus.StimulusOf.TheVariants.{Arrive, Fire, Flush, Down, Shuffle, Join}
use Rattle.flood.specs.FloodCore.{Flooding, Message, FloodSteps, HoldsCounted, IsIdle, Takes, flood_after, is_news, note_to, others, payload_of, with_news}
use Rattle.flood.specs.impl_proofs.Counted.{counts_next, counts_others}

-- a step that may give nothing appends nothing
pub gives_nothing : (old : Flooding) (stimulus : Stimulus Message) (new : Flooding) (out : Output Message) →
    FloodSteps old stimulus [] [] new →
    Stepped FloodSteps old stimulus out new out
gives_nothing old stimulus new out steps =
    record { sends = []; given = []; stepped = steps; sent = sym (append-nil out.sends); delivered = sym (append-nil out.deliveries) }

-- the core may do nothing
pub is_idle : (core : Flooding) → IsIdle core [] [] core
is_idle core = record { delivers_nothing = refl; sends_nothing = refl; stays = refl }

-- what is not in a list is not taken out of it
absent_stays : (name : Name) (names : List Name) → has_name names name ≡ false → remove_key (same_name name) names ≡ names
absent_stays name [] lacks = refl
absent_stays name (other ∷ names) lacks = go (same_name name other) lacks (absent_stays name names)
  where
    go : (b : Bool) →
        (b || has_name names name) ≡ false →
        (has_name names name ≡ false → remove_key (same_name name) names ≡ names) →
        cond b names (other ∷ remove_key (same_name name) names) ≡ other ∷ names
    go true e later = absurd (false≢true (sym e))
    go false e later = ap (λ rest. other ∷ rest) (later e)

-- what is taken out of a list of distinct names is not in it any more
removed_is_gone : (name : Name) (names : List Name) → IsDistinct same_name names → has_name (remove_key (same_name name) names) name ≡ false
unfolding IsDistinct
removed_is_gone name [] distinct = refl
removed_is_gone name (other ∷ names) distinct = go (same_name name other) refl (removed_is_gone name names distinct.1)
  where
    go : (b : Bool) →
        same_name name other ≡ b →
        has_name (remove_key (same_name name) names) name ≡ false →
        has_name (cond b names (other ∷ remove_key (same_name name) names)) name ≡ false
    go true is later = lacks_from_each name names (subst (λ n. Each (λ x. same_name n x ≡ false) names) (sym ((same_name-Decides name other).0 is)) distinct.0)
    go false is later = ap (λ b. b || has_name (remove_key (same_name name) names) name) is ∙ later

-- firings, flushes, ticks and joinings do nothing
pub stays_idle : (core : Flooding) (stimulus : StimulusOf (Bor (List ℕ)) (Bor Message)) (out : Output Message) →
    ((id : MsgId) × (stimulus ≡ Fire id))
    ⊎ ((stimulus ≡ Flush) ⊎ (((dice : Dice) × (stimulus ≡ Shuffle dice)) ⊎ ((contact : Name) × (stimulus ≡ Join contact)))) →
    Stepped FloodSteps core (lent stimulus) out (flood_after core (lent stimulus)) out
stays_idle core stimulus out (inl fire) =
    subst (λ s. Stepped FloodSteps core (lent s) out (flood_after core (lent s)) out) (sym fire.1) (gives_nothing core (Fire fire.0) core out (is_idle core))
stays_idle core stimulus out (inr (inl flush)) =
    subst (λ s. Stepped FloodSteps core (lent s) out (flood_after core (lent s)) out) (sym flush) (gives_nothing core Flush core out (is_idle core))
stays_idle core stimulus out (inr (inr (inl shuffle))) =
    subst (λ s. Stepped FloodSteps core (lent s) out (flood_after core (lent s)) out)
    (sym shuffle.1) (gives_nothing core (Shuffle shuffle.0) core out (is_idle core))
stays_idle core stimulus out (inr (inr (inr join))) =
    subst (λ s. Stepped FloodSteps core (lent s) out (flood_after core (lent s)) out) (sym join.1) (gives_nothing core (Join join.0) core out (is_idle core))

-- a failed link takes its peer out
pub loses_peer : (core : Flooding) (peer : Name) (dice : Dice) (stimulus : Stimulus Message) (out : Output Message) →
    stimulus ≡ Down peer dice →
    Stepped FloodSteps core stimulus out (flood_after core stimulus) out
loses_peer core peer dice stimulus out is =
    subst (λ s. Stepped FloodSteps core s out (flood_after core s) out) (sym is)
    (gives_nothing core (Down peer dice) (flood_after core (Down peer dice)) out (record { delivers_nothing = refl; sends_nothing = refl; without = refl }))

-- and so the peers are other ones where it was one of them
pub moves_by_peer : (core : Flooding) (peer : Name) (dice : Dice) (stimulus : Stimulus Message) (was : Bool) →
    IsDistinct same_name core.peers →
    was ≡ has_name core.peers peer →
    stimulus ≡ Down peer dice →
    (was ≡ false) ↔ SameNames core.peers (flood_after core stimulus).peers
moves_by_peer core peer dice stimulus was distinct found is =
    subst (λ s. (was ≡ false) ↔ SameNames core.peers (flood_after core s).peers) (sym is) (
      (λ lacks name. ap (λ names. has_name names name) (sym (absent_stays peer core.peers (sym found ∙ lacks)))),
      (λ same. found ∙ same peer ∙ removed_is_gone peer core.peers distinct),
    )

-- a packet whose message is no news does nothing
pub ignores : (core : Flooding) (sender : Origin) (note : Message) (dice : Dice) (out : Output Message) →
    is_news core note.id ≡ false →
    Stepped FloodSteps core (Arrive sender note dice) out (with_news core note) out
ignores core sender note dice out old =
    gives_nothing core (Arrive sender note dice) (with_news core note) out (subst (λ b. MatchBool b
    (Takes core note.id note.payload (others (Some sender.name) core.peers) core.count [] []
    (if b then record core { held = core.held ++ (note.id, note.payload) ∷ [] } else core))
    (IsIdle core [] [] (if b then record core { held = core.held ++ (note.id, note.payload) ∷ [] } else core))) (sym old) (is_idle core))

-- one whose message is news is taken
pub takes : (core : Flooding) (sender : Origin) (note : Message) (dice : Dice) (before after : Output Message) →
    is_news core note.id ≡ true →
    after.sends ≡ before.sends ++ map (note_to note.id note.payload) (others (Some sender.name) core.peers) →
    after.deliveries ≡ before.deliveries ++ record { node = core.me; id = note.id; payload = note.payload } ∷ [] →
    Stepped FloodSteps core (Arrive sender note dice) before (with_news core note) after
takes core sender note dice before after new sent delivered =
    record {
      sends = map (note_to note.id note.payload) (others (Some sender.name) core.peers);
      given = record { node = core.me; id = note.id; payload = note.payload } ∷ [];
      stepped =
          subst (λ b. MatchBool b (Takes core note.id note.payload
          (others (Some sender.name) core.peers)
          core.count
          (map (note_to note.id note.payload) (others (Some sender.name) core.peers))
          (record { node = core.me; id = note.id; payload = note.payload } ∷ [])
          (if b then record core { held = core.held ++ (note.id, note.payload) ∷ [] } else core)) (IsIdle core
          (map (note_to note.id note.payload) (others (Some sender.name) core.peers))
          (record { node = core.me; id = note.id; payload = note.payload } ∷ [])
          (if b then record core { held = core.held ++ (note.id, note.payload) ∷ [] } else core)))
          (sym new) (record { delivers = refl; forwards = refl; holds = refl });
      sent = sent;
      delivered = delivered;
    }

-- the core's own next message is counted
pub counts_own : (me : Origin) (held after : List (MsgId × List ℕ)) (count seq : ℕ) (payload : List ℕ) →
    HoldsCounted me held count →
    after ≡ held ++ (record { origin = me; seq = seq }, payload) ∷ [] →
    seq ≡ count + 1 →
    HoldsCounted me after seq
counts_own me held after count seq payload counted is next =
    subst (λ es. HoldsCounted me es seq) (sym is) (subst (HoldsCounted me (held ++ (record { origin = me; seq = seq }, payload) ∷ []))
    (sym next) (counts_next me held count (record { origin = me; seq = seq }) payload counted next))

-- and one of another origin need not be
pub counts_foreign : (core : Flooding) (after : List (MsgId × List ℕ)) (id : MsgId) (payload : List ℕ) →
    HoldsCounted core.me core.held core.count →
    after ≡ core.held ++ (id, payload) ∷ [] →
    is_news core id ≡ true →
    HoldsCounted core.me after core.count
counts_foreign core after id payload counted is news =
    let me = core.me in
    let held = core.held in
    let count = core.count in
    let other : same_origin id.origin me ≡ false =
    not_true (same_origin id.origin me) (and_right (not (is_some (payload_of core id))) (not (same_origin id.origin me)) news) in
    subst (λ es. HoldsCounted me es count) (sym is) (counts_others me held count id payload counted
    (λ e. let same : same_origin id.origin me ≡ true = (same_origin-Decides id.origin me).1 e in let no : true ≡ false = sym same ∙ other in cc))

-- a core with the same peers and messages is the same
pub same_core : (core : Flooding) (peers : List Name) (held : List (MsgId × List ℕ)) →
    peers ≡ core.peers →
    held ≡ core.held →
    record core { peers = peers; held = held } ≡ core
same_core core peers held p h = λ i. record core { peers = p i; held = h i }
