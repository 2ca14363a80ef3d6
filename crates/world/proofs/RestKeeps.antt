-- Events in which no core steps keep what runs keep.
use Rattle.std.proofs.Common.{◌≡◌, ◌∙◌, ℕ, List, [], ◌∷◌, sym, refl, subst, inl, inr}
use Rattle.std.specs.Prelude.{Option, Some, None, IfSome}
use Rattle.node_names.specs.NodeName.{Name}
use Rattle.node_names.specs.Limits.{Limits}
use Rattle.node_names.specs.declared.ids.Incarnation.{Incarnation}
use Rattle.protocol.specs.Content.{Content}
use Rattle.protocol.specs.CoreState.{CoreState}
use Rattle.protocol.specs.Delivery.{Delivery}
use Rattle.world.specs.Entry.{Entry}
use Rattle.world.specs.Group.{node_of, put_node}
use Rattle.world.specs.History.{Said, broadcasts_of, counted_by, incarnation_of, started_by}
use Rattle.world.specs.declared.node_state.NodeState.{NodeState}
use Rattle.world.specs.declared.packet.Packet.{Packet}
use Rattle.world.proofs.FindLemmas.{each-put_node, put_cases}
use Rattle.world.proofs.Kept.{IsStarted, Keeps, KeepsCore, KeepsPacket, each-weaken}
use Rattle.world.proofs.StartKeeps.{delivered_before, each_given, once_before}
use Rattle.world.proofs.StepKeeps.{highest_stays}

module _
    {C N : Type 0}
    (state : C → CoreState)
    (content : N → Content)
    (is_sound : Limits → C → Type 0)
    (limits : Limits)
    (nodes : List (NodeState C))
    (sent : List (Packet N))
  where
    -- an entry that starts, counts and gives nothing
    pub quiet_keeps :
        (past : List Entry)
        (entry : Entry) →
        Keeps state content is_sound limits past nodes sent →
        entry.given ≡ [] →
        ((other : Name) (last : Option Incarnation) → started_by other entry.event last ≡ last) →
        ((other : Name) (n : ℕ) → counted_by other entry.event n ≡ n) →
        Keeps state content is_sound limits (entry ∷ past) nodes sent
    quiet_keeps past entry kept none starts_none counts_none =
        record {
          highest = λ name. kept.highest name ∙ sym (starts_none name (incarnation_of name past));
          cores = λ name node core at runs. let before : KeepsCore state is_sound limits past node core = kept.cores name node core at runs in record {
            sound = before.sound;
            is_me = before.is_me;
            counts = before.counts ∙ sym (counts_none node.name (broadcasts_of node.name past));
            holds = λ id p e. inr (before.holds id p e);
            has = λ id d. before.has id (delivered_before past entry (state core).me id none d);
          };
          sound = kept.sound;
          packets =
              each-weaken (λ packet. KeepsPacket content past packet) (λ packet. KeepsPacket content (entry ∷ past) packet) sent
              (λ packet h. record { from_other = h.from_other; carries = λ id p e. inr (h.carries id p e) }) kept.packets;
          below =
              λ origin id d.
              let was : IsStarted past origin = kept.below origin id (delivered_before past entry origin id none d) in
              record { last = was.last; started = starts_none origin.name (incarnation_of origin.name past) ∙ was.started; not_later = was.not_later };
          honest = (each_given (λ (d : Delivery). Said (entry ∷ past) d.id d.payload) entry.given none, kept.honest);
          once = once_before past entry none kept.once;
        }

    -- a node that stops
    pub stop_keeps : (history : List Entry) (node : NodeState C) →
        Keeps state content is_sound limits history nodes sent →
        node_of node.name nodes ≡ Some node →
        Keeps state content is_sound limits history (put_node (record node { core = None }) nodes) sent
    stop_keeps history node kept known =
        record {
          highest = λ name. highest_stays name (record node { core = None }) node nodes known refl ∙ kept.highest name;
          cores = λ name found core at runs. elim (put_cases name (record node { core = None }) found nodes at) [
            | inl here ↦
                subst (λ (n : NodeState C). n.core ≡ Some core → KeepsCore state is_sound limits history n core) here.1
                (λ e. let no : None ≡ Some core = e in cc) runs
            | inr there ↦ kept.cores name found core there.1 runs
          ];
          sound = each-put_node (λ (n : NodeState C). IfSome n.core (λ k. is_sound limits k)) (record node { core = None }) nodes kept.sound tt;
          packets = kept.packets;
          below = kept.below;
          honest = kept.honest;
          once = kept.once;
        }
