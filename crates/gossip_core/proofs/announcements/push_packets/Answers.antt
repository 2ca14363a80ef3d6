-- One more packet is there.
use Rattle.std.proofs.Common.{◌==◌, ℕ, List, length, sym, ap, ◌∙◌}
use Rattle.std.proofs.lemmas.Bool.{false≢true}
use Rattle.node_names.specs.declared.ids.MsgId.{MsgId}
use Rattle.gossip_core.proofs.PacketLemmas.{pushed}
use Rattle.gossip_core.proofs.announcements.push_packets.Goals as goal

pub loop-rest-preserved : goal.loop-rest-preserved
loop-rest-preserved g c =
    pushed c.args.peer.now c.loop-rest.packets.items c.push.new.self.items _ c.in_ok-packet.field-0
    c.loop-rest.rest.now c.split_at.result.0.now c.split_at.result.1.now c.min.result
    (λ e. false≢true (sym c.loop-rest-test.true ∙ c.is_empty.ensures ∙ ap (λ (xs : List (MsgId × ℕ)). length xs == 0) e)) c.in_ok-push.ensures.items
    c.in_ok-packet.ensures c.min.ensures c.split_at.ensures.front c.split_at.ensures.back c.loop-rest.invariant
