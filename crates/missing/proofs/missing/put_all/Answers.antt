-- One more announcement.
use Rattle.std.proofs.Common.{sym, ap, ◌∙◌, arith, ℕ, get_or}
use Rattle.node_names.specs.Slots.{somes}
use Rattle.node_names.specs.declared.ids.MsgId.{MsgId}
use Rattle.missing.specs.Timers.{with_timer}
use Rattle.missing.specs.Wants.{with_want}
use Rattle.missing.proofs.WantLemmas.{with_timers-take, with_wants-take}
use Rattle.missing.proofs.missing.put_all.Goals as goal

pub loop-entry-preserved : goal.loop-entry-preserved
loop-entry-preserved g c = record {
  wants =
      c.put.ensures.wants
      ∙ ap (λ (one : MsgId × ℕ). with_want one.0 c.args.peer.now one.1 (somes c.loop-entry.wants.slots.items)) c.entry-item.is
      ∙ ap (λ wants. with_want (get_or c.args.entries.now c.loop-entry.entry-index c.entry-item.result).0 c.args.peer.now
      (get_or c.args.entries.now c.loop-entry.entry-index c.entry-item.result).1 wants)
      c.loop-entry.invariant.wants
      ∙ sym (with_wants-take c.args.peer.now c.args.entries.now c.loop-entry.entry-index c.entry-item.result
      (somes c.args.wants.now.slots.items) c.loop-entry-test.true);
  kept = c.put.ensures.kept;
  known = rw c.put.ensures.peers c.loop-entry.invariant.known;
  timers =
      c.put.ensures.timers
      ∙ ap (λ (one : MsgId × ℕ). with_timer one.0 (somes c.loop-entry.timers.slots.items)) c.entry-item.is
      ∙ ap (λ timers. with_timer (get_or c.args.entries.now c.loop-entry.entry-index c.entry-item.result).0 timers) c.loop-entry.invariant.timers
      ∙ sym (with_timers-take c.args.entries.now c.loop-entry.entry-index c.entry-item.result (somes c.args.timers.now.slots.items) c.loop-entry-test.true);
  timed = c.put.ensures.timed;
  room = omega arith;
  places = omega arith;
  timer_room = omega arith;
  spare = omega arith;
}
