use Rattle.std.proofs.Common.{◌≡◌, ◌+◌, ◌++◌, ◌≤◌, map, take, length, vec_len, vec_capacity}
use Rattle.peer_sets.specs.Members.{lazy_but}
use Rattle.peer_sets.proofs.queue.push_lazy.Given as goal

abbrev pub invariant-loop-member : goal.invariant-loop-member
invariant-loop-member g l =
    record {
      queued : l.queued.items ≡ l.fn.queued.items ++ map (λ peer. (peer, l.id, l.round)) (lazy_but l.left_out (take l.member-index l.members));
      room : vec_len l.queued + length l.members ≤ vec_capacity l.queued + l.member-index;
    }
