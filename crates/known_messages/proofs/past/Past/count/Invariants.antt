use Rattle.std.proofs.Common.{◌≡◌, ◌+◌, ◌^◌, length}
use Rattle.std.specs.VecDeque.Iter.{deque_iter_rest}
use Rattle.known_messages.specs.Past.{between}
use Rattle.known_messages.specs.Span.{Ascends}
use Rattle.known_messages.proofs.past.Past.count.Given as goal

abbrev pub invariant-loop-first : goal.invariant-loop-first
invariant-loop-first g l =
    record {
      can_next : (goal.iterator-loop-first g).can_next l.edges;
      is_finite : (goal.iterator-loop-first g).is_finite l.edges;
      up : Ascends 0 (deque_iter_rest l.edges);
      sum : l.count + length (between (2 ^ 64) (deque_iter_rest l.edges)) ≡ length l.fn.self.numbers;
    }
