use Rattle.std.proofs.Common.{◌≡◌, ◌-◌, List, IfOk}
use Rattle.frames.specs.Reading.{times}
use Rattle.frames.proofs.Times.{with_front}
use Rattle.frames.proofs.list.list.Given as goal

abbrev pub invariant-loop : goal.invariant-loop
invariant-loop g l =
    (xs : List _) × IfOk l.items (λ v. v.items ≡ xs)
    × (with_front xs (times (l.count - l.counter) g.T.Item.reader l.fields) ≡ times l.count g.T.Item.reader l.fn.fields)
