use Rattle.std.proofs.Common.{◌≡◌, ◌≤◌, length, take}
use Rattle.views.specs.Names.{others}
use Rattle.membership.proofs.pick.count_others.Given as goal

abbrev pub invariant-loop-name : goal.invariant-loop-name
invariant-loop-name l = record {
  counted : l.count ≡ length (others l.excepted (take l.name-index l.names));
  few : l.count ≤ l.name-index;
}
