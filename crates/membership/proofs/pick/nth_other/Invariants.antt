use Rattle.std.proofs.Common.{◌≡◌, drop, slice_get}
use Rattle.views.specs.Names.{others}
use Rattle.membership.proofs.pick.nth_other.Given as goal

abbrev pub invariant-loop-name : goal.invariant-loop-name
invariant-loop-name l = slice_get (others l.excepted (drop l.name-index l.names)) l.before ≡ slice_get (others l.excepted l.names) l.place
