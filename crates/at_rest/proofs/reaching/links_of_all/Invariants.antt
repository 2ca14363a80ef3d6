use Rattle.std.proofs.Common.{◌≡◌, take}
use Rattle.at_rest.specs.Linking.{all_new_links}
use Rattle.at_rest.proofs.reaching.links_of_all.Given as goal

-- the links of the members so far
abbrev pub invariant-loop-member : goal.invariant-loop-member
invariant-loop-member g l = l.next.items ≡ all_new_links g.C.Core.state l.world.group.nodes l.reached.keys (take l.member-index l.level)
