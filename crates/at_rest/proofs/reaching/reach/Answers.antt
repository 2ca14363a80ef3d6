-- Level by level, until one has no names.
use Rattle.std.proofs.Common.{◌≡◌, ◌∙◌, ap, subst, sym}
use Rattle.indexmap.specs.IndexSet.{insert_all}
use Rattle.node_names.specs.Same.{has_name, same_name}
use Rattle.at_rest.specs.Linking.{all_new_links}
use Rattle.at_rest.specs.Reach.{AreInReach}
use Rattle.at_rest.proofs.Levels.{Stands, at_first, fewer_then, has_none, has_some, in_reach, stands_then}
use Rattle.at_rest.proofs.Oks.{ok-weaken}
use Rattle.at_rest.proofs.reaching.reach.Goals as goal

pub levels-init : goal.levels-init
levels-init g c =
    subst (λ names. Stands g.C.Core.state c.args.world.now.group c.args.name names c.in_ok-level.level.items) (sym c.new-reached.ensures.empty)
    (at_first g.C.Core.state c.args.world.now.group c.args.name c.in_ok-level.level.items c.in_ok-level.ensures)

pub levels-preserved : goal.levels-preserved
levels-preserved g c =
    stands_then g.C.Core.state c.args.world.now.group c.args.name c.levels.reached.keys c.levels.level.items c.levels.invariant c.add_all.new.reached.keys
    (c.in_ok-add_all.ensures ∙ ap (insert_all same_name c.levels.reached.keys) c.as_slice.ensures.value)
    c.in_ok-level-2.level.items c.in_ok-level-2.ensures.sorted
    (λ end.
    c.in_ok-level-2.ensures.same end
    ∙ ap (λ level. has_name (all_new_links g.C.Core.state c.args.world.now.group.nodes c.add_all.new.reached.keys level) end)
    c.as_slice-in-levels.ensures.value)

pub levels-smaller : goal.levels-smaller
levels-smaller g c =
    fewer_then g.C.Core.state c.args.world.now.group c.args.name c.levels.reached.keys c.levels.level.items c.levels.invariant c.add_all.new.reached.keys
    (c.in_ok-add_all.ensures ∙ ap (insert_all same_name c.levels.reached.keys) c.as_slice.ensures.value)
    (has_some c.levels.level.items c.levels.level.len c.levels.level.ok.0 c.levels-test.ensures)

pub returns : goal.returns
returns g c =
    ok-weaken c.from_slice.result (λ names. names.items ≡ c.as_slice-2.result.now)
    (λ names. AreInReach g.C.Core.state c.args.world.now.group c.args.name names.items)
    (λ names is.
    subst (AreInReach g.C.Core.state c.args.world.now.group c.args.name) (sym (is ∙ c.as_slice-2.ensures.keys))
    (in_reach g.C.Core.state c.args.world.now.group c.args.name c.levels.reached.keys c.levels.level.items c.levels.invariant
    (has_none c.levels.level.items c.levels.level.len c.levels.level.ok.0 c.levels-test.ensures)))
    c.from_slice.ensures.items
