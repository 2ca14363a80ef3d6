-- The table gives no other limits than those that were refused.
use Rattle.std.proofs.Common.{subst}
use Rattle.toml.specs.View.{table_view}
use Rattle.node_names.specs.Limits.{Limits as Sizes, IsAllowed}
use Rattle.scenario.specs.Scenario.{AreSizes}
use Rattle.scenario.proofs.Numbers.{AreSizes-same}
use Rattle.scenario.proofs.limits.limits.Goals as goal

pub returns-in-Err-clause-refused : goal.returns-in-Err-clause-refused
returns-in-Err-clause-refused c sizes are =
    let given : Sizes = record {
      active = c.in_ok-active.active;
      passive = c.in_ok-passive.passive;
      arwl = c.in_ok-arwl.arwl;
      prwl = c.in_ok-prwl.prwl;
      ka = c.in_ok-ka.ka;
      kp = c.in_ok-kp.kp;
      threshold = c.in_ok-threshold.threshold;
      keep = c.in_ok-keep.keep;
    } in
    let read : AreSizes (table_view c.args.section.now.table.now) given = record {
      active = rw c.active.ensures.value at c.in_ok-active.ensures;
      passive = rw c.passive.ensures.value at c.in_ok-passive.ensures;
      arwl = rw c.arwl.ensures.value at c.in_ok-arwl.ensures;
      prwl = rw c.prwl.ensures.value at c.in_ok-prwl.ensures;
      ka = rw c.ka.ensures.value at c.in_ok-ka.ensures;
      kp = rw c.kp.ensures.value at c.in_ok-kp.ensures;
      threshold = c.in_ok-threshold.ensures;
      keep = c.in_ok-keep.ensures;
    } in
    let allowed : IsAllowed given = subst IsAllowed (AreSizes-same _ sizes given are.sizes_are read) are.allowed in
    absurd (cc (c.in-Err.ensures.accepted.1 (record {
      active_from = allowed.active_from;
      active_to = allowed.active_to;
      passive_from = allowed.passive_from;
      passive_to = allowed.passive_to;
      prwl_to = allowed.prwl_to;
      arwl_to = allowed.arwl_to;
      shuffle_to = allowed.shuffle_to;
    })))
