-- Why a run is not added to a group.
use Rattle.std.specs.Prelude.{◌≡◌, ◌≢◌}
use Rattle.node_names.specs.NodeName.{Name}
use Rattle.node_names.specs.Limits.{Limits}
use Rattle.node_names.specs.declared.ids.Origin.{Origin}
use Rattle.step_records.specs.declared.head.Head.{Head}
use Rattle.record_merge.specs.declared.error.GroupError.{GroupError}
use Rattle.record_merge.specs.declared.error.GroupError.TheVariants.{OtherLimits, OtherCluster, OutOfMemory}

-- A group of this label, these limits and this first run refuses the run of this head so: it is of another cluster; or it
-- is of the same, and has other limits.
abbrev pub IsRefused : Name → Limits → Origin → Head → GroupError → Type 0
IsRefused label limits first head (OtherCluster one other) = (head.label ≢ label) × (one ≡ first) × (other ≡ head.origin)
IsRefused label limits first head (OtherLimits one other) = (head.label ≡ label) × (head.limits ≢ limits) × (one ≡ first) × (other ≡ head.origin)
IsRefused label limits first head OutOfMemory = Unit {0}
