use Rattle.std.proofs.lemmas.List.Sorted.{IsPartitionPoint-from_clause, IsPartitionedBy-ltb}
use Rattle.std.proofs.Common.{rules}
use Rattle.std.proofs.Math.Dec.{ltb}
use Rattle.protocol.proofs.Segments.{cut_below, rises}
use Rattle.protocol.proofs.step_list.begun_before.Goals as goal

pub returns : goal.returns
returns g c = cut_below c.args.parts.now c.args.place c.partition_point.result c.partition_point.ensures.bound
    (IsPartitionPoint-from_clause (λ s. ltb s.first c.args.place) c.args.parts.now c.partition_point.result c.partition_point.ensures.partitioned
    (IsPartitionedBy-ltb (λ s. s.first) c.args.parts.now c.args.place (rises 0 c.args.parts.now c.requires)) (λ a r f' k. search rules))
