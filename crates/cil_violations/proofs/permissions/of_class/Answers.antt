use Rattle.cil_violations.proofs.Common.{◌≤◌, ◌∙◌, rules, ClassPermission}
use Rattle.std.proofs.Math.Dec.{leb, ltb}
use Rattle.std.proofs.lemmas.List.Sorted.{IsPartitionPoint-from_clause, IsPartitionedBy-leb, IsPartitionedBy-ltb}
use Rattle.cil_violations.proofs.PartLemmas.{classes-rise, part-of-class, part-ordered, IsEnd, IsStart}
use Rattle.cil_violations.proofs.permissions.of_class.Goals as goal
use Rattle.cil_violations.proofs.permissions.of_class.Goals.{After-partition_point-end}

-- where the permissions of the class begin and end
first : (c : After-partition_point-end) → IsStart c.args.permissions.now c.args.class c.partition_point-start.result
first c =
    IsPartitionPoint-from_clause (λ (g : ClassPermission). ltb g.class c.args.class) c.args.permissions.now c.partition_point-start.result c.partition_point-start.ensures.partitioned
    (IsPartitionedBy-ltb (λ (g : ClassPermission). g.class) c.args.permissions.now c.args.class (classes-rise c.args.permissions.now c.requires)) (λ x b f k. search rules)

last : (c : After-partition_point-end) → IsEnd c.args.permissions.now c.args.class c.partition_point-end.result
last c =
    IsPartitionPoint-from_clause (λ (g : ClassPermission). leb g.class c.args.class) c.args.permissions.now c.partition_point-end.result c.partition_point-end.ensures.partitioned
    (IsPartitionedBy-leb (λ (g : ClassPermission). g.class) c.args.permissions.now c.args.class (classes-rise c.args.permissions.now c.requires)) (λ x b f k. search rules)

ordered : (c : After-partition_point-end) → c.partition_point-start.result ≤ c.partition_point-end.result
ordered c = part-ordered c.args.permissions.now c.args.class c.partition_point-start.result c.partition_point-end.result (first c) (last c) c.partition_point-start.ensures.bound

pub part-requires-clause-low : goal.part-requires-clause-low
part-requires-clause-low c = ordered (goal.at.part-requires-clause-low c).After-partition_point-end

pub returns : goal.returns
returns c =
    let at = (goal.at.returns c).After-partition_point-end in
    c.part.ensures ∙ part-of-class c.args.permissions.now c.args.class c.partition_point-start.result c.partition_point-end.result (first at) (last at) (ordered at)
