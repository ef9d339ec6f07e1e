use Rattle.cil_needs.proofs.Common.{ltb, leb, get_or, arith, rules, IsPartitionPoint-from_clause, IsPartitionedBy-leb, IsPartitionedBy-ltb, slice_get-get_or, node_of, Dependent}
use Rattle.cil_needs.proofs.DependentLemmas.{opened-more, opened-all, IsStart, IsEnd}
use Rattle.cil_needs.proofs.dependents.reopen.Goals as goal

pub loop-place-preserved : goal.loop-place-preserved
loop-place-preserved g c =
    let dependents = c.args.dependents.now in
    let place = c.loop-place.place in
    let bound = c.partition_point-end.ensures.bound in
    let before = c.loop-place-test.true in
    opened-more dependents c.partition_point-start.result c.partition_point-end.result place c.args.waiting.now.items c.loop-place.waiting.items c.push.new.self.items
    (get_or dependents place (record { node = 0; need = 0 })) bound before (slice_get-get_or dependents place (record { node = 0; need = 0 }) (omega (arith, bound, before))) c.in_ok-push.ensures.items c.loop-place.invariant

pub returns : goal.returns
returns g c =
    let dependents = c.args.dependents.now in
    let o = c.args.node in
    let start = c.partition_point-start in
    let end = c.partition_point-end in
    let first : IsStart dependents o start.result =
    IsPartitionPoint-from_clause (λ (d : Dependent). ltb d.node o) dependents start.result start.ensures.partitioned (IsPartitionedBy-ltb node_of dependents o c.requires) (λ x b f k. search rules) in
    let last : IsEnd dependents o end.result =
    IsPartitionPoint-from_clause (λ (d : Dependent). leb d.node o) dependents end.result end.ensures.partitioned (IsPartitionedBy-leb node_of dependents o c.requires) (λ x b f k. search rules) in
    let past = c.loop-place-test.false in
    opened-all dependents o start.result end.result c.loop-place.place c.args.waiting.now.items c.loop-place.waiting.items first last (omega (arith, past)) c.loop-place.invariant
