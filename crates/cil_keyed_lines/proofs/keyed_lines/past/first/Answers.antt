use Rattle.std.proofs.Common.{rules}
use Rattle.std.proofs.lemmas.List.Sorted.{IsPartitionPoint-from_clause}
use Rattle.cil_keyed_lines.specs.Past.{is_before}
use Rattle.cil_keyed_lines.proofs.PastLemmas.{before-first}
use Rattle.cil_keyed_lines.proofs.keyed_lines.past.first.Goals as goal

pub returns-clause-split : goal.returns-clause-split
returns-clause-split c =
    let asked = c.requires in
    IsPartitionPoint-from_clause (is_before c.args.line c.args.word) c.args.changes.now c.partition_point.result c.partition_point.ensures.partitioned
    (before-first c.args.line c.args.word c.args.changes.now asked.order asked.short (search rules)) (λ x b f k. search rules)
