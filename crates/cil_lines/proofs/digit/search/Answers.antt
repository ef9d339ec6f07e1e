use Rattle.std.proofs.Common.{ltb, arith, rules}
use Rattle.std.proofs.lemmas.List.Sorted.{IsPartitionPoint-from_clause, IsPartitionedBy-ltb}
use Rattle.cil_lines.specs.declared.digit.Entry.{Entry}
use Rattle.cil_lines.proofs.SearchLemmas.{IsSplit, rises-non_decreasing, entry-found, gap-found}
use Rattle.cil_lines.proofs.digit.search.Goals as goal
use Rattle.cil_lines.proofs.digit.search.Goals.{After-partition_point-place, else-place-entries-via-then-place-entries+else-entries-place, else-place-entries-via-else-place-entries}

-- the place splits the entries at the word
split : (c : After-partition_point-place) → IsSplit c.args.entries.now c.args.word c.partition_point-place.result
split c =
    IsPartitionPoint-from_clause (λ (e : Entry). ltb e.word c.args.word) c.args.entries.now c.partition_point-place.result c.partition_point-place.ensures.partitioned
    (IsPartitionedBy-ltb (λ (e : Entry). e.word) c.args.entries.now c.args.word (rises-non_decreasing _ _ c.args.entries.now c.requires)) (λ x b f k. search rules)

pub returns-then-entries-place : goal.returns-then-entries-place
returns-then-entries-place c =
    entry-found c.args.entries.now c.args.word c.partition_point-place.result _ (split (goal.at.returns-then-entries-place c).After-partition_point-place) c.if-place-entries.true c.if-entries-place.true

pub returns-else-place-entries : goal.returns-else-place-entries
returns-else-place-entries c =
    let there = split (goal.at.returns-else-place-entries c).After-partition_point-place in
    gap-found _ _ c.args.entries.now c.args.word c.partition_point-place.result (record { word = 0; bits = 0 }) c.requires there c.partition_point-place.ensures.bound
    (elim c.else-place-entries.branch [
      | else-place-entries-via-then-place-entries+else-entries-place w ↦ λ within. w.if-entries-place.false
      | else-place-entries-via-else-place-entries w ↦ λ within. absurd (let past = w.if-place-entries.false in omega arith)
    ])
