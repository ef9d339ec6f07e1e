use Rattle.cil_symbol_changes.proofs.Common.{◌-◌, ◌^◌}
use Rattle.cil_symbol_changes.proofs.WordCountLemmas.{AreBefore}
use Rattle.cil_symbol_changes.proofs.counted_changes.place_counts.Given as goal

-- the targets of the words so far are counted
abbrev pub invariant-loop-word : goal.invariant-loop-word
invariant-loop-word g l = AreBefore l.lines l.place l.from l.counts

abbrev pub decreases-loop-word : goal.decreases-loop-word
decreases-loop-word g l = 2 ^ 64 - l.from
