use Rattle.cil_symbol_changes.proofs.Common.{◌-◌, ◌^◌, present_at, RisesBy}
use Rattle.cil_symbol_changes.proofs.WordCountLemmas.{is_before}
use Rattle.cil_symbol_changes.proofs.counted_accesses.place_count.Given as goal

-- the targets of the words so far are counted
abbrev pub invariant-loop-word : goal.invariant-loop-word
invariant-loop-word g l = RisesBy (is_before (present_at l.lines l.place) l.from) 0 l.count

abbrev pub decreases-loop-word : goal.decreases-loop-word
decreases-loop-word g l = 2 ^ 64 - l.from
