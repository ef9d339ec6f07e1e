use Rattle.cil_symbol_changes.proofs.Common.{◌<◌, ◌-◌, below, present_at, RisesBy}
use Rattle.cil_symbol_changes.proofs.counted_accesses.count_places.Given as goal

-- the targets of the places so far are counted, and those of the last of them
abbrev pub invariant-loop-place : goal.invariant-loop-place
invariant-loop-place g l = record {
  all : RisesBy (below (present_at l.lines) l.place) 0 l.count;
  last : 0 < l.place → RisesBy (present_at l.lines (l.place - 1)) 0 l.of_place;
}
