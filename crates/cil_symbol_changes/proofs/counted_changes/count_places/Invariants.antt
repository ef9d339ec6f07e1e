use Rattle.cil_symbol_changes.proofs.Common.{◌-◌, ◌≤◌, below, came_at, length, went_at, AreCounted}
use Rattle.cil_symbol_changes.proofs.counted_changes.count_places.Given as goal

-- the targets of the places so far are counted
abbrev pub invariant-loop-place : goal.invariant-loop-place
invariant-loop-place g l = record {
  within : l.place ≤ length l.lines.keys;
  all : AreCounted (below (came_at l.lines) l.place) (below (went_at l.lines) l.place) l.counts;
}

abbrev pub decreases-loop-place : goal.decreases-loop-place
decreases-loop-place g l = length l.lines.keys - l.place
