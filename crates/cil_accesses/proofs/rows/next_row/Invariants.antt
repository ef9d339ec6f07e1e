use Rattle.std.proofs.Common.{◌≡◌}
use Rattle.cil_accesses.specs.Rows.{at_place, size_of, IsPlace}
use Rattle.cil_accesses.proofs.rows.next_row.Given as goal

abbrev pub invariant-loop-first : goal.invariant-loop-first
invariant-loop-first l = record { place : IsPlace l.place; same : at_place l.place ≡ at_place l.fn.place }

abbrev pub decreases-loop-first : goal.decreases-loop-first
decreases-loop-first l = size_of l.place
