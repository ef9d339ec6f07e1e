use Rattle.std.proofs.Common.{◌≡◌, ◌-◌, ℕ}
use Rattle.cil_member_rows.specs.Rows.{count_before, count_now, rows_in}
use Rattle.cil_counters.proofs.more_rows.add_rows.Given as goal

-- no counter changed
abbrev pub invariant-loop-alloc : goal.invariant-loop-alloc
invariant-loop-alloc g l = record {
  now : (a t : ℕ) → count_now l.rows a t ≡ count_now l.fn.rows a t;
  before : (a t : ℕ) → count_before l.rows a t ≡ count_before l.fn.rows a t;
}

abbrev pub decreases-loop-alloc : goal.decreases-loop-alloc
decreases-loop-alloc g l = l.count - rows_in l.rows
