use Rattle.cil_keyed_lines.proofs.Common.{◌≡◌, ◌≢◌, ◌-◌, ◌<◌, ◌≤◌, ℕ, count_now, length, lines_in, slice_index, steps_in}
use Rattle.cil_keyed_lines.specs.Packed.{IsNow}
use Rattle.cil_keyed_lines.proofs.names.packed.fill_gaps.Given as goal

-- Gaps below a line are filled, and the lines from the end on have gone there, or no place names them.
abbrev pub invariant-loop-low : goal.invariant-loop-low
invariant-loop-low g l = record {
  from : 1 ≤ l.low;
  some : 0 < l.end;
  most : l.end ≤ length l.users.items;
  len : length l.users.items ≡ length l.fn.users.items;
  fits : lines_in l.lines ≤ l.end;
  steps : steps_in l.lines ≡ 0;
  first : (t : ℕ) → count_now l.lines 0 t ≡ count_now l.fn.lines 0 t;
  same : (m : ℕ) → m < l.end → slice_index l.users.items m ≡ slice_index l.fn.users.items m;
  left : (m : ℕ) → m ≢ 0 → 0 < slice_index l.fn.users.items m → m < l.end → IsNow l.fn.lines l.lines m m;
  gone : (m : ℕ) → m ≢ 0 → 0 < slice_index l.fn.users.items m → l.end ≤ m
      → (slice_index l.users.items m ≢ 0) × (slice_index l.users.items m < l.low) × IsNow l.fn.lines l.lines m (slice_index l.users.items m);
}

abbrev pub decreases-loop-low : goal.decreases-loop-low
decreases-loop-low g l = l.end - l.low
