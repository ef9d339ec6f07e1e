use Rattle.cil_lines.proofs.Common.{◌≡◌, ◌≢◌, ◌≤◌, ◌<◌, ℕ, ◌+◌, ◌*◌, ◌^◌, drop, bit_at, limit, value}
use Rattle.cil_lines.proofs.higher.subtract.Given as goal

-- what is borrowed has the weight of the digit that comes, and is there from it on
abbrev pub invariant-loop-i : goal.invariant-loop-i
invariant-loop-i g l = record {
  above : (b : ℕ) → bit_at l.borrow b ≤ value (drop l.i l.digits) l.word b;
  below : (b : ℕ) → value (drop l.i l.digits) l.word b < limit (drop l.i l.digits) l.word;
  difference : (b : ℕ) → value l.digits l.word b + bit_at l.mask b ≡ value l.fn.digits l.word b + 2 ^ l.i * bit_at l.borrow b;
  others : (w b : ℕ) → w ≢ l.word → value l.digits w b ≡ value l.fn.digits w b;
  limits : (w : ℕ) → limit l.fn.digits w ≤ limit l.digits w;
}
