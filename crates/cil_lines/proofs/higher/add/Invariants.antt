use Rattle.cil_lines.proofs.Common.{◌≡◌, ◌≤◌, ◌≢◌, ℕ, ◌+◌, ◌*◌, ◌^◌, drop, bit_at, limit, value, HasRoom}
use Rattle.cil_lines.proofs.higher.add.Given as goal

-- the carry has the weight of the digit that comes, and has room from there on
abbrev pub invariant-loop-i : goal.invariant-loop-i
invariant-loop-i g l = record {
  room : HasRoom (drop l.i l.digits) l.word l.carry;
  sum : (b : ℕ) → value l.digits l.word b + 2 ^ l.i * bit_at l.carry b ≡ value l.fn.digits l.word b + bit_at l.mask b;
  others : (w b : ℕ) → w ≢ l.word → value l.digits w b ≡ value l.fn.digits w b;
  limits : (w : ℕ) → limit l.fn.digits w ≤ limit l.digits w;
}
