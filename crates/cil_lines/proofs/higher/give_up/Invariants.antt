use Rattle.cil_lines.proofs.Common.{◌≡◌, ◌≤◌, ◌≢◌, ℕ, limit, value}
use Rattle.cil_lines.proofs.higher.give_up.Given as goal

abbrev pub invariant-loop-i : goal.invariant-loop-i
invariant-loop-i g l = record {
  now : (w b : ℕ) → value l.digits w b ≡ value l.fn.digits w b;
  limits : (w : ℕ) → w ≢ l.word → limit l.fn.digits w ≤ limit l.digits w;
}
