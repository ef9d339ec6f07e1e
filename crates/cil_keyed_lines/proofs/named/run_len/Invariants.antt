use Rattle.cil_keyed_lines.proofs.Common.{◌-◌, ◌<◌, ◌≤◌, length, named_at, take, AreOf}
use Rattle.cil_keyed_lines.proofs.named.run_len.Given as goal

abbrev pub invariant-loop-len : goal.invariant-loop-len
invariant-loop-len l = record {
  some : 0 < l.len;
  within : l.len ≤ length l.places;
  same : AreOf (named_at l.places 0).line (take l.len l.places);
}

abbrev pub decreases-loop-len : goal.decreases-loop-len
decreases-loop-len l = length l.places - l.len
