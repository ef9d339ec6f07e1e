use Rattle.cil_keyed_lines.proofs.Common.{◌≢◌, ◌<◌, ◌≤◌, ℕ, length, name_now}
use Rattle.cil_keyed_lines.proofs.names.Names.end.Given as goal

abbrev pub invariant-loop-end : goal.invariant-loop-end
invariant-loop-end g l = record {
  within : l.end ≤ length l.self-inside.users.items;
  named : (p : ℕ) → name_now l.fn.self p ≢ 0 → name_now l.fn.self p < l.end;
}

abbrev pub decreases-loop-end : goal.decreases-loop-end
decreases-loop-end g l = l.end
