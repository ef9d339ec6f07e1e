use Rattle.std.proofs.Common.{◌≡◌, ◌≤◌, ◌-◌, take, length}
use Rattle.cil_resolve.specs.Resolved.{meaning_in}
use Rattle.cil_store.proofs.dropped.Dropped.of.Given as goal

abbrev pub invariant-loop-name : goal.invariant-loop-name
invariant-loop-name g l = record {
  so_far : l.names.items ≡ take l.i (meaning_in l.resolved).dropped;
  within : l.i ≤ length (meaning_in l.resolved).dropped;
}

abbrev pub decreases-loop-name : goal.decreases-loop-name
decreases-loop-name g l = length (meaning_in l.resolved).dropped - l.i
