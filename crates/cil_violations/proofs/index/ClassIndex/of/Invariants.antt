use Rattle.std.proofs.Common.{◌≡◌, length}
use Rattle.cil_violations.specs.Index.{IsIndexFrom}
use Rattle.cil_violations.proofs.index.ClassIndex.of.Given as goal

abbrev pub invariant-loop-place : goal.invariant-loop-place
invariant-loop-place g l = record {
  classes : length l.index.first.items ≡ length l.resolved.names.items;
  sets : length l.index.of_set.items ≡ length l.resolved.names.items;
  holds : IsIndexFrom l.resolved.rules.items l.permissions.0 l.place l.index;
}
