use Rattle.std.proofs.Common.{◌<◌, ℕ, length, take}
use Rattle.cil_needs.specs.Dependents.{IsDependent, AreDependents}
use Rattle.cil_needs.proofs.dependents.by_need.Given as goal

abbrev pub invariant-loop-i : goal.invariant-loop-i
invariant-loop-i g l = record {
  within : (o j : ℕ) → IsDependent l.dependents.items o j → j < length l.needs;
  each : AreDependents l.dependents.items (take l.i l.needs);
}
