use Rattle.std.proofs.Common.{◌≡◌, ◌-◌, ◌^◌, take}
use Rattle.std.specs.Prelude.{min}
use Rattle.cil_keyed_lines.specs.Moves.{ones_of}
use Rattle.cil_keyed_lines.proofs.keyed_lines.moved_counters.Given as goal

abbrev pub invariant-loop-step : goal.invariant-loop-step
invariant-loop-step l = l.ones ≡ min (ones_of (take l.step-index l.moved)) (2 ^ 128 - 1)
