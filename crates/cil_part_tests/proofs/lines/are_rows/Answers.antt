use Rattle.std.proofs.Common.{arith}
use Rattle.cil_lines.proofs.StepLemmas.{hit-none}
use Rattle.cil_part_tests.proofs.lines.are_rows.Goals as goal

pub shift-requires-clause-above : goal.shift-requires-clause-above
shift-requires-clause-above c t = omega (arith, hit-none 4 t)
