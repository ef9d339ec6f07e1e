use Rattle.std.proofs.Common.{map, take}
use Rattle.cil_projection.specs.Conditions.{Collects}
use Rattle.cil_program.specs.ByNames.{InTurn}
use Rattle.cil_program.proofs.command_line.foreign.collect_all.Given as goal

abbrev pub invariant-loop-file : goal.invariant-loop-file
invariant-loop-file l = InTurn Collects (map (λ f. f.text.items) (take l.file-index l.files)) l.fn.booleans l.booleans
