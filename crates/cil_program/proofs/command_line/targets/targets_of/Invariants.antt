use Rattle.std.proofs.Common.{take}
use Rattle.std.specs.List.{AllZip}
use Rattle.cil_program.specs.Targets.{IsTarget}
use Rattle.cil_program.proofs.command_line.targets.targets_of.Given as goal

abbrev pub invariant-loop-file : goal.invariant-loop-file
invariant-loop-file l = AllZip (λ file target. IsTarget l.folder file.path.now file.text.items target) (take l.file-index l.files) l.targets.items
