use Rattle.std.proofs.Common.{map, take}
use Rattle.cil_program.specs.ByNames.{InTurn, IsGiven}
use Rattle.cil_program.specs.Conditionals.{setting_in}
use Rattle.cil_program.proofs.command_line.foreign.set_all.Given as goal

abbrev pub invariant-loop-setting : goal.invariant-loop-setting
invariant-loop-setting l = InTurn IsGiven (map setting_in (take l.setting-index l.settings)) l.fn.booleans l.booleans
