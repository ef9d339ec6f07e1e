use Rattle.cil_program.specs.Kinds.{kinds}
use Rattle.cil_program.proofs.command_line.kinds.write_kinds.Goals as goal

pub returns : goal.returns
unfolding kinds
returns g c = c.write_lines.ensures
