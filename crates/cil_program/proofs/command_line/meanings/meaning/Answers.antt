use Rattle.cil_program.specs.Meanings.{meanings}
use Rattle.cil_program.proofs.command_line.meanings.meaning.Goals as goal

pub returns : goal.returns
unfolding meanings
returns c = c.first_meaning.ensures
