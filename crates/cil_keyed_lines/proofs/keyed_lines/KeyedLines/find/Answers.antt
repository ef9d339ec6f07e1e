use Rattle.cil_keyed_lines.proofs.SharedLemmas.{line_of_key}
use Rattle.cil_keyed_lines.proofs.keyed_lines.KeyedLines.find.Goals as goal

pub returns-clause-line : goal.returns-clause-line
returns-clause-line g c = line_of_key c.args.self.now c.args.key c.place_of.result c.place_of.ensures.place
