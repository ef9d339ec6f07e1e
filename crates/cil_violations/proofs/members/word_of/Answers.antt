use Rattle.cil_violations.proofs.WordLemmas.{word-of-one}
use Rattle.cil_violations.proofs.members.word_of.Goals as goal

pub returns-then-symbol-index : goal.returns-then-symbol-index
returns-then-symbol-index c = word-of-one c.args.symbol c.args.index c.if-symbol-index.true
