use Rattle.cil_rule_shifts.specs.Reach.{takes}
use Rattle.cil_rule_shifts.proofs.words.next_word.Goals as goal

pub returns : goal.returns
returns g c = c.earlier.ensures (takes c.args.was.now c.args.source) (takes c.args.is.now c.args.source) c.args.from c.next_word.ensures c.next_word-2.ensures
