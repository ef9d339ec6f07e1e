use Rattle.cil_member_updates.proofs.PlainLemmas.{symbol-set}
use Rattle.cil_member_updates.proofs.plain_list.add_symbol.Goals as goal

pub returns-clause-set : goal.returns-clause-set
returns-clause-set c = symbol-set c.args.words.now c.args.symbol c.requires
