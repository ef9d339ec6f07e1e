use Rattle.cil_rules.proofs.AtomLemmas.{none-numbered}
use Rattle.cil_rules.proofs.table.Table.empty.Goals as goal

pub invariant_of-result : goal.invariant_of-result
invariant_of-result g c = rw (c.empty.ensures, c.empty-2.ensures) none-numbered
