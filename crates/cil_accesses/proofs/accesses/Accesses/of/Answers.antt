use Rattle.cil_accesses.proofs.Made.{sorted-are, same-accesses}
use Rattle.cil_accesses.proofs.Ascending.{accesses-ascend}
use Rattle.cil_accesses.proofs.accesses.Accesses.of.Goals as goal

pub invariant_of-result : goal.invariant_of-result
invariant_of-result g c = sorted-are _ _ _ c.sort_unstable.ensures.permutation c.sort_unstable.ensures.sorted c.merge.ensures c.requires.words

pub returns-clause-ordered : goal.returns-clause-ordered
returns-clause-ordered g c = accesses-ascend _ (sorted-are _ _ _ c.sort_unstable.ensures.permutation c.sort_unstable.ensures.sorted c.merge.ensures c.requires.words).ordered

pub returns-clause-same : goal.returns-clause-same
returns-clause-same g c = same-accesses _ _ _ c.sort_unstable.ensures.permutation c.merge.ensures
