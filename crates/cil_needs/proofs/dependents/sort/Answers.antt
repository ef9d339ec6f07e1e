use Rattle.cil_needs.proofs.Common.{rules, IsNonDecreasingBy-from_sort_by_key, on_ok_weaker, node_of}
use Rattle.cil_needs.proofs.dependents.sort.Goals as goal

pub returns-clause-sorted : goal.returns-clause-sorted
returns-clause-sorted g c =
    on_ok_weaker c.sort_by_key.result
    (λ sorted. IsNonDecreasingBy-from_sort_by_key node_of c.sort_by_key.new.self.items sorted (λ a r q k. search rules))
    c.sort_by_key.ensures.sorted
