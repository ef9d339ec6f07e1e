use Rattle.std.proofs.lemmas.List.Filters.{dedup_is}
use Rattle.cil_resolve.proofs.OrderedLemmas.{ordered-list}
use Rattle.cil_resolve.proofs.set_permissions.put_in_order.Goals as goal

pub returns : goal.returns
returns g c = ordered-list _ _ _ c.sort_unstable.ensures.permutation c.sort_unstable.ensures.sorted (dedup_is _ _ _ c.dedup.ensures.filtered)
