use Rattle.std.proofs.lemmas.List.Filters.{dedup_is}
use Rattle.cil_violations.proofs.PermissionLemmas.{ordered-permissions}
use Rattle.cil_violations.proofs.permissions.order.Goals as goal

pub returns : goal.returns
returns g c = ordered-permissions _ _ _ c.sort_unstable.ensures.permutation c.sort_unstable.ensures.sorted
    (dedup_is _ _ _ c.dedup.ensures.filtered)
