use Rattle.std.proofs.lemmas.List.Filters.{dedup_is}
use Rattle.cil_resolve.proofs.GatheredLemmas.{set-numbers}
use Rattle.cil_resolve.proofs.gathering.set_numbers.Goals as goal

pub returns : goal.returns
returns g c = set-numbers c.args.statements.now _ _ _ c.in_ok-numbers.ensures c.sort_unstable.ensures.permutation c.sort_unstable.ensures.sorted (dedup_is _ _ _ c.dedup.ensures.filtered)
