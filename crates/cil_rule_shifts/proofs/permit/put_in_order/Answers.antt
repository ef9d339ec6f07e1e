use Rattle.std.proofs.Common.{◌∙◌, ap, subst, sym}
use Rattle.std.proofs.lemmas.List.Filters.{dedup_is}
use Rattle.std.proofs.lemmas.List.Kept.{IsStrictlySortedBy-dedup}
use Rattle.cil_rule_shifts.specs.Permits.{has_permit, AreInOrder}
use Rattle.cil_rule_shifts.proofs.OrderedLemmas.{deduped, ties}
use Rattle.cil_rule_shifts.proofs.PermitLemmas.{permit-total}
use Rattle.cil_rule_shifts.proofs.permit.put_in_order.Goals as goal

pub returns-clause-order : goal.returns-clause-order
returns-clause-order g c = subst AreInOrder (sym (dedup_is _ _ _ c.dedup.ensures.filtered)) (IsStrictlySortedBy-dedup permit-total ties _ c.sort_unstable.ensures.sorted)

pub returns-clause-same : goal.returns-clause-same
returns-clause-same g c d p = ap (λ xs. has_permit xs d p) (dedup_is _ _ _ c.dedup.ensures.filtered) ∙ deduped d p _ _ c.sort_unstable.ensures.permutation
