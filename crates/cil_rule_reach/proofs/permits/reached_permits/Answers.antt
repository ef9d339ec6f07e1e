use Rattle.std.proofs.Common.{subst, sym}
unfoldable use Rattle.std.specs.List.Sorted.{IsStrictlySortedBy}
use Rattle.cil_rule_shifts.specs.Permits.{AreInOrder}
use Rattle.cil_rule_reach.proofs.permits.reached_permits.Goals as goal

pub returns-then-is_idle-clause-order : goal.returns-then-is_idle-clause-order
unfolding IsStrictlySortedBy
returns-then-is_idle-clause-order g c = subst AreInOrder (sym c.new.ensures.items) tt
