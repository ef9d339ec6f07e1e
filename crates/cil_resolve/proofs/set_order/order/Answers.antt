use Rattle.cil_resolve.proofs.Common.{◌∙◌, length, sym, subst, eqb-true, IsSetOrder}
use Rattle.cil_resolve.proofs.SetOrderLemmas.{none-in-order}
use Rattle.cil_resolve.proofs.set_order.order.Goals as goal

pub returns-then-is_empty : goal.returns-then-is_empty
returns-then-is_empty g c =
    subst (IsSetOrder c.args.sets.now) (sym c.new.ensures.items) (none-in-order c.args.sets.now (eqb-true (length c.args.sets.now) 0 (sym c.is_empty.ensures ∙ c.if-is_empty.true)))

pub returns : goal.returns
returns g c = c.order_of_some.ensures
