use Rattle.std.proofs.Common.{◌≡◌, length, take}
use Rattle.cil_resolve.specs.SetOrder.{names_in}
use Rattle.cil_resolve.proofs.SetOrderLemmas.{HasNamed}
use Rattle.cil_resolve.proofs.set_order.add_set.Given as goal

-- the names gone over have their edges
abbrev pub invariant-loop-element : goal.invariant-loop-element
invariant-loop-element g l = record {
  nodes : length l.graph.items ≡ length l.initial.graph.items;
  edges : HasNamed l.set.attribute (take l.element-index (names_in l.set)) l.initial.graph.items l.graph.items;
}
