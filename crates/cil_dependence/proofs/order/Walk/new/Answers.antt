use Rattle.cil_dependence.specs.declared.order.Walk.{Walk}
use Rattle.cil_dependence.proofs.StepLemmas.{walk-new}
use Rattle.cil_dependence.proofs.order.Walk.new.Goals as goal

pub returns : goal.returns
returns g c =
    let walk : Walk g.row.A.Denot = record { states = c.in_ok-vec.field-0; left = c.in_ok-lengths.field-0; path = c.new.result; order = c.new-2.result } in
    record {
      walk = walk-new c.args.graph.now walk (c.in_ok-vec.ensures.items_if_clones_equal (λ y e. e)) c.in_ok-lengths.ensures c.new.ensures.items c.new-2.ensures.items;
      path = c.new.ensures.items;
    }
