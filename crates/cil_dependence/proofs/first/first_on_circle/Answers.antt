use Rattle.std.proofs.Common.{sym, ◌∙◌, true≢false, below_more, arith}
use Rattle.cil_dependence.specs.Graph.{Leads}
use Rattle.cil_dependence.proofs.first.first_on_circle.Goals as goal

pub loop-node-preserved : goal.loop-node-preserved
loop-node-preserved g c =
    below_more (λ other. Leads c.args.graph.now other other → ⊥) c.loop-node.node c.loop-node.invariant
    (λ leads. true≢false (sym (c.in_ok-is_on_circle.ensures.1 leads) ∙ c.if-branch.false))

pub returns : goal.returns
returns g c = record {
  is = c.requires.found;
  first = λ other low. c.loop-node.invariant other (let past = c.loop-node-test.false in omega (arith, low, past));
}
