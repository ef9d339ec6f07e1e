use Rattle.std.proofs.Common.{arith, sym, true≢false}
use Rattle.cil_expression.proofs.ListedLemmas.{goes-first-node, goes-next-node, goes-nowhere, goes-to-end}
use Rattle.cil_expression.proofs.name_list.are_of_list.Goals as goal

pub loop-init : goal.loop-init
loop-init c = goes-first-node c.args.spelling.now c.args.names

pub loop-preserved : goal.loop-preserved
loop-preserved c =
    goes-next-node c.args.spelling.now c.loop.left.now c.in-Some.behind.now c.args.names c.loop.counter c.loop-test.true c.loop.invariant c.in-Some.ensures

pub returns-in-None : goal.returns-in-None
returns-in-None c = (
  λ never. absurd (true≢false (sym never)),
  λ is. absurd (goes-nowhere c.args.spelling.now c.loop.left.now c.args.names c.loop.counter c.loop-test.true c.loop.invariant c.in-None.ensures is),
)

pub returns : goal.returns
returns c =
    let ends = goes-to-end c.args.spelling.now c.loop.left.now c.args.names c.loop.counter (omega (arith, c.loop-test.false)) c.loop.invariant in
    (λ is. ends.0 (c.is_end.ensures.0 is), λ is. c.is_end.ensures.1 (ends.1 is))
