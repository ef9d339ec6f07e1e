use Rattle.cil_dependence.proofs.Common.{subst, MatchOption, below_more, arith, IsCircular, HasKnown, IsVisited, IsWalk}
use Rattle.cil_dependence.proofs.WalkLemmas.{walk-end}
use Rattle.cil_dependence.proofs.order.order.Goals as goal

pub loop-root-preserved : goal.loop-root-preserved
loop-root-preserved g c =
    let graph = c.args.graph.now in
    let root = c.loop-root.root in
    let new = c.visit.new.self in
    let seen : IsVisited graph root c.loop-root.walk new =
    subst (λ found. MatchOption found (IsVisited graph root c.loop-root.walk new) (IsCircular graph)) c.in_default.is c.in_ok-circle.ensures in
    record {
      walk = seen.walk;
      path = seen.path;
      known = below_more (HasKnown new.states.items) root (λ u low. seen.known u (c.loop-root.invariant.known u low)) seen.rooted;
    }

pub returns : goal.returns
returns g c =
    let graph = c.args.graph.now in
    let walk = c.loop-root.walk in
    walk-end graph walk.states.items walk.left.items walk.order.items
    (subst (λ path. IsWalk graph walk.states.items walk.left.items path walk.order.items) c.loop-root.invariant.path c.loop-root.invariant.walk)
    (λ u low. c.loop-root.invariant.known u (let past = c.loop-root-test.false in omega (arith, low, past)))
