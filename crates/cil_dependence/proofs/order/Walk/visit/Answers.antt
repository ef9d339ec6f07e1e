use Rattle.std.proofs.Common.{◌≡◌, ◌<◌, ◌∙◌, get_or, length, arith}
use Rattle.cil_dependence.specs.declared.order.State.TheVariants.{New}
use Rattle.cil_dependence.proofs.StepLemmas.{enter-root, read-is, root-known}
use Rattle.cil_dependence.proofs.order.Walk.visit.Goals as goal

pub loop-node-init : goal.loop-node-init
loop-node-init g c =
    let graph = c.args.graph.now in
    let walk = c.args.self.now in
    let new = c.enter.new.self in
    let root = c.args.root in
    let within = c.requires.root in
    let len = c.requires.walk.len in
    let low : root < length walk.states.items = omega (arith, within, len) in
    let is : get_or walk.states.items root New ≡ New = read-is walk.states.items root c.index.result.now New low c.index.ensures ∙ c.in-New.is in
    let entered = c.in_ok-enter.ensures in
    let first = enter-root graph walk new root c.requires.walk c.requires.path within is entered.states entered.left entered.path entered.order in
    record {
      walk = first.walk;
      rooted = root-known graph walk new root c.requires.walk within entered.states;
      known = first.known;
    }
