use Rattle.cil_needs.proofs.Common.{◌≡◌, ◌+◌, ◌++◌, [], ◌∷◌, length, sym, subst, arith, take, get_or, None, take_more, take_all, length-take, AreDependents, Need}
use Rattle.cil_needs.proofs.DependentLemmas.{dependents-push, dependents-within}
use Rattle.cil_needs.proofs.dependents.by_need.Goals as goal

pub loop-i-preserved : goal.loop-i-preserved
loop-i-preserved g c =
    let needs = c.args.needs.now in
    let i = c.loop-i.i in
    let need : Need = get_or needs i (record { optional = 0; first = None; second = None }) in
    let old = c.loop-i.dependents.items in
    let mid = c.push.new.dependents.items in
    let new = c.push-in-loop-i.new.dependents.items in
    let len : i ≡ length (take i needs) = (let size = length-take i needs in let low = c.loop-i-test.true in omega (arith, size, low)) in
    let more : take i needs ++ need ∷ [] ≡ take (i + 1) needs = sym (take_more needs i (record { optional = 0; first = None; second = None }) c.loop-i-test.true) in
    record {
      within = dependents-within old mid new need i (length needs) c.loop-i-test.true c.in_ok-push.ensures c.in_ok-push-2.ensures c.loop-i.invariant.within;
      each = subst (AreDependents new) more (dependents-push old mid new (take i needs) need i len c.in_ok-push.ensures c.in_ok-push-2.ensures c.loop-i.invariant.each);
    }

pub returns-clause-each : goal.returns-clause-each
returns-clause-each g c = subst (AreDependents c.loop-i.dependents.items) (take_all c.loop-i.i c.args.needs.now (omega arith)) c.loop-i.invariant.each
