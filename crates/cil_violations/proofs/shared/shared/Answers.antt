use Rattle.cil_violations.specs.Held.{both_hold, symbols_in}
use Rattle.cil_violations.proofs.ListedLemmas.{found-all, found-more}
use Rattle.cil_violations.proofs.shared.shared.Goals as goal

pub loop-index-preserved : goal.loop-index-preserved
loop-index-preserved g c =
    found-more (symbols_in c.args.members.now) (both_hold c.args.members.now c.args.first c.args.second)
    c.loop-index.from c.in-Some.index c.shared_word-word.result c.in-Some.ensures c.shared_word-word.ensures
    c.loop-index.list.items c.push_names.new.list.items c.loop-index.invariant c.in_ok-push_names.ensures

pub returns : goal.returns
returns g c =
    found-all (symbols_in c.args.members.now) (both_hold c.args.members.now c.args.first c.args.second)
    c.loop-index.from c.loop-index.list.items c.put_in_order.new.numbers.items c.in_default.ensures
    c.loop-index.invariant
    c.put_in_order.ensures
