use Rattle.cil_symbol_changes.specs.SourceOrder.{HasAppeared, IsAmong}
use Rattle.cil_symbol_changes.proofs.OrderLemmas.{among-all, among-more, among-none, gained-moved}
use Rattle.cil_symbol_changes.proofs.appeared.push_source.Goals as goal

pub loop-at-init : goal.loop-at-init
loop-at-init g c =
    among-none (HasAppeared c.args.numbers.now c.args.lines.now c.args.changes.now)
    c.args.growing.now.chunks.items

pub loop-at-preserved : goal.loop-at-preserved
loop-at-preserved g c =
    among-more (HasAppeared c.args.numbers.now c.args.lines.now c.args.changes.now) c.args.source.now
    c.loop-at.at-index c.args.growing.now.chunks.items c.loop-at.growing.chunks.items
    c.push_place.new.growing.chunks.items c.loop-at-test.true c.loop-at.invariant
    c.in_ok-push_place.ensures

pub returns : goal.returns
returns g c =
    let at = HasAppeared c.args.numbers.now c.args.lines.now c.args.changes.now in
    gained-moved (IsAmong at c.args.source.now) c.args.growing.now.chunks.items
    c.loop-at.growing.chunks.items c.sort_from.new.chunks.items
    (among-all at c.args.source.now c.loop-at.at-index c.args.growing.now.chunks.items
    c.loop-at.growing.chunks.items c.loop-at-test.false c.loop-at.invariant)
    c.sort_from.ensures
