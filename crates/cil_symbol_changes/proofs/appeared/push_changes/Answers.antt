use Rattle.cil_symbol_changes.specs.SourceOrder.{HasAppeared}
use Rattle.cil_symbol_changes.proofs.ChangeLemmas.{in-all}
use Rattle.cil_symbol_changes.proofs.OrderLemmas.{missing-all, missing-less, missing-none}
use Rattle.cil_symbol_changes.proofs.appeared.push_changes.Goals as goal

pub loop-source-init : goal.loop-source-init
loop-source-init g c =
    missing-all (HasAppeared c.args.numbers.now c.args.lines.now c.args.changes.now)
    c.args.order.now c.args.growing.now.chunks.items

pub push_source-requires-clause-short : goal.push_source-requires-clause-short
push_source-requires-clause-short g c = c.loop-source.invariant.short c.requires.short

pub loop-source-preserved : goal.loop-source-preserved
loop-source-preserved g c =
    missing-less (HasAppeared c.args.numbers.now c.args.lines.now c.args.changes.now)
    c.args.order.now c.loop-source.left.now c.in-Some.source.now c.in-Some.behind.now
    c.args.growing.now.chunks.items c.loop-source.growing.chunks.items
    c.push_source.new.growing.chunks.items
    c.loop-source.invariant c.in-Some.ensures c.in_ok-push_source.ensures

pub returns : goal.returns
returns g c =
    in-all c.args.numbers.now c.args.lines.now c.args.changes.now c.args.order.now
    c.args.growing.now.chunks.items c.loop-source.growing.chunks.items c.requires.all
    (missing-none (HasAppeared c.args.numbers.now c.args.lines.now c.args.changes.now)
    c.args.order.now c.loop-source.left.now c.args.growing.now.chunks.items
    c.loop-source.growing.chunks.items c.loop-source.invariant c.in_default.ensures)
