use Rattle.cil_symbol_changes.specs.SourceOrder.{IsAtWord}
use Rattle.cil_symbol_changes.proofs.OrderLemmas.{among-all, among-more, among-none}
use Rattle.cil_symbol_changes.proofs.kept_words.push_word.Goals as goal

pub loop-at-init : goal.loop-at-init
loop-at-init g c = among-none (IsAtWord c.args.numbers.now c.args.lines.now c.args.word) c.args.chunks.now.items

pub loop-at-preserved : goal.loop-at-preserved
loop-at-preserved g c =
    among-more (IsAtWord c.args.numbers.now c.args.lines.now c.args.word) c.args.source.now
    c.loop-at.at-index c.args.chunks.now.items c.loop-at.chunks.items c.push_place.new.chunks.items
    c.loop-at-test.true
    c.loop-at.invariant c.in_ok-push_place.ensures

pub returns : goal.returns
returns g c =
    among-all (IsAtWord c.args.numbers.now c.args.lines.now c.args.word) c.args.source.now
    c.loop-at.at-index c.args.chunks.now.items c.loop-at.chunks.items c.loop-at-test.false
    c.loop-at.invariant
