use Rattle.std.proofs.Common.{arith}
use Rattle.cil_symbol_changes.proofs.PresentLemmas.{among-no_words, among-word, among-words}
use Rattle.cil_symbol_changes.proofs.kept_words.push_words.Goals as goal

pub loop-word-init : goal.loop-word-init
loop-word-init g c =
    among-no_words c.args.numbers.now c.args.lines.now c.args.source.now c.args.chunks.now.items

pub loop-word-preserved : goal.loop-word-preserved
loop-word-preserved g c =
    among-word c.args.numbers.now c.args.lines.now c.args.source.now c.loop-word.word
    c.args.chunks.now.items c.loop-word.chunks.items c.push_word.new.chunks.items
    c.loop-word.invariant c.in_ok-push_word.ensures

pub returns : goal.returns
returns g c =
    let enough = c.words_len-word-end.ensures in
    let past = c.loop-word-test.false in
    among-words c.args.numbers.now c.args.lines.now c.args.source.now c.loop-word.word
    c.args.chunks.now.items c.loop-word.chunks.items (omega (arith, enough, past)) c.requires.known
    c.loop-word.invariant
