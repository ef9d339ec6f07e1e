use Rattle.cil_keyed_lines.specs.Keyed.{now_at}
use Rattle.cil_symbol_changes.proofs.PresentLemmas.{known-present, words-all, words-more}
use Rattle.cil_symbol_changes.proofs.present_chunks.push_line.Goals as goal

pub push_targets-requires-clause-known : goal.push_targets-requires-clause-known
push_targets-requires-clause-known g c =
    known-present c.args.numbers.now c.args.key (now_at c.args.lines.now c.args.place) c.in-Some.word c.present-mask.result c.present-mask.ensures
    (c.requires.known c.args.place c.args.key c.requires.line)

pub loop-word-preserved : goal.loop-word-preserved
loop-word-preserved g c =
    words-more c.args.numbers.now c.args.key (now_at c.args.lines.now c.args.place) c.loop-word.from
    c.in-Some.word c.present-mask.result c.args.growing.now.chunks.items
    c.loop-word.growing.chunks.items
    c.push_targets.new.growing.chunks.items c.in-Some.ensures c.present-mask.ensures
    c.loop-word.invariant c.in_ok-push_targets.ensures

pub returns : goal.returns
returns g c =
    words-all c.args.numbers.now c.args.key (now_at c.args.lines.now c.args.place) c.loop-word.from
    c.args.growing.now.chunks.items c.loop-word.growing.chunks.items c.in_default.ensures
    c.loop-word.invariant
