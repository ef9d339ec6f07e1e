use Rattle.std.proofs.lemmas.Result.{on_ok_weaker}
use Rattle.cil_keyed_lines.specs.Keyed.{now_at}
use Rattle.cil_symbol_changes.proofs.PresentLemmas.{known-present, word-no_line, word-nothing, word-place}
use Rattle.cil_symbol_changes.proofs.kept_words.push_place.Goals as goal

pub returns-then-mask-eq0 : goal.returns-then-mask-eq0
returns-then-mask-eq0 g c = word-nothing c.args.numbers.now c.args.lines.now c.args.word c.args.place c.present-mask.result c.args.chunks.now.items c.present-mask.ensures c.if-mask-eq0.true

pub push_mask-requires-clause-known : goal.push_mask-requires-clause-known
push_mask-requires-clause-known g c =
    known-present c.args.numbers.now c.in-Some.key (now_at c.args.lines.now c.args.place) c.args.word c.present-mask.result c.present-mask.ensures
    (c.requires.known c.args.place c.in-Some.key c.in-Some.ensures)

pub returns-in-Some : goal.returns-in-Some
returns-in-Some g c =
    on_ok_weaker c.push_mask.result
    (word-place c.args.numbers.now c.args.lines.now c.args.word c.args.place c.in-Some.key c.present-mask.result c.args.chunks.now.items c.push_mask.new.chunks.items c.in-Some.ensures c.present-mask.ensures)
    c.push_mask.ensures

pub returns-in-None : goal.returns-in-None
returns-in-None g c = word-no_line c.args.numbers.now c.args.lines.now c.args.word c.args.place c.args.chunks.now.items c.in-None.ensures
