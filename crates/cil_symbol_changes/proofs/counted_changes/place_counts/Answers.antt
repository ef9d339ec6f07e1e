use Rattle.cil_keyed_lines.proofs.ChangeLemmas.{word-behind}
use Rattle.cil_symbol_changes.proofs.WordCountLemmas.{turned-all, turned-more, turned-none}
use Rattle.cil_symbol_changes.proofs.counted_changes.place_counts.Goals as goal

pub loop-word-init : goal.loop-word-init
loop-word-init g c = turned-none c.args.lines.now c.args.place c.none-counts.result c.none-counts.ensures.added c.none-counts.ensures.removed

pub loop-word-preserved : goal.loop-word-preserved
loop-word-preserved g c =
    let word = c.in-Some-next_turned_word.word in
    let behind = c.in_ok-from.from in
    turned-more c.args.lines.now c.args.place word c.present_before-was.result c.present-is.result c.loop-word.from behind c.present_before-was.type_inv c.present-is.type_inv c.present_before-was.ensures c.present-is.ensures c.in-Some-next_turned_word.ensures
    (word-behind c.checked_add.result word behind c.in_ok-from.ensures.ok_part c.checked_add.ensures).0 c.loop-word.counts c.of_word.result c.plus-counts.result c.plus-counts.ensures.added c.plus-counts.ensures.removed
    c.of_word.ensures c.loop-word.invariant

pub returns : goal.returns
returns g c = turned-all c.args.lines.now c.args.place c.loop-word.from c.loop-word.counts c.in_default-next_turned_word.ensures c.loop-word.invariant
