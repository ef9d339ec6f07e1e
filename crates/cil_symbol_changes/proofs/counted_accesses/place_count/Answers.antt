use Rattle.cil_symbol_changes.proofs.Common.{arith, present_at}
use Rattle.cil_keyed_lines.proofs.ChangeLemmas.{word-behind}
use Rattle.cil_symbol_changes.proofs.WordCountLemmas.{before-none, present-all, present-more}
use Rattle.cil_symbol_changes.proofs.counted_accesses.place_count.Goals as goal

pub loop-word-init : goal.loop-word-init
loop-word-init g c = before-none (present_at c.args.lines.now c.args.place)

pub loop-word-preserved : goal.loop-word-preserved
loop-word-preserved g c =
    let word = c.in-Some.word in
    let behind = c.in_ok-from.from in
    let sum = c.saturating_add-count.ensures in
    let ones = c.from.ensures in
    present-more c.args.lines.now c.args.place word c.present.result c.loop-word.from behind c.present.type_inv c.present.ensures c.in-Some.ensures
    (word-behind c.checked_add.result word behind c.in_ok-from.ensures.ok_part c.checked_add.ensures).0 0 c.loop-word.count c.saturating_add-count.result (omega (arith, sum, ones)) c.loop-word.invariant

pub returns : goal.returns
returns g c = present-all c.args.lines.now c.args.place c.loop-word.from 0 c.loop-word.count c.in_default.ensures c.loop-word.invariant
