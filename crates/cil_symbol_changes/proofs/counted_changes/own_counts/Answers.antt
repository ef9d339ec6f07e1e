use Rattle.cil_symbol_changes.proofs.Common.{◌+◌, arith, subst, sym}
use Rattle.cil_keyed_lines.specs.Past.{AreOwnFrom}
use Rattle.cil_symbol_changes.proofs.WordCountLemmas.{own-more, turned-all, turned-none, word-fits}
use Rattle.cil_symbol_changes.proofs.counted_changes.own_counts.Goals as goal

pub overflow_add-at : goal.overflow_add-at
overflow_add-at g c =
    let so_far = c.loop-change.invariant in
    let turn = c.in-Some.ensures c.loop-change.from so_far.fits so_far.own in
    let room = turn.room in
    omega (arith, room)

pub loop-change-init : goal.loop-change-init
loop-change-init g c = record {
  fits = omega arith;
  own = c.requires.first;
  counted = turned-none c.args.lines.now c.args.place c.none-counts.result c.none-counts.ensures.added c.none-counts.ensures.removed;
}

pub loop-change-smaller : goal.loop-change-smaller
loop-change-smaller g c =
    let so_far = c.loop-change.invariant in
    let turn = c.in-Some.ensures c.loop-change.from so_far.fits so_far.own in
    let within = turn.within in
    omega (arith, within)

pub loop-change-preserved : goal.loop-change-preserved
loop-change-preserved g c =
    let so_far = c.loop-change.invariant in
    let change = c.in-Some.change in
    let turn = c.in-Some.ensures c.loop-change.from so_far.fits so_far.own in
    let (same, fits) = word-fits c.checked_add.result change.word c.in_ok-from.from c.in_ok-from.ensures.ok_part c.checked_add.ensures in
    record {
      fits = omega (arith, same, fits);
      own = subst (λ n. AreOwnFrom c.args.lines.now c.args.past.now c.args.place n (c.loop-change.at + 1)) (sym same) (turn.behind fits);
      counted = own-more c.args.lines.now c.args.place c.args.past.now c.loop-change.from c.loop-change.at c.in_ok-from.from change c.of_change.ensures.appeared c.of_change.ensures.gone turn same c.loop-change.counts c.of_change.result
          c.plus-counts.result c.plus-counts.ensures.added c.plus-counts.ensures.removed c.of_change.ensures.counted so_far.counted;
    }

pub returns : goal.returns
returns g c =
    let so_far = c.loop-change.invariant in
    turned-all c.args.lines.now c.args.place c.loop-change.from c.loop-change.counts (c.in_default.ensures c.loop-change.from so_far.fits so_far.own) so_far.counted
