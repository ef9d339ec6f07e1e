use Rattle.cil_symbol_changes.proofs.Common.{arith, count_before, count_now, has_come}
use Rattle.cil_symbol_changes.proofs.CountLemmas.{so-many}
use Rattle.cil_symbol_changes.proofs.counted_changes.count_changes.Goals as goal

pub returns : goal.returns
returns g c =
    let before = count_before c.args.lines.now in
    let now = count_now c.args.lines.now in
    let counts = c.in_ok-counts.counts in
    let few_added = c.if-counts.false in
    let few_removed = c.if-counts-2.false in
    record {
      added = so-many (has_come before now) counts.added (omega (arith, few_added)) c.in_ok-counts.ensures.added;
      removed = so-many (has_come now before) counts.removed (omega (arith, few_removed)) c.in_ok-counts.ensures.removed;
    }
