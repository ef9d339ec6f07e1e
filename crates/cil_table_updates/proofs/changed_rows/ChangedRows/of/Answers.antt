use Rattle.std.proofs.Common.{◌∙◌, sym, arith}
use Rattle.cil_member_rows.specs.Rows.{count_before, count_now}
use Rattle.cil_table_updates.specs.Changed.{is_marked}
use Rattle.cil_table_updates.proofs.ChangedLemmas.{none-hit, same-present, unmarked}
use Rattle.cil_table_updates.proofs.changed_rows.ChangedRows.of.Goals as goal

pub invariant_of-result : goal.invariant_of-result
invariant_of-result g c a t low none =
    let long = c.loop-change.invariant.long in
    let clear = unmarked c.in_ok-changes.changes.items c.deref-change-items.result.now c.loop-change.change-index a (is_marked c.loop-change.marks.items a) c.deref-change-items.ensures.value c.loop-change-test.false
    (c.loop-change.invariant.marked a (omega (arith, low, long))) none in
    same-present (count_before c.args.rows.now a t) (count_now c.args.rows.now a t)
    (sym (c.in_ok-changes.ensures.appeared a t) ∙ none-hit (λ change. change.appeared) c.in_ok-changes.changes.items a t clear)
    (sym (c.in_ok-changes.ensures.gone a t) ∙ none-hit (λ change. change.gone) c.in_ok-changes.changes.items a t clear)
