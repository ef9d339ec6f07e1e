use Rattle.std.proofs.Common.{◌<◌, ◌≢◌, length, arith, get_or-set_other, get_or-set_same, below_more}
use Rattle.cil_member_rows.proofs.marks.clear.Goals as goal

pub loop-mark-preserved : goal.loop-mark-preserved
loop-mark-preserved c =
    below_more _ _
    (λ k h. let ne : k ≢ c.loop-mark.mark-index = omega arith in rw get_or-set_other (c.loop-mark.invariant k h))
    (let lt : c.loop-mark.mark-index < length c.loop-mark.marks = omega arith in rw get_or-set_same c.none.ensures.is)
