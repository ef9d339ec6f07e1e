use Rattle.cil_accesses.proofs.Common.{get_or, sym, arith, prefix_len_is, nowhere, has_class}
use Rattle.cil_accesses.proofs.RowPlaces.{other-class}
use Rattle.cil_accesses.proofs.rows.class_len.Goals as goal

pub returns-else-chunks-len-clause-all : goal.returns-else-chunks-len-clause-all
returns-else-chunks-len-clause-all c =
    let m = c.loop-len.invariant in
    sym (prefix_len_is (has_class c.args.first.now) c.args.chunks.now c.loop-len.len nowhere m.within (λ k h. m.same k nowhere h) (λ h. other-class c.args.first.now (get_or c.args.chunks.now c.loop-len.len nowhere) c.if-chunks-len.false))

pub returns-after-loop-len-clause-all : goal.returns-after-loop-len-clause-all
returns-after-loop-len-clause-all c =
    let m = c.loop-len.invariant in
    sym (prefix_len_is (has_class c.args.first.now) c.args.chunks.now c.loop-len.len nowhere m.within (λ k h. m.same k nowhere h) (λ h. absurd (omega arith)))
