use Rattle.cil_accesses.proofs.Common.{◌∙◌, not, sym, ap, arith, prefix_len_is, nowhere, has_bit}
use Rattle.cil_accesses.proofs.rows.skipped.Goals as goal

pub returns-else-not-has_bit-clause-all : goal.returns-else-not-has_bit-clause-all
returns-else-not-has_bit-clause-all c =
    let m = c.loop-count.invariant in
    sym (prefix_len_is (λ d. not (has_bit c.args.bit d)) c.args.chunks.now c.loop-count.count nowhere m.within (λ k h. m.same k nowhere h) (λ h. ap not (sym c.has_bit.ensures ∙ c.if-not-has_bit.false)))

pub returns-after-loop-count-clause-all : goal.returns-after-loop-count-clause-all
returns-after-loop-count-clause-all c =
    let m = c.loop-count.invariant in
    sym (prefix_len_is (λ d. not (has_bit c.args.bit d)) c.args.chunks.now c.loop-count.count nowhere m.within (λ k h. m.same k nowhere h) (λ h. absurd (omega arith)))
