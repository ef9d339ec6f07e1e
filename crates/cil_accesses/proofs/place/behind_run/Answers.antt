use Rattle.cil_accesses.proofs.Common.{◌≡◌, ◌<◌, ◌+◌, MatchOption, sum_by, length, sym, ap, subst, arith, take_all, ones_of, run_accesses}
use Rattle.cil_accesses.proofs.Counts.{length-run_accesses, within-next}
use Rattle.cil_accesses.proofs.place.behind_run.Goals as goal

pub returns-in_err-rest : goal.returns-in_err-rest
returns-in_err-rest c =
    subst (λ o. MatchOption o (c.args.place < length (run_accesses c.args.run.now)) (λ rest. c.args.place ≡ length (run_accesses c.args.run.now) + rest)) (sym c.from_residual.ensures)
    (within-next c.args.run.now c.loop-chunk.chunk-index c.loop-chunk.rest c.len.result c.args.place _ c.loop-chunk-test.true c.len.ensures.count c.loop-chunk.invariant c.in_err-rest.ensures)

pub returns : goal.returns
returns c =
    let all = ap (sum_by ones_of) (take_all c.loop-chunk.chunk-index c.args.run.now c.loop-chunk-test.false) in
    let long = length-run_accesses c.args.run.now in
    let so_far = c.loop-chunk.invariant in
    omega (arith, all, long, so_far)
