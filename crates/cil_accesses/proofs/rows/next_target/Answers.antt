use Rattle.std.proofs.Common.{◌≡◌, ◌<◌, [], MatchOption, sym, subst, arith}
use Rattle.cil_accesses.specs.Rows.{at_place, size_of, IsPlace}
use Rattle.cil_accesses.proofs.Moves.{next-place, next-same, no-run, run-place, run-same, run-smaller}
use Rattle.cil_accesses.proofs.rows.next_target.Goals as goal

pub returns-then-place-lt63 : goal.returns-then-place-lt63
returns-then-place-lt63 c =
    let p = c.args.place in
    let left = c.chunks_for-left.result in
    let more = c.if-place-lt63.true in (
      next-place p c.requires.place c.requires.none left c.chunks_for-left.ensures.part more,
      next-same p c.requires.place c.requires.none left c.chunks_for-left.ensures.same more,
      omega (arith, more),
    )

pub returns-in_err-run : goal.returns-in_err-run
returns-in_err-run c =
    subst (λ o. MatchOption o (at_place c.args.place ≡ []) (λ next. IsPlace next × (at_place next ≡ at_place c.args.place) × (size_of next < size_of c.args.place))) (sym c.from_residual.ensures)
    (no-run c.args.place c.requires.place c.requires.none c.if-place-lt63.false c.in_err-run.ensures)

pub returns : goal.returns
returns c =
    let p = c.args.place in
    let run = c.in_ok-run.run' in
    let later = c.in_ok-run.later in
    let first = c.in_ok-run.field-0-0.now in
    let left = c.chunks_for-left-2.result in
    let bits = c.bits_of-bits.result in
    let past = c.if-place-lt63.false in
    let parts = c.in_ok-run.ensures in (
      run-place p c.requires.place c.requires.none past run later left bits first parts c.bits_of-bits.ensures c.chunks_for-left-2.ensures.part,
      run-same p c.requires.place c.requires.none past run later left bits first parts c.chunks_for-left-2.ensures.same,
      run-smaller p c.requires.place c.requires.none past run later left bits first parts,
    )
