use Rattle.cil_lines.proofs.Common.{drop, arith, bits_of, total}
use Rattle.cil_lines.proofs.LineLemmas.{next_step}
use Rattle.cil_lines.proofs.higher.next_place.Goals as goal

pub loop-i-preserved : goal.loop-i-preserved
loop-i-preserved g c =
    let upto = c.loop-i.invariant.0 in (
      omega (arith, upto),
      next_step c.args.digits.now c.loop-i.i c.args.from c.index-digits-i.result c.earlier-next.result c.loop-i-test.true upto c.index-digits-i.is
          (c.earlier-next.ensures (bits_of c.index-digits-i.result) (total (drop c.loop-i.i c.args.digits.now)) c.args.from c.next_place.ensures c.loop-i.invariant.1),
    )
