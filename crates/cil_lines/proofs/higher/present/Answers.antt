use Rattle.std.proofs.Common.{◌∙◌, ap, arith}
use Rattle.cil_lines.specs.Digit.{bits_of}
use Rattle.cil_lines.proofs.LineLemmas.{present_step}
use Rattle.cil_lines.proofs.higher.present.Goals as goal

pub loop-i-preserved : goal.loop-i-preserved
loop-i-preserved g c =
    let upto = c.loop-i.invariant.0 in (
      omega (arith, upto),
      λ b. present_step c.args.digits.now c.loop-i.i c.args.word b c.bits-present.result c.loop-i.present c.index-digits-i.result c.loop-i-test.true upto
          (c.bits-present.ensures ∙ ap (λ d. bits_of d c.args.word) c.index-digits-i.is) (c.loop-i.invariant.1 b),
    )
