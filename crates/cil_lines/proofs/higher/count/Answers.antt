use Rattle.cil_lines.proofs.Common.{◌≡◌, ◌-◌, ◌/◌, ◌^◌, suc, ap, drop, arith, bit_and, bit_at, bits_of, shr_and_one, value, Words}
use Rattle.cil_lines.proofs.LineLemmas.{value-drop}
use Rattle.cil_lines.proofs.higher.count.Goals as goal

pub loop-i-preserved : goal.loop-i-preserved
loop-i-preserved g c =
    let ds = c.args.digits.now in
    let some = c.loop-i-test.true in
    let upto = c.loop-i.invariant.0 in
    let next : suc (c.loop-i.i - 1) ≡ c.loop-i.i = omega (arith, some) in
    let at = value-drop ds (c.loop-i.i - 1) c.args.word c.args.bit c.index-digits-i.result (omega (arith, some, upto)) in
    let rest = ap (λ k. value (drop k ds) c.args.word c.args.bit) next in
    let here = ap (λ (d : Words). bit_at (bits_of d c.args.word) c.args.bit) c.index-digits-i.is in
    let bit = ap (λ x. bit_at x c.args.bit) c.bits-bits.ensures in
    let low = shr_and_one c.bits-bits.result c.args.bit in (
      omega (arith, upto),
      omega (arith, at, rest, here, bit, low, c.loop-i.invariant.1, c.saturating_mul.ensures, c.saturating_add-count.ensures),
    )
