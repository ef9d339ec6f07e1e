use Rattle.cil_lines.proofs.Common.{◌≡◌, ◌-◌, ◌∙◌, suc, ap, sym, drop, arith, Words, bits_of, total}
use Rattle.cil_lines.proofs.LineLemmas.{total-drop}
use Rattle.cil_lines.proofs.higher.end.Goals as goal

pub loop-i-preserved : goal.loop-i-preserved
loop-i-preserved g c =
    let some = c.loop-i-test.true in
    let upto = c.loop-i.invariant.0 in
    let next : suc (c.loop-i.i - 1) ≡ c.loop-i.i = omega (arith, some) in (
      omega (arith, upto),
      λ w past.
          let end = c.max-end.ensures in
          let at = total-drop c.args.digits.now (c.loop-i.i - 1) w c.index-digits-i.result (omega (arith, some, upto)) in
          let here = ap (λ (d : Words). bits_of d w) c.index-digits-i.is in
          let none = c.end.ensures w (omega (arith, end, past)) in
          let behind = ap (λ k. total (drop k c.args.digits.now) w) next in
          let rest = c.loop-i.invariant.1 w (omega (arith, end, past)) in
          omega (arith, at, here, none, behind, rest),
    )

pub returns : goal.returns
returns g c = λ w past.
    let none : c.loop-i.i ≡ 0 = let test = c.loop-i-test.false in omega (arith, test) in
    sym (ap (λ k. total (drop k c.args.digits.now) w) none) ∙ c.loop-i.invariant.1 w past
