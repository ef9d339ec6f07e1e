use Rattle.std.proofs.Common.{[], ◌≡◌, ◌+◌, ◌∙◌, ◌∷◌, ◌++◌, suc, ap, arith, get_or, sym, take}
use Rattle.std.proofs.Math.Seq.{take-suc}
use Rattle.cil_lines.proofs.higher.copied.Goals as goal

pub loop-i-preserved : goal.loop-i-preserved
loop-i-preserved g c =
    let ds = c.args.digits.now in
    let i = c.loop-i.i in
    let next : i + 1 ≡ suc i = omega arith in
    c.in_ok-push.ensures.items ∙ ap (λ copy. c.loop-i.copies.items ++ copy ∷ []) (c.in_ok-copy.ensures ∙ c.index-digits-i.is)
    ∙ ap (λ front. front ++ get_or ds i c.index-digits-i.result ∷ []) c.loop-i.invariant ∙ sym (ap (λ k. take k ds) next ∙ take-suc ds i c.index-digits-i.result c.loop-i-test.true)
