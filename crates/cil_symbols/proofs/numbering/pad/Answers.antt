use Rattle.cil_symbols.proofs.Common.{◌∙◌, arith, ap, cond, false, subst, sym, ◌∷◌, [], sum_by-append, used_in, IsUsed}
use Rattle.cil_symbols.proofs.InUseLemmas.{used-past}
use Rattle.cil_symbols.proofs.numbering.pad.Goals as goal

pub loop-marks-preserved : goal.loop-marks-preserved
loop-marks-preserved g c =
    let marks = c.loop-marks.marks.items in
    let low = c.loop-marks-test.true in
    let len = c.len.ensures in
    let long = c.in_ok-push.ensures.len in
    let is = c.in_ok-push.ensures.items in
    record {
      short = omega (arith, low, len, long);
      used = λ s was. subst (λ l. IsUsed l s) (sym is) (used-past marks s (c.loop-marks.invariant.used s was));
      count = ap used_in is ∙ sum_by-append (λ mark. cond mark 1 0) marks (false ∷ []) ∙ omega arith ∙ c.loop-marks.invariant.count;
    }
