use Rattle.std.proofs.Common.{sym, ◌∙◌, arith, refl}
use Rattle.cil_check.proofs.SeenLemmas.{there-at}
use Rattle.cil_check.proofs.SetLemmas.{sets-next, sets-some}
use Rattle.cil_check.proofs.bound.BoundPolicy.has_sets.Goals as goal

pub returns-in-TypeAttributeSet : goal.returns-in-TypeAttributeSet
returns-in-TypeAttributeSet g c policy is =
    let (s, at) = there-at policy c.loop-i.i (omega (arith, c.len-i-end.ensures policy is)) in
    let same = c.kind.ensures policy s is at in
    (λ told. sets-some policy c.loop-i.i s at (sym same ∙ c.in-TypeAttributeSet.is), λ some. refl)

pub loop-i-preserved : goal.loop-i-preserved
loop-i-preserved g c policy is =
    let (s, at) = there-at policy c.loop-i.i (omega (arith, c.len-i-end.ensures policy is)) in
    let same = c.kind.ensures policy s is at in
    sets-next policy c.loop-i.i s at (λ kind. c.in_default.not-TypeAttributeSet (same ∙ kind)) (c.loop-i.invariant policy is)
