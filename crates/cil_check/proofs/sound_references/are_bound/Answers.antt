use Rattle.cil_check.proofs.Common.{◌&&◌, None, is_some, list_all, get_or, arith, refl, sym, ap, ◌∙◌, take_all}
use Rattle.std.proofs.lemmas.List.Folds.{list_all_more}
use Rattle.cil_check.proofs.sound_references.are_bound.Goals as goal

pub loop-k-init : goal.loop-k-init
loop-k-init c = refl

pub loop-k-preserved : goal.loop-k-preserved
loop-k-preserved c =
    list_all_more is_some c.args.bound.now c.loop-k.k None (let many = c.len-k-end.ensures in let less = c.loop-k-test.true in omega (arith, many, less))
    ∙ ap (λ b. b && is_some (get_or c.args.bound.now c.loop-k.k None)) c.loop-k.invariant ∙ ap is_some (sym c.place.ensures) ∙ sym c.is_some.ensures ∙ c.if-not-is_some.false

pub returns : goal.returns
returns c = λ yes.
    ap (list_all is_some) (sym (take_all c.loop-k.k c.args.bound.now (let many = c.len-k-end.ensures in let past = c.loop-k-test.false in omega (arith, many, past)))) ∙ c.loop-k.invariant
