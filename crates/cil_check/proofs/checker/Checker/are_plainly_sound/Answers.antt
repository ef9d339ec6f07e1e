use Rattle.cil_check.proofs.Common.{None, arith, refl, sym, ap, ◌∙◌, take_all}
use Rattle.cil_check.specs.Clean.{are_sound, is_sound}
use Rattle.cil_check.proofs.SoundLemmas.{sound-more}
use Rattle.cil_check.proofs.checker.Checker.are_plainly_sound.Goals as goal

pub loop-k-init : goal.loop-k-init
loop-k-init g c = λ policy noted. refl

pub loop-k-preserved : goal.loop-k-preserved
loop-k-preserved g c = λ policy noted.
    let kinds = c.args.self.now.bound.policy.now.kinds.items in
    sound-more kinds c.args.self.now.actuals c.args.bound.now c.loop-k.k None (let many = c.len-k-end.ensures in let less = c.loop-k-test.true in omega (arith, many, less)) (c.loop-k.invariant policy noted)
    (ap (is_sound kinds c.args.self.now.actuals) (sym c.place.ensures) ∙ c.is_plainly_sound.ensures c.if-not-is_plainly_sound.false policy noted)

pub returns : goal.returns
returns g c = λ yes policy noted.
    ap (are_sound c.args.self.now.bound.policy.now.kinds.items c.args.self.now.actuals) (sym (take_all c.loop-k.k c.args.bound.now (let many = c.len-k-end.ensures in let past = c.loop-k-test.false in omega (arith, many, past))))
    ∙ c.loop-k.invariant policy noted
