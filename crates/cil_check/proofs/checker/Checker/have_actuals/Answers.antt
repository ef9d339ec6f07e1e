use Rattle.cil_check.proofs.Common.{◌≡◌, get_or, length, sym, ap, subst, ◌∙◌, arith, add-one}
use Rattle.cil_bind.specs.AboutNames.{name_places}
use Rattle.cil_bind.proofs.AboutNamesLemmas.{after_places, to-place, to-end}
use Rattle.cil_check.proofs.SoundLemmas.{AreSoundTo, sound-behind, sound-stays}
use Rattle.cil_check.proofs.checker.Checker.have_actuals.Goals as goal

pub loop-k-init : goal.loop-k-init
loop-k-init g c = λ place less. absurd (omega (arith, less))

pub loop-k-preserved : goal.loop-k-preserved
loop-k-preserved g c =
    let (policy, noted) = c.requires in
    let kinds = c.args.self.now.bound.policy.now.kinds.items in
    let actuals = c.args.self.now.actuals in
    let places = c.name_places-places.result.now in
    let k = c.loop-k.k in
    let are : places ≡ name_places 0 kinds = c.name_places-places.ensures policy noted.is ∙ ap (name_places 0) (sym noted.is.bound.kinds) in
    let so_far = to-place (AreSoundTo kinds actuals) kinds places are (sound-stays kinds actuals) k c.loop-k-test.true c.loop-k.invariant in
    subst (AreSoundTo kinds actuals) (ap (after_places 0 places) (sym (add-one k)))
    (sound-behind kinds actuals (get_or places k 0) (sym c.is_sound.ensures ∙ c.if-not-is_sound.false) so_far)

pub returns : goal.returns
returns g c = λ yes.
    let (policy, noted) = c.requires in
    let kinds = c.args.self.now.bound.policy.now.kinds.items in
    let actuals = c.args.self.now.actuals in
    let places = c.name_places-places.result.now in
    let are : places ≡ name_places 0 kinds = c.name_places-places.ensures policy noted.is ∙ ap (name_places 0) (sym noted.is.bound.kinds) in
    let end : c.loop-k.k ≡ length places = omega arith in
    to-end (AreSoundTo kinds actuals) kinds places are (sound-stays kinds actuals) c.loop-k.k end c.loop-k.invariant
