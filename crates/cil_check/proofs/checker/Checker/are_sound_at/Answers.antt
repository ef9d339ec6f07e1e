use Rattle.cil_check.proofs.Common.{references, sym, ◌∙◌}
use Rattle.cil_check.proofs.SoundLemmas.{sound-all}
use Rattle.cil_check.proofs.checker.Checker.are_sound_at.Goals as goal

pub references-requires : goal.references-requires
references-requires g c = (c.requires.0, c.requires.1.is, c.requires.2)

pub returns : goal.returns
returns g c = λ yes policy s noted at.
    let self = c.args.self.now in
    sound-all policy self.bound.policy.now.kinds.items self.actuals s.namespace (references s.form) c.references.result noted.is.bound.kinds noted.has_actuals
    (c.references.ensures policy s noted.is at) (sym (c.are_sound.ensures policy noted) ∙ yes)
