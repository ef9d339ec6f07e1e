use Rattle.cil_check.proofs.Common.{references}
use Rattle.cil_check.proofs.SoundLemmas.{bound-sound, sound-all}
use Rattle.cil_check.proofs.checker.Checker.are_sound_by.Goals as goal

pub returns-then-aliases_set : goal.returns-then-aliases_set
returns-then-aliases_set g c = λ yes policy s noted have at are.
    let self = c.args.self.now in
    let kinds = self.bound.policy.now.kinds.items in
    sound-all policy kinds self.actuals s.namespace (references s.form) c.args.bound.now noted.is.bound.kinds noted.has_actuals are
    (bound-sound policy kinds self.actuals s.namespace (references s.form) c.args.bound.now noted.is.bound.kinds (have c.if-aliases_set.true) are (c.are_bound.ensures yes))

pub returns : goal.returns
returns g c = λ yes policy s noted have at are. c.are_sound_at.ensures yes policy s noted at
