use Rattle.cil_check.proofs.Common.{sym, ap, ◌∙◌}
use Rattle.std.proofs.Common.{slice_get}
use Rattle.cil_check.specs.Clean.{is_other}
use Rattle.cil_check.proofs.SoundLemmas.{plainly-sound}
use Rattle.cil_check.proofs.checker.Checker.is_plainly_sound.Goals as goal

pub returns : goal.returns
returns g c = λ yes policy noted.
    let kinds = c.args.self.now.bound.policy.now.kinds.items in
    let place = c.unwrap_or.ensures in
    plainly-sound policy kinds c.args.self.now.actuals c.args.found noted.is.bound.kinds noted.few
    (ap (λ k. is_other (slice_get kinds k)) (sym place) ∙ sym c.is_other.ensures ∙ yes)
