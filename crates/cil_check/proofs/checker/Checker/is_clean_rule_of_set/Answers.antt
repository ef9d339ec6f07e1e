use Rattle.cil_check.proofs.Common.{references}
use Rattle.cil_check.proofs.KnownLemmas.{of-set-clean}
use Rattle.cil_check.proofs.SoundLemmas.{none-unfound, none-unset-of}
use Rattle.cil_check.proofs.checker.Checker.is_clean_rule_of_set.Goals as goal

pub returns : goal.returns
returns g c = λ yes policy s noted at is.
    let all = c.are_sound_at.ensures yes policy s noted at in
    of-set-clean policy c.args.place s is noted.is.inside at (none-unfound policy s.namespace (references s.form) all) (none-unset-of policy s.namespace s.form all)
