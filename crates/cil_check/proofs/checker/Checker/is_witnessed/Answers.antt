use Rattle.std.proofs.Common.{sym, ◌∙◌}
use Rattle.cil_check.proofs.MissingLemmas.{has-seen}
use Rattle.cil_check.proofs.checker.Checker.is_witnessed.Goals as goal

pub returns : goal.returns
returns g c policy s noted at first less told =
    let checker = c.args.self.now in
    has-seen checker.bound.policy.now.names policy checker.inherited checker.permissions.listed.keys c.args.class c.args.word c.in-Some.at c.in-Some-item.common s noted.inherited noted.listed at first less
    (sym c.in-Some-item.ensures) (sym c.has.ensures ∙ told)
