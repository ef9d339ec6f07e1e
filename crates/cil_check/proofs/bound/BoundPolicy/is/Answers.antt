use Rattle.std.proofs.Common.{ap, ◌∙◌}
use Rattle.cil_check.specs.Kinds.{is_kind}
use Rattle.cil_check.proofs.SeenLemmas.{kind-form}
use Rattle.cil_check.proofs.bound.BoundPolicy.is.Goals as goal

pub returns : goal.returns
returns g c policy s is at =
    c.is.ensures ∙ ap (is_kind c.args.kind) (c.kind.ensures policy s is at) ∙ kind-form c.args.kind s.form
