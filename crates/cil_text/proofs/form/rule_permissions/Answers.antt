use Rattle.cil_text.proofs.Common.{subst, trees_of, AreClassAndPermissions}
use Rattle.cil_text.proofs.Fitting.{no_permissions}
use Rattle.cil_text.proofs.form.rule_permissions.Goals as goal

pub returns-in-None : goal.returns-in-None
returns-in-None g c permissions h =
    let trees = trees_of c.args.trees in
    no_permissions trees c.in_default.ensures (subst (AreClassAndPermissions trees) c.in-None.is c.in_ok-class.ensures) permissions h
