use Rattle.cil_optionals.proofs.Common.{sym, subst, IfOk-weaker, permissions_in, HavePermissions}
use Rattle.cil_optionals.proofs.others.others.Goals as goal

pub returns : goal.returns
returns g c =
    IfOk-weaker c.others_by.result _ _ (λ needs others all ready have. others all ready (subst (λ l. HavePermissions all (permissions_in l)) (sym c.of-permissions.ensures.listed) have)) c.others_by.ensures
