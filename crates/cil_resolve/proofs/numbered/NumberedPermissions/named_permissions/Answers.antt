use Rattle.cil_resolve.proofs.Common.{◌∙◌, ap, sym, leaves}
use Rattle.cil_expression.proofs.ListedLemmas.{leaves-listed}
use Rattle.cil_resolve.specs.Numbers.{written_or}
use Rattle.cil_resolve.proofs.numbered.NumberedPermissions.named_permissions.Goals as goal

pub returns-in-None : goal.returns-in-None
returns-in-None g c =
    let r = c.args.self.now in
    c.as_slice.ensures ∙ sym (leaves-listed r.given) ∙ ap (λ w. leaves (written_or w r.given)) (sym c.in-None.is)
