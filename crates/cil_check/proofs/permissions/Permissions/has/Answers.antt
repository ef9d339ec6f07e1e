use Rattle.cil_check.proofs.Common.{ap, ◌∙◌, list_any, Listed}
use Rattle.cil_check.proofs.PermissionLemmas.{derived-listed}
use Rattle.cil_check.proofs.permissions.Permissions.has.Goals as goal

pub returns : goal.returns
returns g c =
    let l : Listed = record { owner = c.args.owner; word = c.args.word } in
    c.contains.ensures ∙ ap (λ test. list_any test c.args.self.now.listed.keys) (derived-listed l)
