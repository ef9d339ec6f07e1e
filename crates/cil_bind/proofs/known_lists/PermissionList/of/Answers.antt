use Rattle.cil_bind.proofs.Common.{[], slice_index_or, ap, ◌∙◌, texts, permissions_in}
use Rattle.cil_bind.specs.KnownLists.{lists_in}
use Rattle.cil_bind.proofs.FromLemmas.{is-there}
use Rattle.cil_bind.proofs.known_lists.PermissionList.of.Goals as goal

pub returns : goal.returns
returns g c = λ s from.
    let there = is-there c.args.joined.now.modules.items c.args.row.now c.index.result.now s from c.index.ensures in
    ap (λ o. slice_index_or (lists_in o) c.permission_list.result []) there.at ∙ c.permission_list.ensures.list there.statements there.f there.spells there.is ∙ ap (λ f. texts (permissions_in f)) there.form
