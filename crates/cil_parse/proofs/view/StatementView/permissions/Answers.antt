use Rattle.std.proofs.Common.{◌∙◌, map, ap}
use Rattle.cil_parse.specs.Builder.{read}
use Rattle.cil_parse.proofs.PermissionListLemmas.{shown-permissions}
use Rattle.cil_parse.proofs.view.StatementView.permissions.Goals as goal

pub returns : goal.returns
returns c texts f shown = ap (map (read texts)) c.permission_words.ensures ∙ shown-permissions texts c.args.self.now f shown
