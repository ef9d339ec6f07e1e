use Rattle.std.proofs.Common.{◌∙◌}
use Rattle.cil_violations.proofs.ShareLemmas.{share-swap}
use Rattle.cil_violations.proofs.permissions.share.Goals as goal

pub returns-then-first-second : goal.returns-then-first-second
returns-then-first-second c = c.is_one_among.ensures ∙ share-swap c.args.second.now c.args.first.now
