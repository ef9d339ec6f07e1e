use Rattle.std.proofs.Common.{◌<◌, length, rules}
use Rattle.cil_lines.proofs.SearchLemmas.{last-entry}
use Rattle.cil_lines.proofs.digit.last_word.Goals as goal

pub returns-else-is_empty : goal.returns-else-is_empty
returns-else-is_empty c =
    let some : 0 < length c.args.entries.now = search rules in
    last-entry _ _ c.args.entries.now c.args.word c.max.result _ c.requires some c.max.ensures
