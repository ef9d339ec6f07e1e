use Rattle.cil_projection.specs.Conditions.{settings_of}
use Rattle.cil_projection.specs.Statements.{branch_needs}
use Rattle.cil_projection.proofs.NeedLemmas.{not_named}
use Rattle.cil_projection.proofs.needs.Choice.add_branch.Goals as goal

pub returns-in_default-split_word : goal.returns-in_default-split_word
returns-in_default-split_word g c rest =
    let list = c.in-List in
    not_named (branch_needs (settings_of c.args.self.booleans.now) c.args.self.holds) c.args.tree list.at list.end list.items rest list.is c.in_default-split_word.ensures
