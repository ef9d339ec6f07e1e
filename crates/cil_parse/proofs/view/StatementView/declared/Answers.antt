use Rattle.cil_parse.proofs.ViewLemmas.{shown-declared}
use Rattle.cil_parse.proofs.view.StatementView.declared.Goals as goal

pub returns-clause-some : goal.returns-clause-some
returns-clause-some c texts f shown =
    let item = c.in_ok-word.ensures.item in
    shown-declared texts c.args.self.now f c.in_ok-table.table c.in_ok-word.word.now shown c.in_ok-table.ensures item.3.0 item.1
