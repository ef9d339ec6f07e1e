use Rattle.std.proofs.Common.{sym, ◌∙◌}
use Rattle.cil_optionals.proofs.ProviderLemmas.{row-of}
use Rattle.cil_optionals.proofs.OthersLemmas.{others-around, others-other}
use Rattle.cil_optionals.proofs.others.around.Goals as goal

pub returns-in_ok-add_need : goal.returns-in_ok-add_need
returns-in_ok-add_need g c = λ parsed all ready are.
    let p = c.args.policy.now in
    let has = row-of p parsed all c.args.i c.index-row.result.now ready c.requires.within c.index-row.ensures in
    others-around all p.rows.items c.args.i c.index-row.result.now has.s c.args.needs.now.items c.add_need.new.needs.items ready.nested has.row_at has.at (sym has.is.optional ∙ c.if-row.true) c.in_ok-add_need.ensures are

pub returns-else-row : goal.returns-else-row
returns-else-row g c = λ parsed all ready are.
    let p = c.args.policy.now in
    let has = row-of p parsed all c.args.i c.index-row.result.now ready c.requires.within c.index-row.ensures in
    others-other all p.rows.items c.args.i has.s c.args.needs.now.items has.at (sym has.is.optional ∙ c.if-row.false) are
