use Rattle.std.proofs.Common.{sym, ◌∙◌}
use Rattle.cil_check.proofs.FirstsLemmas.{insert-new}
use Rattle.cil_check.proofs.firsts.Firsts.insert.Goals as goal

pub returns-clause-ok : goal.returns-clause-ok
returns-clause-ok g c =
    let old = c.self.inside.places in
    insert-new old c.args.to c.args.place c.args.self.now c.insert.new.self.entries c.self.view_is (sym c.contains_key.ensures ∙ c.if-contains_key.false) c.in_ok-insert.ensures.entries
