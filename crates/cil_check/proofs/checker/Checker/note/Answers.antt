use Rattle.cil_check.proofs.checker.Checker.note.Goals as goal

pub returns-clause-actuals : goal.returns-clause-actuals
returns-clause-actuals g c = λ policy s is at so_far. c.in_ok-note.ensures policy s (c.seen-seen.ensures.seen policy s is at) at so_far

pub returns-clause-commons : goal.returns-clause-commons
returns-clause-commons g c = λ policy s is at so_far. c.in_ok-note-2.ensures policy s (c.seen-seen.ensures.seen policy s is at) at so_far

pub returns-clause-inherited : goal.returns-clause-inherited
returns-clause-inherited g c = λ policy s is at so_far. c.in_ok-add_common.ensures.noted policy s c.args.place (c.seen-seen.ensures.seen policy s is at) at so_far
