use Rattle.std.proofs.Common.{◌∙◌, refl, length, sym, eqb-true}
use Rattle.cil_rule_shifts.proofs.PartLemmas.{none-move, parts-rise}
use Rattle.cil_rule_shifts.proofs.shift.shift_permits.Goals as goal

pub returns-then-is_empty-clause-moved : goal.returns-then-is_empty-clause-moved
returns-then-is_empty-clause-moved g c =
    none-move c.args.was.now c.args.is.now c.args.head (eqb-true (length c.args.head.permits.now) 0 (sym c.is_empty.ensures ∙ c.if-is_empty.true))

pub returns-clause-moved : goal.returns-clause-moved
returns-clause-moved g c =
    parts-rise c.args.was.now c.args.is.now c.args.head c.in_ok-lost.lost c.in_ok-kept.kept c.in_ok-got.got c.saturating_add.result c.saturating_add-2.result
    c.in_ok-lost.ensures.moved c.in_ok-kept.ensures.moved c.in_ok-got.ensures.moved c.saturating_add.ensures c.saturating_add-2.ensures

pub returns-clause-before : goal.returns-clause-before
returns-clause-before g c = λ k t. c.in_ok-got.ensures.before refl k t ∙ c.in_ok-kept.ensures.before refl k t ∙ c.in_ok-lost.ensures.before refl k t

pub returns-in_err-got-clause-before : goal.returns-in_err-got-clause-before
returns-in_err-got-clause-before g c = λ k t. c.in_err-got.ensures.before refl k t ∙ c.in_ok-kept.ensures.before refl k t ∙ c.in_ok-lost.ensures.before refl k t

pub returns-in_err-kept-clause-before : goal.returns-in_err-kept-clause-before
returns-in_err-kept-clause-before g c = λ k t. c.in_err-kept.ensures.before refl k t ∙ c.in_ok-lost.ensures.before refl k t
